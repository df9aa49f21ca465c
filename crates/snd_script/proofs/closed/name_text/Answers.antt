use Rattle.snd_rules.proofs.Public.{name_is_text}
use Rattle.snd_script.proofs.closed.name_text.Goals as goal

pub unreachable-requires : goal.unreachable-requires
unreachable-requires c = c.in-Err.ensures.cases.0 (name_is_text _ c.requires)
