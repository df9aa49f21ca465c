use Rattle.std.proofs.Common.{sym}
use Rattle.snd_inputs.proofs.Seen.{layout_seen, refused_seen}
use Rattle.snd_inputs.proofs.opening.layout_on.Goals as goal

pub returns-in-Err-Refused-clause-seen : goal.returns-in-Err-Refused-clause-seen
returns-in-Err-Refused-clause-seen g c = λ b told.
    sym (refused_seen b c.in-Err-Refused.why (c.in-Err-Refused.ensures.opened c.in-Err-Refused.why b c.in-Err-Refused.field-0-is told))

pub returns-clause-seen : goal.returns-clause-seen
returns-clause-seen g c = λ b told. sym (layout_seen b c.in-Ok.layout (c.in-Ok.ensures.opened b told))
