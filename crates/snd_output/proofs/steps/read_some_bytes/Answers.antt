use Rattle.std.proofs.Common.{rules}
use Rattle.snd_output.proofs.Appending.{never_refused}
use Rattle.snd_output.proofs.Passing.{no_bad_block}
use Rattle.snd_output.proofs.steps.read_some_bytes.Goals as goal

pub unreachable-requires : goal.unreachable-requires
unreachable-requires g c =
    never_refused _ _ _ _ _ c.requires.ready c.read_bytes.ensures.left c.in-Err.is (λ bad. no_bad_block _ _ _ _ _ c.requires.fixed c.read_bytes.ensures.left c.in-Err.is bad) (λ step fault. search rules)
