use Rattle.std.proofs.Common.{rules}
use Rattle.snd_output.proofs.Appending.{never_refused}
use Rattle.snd_output.proofs.steps.read_some.Goals as goal

pub unreachable-requires : goal.unreachable-requires
unreachable-requires g c = never_refused _ _ _ _ _ c.requires.ready c.read_frames.ensures.left c.in-Err.is (λ bad. search rules) (λ step fault. search rules)
