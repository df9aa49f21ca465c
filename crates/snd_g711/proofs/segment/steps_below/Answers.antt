use Rattle.std.proofs.Common.{inl, inr, arith}
use Rattle.std.proofs.lemmas.Bool.{cases_lt}
use Rattle.snd_g711.proofs.Segments.{segment_and_step-lt}
use Rattle.snd_g711.proofs.segment.steps_below.Goals as goal

pub returns-clause-bound : goal.returns-clause-bound
returns-clause-bound c = elim (cases_lt c.args.magnitude 128) [
  | inl low ↦ omega (arith, low, c.min.ensures, c.max.ensures, c.digits_of.ensures.low low)
  | inr high ↦ omega (arith, c.min.ensures, c.max.ensures, c.digits_of.ensures.high high, segment_and_step-lt c.args.magnitude)
]
