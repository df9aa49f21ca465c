use Rattle.std.proofs.Common.{◌∙◌, ap, pos, arith}
use Rattle.snd_g711.specs.Mulaw.{mulaw_magnitude}
use Rattle.snd_g711.proofs.Floats.{moved_bits, moved_fits, moved_is, moved_is_number, pattern_is_number}
use Rattle.snd_g711.proofs.mulaw.magnitude_of.Goals as goal

pub float_from_bits-biased : goal.float_from_bits-biased
float_from_bits-biased c = pattern_is_number c.from.result (omega (arith, c.from.ensures, c.requires))

pub float_to_bits-result : goal.float_to_bits-result
float_to_bits-result c = moved_is_number c.from.result (omega (arith, c.from.ensures, c.requires))

pub overflow_sub-result : goal.overflow_sub-result
overflow_sub-result c = omega (arith, moved_bits c.from.result (omega (arith, c.from.ensures, c.requires)))

pub overflow_cast-result : goal.overflow_cast-result
overflow_cast-result c = moved_fits c.from.result (omega (arith, c.from.ensures, c.requires))

pub returns : goal.returns
returns c = moved_is c.from.result (omega (arith, c.from.ensures, c.requires)) ∙ ap (λ k. pos (mulaw_magnitude k)) c.from.ensures
