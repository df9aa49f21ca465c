use Rattle.std.proofs.Common.{◌≡◌, ap, ◌∙◌, min, ℕ, ℤ, ◌+◌, to_z, of_z, arith}
use Rattle.std.specs.Prelude.{if◌then◌else◌, unsigned_abs}
use Rattle.std.specs.Int.{w16, is_negative}
use Rattle.std.proofs.lemmas.Int.{to_z-of_z}
use Rattle.snd_g711.specs.Segment.{segment_and_step}
use Rattle.snd_g711.proofs.MulawLemmas.{byte_by_sign, xor_fits}
use Rattle.snd_g711.proofs.mulaw.mulaw_encode.Goals as goal

pub overflow_cast-result : goal.overflow_cast-result
overflow_cast-result c =
    let same : to_z w16 (of_z w16 c.args.value) ≡ c.args.value = to_z-of_z w16 c.args.value c.ranges.value in
    omega (arith, xor_fits c.args.value c.code_of.result c.inverted.result c.code_of.ensures.bound (c.inverted.ensures ∙ ap (λ (z : ℤ). if is_negative z then 127 else 255) same))

pub returns : goal.returns
returns c =
    let same : to_z w16 (of_z w16 c.args.value) ≡ c.args.value = to_z-of_z w16 c.args.value c.ranges.value in
    let cut : c.min.result ≡ min (unsigned_abs c.args.value) 32635 = c.min.ensures ∙ ap (λ (n : ℕ). min n 32635) (c.unsigned_abs.ensures.value ∙ ap unsigned_abs same) in
    byte_by_sign c.args.value c.code_of.result c.inverted.result c.code_of.ensures.bound
    (c.code_of.ensures.value ∙ ap (λ (n : ℕ). segment_and_step (n + 132)) cut)
    (c.inverted.ensures ∙ ap (λ (z : ℤ). if is_negative z then 127 else 255) same)
