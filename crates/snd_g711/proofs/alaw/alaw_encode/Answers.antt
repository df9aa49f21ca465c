use Rattle.std.proofs.Common.{◌≡◌, ap, ◌∙◌, ℤ, ◌<◌, to_z, of_z, arith}
use Rattle.std.specs.Prelude.{if◌then◌else◌}
use Rattle.std.specs.Int.{w16, is_negative}
use Rattle.std.proofs.lemmas.Int.{to_z-of_z}
use Rattle.snd_g711.specs.Alaw.{alaw_code, alaw_distance}
use Rattle.snd_g711.proofs.AlawLemmas.{code_is, distance-lt, byte_by_sign}
use Rattle.snd_g711.proofs.alaw.alaw_encode.Goals as goal

pub returns : goal.returns
returns c =
    let same : to_z w16 (of_z w16 c.args.value) ≡ c.args.value = to_z-of_z w16 c.args.value c.ranges.value in
    let e : c.distance_of.result ≡ alaw_distance c.args.value = c.distance_of.ensures ∙ ap alaw_distance same in
    let lt : c.distance_of.result < 32768 = omega (arith, e, distance-lt c.args.value c.ranges.value) in
    byte_by_sign c.args.value c.steps_below.result c.inverted.result
    (code_is c.distance_of.result c.steps_below.result lt c.steps_below.ensures.low c.steps_below.ensures.high ∙ ap alaw_code e)
    (c.inverted.ensures ∙ ap (λ (z : ℤ). if is_negative z then 85 else 213) same)
