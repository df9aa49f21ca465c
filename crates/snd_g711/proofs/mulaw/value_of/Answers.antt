use Rattle.std.proofs.Common.{◌≡◌, ◌∙◌, ap, sym, ℤ, pos, ◌-◌, ◌%◌, ◌-ℤ◌, neg_ℤ, arith}
use Rattle.std.proofs.lemmas.Int.{ints}
use Rattle.snd_g711.specs.Mulaw.{mulaw_magnitude}
use Rattle.snd_g711.proofs.MulawLemmas.{magnitude-lt, value_negative, value_positive}
use Rattle.snd_g711.proofs.Widths.{fits_negative, fits_positive, through_wide}
use Rattle.snd_g711.proofs.mulaw.value_of.Goals as goal

pub returns-then-byte-lt128 : goal.returns-then-byte-lt128
returns-then-byte-lt128 c =
    let byte = c.args.byte in
    let m = mulaw_magnitude ((255 - byte) % 128) in
    let magnitude = through_wide _ (pos m) c.magnitude_of-magnitude.ensures (fits_positive m (magnitude-lt byte)) in
    let turned : pos 0 -ℤ pos m ≡ neg_ℤ (pos m) = omega (arith, ints) in
    through_wide _ (neg_ℤ (pos m)) (ap (λ (z : ℤ). pos 0 -ℤ z) magnitude ∙ turned) (fits_negative m (magnitude-lt byte))
    ∙ sym (value_negative byte c.if-byte-lt128.true)

pub returns-else-byte-lt128 : goal.returns-else-byte-lt128
returns-else-byte-lt128 c =
    let byte = c.args.byte in
    let m = mulaw_magnitude ((255 - byte) % 128) in
    through_wide _ (pos m) c.magnitude_of-magnitude.ensures (fits_positive m (magnitude-lt byte)) ∙ sym (value_positive byte c.if-byte-lt128.false)
