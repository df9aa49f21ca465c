-- Frames that are given as the bytes of their samples.
use Rattle.std.proofs.Common.{◌≡◌, ◌∙◌, ap, sym, subst, refl, ℕ, ◌+◌, ◌*◌, ◌/◌, ◌%◌, ◌^◌, ◌<◌, ◌≤◌, List, Option, None, Some, All, length, false, arith}
use Rattle.std.proofs.Math.Nat.{mul-le-mul_right}
use Rattle.std.specs.Prelude.{is_none}
use Rattle.snd_fields.specs.Laws.{IsByte}
use Rattle.snd_layout.specs.Blocks.{block_align}
use Rattle.snd_layout.specs.Params.{Parameters}
use Rattle.snd_layout.specs.Shape.{Shape, end}
use Rattle.snd_layout.specs.declared.codec.Codec.{Codec}
use Rattle.snd_container.specs.Fixed.{InRange, byte_count}
use Rattle.snd_container.specs.Sound.{fixed_of}
use Rattle.snd_container.specs.declared.fixed.Fixed.{Fixed}
use Rattle.snd_container.proofs.Public.{byte_count_pos, length-sources, sources_fit, sources_written}
use Rattle.snd_edits.specs.Bytes.{AreWhole, sources_as, sources_in}
use Rattle.snd_edits.specs.Edits.{coded, coded_as}
use Rattle.snd_edits.specs.Reading.{FitCodec}
use Rattle.snd_edits.proofs.Ranges.{fits_form}
use Rattle.snd_edits.proofs.Sealing.{end_is}
use Rattle.snd_edits.proofs.SoundFrames.{linear_align}

-- the form of samples that are not in blocks
pub form_given : (form : Option Fixed) → is_none form ≡ false → (of : Fixed) × (form ≡ Some of)
form_given None is = absurd cc
form_given (Some of) is = (of, refl)

pub count_of_given : (codec : Codec) (b : List ℕ) (form : Fixed) → fixed_of codec ≡ Some form → length (sources_in codec b) ≡ length b / byte_count form
count_of_given codec b form is = ap (λ (o : Option Fixed). length (sources_as o b)) is ∙ length-sources form b

-- whole frames are whole samples
whole_samples : (w channels n : ℕ) → 1 ≤ w * channels → n % (w * channels) ≡ 0 → n ≡ w * (channels * (n / (w * channels)))
whole_samples w channels n some whole = grind (arith, whole)

-- the bytes of the numbers of which they are the samples are they themselves
pub bytes_given : (p : Parameters) (b : List ℕ) → is_none (fixed_of p.codec) ≡ false → 1 ≤ p.channels → AreWhole p (length b) → All IsByte b → coded p (sources_in p.codec b) ≡ b
bytes_given p b fixed some whole bytes =
    let form = (form_given (fixed_of p.codec) fixed).0 in
    let is : fixed_of p.codec ≡ Some form = (form_given (fixed_of p.codec) fixed).1 in
    let align : block_align p.channels p.codec ≡ byte_count form * p.channels = linear_align p.codec form p.channels is in
    ap (λ (o : Option Fixed). coded_as o (sources_as o b)) is
    ∙ sources_written form b (p.channels * (length b / (byte_count form * p.channels)))
    (whole_samples (byte_count form) p.channels (length b) (some_align form) (subst (λ (n : ℕ). length b % n ≡ 0) align whole)) bytes
  where
    some_align : (form : Fixed) → 1 ≤ byte_count form * p.channels
    some_align form = grind (arith, some, byte_count_pos form)

pub fits_given : (codec : Codec) (b : List ℕ) → is_none (fixed_of codec) ≡ false → All IsByte b → FitCodec codec (sources_in codec b)
fits_given codec b fixed bytes =
    let form = (form_given (fixed_of codec) fixed).0 in
    let is : fixed_of codec ≡ Some form = (form_given (fixed_of codec) fixed).1 in
    fits_form codec form (sources_in codec b) is
    (subst (λ (o : Option Fixed). All (InRange form) (sources_as o b)) (sym is) (sources_fit form b bytes))

-- a file has fewer frames than bytes
pub few_frames : (h : Shape) → is_none (fixed_of h.params.codec) ≡ false → 1 ≤ h.params.channels → end h h.frames + 8 ≤ 2 ^ 63 → h.frames < 2 ^ 63
few_frames h fixed some within =
    let form = form_given (fixed_of h.params.codec) fixed in
    let samples : 1 * h.frames ≤ h.params.channels * h.frames = mul-le-mul_right h.frames some in
    let bytes : 1 * (h.params.channels * h.frames) ≤ byte_count form.0 * (h.params.channels * h.frames) =
    mul-le-mul_right (h.params.channels * h.frames) (let e : 1 ≤ byte_count form.0 = omega (arith, byte_count_pos form.0) in e) in
    omega (arith, samples, bytes, end_is h form.0 h.frames form.1, within)
