-- The frames of data, and the numbers in fields.
use Rattle.std.proofs.Common.{◌≡◌, ℕ, ◌+◌, ◌*◌, ◌-◌, ◌/◌, ◌%◌, ◌<◌, ◌≤◌, ◌^◌, true, false, List, Option, None, Some, get_or, refl, ap, ◌∙◌, inl, inr, arith}
use Rattle.std.proofs.Math.Nat.{mod-lt}
use Rattle.std.proofs.lemmas.Bool.{cases_Bool}
use Rattle.std.proofs.lemmas.Nat.{div-add-mod', div_below}
use Rattle.snd_disk.specs.Runs.{HasAt}
use Rattle.snd_fields.proofs.Numbers.{length-bytes_of, number_of_bytes, number_same}
use Rattle.snd_fields.specs.Field.{bytes_of, number}
use Rattle.snd_fields.specs.declared.field.Order.TheVariants.{Little}
use Rattle.snd_layout.proofs.Codecs.{blocks_of, fixed_frames}
use Rattle.snd_layout.proofs.Frames.{blocks_have_frames}
use Rattle.snd_layout.specs.Blocks.{block_align, block_frames, is_adpcm}
use Rattle.snd_layout.specs.Fit.{fit_refusal}
use Rattle.snd_layout.specs.Params.{AreParams, Parameters, data_bytes}
use Rattle.snd_layout.specs.declared.kind.Kind.TheVariants.{W64}
use Rattle.snd_chunks.specs.Parts.{frame_count, whole_frames}
use Rattle.snd_w64.proofs.Shapes.{blocks_have_bytes}

-- a number of 8 bytes that stands at a place
pub has_number : (b : List ℕ) (p n : ℕ) → HasAt b p (bytes_of Little 8 n) → n < 2 ^ 64 → number Little b p 8 ≡ n
has_number b p n has few =
    number_same Little 8 p 0 b (bytes_of Little 8 n) (λ i q r lt qe re.
    let same : i ≡ r = omega (arith, re) in
    ap (λ k. get_or b k 0) qe ∙ has i (omega (arith, length-bytes_of Little 8 n)) ∙ ap (λ k. get_or (bytes_of Little 8 n) k 0) same)
    ∙ number_of_bytes Little 8 n few

blocks_hold : (n b : ℕ) → 1 ≤ b → n ≤ (n + b - 1) / b * b
blocks_hold n b some =
    let rest : (n + b - 1) % b < b = mod-lt (n + b - 1) (omega arith) in
    omega (arith, div-add-mod' (n + b - 1) b, rest)

whole_of : (p : Parameters) (n : ℕ) → AreParams p → fit_refusal W64 p ≡ None → whole_frames p (data_bytes p n) ≡ (n + block_frames p.codec - 1) / block_frames p.codec * block_frames p.codec
whole_of p n good fits = ap (λ k. k * block_frames p.codec) (blocks_of ((n + block_frames p.codec - 1) / block_frames p.codec) (block_align p.channels p.codec) (blocks_have_bytes p good fits))

not_counted : (p : Parameters) (bytes : ℕ) (count : Option ℕ) → is_adpcm p.codec ≡ false → frame_count p bytes count ≡ whole_frames p bytes
not_counted p bytes None other = refl
not_counted p bytes (Some count) other = rw other refl

pub single : (n b : ℕ) → b ≡ 1 → (n + b - 1) / b * b ≡ n
single n b one = rw one (omega arith)

pub counted : (p : Parameters) (n : ℕ) (count : Option ℕ) → AreParams p → fit_refusal W64 p ≡ None → (is_adpcm p.codec ≡ true → count ≡ Some n) → frame_count p (data_bytes p n) count ≡ n
counted p n count good fits reads = elim (cases_Bool (is_adpcm p.codec)) [
  | inl is ↦
      let whole : n ≤ whole_frames p (data_bytes p n) = rw (whole_of p n good fits) (blocks_hold n (block_frames p.codec) (blocks_have_frames p good fits)) in
      rw (reads is, is) (omega arith)
  | inr other ↦ not_counted p (data_bytes p n) count other ∙ whole_of p n good fits ∙ single n (block_frames p.codec) (fixed_frames p.codec other)
]

-- no frames have no bytes
pub no_bytes_yet : (p : Parameters) → AreParams p → fit_refusal W64 p ≡ None → data_bytes p 0 ≡ 0
no_bytes_yet p good fits =
    let none : (0 + block_frames p.codec - 1) / block_frames p.codec < 1 = div_below (0 + block_frames p.codec - 1) (block_frames p.codec) 1 (omega (arith, blocks_have_frames p good fits)) (omega (arith, blocks_have_frames p good fits)) in
    let zero : (0 + block_frames p.codec - 1) / block_frames p.codec ≡ 0 = omega arith in
    rw zero (omega arith)

-- the frames of data are no more than their whole blocks
pub within_blocks : (p : Parameters) (n : ℕ) → AreParams p → fit_refusal W64 p ≡ None → n ≤ (n + block_frames p.codec - 1) / block_frames p.codec * block_frames p.codec
within_blocks p n good fits = blocks_hold n (block_frames p.codec) (blocks_have_frames p good fits)
