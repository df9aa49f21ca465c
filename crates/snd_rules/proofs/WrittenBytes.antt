-- How many bytes are written for numbers.
use Rattle.std.proofs.Common.{◌≡◌, ◌⊎◌, ⊎_elim, ◌+◌, ◌*◌, ◌/◌, ◌≤◌, ℕ, Bool, true, false, sym, subst, arith}
use Rattle.std.proofs.Math.Nat.{div-mul-le_self, mul-le-mul_left}
use Rattle.std.proofs.lemmas.Bool.{and_parts, leb-true}
use Rattle.std.specs.Prelude.{IsTrue, if◌then◌else◌, is_none}
use Rattle.snd_blocks.specs.Calls.{HasForm}
use Rattle.snd_disk.specs.State.{AtMost}
use Rattle.snd_container.specs.Sound.{fixed_of}
use Rattle.snd_fields.specs.Blocks.{ima_samples_per_block, is_ima_align, is_ms_align, ms_samples_per_block}
use Rattle.snd_layout.specs.Blocks.{block_align, block_frames}
use Rattle.snd_layout.specs.declared.codec.Codec.{Codec}
use Rattle.snd_layout.specs.declared.codec.Codec.TheVariants.{U8, S8, S16, S24, S32, MuLaw, ALaw, Ima, Ms}

-- a number of a codec with a fixed number of bytes has at most 4
pub linear_numbers : (channels : ℕ) (codec : Codec) → is_none (fixed_of codec) ≡ false → block_align channels codec ≤ 4 * channels
linear_numbers channels U8 linear = omega arith
linear_numbers channels S8 linear = omega arith
linear_numbers channels (S16 order) linear = omega arith
linear_numbers channels (S24 order) linear = omega arith
linear_numbers channels (S32 order) linear = omega arith
linear_numbers channels MuLaw linear = omega arith
linear_numbers channels ALaw linear = omega arith
linear_numbers channels (Ima align per_block) linear = absurd (cc)
linear_numbers channels (Ms align per_block) linear = absurd (cc)

pub whole_numbers : (n channels align : ℕ) → align ≤ 4 * channels → n / channels * align ≤ 4 * n
whole_numbers n channels align most =
    let frames : n / channels * align ≤ n / channels * (4 * channels) = mul-le-mul_left (n / channels) most in
    let numbers : n / channels * channels ≤ n = div-mul-le_self n channels in
    let turned : n / channels * (4 * channels) ≡ 4 * (n / channels * channels) = grind arith in
    omega (arith, frames, numbers, turned)

-- a block of ADPCM has at most 4 bytes for each of its numbers
ima_numbers : (channels align : ℕ) → (channels ≡ 1) ⊎ (channels ≡ 2) → IsTrue (is_ima_align channels align) → align ≤ 4 * channels * ima_samples_per_block channels align
ima_numbers channels align few form =
    let enough : ℕ → Type 0 = λ c. 4 * c ≤ align → align ≤ 4 * c * ima_samples_per_block c align in
    let head = leb-true (4 * channels) align (and_parts _ _ form).0 in
    ⊎_elim (λ one. subst enough (sym one) (λ le. omega arith) head) (λ two. subst enough (sym two) (λ le. omega arith) head) few

ms_numbers : (channels align : ℕ) → (channels ≡ 1) ⊎ (channels ≡ 2) → IsTrue (is_ms_align channels align) → align ≤ 4 * channels * ms_samples_per_block channels align
ms_numbers channels align few form =
    let enough : ℕ → Type 0 = λ c. 7 * c ≤ align → align ≤ 4 * c * ms_samples_per_block c align in
    let head = leb-true (7 * channels) align (and_parts _ _ form).0 in
    ⊎_elim (λ one. subst enough (sym one) (λ le. omega arith) head) (λ two. subst enough (sym two) (λ le. omega arith) head) few

pub few_for_numbers : (channels : ℕ) (codec : Codec) → (channels ≡ 1) ⊎ (channels ≡ 2) → HasForm channels codec → block_align channels codec ≤ 4 * channels * block_frames codec
few_for_numbers channels (Ima align per_block) few form = subst (λ (n : ℕ). align ≤ 4 * channels * n) (sym form.1) (ima_numbers channels align few form.0)
few_for_numbers channels (Ms align per_block) few form = subst (λ (n : ℕ). align ≤ 4 * channels * n) (sym form.1) (ms_numbers channels align few form.0)
few_for_numbers channels codec few form = absurd form

-- the blocks that the frames of so many numbers fill, and one more
pub blocks_for_numbers : (n channels align frames : ℕ) → align ≤ 4 * channels * frames → align ≤ 2048 → (n / channels / frames + 1) * align + 64 ≤ 4 * n + 72 + 2048
blocks_for_numbers n channels align frames few small =
    let whole = n / channels / frames in
    let blocks : whole * align ≤ whole * (4 * channels * frames) = mul-le-mul_left whole few in
    let in_frames : channels * (whole * frames) ≤ channels * (n / channels) = mul-le-mul_left channels (div-mul-le_self (n / channels) frames) in
    let in_numbers : n / channels * channels ≤ n = div-mul-le_self n channels in
    let turned : whole * (4 * channels * frames) ≡ 4 * (channels * (whole * frames)) = grind arith in
    let same : channels * (n / channels) ≡ n / channels * channels = grind arith in
    let one_more : (whole + 1) * align ≡ whole * align + align = grind arith in
    omega (arith, blocks, in_frames, in_numbers, turned, same, one_more, small)

-- .. of which the last 64 are written where updates are automatic
pub blocks_within : (old most new : ℕ) (automatic : Bool) → AtMost old (most + (if automatic then 64 else 0)) new → AtMost old (most + 64) new
blocks_within old most new true written = written
blocks_within old most new false written = record { later = written.later; most = omega (arith, written.most) }
