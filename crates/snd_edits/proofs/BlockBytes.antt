-- The bytes of the frames of what a file holds, which stand in blocks in ADPCM.
use Rattle.std.proofs.Common.{◌≡◌, ◌⊎◌, ⊎_elim, ap, sym, subst, refl, ℕ, ◌+◌, ◌-◌, ◌*◌, ◌/◌, ◌%◌, ◌≤◌, Bool, true, false, None, inl, inr, arith}
use Rattle.std.proofs.Math.Nat.{div-mul-le_self, lt-div-mul-add, mul-le-mul_left}
use Rattle.std.proofs.lemmas.Bool.{and_parts, cases_Bool, leb-true, leb-false}
use Rattle.std.specs.Prelude.{◌==◌, nat_le}
use Rattle.snd_fields.specs.Blocks.{is_ima_align, is_ms_align, ima_samples_per_block, ms_samples_per_block}
use Rattle.snd_layout.specs.declared.codec.Codec.{Codec}
use Rattle.snd_layout.specs.declared.codec.Codec.TheVariants.{U8, S8, S16, S24, S32, MuLaw, ALaw, Ima, Ms}
use Rattle.snd_layout.specs.declared.kind.Kind.{Kind}
use Rattle.snd_layout.specs.Blocks.{block_align, block_frames, is_adpcm, is_ima_block, is_ms_block}
use Rattle.snd_layout.proofs.Public.{few_channels, is_held}
use Rattle.snd_layout.specs.Params.{AreParams, Parameters, block_refusal, data_bytes, size_refusal}
use Rattle.snd_layout.specs.Shape.{KeepsRule, Shape}
use Rattle.snd_layout.proofs.Frames.{good_size, ima_frames, ms_frames}
use Rattle.snd_edits.specs.Reading.{bytes_to_read}

-- a block has at most 8 bytes for each of its frames, and 8192; and at least half a byte for each number
pub record IsBlockSize (channels align per_block : ℕ) : Type 0 where
  pub some : 1 ≤ per_block
  pub few : align ≤ 8 * per_block
  pub small : align ≤ 8192
  pub numbers : per_block * channels ≤ 2 * align

-- ---- blocks have one channel or two

one_or_two : (n : ℕ) → 1 ≤ n → n ≤ 2 → (n ≡ 1) ⊎ (n ≡ 2)
one_or_two n some most = grind arith

small_size : (good : Bool) (align : ℕ) → size_refusal good align ≡ None → align ≤ 8192
small_size true align is = elim (cases_Bool (nat_le align 8192)) [
  | inl small ↦ leb-true align 8192 small
  | inr large ↦ absurd (let h = rw large at is in cc)
]
small_size false align is = absurd (cc)

-- ---- their sizes

ima_size : (channels align per_block : ℕ) → (channels ≡ 1) ⊎ (channels ≡ 2) → 4 * channels ≤ align → per_block ≡ (align - 4 * channels) * 2 / channels + 1 → align ≤ 8192 → IsBlockSize channels align per_block
ima_size channels align per_block one whole is small = ⊎_elim
    (λ e. subst (λ (c : ℕ). 4 * c ≤ align → per_block ≡ (align - 4 * c) * 2 / c + 1 → IsBlockSize c align per_block) (sym e)
    (λ whole is. record { some = omega (arith, is); few = omega (arith, whole, is); small = small; numbers = omega (arith, whole, is) }) whole is)
    (λ e. subst (λ (c : ℕ). 4 * c ≤ align → per_block ≡ (align - 4 * c) * 2 / c + 1 → IsBlockSize c align per_block) (sym e)
    (λ whole is. record { some = omega (arith, is); few = omega (arith, whole, is); small = small; numbers = omega (arith, whole, is) }) whole is)
    one

ms_size : (channels align per_block : ℕ) → (channels ≡ 1) ⊎ (channels ≡ 2) → 7 * channels ≤ align → per_block ≡ (align - 7 * channels) * 2 / channels + 2 → align ≤ 8192 → IsBlockSize channels align per_block
ms_size channels align per_block one whole is small = ⊎_elim
    (λ e. subst (λ (c : ℕ). 7 * c ≤ align → per_block ≡ (align - 7 * c) * 2 / c + 2 → IsBlockSize c align per_block) (sym e)
    (λ whole is. record { some = omega (arith, is); few = omega (arith, whole, is); small = small; numbers = omega (arith, whole, is) }) whole is)
    (λ e. subst (λ (c : ℕ). 7 * c ≤ align → per_block ≡ (align - 7 * c) * 2 / c + 2 → IsBlockSize c align per_block) (sym e)
    (λ whole is. record { some = omega (arith, is); few = omega (arith, whole, is); small = small; numbers = omega (arith, whole, is) }) whole is)
    one

sizes : (channels : ℕ) (codec : Codec) → is_adpcm codec ≡ true → 1 ≤ channels → channels ≤ 2 → block_refusal channels codec ≡ None → IsBlockSize channels (block_align channels codec) (block_frames codec)
sizes channels (Ima align per_block) is some few good = elim (cases_Bool (nat_le channels 2)) [
  | inl fits ↦
      let sized : size_refusal (is_ima_block channels align per_block) align ≡ None = (rw fits at good) in
      let form : is_ima_block channels align per_block ≡ true = good_size _ align sized in
      let aligned : is_ima_align channels align ≡ true = (and_parts (is_ima_align channels align) (per_block == ima_samples_per_block channels align) form).0 in
      let whole : 4 * channels ≤ align = leb-true (4 * channels) align (and_parts (nat_le (4 * channels) align) ((align - 4 * channels) % (4 * channels) == 0) aligned).0 in
      ima_size channels align per_block (one_or_two channels some few) whole (ima_frames channels align per_block form) (small_size _ align sized)
  | inr many ↦ absurd (omega (arith, leb-false channels 2 many))
]
sizes channels (Ms align per_block) is some few good = elim (cases_Bool (nat_le channels 2)) [
  | inl fits ↦
      let sized : size_refusal (is_ms_block channels align per_block) align ≡ None = (rw fits at good) in
      let form : is_ms_block channels align per_block ≡ true = good_size _ align sized in
      let aligned : is_ms_align channels align ≡ true = (and_parts (is_ms_align channels align) (per_block == ms_samples_per_block channels align) form).0 in
      let whole : 7 * channels ≤ align = leb-true (7 * channels) align (and_parts (nat_le (7 * channels) align) ((align - 7 * channels) * 2 % channels == 0) aligned).0 in
      ms_size channels align per_block (one_or_two channels some few) whole (ms_frames channels align per_block form) (small_size _ align sized)
  | inr many ↦ absurd (omega (arith, leb-false channels 2 many))
]
sizes channels _ is some few good = absurd (cc)

pub block_sizes : (s : Shape) → KeepsRule s → AreParams s.params → is_adpcm s.params.codec ≡ true → IsBlockSize s.params.channels (block_align s.params.channels s.params.codec) (block_frames s.params.codec)
block_sizes s rule good is = sizes s.params.channels s.params.codec is good.some_channel (few_channels s.kind s.params.channels s.params.codec is (is_held s.kind s.params rule.fits)) good.blocks

-- ---- how many bytes are read for frames

blocks_read : (count channels align per_block : ℕ) → IsBlockSize channels align per_block → (count / per_block + 2) * align ≤ 8 * count + 16384
blocks_read count channels align per_block size =
    let q = count / per_block in
    let whole : q * per_block ≤ count = div-mul-le_self count per_block in
    let each : q * align ≤ q * (8 * per_block) = mul-le-mul_left q size.few in
    let turned : q * (8 * per_block) ≡ 8 * (q * per_block) = omega arith in
    let parts : (q + 2) * align ≡ q * align + 2 * align = omega arith in
    omega (arith, whole, each, turned, parts, size.small)

-- a frame of a codec with a fixed number of bytes a sample has at least one for each channel, and at most 1024
fixed_frame : (channels : ℕ) (codec : Codec) → is_adpcm codec ≡ false → channels ≤ 256 → (channels ≤ block_align channels codec) × (block_align channels codec ≤ 1024) × (block_frames codec ≡ 1)
fixed_frame channels U8 fixed few = (omega arith, omega arith, refl)
fixed_frame channels S8 fixed few = (omega arith, omega arith, refl)
fixed_frame channels (S16 order) fixed few = (omega arith, omega arith, refl)
fixed_frame channels (S24 order) fixed few = (omega arith, omega arith, refl)
fixed_frame channels (S32 order) fixed few = (omega arith, omega arith, refl)
fixed_frame channels MuLaw fixed few = (omega arith, omega arith, refl)
fixed_frame channels ALaw fixed few = (omega arith, omega arith, refl)
fixed_frame channels (Ima align per_block) fixed few = absurd (cc)
fixed_frame channels (Ms align per_block) fixed few = absurd (cc)

pub most_read : (s : Shape) (count : ℕ) → KeepsRule s → AreParams s.params → bytes_to_read s.params count ≤ 1024 * count + 16384
most_read s count rule good = elim (cases_Bool (is_adpcm s.params.codec)) [
  | inl blocks ↦
      let most = blocks_read count s.params.channels _ _ (block_sizes s rule good blocks) in
      rw blocks (omega (arith, most))
  | inr fixed ↦
      let each : count * block_align s.params.channels s.params.codec ≤ count * 1024 = mul-le-mul_left count (fixed_frame s.params.channels s.params.codec fixed good.most_channels).1 in
      rw fixed (omega (arith, each))
]

-- ---- how many numbers a file may have

pub numbers_in : (frames channels align per_block : ℕ) → 1 ≤ per_block → per_block * channels ≤ 2 * align → frames * channels ≤ 2 * ((frames + per_block - 1) / per_block * align)
numbers_in frames channels align per_block some numbers =
    let blocks = (frames + per_block - 1) / per_block in
    let all : frames ≤ blocks * per_block = omega (arith, some, lt-div-mul-add {a = frames + per_block - 1} some) in
    let have : channels * frames ≤ channels * (blocks * per_block) = mul-le-mul_left channels all in
    let each : blocks * (per_block * channels) ≤ blocks * (2 * align) = mul-le-mul_left blocks numbers in
    omega (arith, have, each)

pub few_numbers : (s : Shape) → KeepsRule s → AreParams s.params → s.frames * s.params.channels ≤ 2 * data_bytes s.params s.frames
few_numbers s rule good = elim (cases_Bool (is_adpcm s.params.codec)) [
  | inl blocks ↦
      let size = block_sizes s rule good blocks in
      numbers_in s.frames s.params.channels _ _ size.some size.numbers
  | inr fixed ↦
      let size = fixed_frame s.params.channels s.params.codec fixed good.most_channels in
      let one : block_frames s.params.codec * s.params.channels ≡ 1 * s.params.channels = ap (λ (n : ℕ). n * s.params.channels) size.2 in
      numbers_in s.frames s.params.channels _ _ (omega (arith, size.2)) (omega (arith, size.0, one))
]
