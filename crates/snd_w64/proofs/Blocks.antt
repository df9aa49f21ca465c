-- The frames of blocks fit the numbers that hold them.
use Rattle.std.proofs.Common.{◌≡◌, ℕ, ◌+◌, ◌*◌, ◌-◌, ◌/◌, ◌<◌, ◌≤◌, ◌^◌, true, None, inl, inr, arith}
use Rattle.std.proofs.lemmas.Bool.{and_parts, cases_Bool, leb-true}
use Rattle.std.proofs.lemmas.Nat.{div-add-mod', mul-le}
use Rattle.std.specs.Int.{div_ceil}
use Rattle.std.specs.Prelude.{nat_le}
use Rattle.snd_layout.specs.declared.codec.Codec.{Codec}
use Rattle.snd_layout.specs.declared.codec.Codec.TheVariants.{U8, S8, S16, S24, S32, MuLaw, ALaw, Ima, Ms}
use Rattle.snd_layout.specs.declared.kind.Kind.TheVariants.{W64}
use Rattle.snd_layout.specs.Blocks.{block_align, block_frames, is_ima_block, is_ms_block}
use Rattle.snd_layout.specs.Fit.{fit_refusal}
use Rattle.snd_layout.specs.Params.{AreParams, Parameters, block_refusal}
use Rattle.snd_layout.proofs.Frames.{good_size, ima_frames, ms_frames}

-- a quotient by a number of channels
less : (n c : ℕ) → 1 ≤ c → n / c ≤ n
less n c some = omega (arith, div-add-mod' n c, mul-le (n / c) 1 (n / c) c (omega arith) some)

-- a block has at most two frames for each of its bytes
few_frames : (channels rate : ℕ) (codec : Codec) → 1 ≤ channels → fit_refusal W64 (record { channels = channels; rate = rate; codec = codec }) ≡ None → block_refusal channels codec ≡ None → block_frames codec ≤ 2 * block_align channels codec
few_frames channels rate (Ima align per_block) some fits good = elim (cases_Bool (nat_le channels 2)) [
  | inl few ↦
      let form : is_ima_block channels align per_block ≡ true = good_size _ align (rw few at good) in
      let least : 4 * channels ≤ align = leb-true (4 * channels) align (and_parts (nat_le (4 * channels) align) _ (and_parts _ _ form).0).0 in
      omega (arith, ima_frames channels align per_block form, less ((align - 4 * channels) * 2) channels some, least)
  | inr many ↦ absurd (let h = rw many at fits in cc)
]
few_frames channels rate (Ms align per_block) some fits good = elim (cases_Bool (nat_le channels 2)) [
  | inl few ↦
      let form : is_ms_block channels align per_block ≡ true = good_size _ align (rw few at good) in
      let least : 7 * channels ≤ align = leb-true (7 * channels) align (and_parts (nat_le (7 * channels) align) _ (and_parts _ _ form).0).0 in
      omega (arith, ms_frames channels align per_block form, less ((align - 7 * channels) * 2) channels some, least)
  | inr many ↦ absurd (let h = rw many at fits in cc)
]
few_frames channels rate U8 some fits good = omega arith
few_frames channels rate S8 some fits good = omega arith
few_frames channels rate (S16 order) some fits good = omega arith
few_frames channels rate (S24 order) some fits good = omega arith
few_frames channels rate (S32 order) some fits good = omega arith
few_frames channels rate MuLaw some fits good = omega arith
few_frames channels rate ALaw some fits good = omega arith

doubled : (q a f : ℕ) → f ≤ 2 * a → q * f ≤ 2 * (q * a)
doubled q a f few = grind (arith, mul-le q f q (2 * a) (omega arith) few)

-- so that the frames of data below 2^63 are below 2^64
pub whole_fit : (p : Parameters) (bytes : ℕ) → AreParams p → fit_refusal W64 p ≡ None → bytes < 2 ^ 63 → bytes / block_align p.channels p.codec * block_frames p.codec < 2 ^ 64
whole_fit p bytes good fits few =
    let frames = few_frames p.channels p.rate p.codec good.some_channel fits good.blocks in
    omega (arith, doubled (bytes / block_align p.channels p.codec) (block_align p.channels p.codec) (block_frames p.codec) frames, div-add-mod' bytes (block_align p.channels p.codec), few)

-- and so those of data that end below 2^63
pub frames_fit : (p : Parameters) (n blocks : ℕ) → AreParams p → fit_refusal W64 p ≡ None → n ≤ blocks * block_frames p.codec → blocks * block_align p.channels p.codec < 2 ^ 63 → n < 2 ^ 64
frames_fit p n blocks good fits few below =
    let frames = few_frames p.channels p.rate p.codec good.some_channel fits good.blocks in
    omega (arith, doubled blocks (block_align p.channels p.codec) (block_frames p.codec) frames, few, below)

-- a quotient that is rounded up
pub rounded_up : (n d : ℕ) → 1 ≤ d → div_ceil n d ≡ (n + d - 1) / d
rounded_up n d some = grind arith
