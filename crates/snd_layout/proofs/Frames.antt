-- The blocks of what a WAVE file holds have frames.
use Rattle.std.proofs.Common.{◌≡◌, ℕ, ◌+◌, ◌*◌, ◌-◌, ◌/◌, ◌%◌, ◌≤◌, Bool, true, false, ◌&&◌, None, refl, inl, inr, arith}
use Rattle.std.proofs.lemmas.Bool.{and_parts, cases_Bool, eqb-true}
use Rattle.std.specs.Prelude.{◌==◌, nat_le}
use Rattle.snd_layout.specs.declared.codec.Codec.{Codec}
use Rattle.snd_layout.specs.declared.codec.Codec.TheVariants.{Ima, Ms}
use Rattle.snd_layout.specs.declared.kind.Kind.TheVariants.{Wave}
use Rattle.snd_layout.specs.Blocks.{block_frames, is_ima_block, is_ms_block}
use Rattle.snd_layout.specs.Fit.{fit_refusal}
use Rattle.snd_layout.specs.Params.{AreParams, Parameters, block_refusal, size_refusal}

pub good_size : (good : Bool) (align : ℕ) → size_refusal good align ≡ None → good ≡ true
good_size true align is = refl
good_size false align is = cc

pub ima_frames : (channels align per_block : ℕ) → is_ima_block channels align per_block ≡ true → per_block ≡ (align - 4 * channels) * 2 / channels + 1
ima_frames channels align per_block good =
    let last : (per_block == (align - 4 * channels) * 2 / channels + 1) ≡ true = (and_parts (nat_le (4 * channels) align && ((align - 4 * channels) % (4 * channels) == 0)) (per_block == (align - 4 * channels) * 2 / channels + 1) good).1 in
    eqb-true per_block ((align - 4 * channels) * 2 / channels + 1) last

pub ms_frames : (channels align per_block : ℕ) → is_ms_block channels align per_block ≡ true → per_block ≡ (align - 7 * channels) * 2 / channels + 2
ms_frames channels align per_block good =
    let last : (per_block == (align - 7 * channels) * 2 / channels + 2) ≡ true = (and_parts (nat_le (7 * channels) align && ((align - 7 * channels) * 2 % channels == 0)) (per_block == (align - 7 * channels) * 2 / channels + 2) good).1 in
    eqb-true per_block ((align - 7 * channels) * 2 / channels + 2) last

frames_of : (channels rate : ℕ) (codec : Codec) → fit_refusal Wave (record { channels = channels; rate = rate; codec = codec }) ≡ None → block_refusal channels codec ≡ None → 1 ≤ block_frames codec
frames_of channels rate (Ima align per_block) fits good = elim (cases_Bool (nat_le channels 2)) [
  | inl few ↦ omega (arith, ima_frames channels align per_block (good_size _ align (rw few at good)))
  | inr many ↦ absurd (let h = rw many at fits in cc)
]
frames_of channels rate (Ms align per_block) fits good = elim (cases_Bool (nat_le channels 2)) [
  | inl few ↦ omega (arith, ms_frames channels align per_block (good_size _ align (rw few at good)))
  | inr many ↦ absurd (let h = rw many at fits in cc)
]
frames_of channels rate _ fits good = omega arith

pub blocks_have_frames : (p : Parameters) → AreParams p → fit_refusal Wave p ≡ None → 1 ≤ block_frames p.codec
blocks_have_frames p good fits = frames_of p.channels p.rate p.codec fits good.blocks
