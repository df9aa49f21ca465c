-- The blocks of what a file holds.
use Rattle.std.proofs.Common.{◌≡◌, ◌⊎◌, ℕ, ◌*◌, ◌-◌, ◌%◌, ◌≤◌, Bool, true, false, None, inl, inr, refl, arith}
use Rattle.std.proofs.lemmas.Bool.{and_parts, cases_Bool, leb-true, leb-false}
use Rattle.std.specs.Prelude.{◌==◌, nat_le}
use Rattle.snd_fields.specs.Blocks.{is_ima_align, is_ms_align, ima_samples_per_block, ms_samples_per_block}
use Rattle.snd_layout.specs.declared.codec.Codec.{Codec}
use Rattle.snd_layout.specs.declared.codec.Codec.TheVariants.{Ima, Ms}
use Rattle.snd_layout.specs.declared.kind.Kind.{Kind}
use Rattle.snd_layout.specs.Blocks.{is_adpcm, is_ima_block, is_ms_block}
use Rattle.snd_layout.specs.Fit.{fit_refusal, is_pair}
use Rattle.snd_layout.specs.Params.{AreParams, Parameters, block_refusal, size_refusal}
use Rattle.snd_layout.proofs.Public.{few_channels, is_held}
use Rattle.snd_layout.proofs.Frames.{good_size, ima_frames, ms_frames}
use Rattle.snd_blocks.specs.Calls.{AreBlocks}

one_or_two : (n : ℕ) → 1 ≤ n → n ≤ 2 → (n ≡ 1) ⊎ (n ≡ 2)
one_or_two n some most = grind arith

small_size : (good : Bool) (align : ℕ) → size_refusal good align ≡ None → align ≤ 8192
small_size true align is = elim (cases_Bool (nat_le align 8192)) [
  | inl small ↦ leb-true align 8192 small
  | inr large ↦ absurd (let h = rw large at is in cc)
]
small_size false align is = absurd (cc)

are_blocks : (kind : Kind) (channels rate : ℕ) (codec : Codec) → is_adpcm codec ≡ true → 1 ≤ channels → is_pair kind channels codec ≡ true → block_refusal channels codec ≡ None
    → AreBlocks (record { channels = channels; rate = rate; codec = codec })
are_blocks kind channels rate (Ima align per_block) is some held good =
    let few : channels ≤ 2 = few_channels kind channels (Ima align per_block) refl held in
    elim (cases_Bool (nat_le channels 2)) [
      | inl fits ↦
          let sized : size_refusal (is_ima_block channels align per_block) align ≡ None = (rw fits at good) in
          let form : is_ima_block channels align per_block ≡ true = good_size _ align sized in
          let frames = ima_frames channels align per_block form in
          let aligned : is_ima_align channels align ≡ true = (and_parts (is_ima_align channels align) (per_block == ima_samples_per_block channels align) form).0 in
          let whole : 4 * channels ≤ align = leb-true (4 * channels) align (and_parts (nat_le (4 * channels) align) ((align - 4 * channels) % (4 * channels) == 0) aligned).0 in
          record {
            channels = one_or_two channels some few;
            form = (search (arith, aligned), frames);
            some_bytes = omega arith;
            most_bytes = small_size _ align sized;
            some_frames = omega arith;
          }
      | inr many ↦ absurd (omega (arith, leb-false channels 2 many))
    ]
are_blocks kind channels rate (Ms align per_block) is some held good =
    let few : channels ≤ 2 = few_channels kind channels (Ms align per_block) refl held in
    elim (cases_Bool (nat_le channels 2)) [
      | inl fits ↦
          let sized : size_refusal (is_ms_block channels align per_block) align ≡ None = (rw fits at good) in
          let form : is_ms_block channels align per_block ≡ true = good_size _ align sized in
          let frames = ms_frames channels align per_block form in
          let aligned : is_ms_align channels align ≡ true = (and_parts (is_ms_align channels align) (per_block == ms_samples_per_block channels align) form).0 in
          let whole : 7 * channels ≤ align = leb-true (7 * channels) align (and_parts (nat_le (7 * channels) align) ((align - 7 * channels) * 2 % channels == 0) aligned).0 in
          record {
            channels = one_or_two channels some few;
            form = (search (arith, aligned), frames);
            some_bytes = omega arith;
            most_bytes = small_size _ align sized;
            some_frames = omega arith;
          }
      | inr many ↦ absurd (omega (arith, leb-false channels 2 many))
    ]
are_blocks kind channels rate codec is some held good = absurd (cc)

pub keeps_blocks : (kind : Kind) (p : Parameters) → is_adpcm p.codec ≡ true → fit_refusal kind p ≡ None → AreParams p → AreBlocks p
keeps_blocks kind p is fits good = are_blocks kind p.channels p.rate p.codec is good.some_channel (is_held kind p fits) good.blocks
