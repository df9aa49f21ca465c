-- Parameters that are stated, and the blocks of codecs whose samples have a fixed size.
use Rattle.std.proofs.Common.{◌≡◌, ℕ, ◌+◌, ◌-◌, ◌*◌, ◌/◌, ◌≤◌, ◌^◌, false, Option, None, Some, Ok, refl, ap, ◌∙◌, inl, inr, arith}
use Rattle.std.proofs.lemmas.Bool.{and_parts, cases_Bool, leb-true, ltb-true}
use Rattle.std.proofs.lemmas.Nat.{div-add-mod', div-mul-add}
use Rattle.std.specs.Prelude.{◌&&◌, nat_le, nat_lt}
use Rattle.snd_layout.specs.declared.codec.Codec.{Codec}
use Rattle.snd_layout.specs.declared.codec.Codec.TheVariants.{U8, S8, S16, S24, S32, MuLaw, ALaw, Ima, Ms}
use Rattle.snd_layout.specs.declared.refusal.OpenRefusal.{OpenRefusal}
use Rattle.snd_layout.specs.Blocks.{block_align, block_frames, is_adpcm}
use Rattle.snd_layout.specs.Params.{AreParams, Parameters, data_bytes, is_channel_count, params_refusal}
use Rattle.snd_layout.specs.Refusals.{unless}

-- what is not refused
pub unless_ok : {T : Type 0} (refusal : Option OpenRefusal) (value given : T) → unless refusal value ≡ Ok given → (refusal ≡ None) × (value ≡ given)
unless_ok None value given is = (refl, cc)
unless_ok (Some refusal) value given is = absurd (cc)

-- parameters that are not refused are good
pub params_good : (channels rate : ℕ) (codec : Codec) → params_refusal channels rate codec ≡ None → AreParams (record { channels = channels; rate = rate; codec = codec })
params_good channels rate codec is = elim (cases_Bool (is_channel_count channels)) [
  | inl counted ↦ elim (cases_Bool (nat_le 1 rate && nat_lt rate (2 ^ 32))) [
    | inl plays ↦
        let count = and_parts (nat_le 1 channels) (nat_le channels 256) counted in
        let times = and_parts (nat_le 1 rate) (nat_lt rate (2 ^ 32)) plays in
        record {
          some_channel = leb-true 1 channels count.0;
          most_channels = leb-true channels 256 count.1;
          some_rate = leb-true 1 rate times.0;
          most_rate = ltb-true rate (2 ^ 32) times.1;
          blocks = let h = rw (counted, plays) at is in h;
        }
    | inr never ↦ absurd (let h = rw (counted, never) at is in cc)
  ]
  | inr none ↦ absurd (let h = rw none at is in cc)
]

-- a block of a codec whose samples have a fixed size is one frame, of some bytes
pub fixed_frames : (codec : Codec) → is_adpcm codec ≡ false → block_frames codec ≡ 1
fixed_frames (Ima align per_block) fixed = absurd (cc)
fixed_frames (Ms align per_block) fixed = absurd (cc)
fixed_frames _ fixed = refl

pub fixed_align : (channels : ℕ) (codec : Codec) → is_adpcm codec ≡ false → 1 ≤ channels → 1 ≤ block_align channels codec
fixed_align channels U8 fixed some = some
fixed_align channels S8 fixed some = some
fixed_align channels (S16 order) fixed some = omega (arith, some)
fixed_align channels (S24 order) fixed some = omega (arith, some)
fixed_align channels (S32 order) fixed some = omega (arith, some)
fixed_align channels MuLaw fixed some = some
fixed_align channels ALaw fixed some = some
fixed_align channels (Ima align per_block) fixed some = absurd (cc)
fixed_align channels (Ms align per_block) fixed some = absurd (cc)

single : (n b : ℕ) → b ≡ 1 → (n + b - 1) / b ≡ n
single n b one = rw one (omega arith)

pub fixed_bytes : (p : Parameters) (n : ℕ) → is_adpcm p.codec ≡ false → data_bytes p n ≡ n * block_align p.channels p.codec
fixed_bytes p n fixed = ap (λ k. k * block_align p.channels p.codec) (single n (block_frames p.codec) (fixed_frames p.codec fixed))

-- whole blocks of so many bytes
pub blocks_of : (q a : ℕ) → 1 ≤ a → q * a / a ≡ q
blocks_of q a some = ap (λ k. k / a) (omega arith) ∙ div-mul-add q a 0 some

pub whole_blocks : (n a : ℕ) → n / a * a ≤ n
whole_blocks n a = omega (arith, div-add-mod' n a)
