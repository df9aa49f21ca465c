-- The frames of a file whose samples have a fixed number of bytes, and of one whose samples stand in blocks.
use Rattle.std.proofs.Common.{◌≡◌, ◌∙◌, ap, sym, inl, inr, refl, ℕ, ℤ, ◌*◌, ◌/◌, ◌<◌, ◌≤◌, Bool, true, false, cond, List, take, drop, length, arith}
use Rattle.std.proofs.lemmas.Bool.{cases_Bool}
use Rattle.std.proofs.Math.Nat.{mul-div-le, mul-div_cancel_left}
use Rattle.std.specs.Prelude.{IfOk, Option, None, Some, Result, Ok, Err, is_none}
use Rattle.snd_blocks.proofs.Public.{counted, frames_are_in_blocks, no_bad_groups}
use Rattle.snd_blocks.specs.Frames.{HasBadFrame, HasFrames as BlocksHaveFrames, blocks_decoded, frames_in_blocks, has_bad}
use Rattle.snd_blocks.specs.Sound.{decode, frames_in}
use Rattle.snd_block_writer.proofs.Public.{are_blocks}
use Rattle.snd_container.specs.Fixed.{samples}
use Rattle.snd_container.specs.Sound.{decoded, decoded_as, fixed_of, sound_bytes}
use Rattle.snd_container.specs.declared.fixed.Fixed.{Fixed}
use Rattle.snd_pcm.specs.Groups.{first_groups}
use Rattle.snd_layout.specs.Blocks.{is_adpcm}
use Rattle.snd_layout.specs.Fit.{fit_refusal}
use Rattle.snd_layout.specs.Params.{AreParams, Parameters}
use Rattle.snd_layout.specs.Shape.{Shape, end}
use Rattle.snd_layout.specs.declared.codec.Codec.{Codec}
use Rattle.snd_layout.specs.declared.codec.Codec.TheVariants.{Ima, Ms}
use Rattle.snd_layout.specs.declared.kind.Kind.{Kind}
use Rattle.snd_edits.specs.Reading.{HasFrames}
use Rattle.snd_layout.proofs.Public.{few_channels, is_held}
use Rattle.snd_edits.proofs.Opening.{count_decoded}
use Rattle.snd_edits.proofs.Rooms.{not_adpcm}

pub decode_fixed : (p : Parameters) (n : ℕ) (bytes : List ℕ) → is_none (fixed_of p.codec) ≡ false → decode p n bytes ≡ decoded p bytes
decode_fixed p n bytes linear = ap (λ (t : Bool). cond t (take n (blocks_decoded p bytes)) (decoded p bytes)) (not_adpcm p.codec linear)

pub frames_fixed : (b : List ℕ) (s : Shape) → is_none (fixed_of s.params.codec) ≡ false → frames_in b s ≡ decoded s.params (sound_bytes b s)
frames_fixed b s linear = decode_fixed s.params s.frames (sound_bytes b s) linear

-- a codec that has no blocks has a fixed number of bytes for each sample
pub is_fixed : (codec : Codec) → is_adpcm codec ≡ false → is_none (fixed_of codec) ≡ false
is_fixed (Ima align per_block) none = absurd (cc)
is_fixed (Ms align per_block) none = absurd (cc)
is_fixed _ none = refl

-- the frames that a layout counts are those that its bytes give
pub count_opened : (b : List ℕ) (s : Shape) → is_none (fixed_of s.params.codec) ≡ false → 1 ≤ s.params.channels → end s s.frames ≤ length b → s.frames ≡ length (frames_in b s)
count_opened b s linear some fits = count_decoded b s linear some fits ∙ sym (ap length (frames_fixed b s linear))

-- .. of any codec
pub count_any : (b : List ℕ) (s : Shape) (kind : Kind) → fit_refusal kind s.params ≡ None → AreParams s.params → end s s.frames ≤ length b → s.frames ≡ length (frames_in b s)
count_any b s kind fits good there = elim (cases_Bool (is_adpcm s.params.codec)) [
  | inl blocks ↦ sym (ap length (frames_are_in_blocks b s blocks) ∙ counted b s (are_blocks s.params blocks (few_channels kind s.params.channels s.params.codec blocks (is_held kind s.params fits)) good) there)
  | inr none ↦ count_opened b s (is_fixed s.params.codec none) good.some_channel there
]

pub broken_is : {X P : Type 0} (x : X) → ◌≡◌ {A = Option X} (Some x) None → P
broken_is x is = absurd (cc)

pub if_ok : {T E : Type 0} (r : Result T E) {P Q : T → Type 0} → IfOk r P → ((v : T) → P v → Q v) → IfOk r Q
if_ok (Ok v) has next = next v has
if_ok (Err e) has next = tt

-- none of those with a fixed number of bytes for each sample is bad
good_as : (o : Option Fixed) (channels : ℕ) (bytes : List ℕ) → 1 ≤ channels → has_bad (decoded_as o channels bytes) ≡ false
good_as None channels bytes some = refl
good_as (Some form) channels bytes some =
    let xs = samples form bytes in
    no_bad_groups channels (length xs / channels) xs some (mul-div-le (length xs) channels)

pub good_frames : (b : List ℕ) (s : Shape) → is_adpcm s.params.codec ≡ false → 1 ≤ s.params.channels → has_bad (frames_in b s) ≡ false
good_frames b s is some =
    ap has_bad (frames_fixed b s (is_fixed s.params.codec is)) ∙ good_as (fixed_of s.params.codec) s.params.channels (sound_bytes b s) some

pub good_read : (b : List ℕ) (s : Shape) (place count : ℕ) (xs : List ℤ) → 1 ≤ s.params.channels → length xs ≡ count * s.params.channels → HasFrames b s place count xs
    → has_bad (take count (drop place (frames_in b s))) ≡ false
good_read b s place count xs some room told =
    sym (ap has_bad told) ∙ no_bad_groups s.params.channels count xs some (let e : s.params.channels * count ≡ count * s.params.channels = omega arith in omega (arith, e, room))

pub count_of : (n channels count : ℕ) → 1 ≤ channels → n ≡ count * channels → n / channels ≡ count
count_of n channels count some room =
    ap (λ (m : ℕ). m / channels) (room ∙ (let e : count * channels ≡ channels * count = omega arith in e)) ∙ mul-div_cancel_left count (let e : 0 < channels = omega (arith, some) in e)

module _ (b : List ℕ) (s : Shape) (place count : ℕ) (is : is_adpcm s.params.codec ≡ true) where
  in_blocks : (n : ℕ) → take n (drop place (frames_in_blocks b s)) ≡ take n (drop place (frames_in b s))
  in_blocks n = ap (λ l. take n (drop place l)) (sym (frames_are_in_blocks b s is))

  module _ (xs : List ℤ) (all : length xs / s.params.channels ≡ count) where
    pub blocks_told : BlocksHaveFrames b s place xs → HasFrames b s place count xs
    blocks_told has =
        ap (λ (n : ℕ). first_groups s.params.channels n xs) (sym all) ∙ has.frames
        ∙ ap (λ (n : ℕ). take n (drop place (frames_in_blocks b s))) all ∙ in_blocks count

    pub blocks_good : BlocksHaveFrames b s place xs → has_bad (take count (drop place (frames_in b s))) ≡ false
    blocks_good has = sym (ap has_bad (in_blocks count)) ∙ ap (λ (n : ℕ). has_bad (take n (drop place (frames_in_blocks b s)))) (sym all) ∙ has.good

  pub blocks_bad : (numbers : ℕ) → numbers / s.params.channels ≡ count → HasBadFrame b s place numbers → has_bad (take count (drop place (frames_in b s))) ≡ true
  blocks_bad numbers all bad = sym (ap has_bad (in_blocks count)) ∙ ap (λ (n : ℕ). has_bad (take n (drop place (frames_in_blocks b s)))) (sym all) ∙ bad
