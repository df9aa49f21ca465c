-- The formats of blocks.
use Rattle.std.proofs.Common.{◌≡◌, ℕ, ◌+◌, ◌≤◌, Bool, true, false, not, List, [], ◌∷◌, get_or, Option, None, Some, Ok, Err, refl, inl, inr, arith}
use Rattle.std.proofs.lemmas.Bool.{cases_Bool, le-leb, ltb-false}
use Rattle.std.specs.Prelude.{◌==◌, nat_le, nat_lt, if◌then◌else◌}
use Rattle.snd_layout.proofs.Codecs.{params_good, unless_ok}
use Rattle.snd_layout.specs.Fit.{fit_refusal, is_voc_codec}
use Rattle.snd_layout.specs.Params.{AreParams, Parameters, params_refusal}
use Rattle.snd_layout.specs.Refusals.{first_refusal, refuse_if, unless}
use Rattle.snd_layout.specs.declared.codec.Codec.{Codec}
use Rattle.snd_layout.specs.declared.codec.Codec.TheVariants.{U8, S16, MuLaw, ALaw}
use Rattle.snd_layout.specs.declared.kind.Kind.TheVariants.{Voc}
use Rattle.snd_layout.specs.declared.refusal.OpenRefusal.{OpenRefusal}
use Rattle.snd_layout.specs.declared.refusal.OpenRefusal.TheVariants.{UnknownCodec, BadChannels, BadBits}
use Rattle.snd_fields.specs.Field.{number}
use Rattle.snd_fields.specs.declared.field.Order.TheVariants.{Little}
use Rattle.snd_voc.specs.Layout.{codec_of, extended_rate, format_of, has_bits, newer_of, older_format, older_of, rate_of}
use Rattle.snd_voc.specs.declared.blocks.Block.{Block}
use Rattle.snd_voc.specs.declared.blocks.Sound.{Sound}

-- why something is refused
pub unless_err : {T : Type 0} (refusal : Option OpenRefusal) (value : T) (r : OpenRefusal) → unless refusal value ≡ Err r → refusal ≡ Some r
unless_err None value r is = absurd (cc)
unless_err (Some refusal) value r is = cc

-- where a list of refusals has none, none of them is one
pub first_none : (refusal : Option OpenRefusal) (rest : List (Option OpenRefusal)) → first_refusal (refusal ∷ rest) ≡ None → (refusal ≡ None) × (first_refusal rest ≡ None)
first_none None rest is = (refl, is)
first_none (Some refusal) rest is = absurd (cc)

pub not_refused : (holds : Bool) (refusal : OpenRefusal) → refuse_if holds refusal ≡ None → holds ≡ false
not_refused true refusal is = absurd (cc)
not_refused false refusal is = refl

-- the codecs that the kind holds, with one or two channels
pub held_fits : (channels rate : ℕ) (codec : Codec) → nat_le channels 2 ≡ true → is_voc_codec codec ≡ true → fit_refusal Voc (record { channels = channels; rate = rate; codec = codec }) ≡ None
held_fits channels rate codec few is = rw (few, is) refl

four_codecs : (a b c d : Bool) (codec : Codec) → (if a then Some U8 else (if b then Some (S16 Little) else (if c then Some ALaw else (if d then Some MuLaw else None)))) ≡ Some codec → is_voc_codec codec ≡ true
four_codecs true b c d codec is = let e : U8 ≡ codec = cc in rw (← e) refl
four_codecs false true c d codec is = let e : S16 Little ≡ codec = cc in rw (← e) refl
four_codecs false false true d codec is = let e : ALaw ≡ codec = cc in rw (← e) refl
four_codecs false false false true codec is = let e : MuLaw ≡ codec = cc in rw (← e) refl
four_codecs false false false false codec is = absurd (cc)

codec_held : (code : ℕ) (codec : Codec) → codec_of code ≡ Some codec → is_voc_codec codec ≡ true
codec_held code codec is = four_codecs (code == 0) (code == 4) (code == 6) (code == 7) codec is

abbrev pub IsGood : Parameters → Type 0
IsGood p = AreParams p × (fit_refusal Voc p ≡ None)

pub older_good : (codec mode rate : ℕ) (p : Parameters) → older_of codec mode rate ≡ Ok p → IsGood p
older_good codec mode rate p is =
    let both = unless_ok (first_refusal (refuse_if (not (codec == 0)) UnknownCodec ∷ refuse_if (nat_lt 1 mode) BadChannels ∷ params_refusal (mode + 1) rate U8 ∷ [])) (record { channels = mode + 1; rate = rate; codec = U8 }) p is in
    let one = first_none (refuse_if (not (codec == 0)) UnknownCodec) (refuse_if (nat_lt 1 mode) BadChannels ∷ params_refusal (mode + 1) rate U8 ∷ []) both.0 in
    let two = first_none (refuse_if (nat_lt 1 mode) BadChannels) (params_refusal (mode + 1) rate U8 ∷ []) one.1 in
    let three = first_none (params_refusal (mode + 1) rate U8) [] two.1 in
    let few : mode ≤ 1 = ltb-false 1 mode (not_refused (nat_lt 1 mode) BadChannels two.0) in
    let test : nat_le (mode + 1) 2 ≡ true = le-leb (mode + 1) 2 (omega (arith, few)) in
    rw (← both.1) (params_good (mode + 1) rate U8 three.0, held_fits (mode + 1) rate U8 test refl)

pub newer_good : (code channels rate bits : ℕ) (codec : Option Codec) (p : Parameters) → codec_of code ≡ codec → newer_of codec channels rate bits ≡ Ok p → IsGood p
newer_good code channels rate bits None p found is = absurd (cc)
newer_good code channels rate bits (Some codec) p found is =
    let both = unless_ok (first_refusal (refuse_if (nat_lt 2 channels) BadChannels ∷ params_refusal channels rate codec ∷ refuse_if (not (has_bits codec bits)) BadBits ∷ [])) (record { channels = channels; rate = rate; codec = codec }) p is in
    let one = first_none (refuse_if (nat_lt 2 channels) BadChannels) (params_refusal channels rate codec ∷ refuse_if (not (has_bits codec bits)) BadBits ∷ []) both.0 in
    let two = first_none (params_refusal channels rate codec) (refuse_if (not (has_bits codec bits)) BadBits ∷ []) one.1 in
    let few : channels ≤ 2 = ltb-false 2 channels (not_refused (nat_lt 2 channels) BadChannels one.0) in
    let test : nat_le channels 2 ≡ true = le-leb channels 2 few in
    rw (← both.1) (params_good channels rate codec two.0, held_fits channels rate codec test (codec_held code codec found))

older_found : (b : List ℕ) (extension : Option Block) (constant codec : ℕ) (p : Parameters) → older_format b extension constant codec ≡ Ok p → IsGood p
older_found b None constant codec p is = older_good codec 0 (rate_of constant) p is
older_found b (Some block) constant codec p is =
    older_good (get_or b (block.at + 2) 0) (get_or b (block.at + 3) 0) (extended_rate (get_or b (block.at + 3) 0) (number Little b block.at 2)) p is

pub format_good : (b : List ℕ) (sound : Sound) (p : Parameters) → format_of b sound ≡ Ok p → IsGood p
format_good b sound p is = elim (cases_Bool (sound.kind == 1)) [
  | inl one ↦ older_found b sound.extension (get_or b (sound.at + 4) 0) (get_or b (sound.at + 5) 0) p (let h = rw one at is in h)
  | inr other ↦ newer_good (number Little b (sound.at + 10) 2) (get_or b (sound.at + 9) 0) (number Little b (sound.at + 4) 4) (get_or b (sound.at + 8) 0) (codec_of (number Little b (sound.at + 10) 2)) p refl (let h = rw other at is in h)
]
