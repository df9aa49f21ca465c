-- The codecs of encodings, and what is stated of them.
use Rattle.std.proofs.Common.{◌≡◌, ◌∙◌, ap, sym, refl, ℕ, ◌+◌, ◌-◌, ◌*◌, ◌/◌, ◌^◌, ◌<◌, ◌≤◌, Bool, true, false, Option, None, Some, Ok, Err, inl, inr, arith}
use Rattle.std.proofs.lemmas.Bool.{and_parts, cases_Bool, le-leb, leb-true, lt-ltb, ltb-true}
use Rattle.std.specs.Prelude.{◌==◌, ◌||◌, ◌&&◌, IfOk, Result, nat_le, nat_lt, if◌then◌else◌}
use Rattle.snd_fields.specs.declared.field.Order.{Order}
use Rattle.snd_fields.specs.declared.field.Order.TheVariants.{Little, Big}
use Rattle.snd_layout.proofs.Codecs.{fixed_align, fixed_frames, params_good, unless_ok}
use Rattle.snd_layout.specs.Blocks.{block_align, block_frames, is_adpcm}
use Rattle.snd_layout.specs.Fit.{fit_refusal, is_au_codec, is_dns_codec}
use Rattle.snd_layout.specs.Params.{AreParams, Parameters, block_refusal, data_bytes, is_channel_count, params_of, params_refusal}
use Rattle.snd_layout.specs.Refusals.{unless}
use Rattle.snd_layout.specs.declared.codec.Codec.{Codec}
use Rattle.snd_layout.specs.declared.codec.Codec.TheVariants.{U8, S8, S16, S24, S32, MuLaw, ALaw, Ima, Ms}
use Rattle.snd_layout.specs.declared.refusal.OpenRefusal.{OpenRefusal}
use Rattle.snd_layout.specs.declared.refusal.OpenRefusal.TheVariants.{FloatSamples, UnknownCodec}
use Rattle.snd_au.specs.Layout.{codec_of, kind_of, params_in, with_codec}
use Rattle.snd_au.specs.Written.{encoding_of}
use Rattle.snd_au.specs.declared.numbers.Numbers.{Numbers}

-- whether the kind of a byte order holds a codec
abbrev pub holds : Order → Codec → Bool
holds Big codec = is_au_codec codec
holds Little codec = is_dns_codec codec

abbrev IsHeld : Order → Result Codec OpenRefusal → Type 0
IsHeld order r = IfOk r (λ codec. holds order codec ≡ true)

either : (order : Order) (test : Bool) (a b : Result Codec OpenRefusal) → IsHeld order a → IsHeld order b → IsHeld order (if test then a else b)
either order true a b in_a in_b = in_a
either order false a b in_a in_b = in_b

all_held : (order : Order) (n : ℕ) → IsHeld order (codec_of order n)
all_held Big n =
    either Big (n == 1) (Ok MuLaw) _ refl (either Big (n == 2) (Ok S8) _ refl (either Big (n == 3) (Ok (S16 Big)) _ refl (either Big (n == 4) (Ok (S24 Big)) _ refl
    (either Big (n == 5) (Ok (S32 Big)) _ refl (either Big (n == 27) (Ok ALaw) _ refl (either Big ((n == 6) || (n == 7)) (Err FloatSamples) (Err UnknownCodec) tt tt))))))
all_held Little n =
    either Little (n == 1) (Ok MuLaw) _ refl (either Little (n == 2) (Ok S8) _ refl (either Little (n == 3) (Ok (S16 Little)) _ refl (either Little (n == 4) (Ok (S24 Little)) _ refl
    (either Little (n == 5) (Ok (S32 Little)) _ refl (either Little (n == 27) (Ok ALaw) _ refl (either Little ((n == 6) || (n == 7)) (Err FloatSamples) (Err UnknownCodec) tt tt))))))

-- a kind holds the codecs of the encodings
codec_held : (order : Order) (n : ℕ) (codec : Codec) → codec_of order n ≡ Ok codec → holds order codec ≡ true
codec_held order n codec is = let all : IsHeld order (codec_of order n) = all_held order n in rw is at all

-- and these codecs have encodings
pub encoded : (order : Order) (codec : Codec) → holds order codec ≡ true → codec_of order (encoding_of codec) ≡ Ok codec
encoded Big U8 is = absurd (cc)
encoded Big S8 is = refl
encoded Big (S16 Big) is = refl
encoded Big (S24 Big) is = refl
encoded Big (S32 Big) is = refl
encoded Big (S16 Little) is = absurd (cc)
encoded Big (S24 Little) is = absurd (cc)
encoded Big (S32 Little) is = absurd (cc)
encoded Big MuLaw is = refl
encoded Big ALaw is = refl
encoded Big (Ima a b) is = absurd (cc)
encoded Big (Ms a b) is = absurd (cc)
encoded Little U8 is = absurd (cc)
encoded Little S8 is = refl
encoded Little (S16 Little) is = refl
encoded Little (S24 Little) is = refl
encoded Little (S32 Little) is = refl
encoded Little (S16 Big) is = absurd (cc)
encoded Little (S24 Big) is = absurd (cc)
encoded Little (S32 Big) is = absurd (cc)
encoded Little MuLaw is = refl
encoded Little ALaw is = refl
encoded Little (Ima a b) is = absurd (cc)
encoded Little (Ms a b) is = absurd (cc)

pub few_encodings : (codec : Codec) → encoding_of codec < 28
few_encodings U8 = omega arith
few_encodings S8 = omega arith
few_encodings (S16 order) = omega arith
few_encodings (S24 order) = omega arith
few_encodings (S32 order) = omega arith
few_encodings MuLaw = omega arith
few_encodings ALaw = omega arith
few_encodings (Ima a b) = omega arith
few_encodings (Ms a b) = omega arith

-- ---- codecs that a kind holds

fixed : (order : Order) (codec : Codec) → holds order codec ≡ true → is_adpcm codec ≡ false
fixed Big (Ima a b) is = absurd (cc)
fixed Big (Ms a b) is = absurd (cc)
fixed Little (Ima a b) is = absurd (cc)
fixed Little (Ms a b) is = absurd (cc)
fixed order _ is = refl

fit_of : (order : Order) (p : Parameters) → holds order p.codec ≡ true → fit_refusal (kind_of order) p ≡ None
fit_of Big p is = rw is refl
fit_of Little p is = rw is refl

pub held_of : (order : Order) (p : Parameters) → fit_refusal (kind_of order) p ≡ None → holds order p.codec ≡ true
held_of Big p fits = elim (cases_Bool (is_au_codec p.codec)) [ inl is ↦ is | inr other ↦ absurd (let h = rw other at fits in cc) ]
held_of Little p fits = elim (cases_Bool (is_dns_codec p.codec)) [ inl is ↦ is | inr other ↦ absurd (let h = rw other at fits in cc) ]

-- the parameters of such a codec: a block is one frame, of some bytes
pub record AreFixed (p : Parameters) : Type 0 where
  pub adpcm : is_adpcm p.codec ≡ false
  pub one : block_frames p.codec ≡ 1
  pub some : 1 ≤ block_align p.channels p.codec

pub are_fixed : (order : Order) (p : Parameters) → AreParams p → fit_refusal (kind_of order) p ≡ None → AreFixed p
are_fixed order p good fits =
    let other = fixed order p.codec (held_of order p fits) in
    record { adpcm = other; one = fixed_frames p.codec other; some = fixed_align p.channels p.codec other good.some_channel }

-- ---- parameters that are stated

-- what a head states
pub record IsStated (order : Order) (n : Numbers) (p : Parameters) : Type 0 where
  pub good : AreParams p
  pub fits : fit_refusal (kind_of order) p ≡ None

stated_of : (order : Order) (n : Numbers) (r : Result Codec OpenRefusal) (p : Parameters) → codec_of order n.encoding ≡ r → with_codec n r ≡ Ok p → IsStated order n p
stated_of order n (Err refusal) p from is = absurd (cc)
stated_of order n (Ok codec) p from is =
    let both = unless_ok (params_refusal n.channels n.rate codec) (record { channels = n.channels; rate = n.rate; codec = codec }) p is in
    rw (← both.1) (record {
      good = params_good n.channels n.rate codec both.0;
      fits = fit_of order (record { channels = n.channels; rate = n.rate; codec = codec }) (codec_held order n.encoding codec from);
    })

pub stated : (order : Order) (n : Numbers) (p : Parameters) → params_in order n ≡ Ok p → IsStated order n p
stated order n p is = stated_of order n (codec_of order n.encoding) p refl is

pub stated_fit : (order : Order) (n : Numbers) (p : Parameters) → params_in order n ≡ Ok p → fit_refusal (kind_of order) p ≡ None
stated_fit order n p is = (stated order n p is).fits

-- good parameters are stated by their numbers
none_of : (p : Parameters) → AreParams p → params_of p.channels p.rate p.codec ≡ Ok p
none_of p good =
    let one : nat_le 1 p.channels ≡ true = le-leb 1 p.channels good.some_channel in
    let most : nat_le p.channels 256 ≡ true = le-leb p.channels 256 good.most_channels in
    let some : nat_le 1 p.rate ≡ true = le-leb 1 p.rate good.some_rate in
    let fits : nat_lt p.rate (2 ^ 32) ≡ true = lt-ltb p.rate (2 ^ 32) good.most_rate in
    rw (one, most, some, fits, good.blocks) refl

pub states : (order : Order) (n : Numbers) (p : Parameters) → AreParams p → fit_refusal (kind_of order) p ≡ None → n.channels ≡ p.channels → n.rate ≡ p.rate → n.encoding ≡ encoding_of p.codec
    → params_in order n ≡ Ok p
states order n p good fits channels rate encoding =
    let codec : codec_of order n.encoding ≡ Ok p.codec = ap (codec_of order) encoding ∙ encoded order p.codec (held_of order p fits) in
    rw (codec, channels, rate) (none_of p good)

if_ok : (order : Order) (r : Result Parameters OpenRefusal) → ((p : Parameters) → r ≡ Ok p → fit_refusal (kind_of order) p ≡ None) → IfOk r (λ p. fit_refusal (kind_of order) p ≡ None)
if_ok order (Ok p) all = all p refl
if_ok order (Err refusal) all = tt

pub all_fit : (order : Order) (n : Numbers) (r : Result Parameters OpenRefusal) → r ≡ params_in order n → IfOk r (λ p. fit_refusal (kind_of order) p ≡ None)
all_fit order n r is = if_ok order r (λ p ok. stated_fit order n p (sym is ∙ ok))
