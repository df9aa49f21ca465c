-- A format is told by the front of its body, and a WAVE file holds what it states.
use Rattle.std.proofs.Common.{◌≡◌, ℕ, ◌+◌, ◌*◌, ◌<◌, ◌≤◌, Bool, true, cond, not, ◌&&◌, List, [], ◌∷◌, length, take, get_or, Option, None, Some, Ok, Err, refl, sym, ap, ◌∙◌, inl, inr, arith}
use Rattle.std.proofs.lemmas.Bool.{cases_Bool, lt-leb, le-leb, ltb-false, cases_lt}
use Rattle.std.proofs.lemmas.List.{get_or-take, length-take}
use Rattle.std.specs.Prelude.{◌==◌, Result, nat_le, nat_lt}
use Rattle.snd_fields.proofs.Numbers.{number_same}
use Rattle.snd_fields.specs.Field.{number}
use Rattle.snd_fields.specs.declared.field.Order.{Order}
use Rattle.snd_fields.specs.declared.field.Order.TheVariants.{Little, Big}
use Rattle.snd_layout.specs.Blocks.{block_align, is_ima_block, is_ms_block}
use Rattle.snd_layout.specs.Fit.{fit_refusal}
use Rattle.snd_layout.specs.Format.{align_of, are_at, bits_of, channels_of, codec_of, coded_format, coding_of, coding_of_sub_tag, coding_of_tag, coding_refusal, coefficients, format_of, format_refusal, has_coefficients, has_tag_guid, is_bit_count, linear_codec, parameters, rate_of, samples_per_block}
use Rattle.snd_layout.specs.Params.{Parameters, is_channel_count, size_refusal}
use Rattle.snd_layout.specs.Refusals.{first_refusal, refuse_if, unless}
use Rattle.snd_layout.specs.declared.codec.Codec.{Codec}
use Rattle.snd_layout.specs.declared.codec.Codec.TheVariants.{Ima as ima, Ms as ms}
use Rattle.snd_layout.specs.declared.format.Coding.{Coding}
use Rattle.snd_layout.specs.declared.format.Coding.TheVariants.{Linear, ALaw, MuLaw, Ima, Ms}
use Rattle.snd_layout.specs.declared.kind.Kind.TheVariants.{Wave}
use Rattle.snd_layout.specs.declared.refusal.OpenRefusal.{OpenRefusal}
use Rattle.snd_layout.specs.declared.refusal.OpenRefusal.TheVariants.{UnknownCodec, BadChannels, BadRate, BadBits, BadAlign, OtherCoefs, BadPair}

-- the same values give the same result
same2 : {A B C : Type 0} (f : A → B → C) {a a' : A} {b b' : B} → a ≡ a' → b ≡ b' → f a b ≡ f a' b'
same2 f {a = a} {b' = b'} p q = ap (f a) q ∙ ap (λ x. f x b') p

same3 : {A B C D : Type 0} (f : A → B → C → D) {a a' : A} {b b' : B} {c c' : C} → a ≡ a' → b ≡ b' → c ≡ c' → f a b c ≡ f a' b' c'
same3 f {a = a} {c' = c'} p q r = ap (f a _) r ∙ same2 (λ x y. f x y c') p q

same4 : {A B C D E : Type 0} (f : A → B → C → D → E) {a a' : A} {b b' : B} {c c' : C} {d d' : D} → a ≡ a' → b ≡ b' → c ≡ c' → d ≡ d' → f a b c d ≡ f a' b' c' d'
same4 f {a = a} {d' = d'} p q r s = ap (f a _ _) s ∙ same3 (λ x y z. f x y z d') p q r

same5 : {A B C D E F : Type 0} (f : A → B → C → D → E → F) {a a' : A} {b b' : B} {c c' : C} {d d' : D} {e e' : E} → a ≡ a' → b ≡ b' → c ≡ c' → d ≡ d' → e ≡ e' → f a b c d e ≡ f a' b' c' d' e'
same5 f {a = a} {e' = e'} p q r s t = ap (f a _ _ _) t ∙ same4 (λ x y z w. f x y z w e') p q r s

-- two lists have the same first n bytes, and are longer than the same places up to there
pub record SameFront (n : ℕ) (x y : List ℕ) : Type 0 where
  pub bytes : (i : ℕ) → i < n → get_or x i 0 ≡ get_or y i 0
  pub long : (m : ℕ) → m ≤ n → nat_le m (length x) ≡ nat_le m (length y)

module _ (n : ℕ) (x y : List ℕ) (same : SameFront n x y) (enough : 50 ≤ n) where
  number_is : (order : Order) (at k : ℕ) → at + k ≤ n → number order x at k ≡ number order y at k
  number_is order at k within = number_same order k at at x y (λ i p q lt pe qe. rw (pe, qe) (same.bytes (at + i) (omega arith)))

  two : (at : ℕ) → at + 2 ≤ n → number Little x at 2 ≡ number Little y at 2
  two at within = number_is Little at 2 within

  numbers_are : (at : ℕ) (numbers : List ℕ) → at + 2 * length numbers ≤ n → are_at x at numbers ≡ are_at y at numbers
  numbers_are at [] within = refl
  numbers_are at (m ∷ numbers) within =
      same2 (λ (k : ℕ) (rest : Bool). (k == m) && rest) (two at (omega arith)) (numbers_are (at + 2) numbers (omega arith))

  guid_is : has_tag_guid x ≡ has_tag_guid y
  guid_is = same4 (λ (a b c d : ℕ). (a == 0) && (b == 0) && (c == 0x10) && (d == 0x8000_00aa_0038_9b71))
      (two 26 (omega arith)) (two 28 (omega arith)) (two 30 (omega arith)) (number_is Big 32 8 (omega arith))

  coding_is : coding_of x ≡ coding_of y
  coding_is = same4 (λ (tag : ℕ) (long guid : Bool) (sub : ℕ). cond (tag == 0xfffe) (cond (long && guid) (coding_of_sub_tag sub) (Err UnknownCodec)) (coding_of_tag tag))
      (two 0 (omega arith)) (same.long 40 (omega arith)) guid_is (two 24 (omega arith))

  coefficients_are : has_coefficients x ≡ has_coefficients y
  coefficients_are = same3 (λ (long : Bool) (count : ℕ) (pairs : Bool). long && (count == 7) && pairs)
      (same.long 50 enough) (two 20 (omega arith)) (numbers_are 22 coefficients (omega arith))

  refusal_is : (coding : Coding) → coding_refusal coding x ≡ coding_refusal coding y
  refusal_is Ima = same4 (λ (long : Bool) (c a s : ℕ). first_refusal (size_refusal (long && is_ima_block c a s) a ∷ refuse_if (nat_lt 2 c) BadPair ∷ []))
      (same.long 20 (omega arith)) (two 2 (omega arith)) (two 12 (omega arith)) (two 18 (omega arith))
  refusal_is Ms = same5 (λ (long : Bool) (c a s : ℕ) (pairs : Bool). first_refusal (size_refusal (long && is_ms_block c a s) a ∷ refuse_if (not pairs) OtherCoefs ∷ refuse_if (nat_lt 2 c) BadPair ∷ []))
      (same.long 22 (omega arith)) (two 2 (omega arith)) (two 12 (omega arith)) (two 18 (omega arith)) coefficients_are
  refusal_is Linear = same3 (λ (bits a c : ℕ). first_refusal (refuse_if (not (is_bit_count bits)) BadBits ∷ refuse_if (not (a == block_align c (linear_codec bits))) BadAlign ∷ []))
      (two 14 (omega arith)) (two 12 (omega arith)) (two 2 (omega arith))
  refusal_is ALaw = same2 (λ (a c : ℕ). refuse_if (not (a == c)) BadAlign) (two 12 (omega arith)) (two 2 (omega arith))
  refusal_is MuLaw = same2 (λ (a c : ℕ). refuse_if (not (a == c)) BadAlign) (two 12 (omega arith)) (two 2 (omega arith))

  codec_is : (coding : Coding) → codec_of coding x ≡ codec_of coding y
  codec_is Ima = same2 (λ (a s : ℕ). ima a s) (two 12 (omega arith)) (two 18 (omega arith))
  codec_is Ms = same2 (λ (a s : ℕ). ms a s) (two 12 (omega arith)) (two 18 (omega arith))
  codec_is Linear = ap linear_codec (two 14 (omega arith))
  codec_is ALaw = refl
  codec_is MuLaw = refl

  coded_is : (coding : Coding) → coded_format (Ok coding) x ≡ coded_format (Ok coding) y
  coded_is coding = same4 (λ (c r : ℕ) (codec : Codec) (refusal : Option OpenRefusal). unless (first_refusal (refuse_if (not (is_channel_count c)) BadChannels ∷ refuse_if (r == 0) BadRate ∷ refusal ∷ [])) (record { channels = c; rate = r; codec = codec }))
      (two 2 (omega arith)) (number_is Little 4 4 (omega arith)) (codec_is coding) (refusal_is coding)

  result_is : (r : Result Coding OpenRefusal) → coded_format r x ≡ coded_format r y
  result_is (Err refusal) = refl
  result_is (Ok coding) = coded_is coding

  pub same_format : format_of x ≡ format_of y
  same_format = result_is (coding_of x) ∙ ap (λ (r : Result Coding OpenRefusal). coded_format r y) coding_is

front_is : (n : ℕ) (y : List ℕ) → SameFront n (take n y) y
front_is n y = record {
  bytes = λ i lt. get_or-take n y i 0 lt;
  long = λ m le. elim (cases_lt (length y) m) [
    | inl short ↦ lt-leb m (length (take n y)) (omega (arith, length-take n y)) ∙ sym (lt-leb m (length y) short)
    | inr long ↦ le-leb m (length (take n y)) (omega (arith, length-take n y)) ∙ sym (le-leb m (length y) long)
  ];
}

-- the first 50 bytes tell a format
pub front_format : (n : ℕ) (y : List ℕ) → 50 ≤ n → format_of (take n y) ≡ format_of y
front_format n y enough = same_format n (take n y) y (front_is n y) enough

third_none : (a b c : Option OpenRefusal) → first_refusal (a ∷ b ∷ c ∷ []) ≡ None → c ≡ None
third_none (Some a) b c is = absurd (cc)
third_none None (Some b) c is = absurd (cc)
third_none None None (Some c) is = absurd (cc)
third_none None None None is = refl

last_none : (a b : Option OpenRefusal) → first_refusal (a ∷ b ∷ []) ≡ None → b ≡ None
last_none (Some a) b is = absurd (cc)
last_none None (Some b) is = absurd (cc)
last_none None None is = refl

few_channels : (c : ℕ) → refuse_if (nat_lt 2 c) BadPair ≡ None → nat_le c 2 ≡ true
few_channels c is = elim (cases_Bool (nat_lt 2 c)) [
  | inl many ↦ absurd (let h = rw many at is in cc)
  | inr few ↦ le-leb c 2 (ltb-false 2 c few)
]

linear_fits : (c r bits : ℕ) → fit_refusal Wave (record { channels = c; rate = r; codec = linear_codec bits }) ≡ None
linear_fits c r bits = elim (cases_Bool (bits == 8)) [
  | inl is ↦ rw is refl
  | inr other ↦ elim (cases_Bool (bits == 16)) [
    | inl is ↦ rw (other, is) refl
    | inr other16 ↦ elim (cases_Bool (bits == 24)) [
      | inl is ↦ rw (other, other16, is) refl
      | inr other24 ↦ rw (other, other16, other24) refl
    ]
  ]
]

coding_fits : (coding : Coding) (b : List ℕ) → coding_refusal coding b ≡ None → fit_refusal Wave (parameters coding b) ≡ None
coding_fits Linear b good = linear_fits (channels_of b) (rate_of b) (bits_of b)
coding_fits ALaw b good = refl
coding_fits MuLaw b good = refl
coding_fits Ima b good = let few : nat_le (channels_of b) 2 ≡ true = few_channels (channels_of b) (last_none (size_refusal (nat_le 20 (length b) && is_ima_block (channels_of b) (align_of b) (samples_per_block b)) (align_of b)) _ good) in rw few refl
coding_fits Ms b good = let few : nat_le (channels_of b) 2 ≡ true = few_channels (channels_of b) (third_none (size_refusal (nat_le 22 (length b) && is_ms_block (channels_of b) (align_of b) (samples_per_block b)) (align_of b)) (refuse_if (not (has_coefficients b)) OtherCoefs) _ good) in rw few refl

unless_ok : (refusal : Option OpenRefusal) (p q : Parameters) → unless refusal p ≡ Ok q → (refusal ≡ None) × (p ≡ q)
unless_ok None p q is = (refl, cc)
unless_ok (Some refusal) p q is = absurd (cc)

coded_fits : (r : Result Coding OpenRefusal) (b : List ℕ) (p : Parameters) → coded_format r b ≡ Ok p → fit_refusal Wave p ≡ None
coded_fits (Err refusal) b p is = absurd (cc)
coded_fits (Ok coding) b p is =
    let good = unless_ok (format_refusal coding b) (parameters coding b) p is in
    rw (← good.1) (coding_fits coding b (third_none (refuse_if (not (is_channel_count (channels_of b))) BadChannels) (refuse_if (rate_of b == 0) BadRate) (coding_refusal coding b) good.0))

-- a WAVE file holds what a format states
pub format_fits : (b : List ℕ) (p : Parameters) → format_of b ≡ Ok p → fit_refusal Wave p ≡ None
format_fits b p is = coded_fits (coding_of b) b p is
