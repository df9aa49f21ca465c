-- The parameters that a format states are good, and a format that is written is bytes.
use Rattle.std.proofs.Common.{◌≡◌, ap, sym, subst, refl, inl, inr, ℕ, ◌^◌, ◌<◌, ◌≤◌, Bool, true, false, cond, not, ◌&&◌, List, [], ◌∷◌, ◌++◌, All, Option, None, Some, Ok, Err, length, arith}
use Rattle.std.proofs.lemmas.Bool.{and_parts, cases_Bool, cases_lt, cond_both, eqb-false, leb-true}
use Rattle.std.proofs.lemmas.List.Elements.{All-append, All-nil}
use Rattle.std.specs.List.{flat_map}
use Rattle.std.specs.Prelude.{◌==◌, Result, nat_le, nat_lt}
use Rattle.snd_fields.proofs.Numbers.{bytes_are_bytes, number_fits}
use Rattle.snd_fields.specs.Field.{bytes_of, number}
use Rattle.snd_fields.specs.Laws.{IsByte}
use Rattle.snd_fields.specs.declared.field.Order.TheVariants.{Little}
use Rattle.snd_layout.specs.Blocks.{block_align, is_ima_block, is_ms_block}
use Rattle.snd_layout.specs.Format.{align_of, bits_of, channels_of, codec_of, coded_format, coding_of, coding_refusal, coefficients, format_of, format_refusal, has_coefficients, linear_codec, parameters, rate_of, samples_per_block}
use Rattle.snd_layout.specs.Params.{AreParams, Parameters, block_refusal, is_channel_count, size_refusal}
use Rattle.snd_layout.specs.Refusals.{first_refusal, refuse_if, unless}
use Rattle.snd_layout.specs.Written.{bits_per_sample, bytes_per_second, extension, tag_of, written_format}
use Rattle.snd_layout.specs.declared.codec.Codec.{Codec}
use Rattle.snd_layout.specs.declared.codec.Codec.TheVariants.{MuLaw as mulaw, ALaw as alaw, Ima as ima, Ms as ms}
use Rattle.snd_layout.specs.declared.format.Coding.{Coding}
use Rattle.snd_layout.specs.declared.format.Coding.TheVariants.{Linear, ALaw, MuLaw, Ima, Ms}
use Rattle.snd_layout.specs.declared.refusal.OpenRefusal.{OpenRefusal}
use Rattle.snd_layout.specs.declared.refusal.OpenRefusal.TheVariants.{BadChannels, BadPair, BadRate, OtherCoefs}

-- ---- the parameters that a format states

-- blocks that are not refused have their form, and are not too large
size_good : (good : Bool) (align : ℕ) → size_refusal good align ≡ None → (good ≡ true) × (size_refusal true align ≡ None)
size_good true align is = (refl, is)
size_good false align is = absurd (cc)

blocks_good : (channels align : ℕ) (form long : Bool) → size_refusal (long && form) align ≡ None → cond (nat_le channels 2) (size_refusal form align) None ≡ None
blocks_good channels align form long is =
    let both = size_good (long && form) align is in
    let formed : form ≡ true = (and_parts long form both.0).1 in
    cond_both (nat_le channels 2) (size_refusal form align) None (λ r. r ≡ None) (λ few. rw formed both.1) (λ many. refl)

some_refusal : (a : Option OpenRefusal) (rest : List (Option OpenRefusal)) → first_refusal (a ∷ rest) ≡ None → (a ≡ None) × (first_refusal rest ≡ None)
some_refusal None rest is = (refl, is)
some_refusal (Some refusal) rest is = absurd (cc)

linear_blocks : (channels bits : ℕ) → block_refusal channels (linear_codec bits) ≡ None
linear_blocks channels bits = elim (cases_Bool (bits == 8)) [
  | inl eight ↦ rw eight refl
  | inr more ↦ elim (cases_Bool (bits == 16)) [
    | inl sixteen ↦ rw (more, sixteen) refl
    | inr most ↦ elim (cases_Bool (bits == 24)) [ inl is ↦ rw (more, most, is) refl | inr other ↦ rw (more, most, other) refl ]
  ]
]

coded_blocks : (coding : Coding) (b : List ℕ) → coding_refusal coding b ≡ None → block_refusal (channels_of b) (codec_of coding b) ≡ None
coded_blocks Ima b is =
    blocks_good (channels_of b) (align_of b) (is_ima_block (channels_of b) (align_of b) (samples_per_block b)) (nat_le 20 (length b)) (some_refusal (size_refusal _ (align_of b)) (refuse_if (nat_lt 2 (channels_of b)) BadPair ∷ []) is).0
coded_blocks Ms b is =
    blocks_good (channels_of b) (align_of b) (is_ms_block (channels_of b) (align_of b) (samples_per_block b)) (nat_le 22 (length b))
    (some_refusal (size_refusal _ (align_of b)) (refuse_if (not (has_coefficients b)) OtherCoefs ∷ refuse_if (nat_lt 2 (channels_of b)) BadPair ∷ []) is).0
coded_blocks Linear b is = linear_blocks (channels_of b) (bits_of b)
coded_blocks ALaw b is = refl
coded_blocks MuLaw b is = refl

some_channels : (c : ℕ) → refuse_if (not (is_channel_count c)) BadChannels ≡ None → (1 ≤ c) × (c ≤ 256)
some_channels c is = elim (cases_Bool (is_channel_count c)) [
  | inl good ↦ let parts = and_parts (nat_le 1 c) (nat_le c 256) good in (leb-true 1 c parts.0, leb-true c 256 parts.1)
  | inr other ↦ absurd (let h = rw other at is in cc)
]

some_rate : (r : ℕ) → refuse_if (r == 0) BadRate ≡ None → 1 ≤ r
some_rate r is = elim (cases_Bool (r == 0)) [
  | inl none ↦ absurd (let h = rw none at is in cc)
  | inr other ↦ elim (cases_lt 0 r) [ inl lt ↦ omega (arith, lt) | inr le ↦ absurd (eqb-false r 0 other (omega (arith, le))) ]
]

first_none : (a b c : Option OpenRefusal) → first_refusal (a ∷ b ∷ c ∷ []) ≡ None → (a ≡ None) × (b ≡ None) × (c ≡ None)
first_none (Some a) b c is = absurd (cc)
first_none None (Some b) c is = absurd (cc)
first_none None None (Some c) is = absurd (cc)
first_none None None None is = (refl, refl, refl)

unless_ok : (refusal : Option OpenRefusal) (p q : Parameters) → unless refusal p ≡ Ok q → (refusal ≡ None) × (p ≡ q)
unless_ok None p q is = (refl, cc)
unless_ok (Some refusal) p q is = absurd (cc)

coded_good : (r : Result Coding OpenRefusal) (b : List ℕ) (p : Parameters) → All IsByte b → coded_format r b ≡ Ok p → AreParams p
coded_good (Err refusal) b p bytes is = absurd (cc)
coded_good (Ok coding) b p bytes is =
    let good = unless_ok (format_refusal coding b) (parameters coding b) p is in
    let none = first_none (refuse_if (not (is_channel_count (channels_of b))) BadChannels) (refuse_if (rate_of b == 0) BadRate) (coding_refusal coding b) good.0 in
    let some = some_channels (channels_of b) none.0 in
    let channels : p.channels ≡ channels_of b = sym (ap (λ (q : Parameters). q.channels) good.1) in
    let rate : p.rate ≡ rate_of b = sym (ap (λ (q : Parameters). q.rate) good.1) in
    let few : number Little b 4 4 < 2 ^ 32 = number_fits Little b 4 4 bytes in
    record {
      some_channel = omega (arith, channels, some.0);
      most_channels = omega (arith, channels, some.1);
      some_rate = omega (arith, rate, some_rate (rate_of b) none.1);
      most_rate = omega (arith, rate, few);
      blocks = subst (λ (q : Parameters). block_refusal q.channels q.codec ≡ None) good.1 (coded_blocks coding b none.2);
    }

pub good_params : (b : List ℕ) (p : Parameters) → All IsByte b → format_of b ≡ Ok p → AreParams p
good_params b p bytes is = coded_good (coding_of b) b p bytes is

-- ---- a format that is written

number_bytes : (k n : ℕ) → All IsByte (bytes_of Little k n)
number_bytes k n = (bytes_are_bytes Little k n).1

both : (xs ys : List ℕ) → All IsByte xs → All IsByte ys → All IsByte (xs ++ ys)
both xs ys one two = All-append IsByte xs ys one two

three : (xs ys zs : List ℕ) → All IsByte xs → All IsByte ys → All IsByte zs → All IsByte (xs ++ ys ++ zs)
three xs ys zs one two more = both (xs ++ ys) zs (both xs ys one two) more

-- 16-bit words
words_bytes : (words : List ℕ) → All IsByte (flat_map (bytes_of Little 2) words)
words_bytes [] = All-nil IsByte
words_bytes (n ∷ words) = both (bytes_of Little 2 n) (flat_map (bytes_of Little 2) words) (number_bytes 2 n) (words_bytes words)

extension_bytes : (codec : Codec) → All IsByte (extension codec)
extension_bytes mulaw = number_bytes 2 0
extension_bytes alaw = number_bytes 2 0
extension_bytes (ima align per_block) = both (bytes_of Little 2 2) (bytes_of Little 2 per_block) (number_bytes 2 2) (number_bytes 2 per_block)
extension_bytes (ms align per_block) =
    both (bytes_of Little 2 32 ++ bytes_of Little 2 per_block ++ bytes_of Little 2 7) (flat_map (bytes_of Little 2) coefficients)
    (three (bytes_of Little 2 32) (bytes_of Little 2 per_block) (bytes_of Little 2 7) (number_bytes 2 32) (number_bytes 2 per_block) (number_bytes 2 7)) (words_bytes coefficients)
extension_bytes _ = All-nil IsByte

pub format_bytes : (p : Parameters) → All IsByte (written_format p)
format_bytes p =
    let first = bytes_of Little 2 (tag_of p.codec) ++ bytes_of Little 2 p.channels ++ bytes_of Little 4 p.rate in
    let second = bytes_of Little 4 (bytes_per_second p) in
    let third = bytes_of Little 2 (block_align p.channels p.codec) in
    let last = bytes_of Little 2 (bits_per_sample p.codec) in
    both (first ++ second ++ third ++ last) (extension p.codec)
    (three (first ++ second) third last
    (both first second (three (bytes_of Little 2 (tag_of p.codec)) (bytes_of Little 2 p.channels) (bytes_of Little 4 p.rate) (number_bytes 2 (tag_of p.codec)) (number_bytes 2 p.channels) (number_bytes 4 p.rate)) (number_bytes 4 (bytes_per_second p)))
    (number_bytes 2 (block_align p.channels p.codec)) (number_bytes 2 (bits_per_sample p.codec)))
    (extension_bytes p.codec)
