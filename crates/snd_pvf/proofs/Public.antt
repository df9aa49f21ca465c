-- The laws of heads that other crates may use.
use Rattle.std.proofs.Common.{◌≡◌, ℕ, true, inl, inr, List, Option, None, Some, Result, Ok, Err, refl, ap, ◌∙◌, drop, take, arith}
use Rattle.std.proofs.lemmas.Bool.{cases_Bool}
use Rattle.std.proofs.lemmas.List.{take-take}
use Rattle.std.specs.Prelude.{◌==◌, codes}
use Rattle.std.specs.Str.{bytes_eq}
use Rattle.snd_layout.specs.Params.{Parameters, params_of, params_refusal}
use Rattle.snd_layout.specs.Refusals.{unless}
use Rattle.snd_layout.specs.declared.refusal.OpenRefusal.{OpenRefusal}
use Rattle.snd_pvf.specs.declared.head.Head.{Head}
use Rattle.snd_pvf.specs.declared.line.Stated.{Stated}
use Rattle.snd_pvf.specs.Pvf.{are_bits, codec_of, cut_at, has_mark, head_at, head_by, head_of, is_pvf_codec, params_in, pvf_head, second_line, stated_in, with_bits}

-- ---- the first 64 bytes are the head

same_mark : (b : List ℕ) → has_mark (take 64 b) ≡ has_mark b
unfolding has_mark
same_mark b = ap (bytes_eq (codes "PVF1\n")) (take-take 5 64 b (omega arith))

same_line : (b : List ℕ) → second_line (take 64 b) ≡ second_line b
unfolding second_line
same_line b = ap (λ (l : List ℕ). cut_at 10 (drop 5 l)) (take-take 64 64 b (omega arith))

pub head_in_front : (b : List ℕ) → pvf_head (take 64 b) ≡ pvf_head b
head_in_front b = rw (same_mark b, same_line b) refl

-- ---- the codec of a head is one of three

codec_is : (bits : ℕ) → is_pvf_codec (codec_of bits) ≡ true
codec_is bits = elim (cases_Bool (bits == 8)) [
  | inl is ↦ rw is refl
  | inr other ↦ elim (cases_Bool (bits == 32)) [ inl is ↦ rw (other, is) refl | inr neither ↦ rw (other, neither) refl ]
]

not_refused : (o : Option OpenRefusal) (q p : Parameters) → unless o q ≡ Ok p → p ≡ q
not_refused None q p is = cc
not_refused (Some why) q p is = absurd (cc)

bits_are : (bits : ℕ) (r : Result Parameters OpenRefusal) (p : Parameters) → with_bits bits r ≡ Ok p → r ≡ Ok p
bits_are bits (Err why) p is = absurd (cc)
bits_are bits (Ok q) p is = elim (cases_Bool (are_bits bits)) [
  | inl are ↦ rw are at is
  | inr other ↦ absurd (let e = rw other at is in cc)
]

params_codec : (s : Stated) (p : Parameters) → params_in s ≡ Ok p → is_pvf_codec p.codec ≡ true
params_codec s p is =
    let codec = codec_of s.bits in
    let same : p ≡ record { channels = s.channels; rate = s.rate; codec = codec } = not_refused (params_refusal s.channels s.rate codec) (record { channels = s.channels; rate = s.rate; codec = codec }) p (bits_are s.bits (params_of s.channels s.rate codec) p is) in
    ap (λ (q : Parameters). is_pvf_codec q.codec) same ∙ codec_is s.bits

head_from : (start : ℕ) (r : Result Parameters OpenRefusal) (h : Head) → head_at start r ≡ Ok h → r ≡ Ok h.params
head_from start (Err why) h is = absurd (cc)
head_from start (Ok p) h is = let e : p ≡ h.params = cc in ap (λ (q : Parameters). Ok q) e

of_codec : (start : ℕ) (o : Option Stated) (h : Head) → head_of start o ≡ Ok h → is_pvf_codec h.params.codec ≡ true
of_codec start None h is = absurd (cc)
of_codec start (Some s) h is = params_codec s h.params (head_from start (params_in s) h is)

by_codec : (parts : Option (List ℕ × List ℕ)) (h : Head) → head_by parts ≡ Ok h → is_pvf_codec h.params.codec ≡ true
by_codec None h is = absurd (cc)
by_codec (Some parts) h is = of_codec _ (stated_in parts.0) h is

pub head_codec : (b : List ℕ) (h : Head) → pvf_head b ≡ Ok h → is_pvf_codec h.params.codec ≡ true
head_codec b h is = elim (cases_Bool (has_mark b)) [
  | inl mark ↦ by_codec (second_line b) h (rw mark at is)
  | inr other ↦ absurd (let e = rw other at is in cc)
]
