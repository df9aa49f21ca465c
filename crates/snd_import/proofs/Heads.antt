-- What words and heads state of samples.
use Rattle.std.proofs.Common.{◌≡◌, ◌∙◌, ap, sym, subst, refl, inl, inr, ℕ, ◌+◌, ◌-◌, ◌*◌, ◌/◌, ◌≤◌, ◌==◌, min, Bool, true, false, cond, List, Option, None, Some, Result, Ok, Err, IfOk, codes, drop, length, take, arith}
use Rattle.std.proofs.lemmas.Bool.{cases_Bool, cases_lt}
use Rattle.std.proofs.lemmas.List.{take-take, take_all}
use Rattle.std.specs.Str.{bytes_eq}
use Rattle.snd_fields.specs.declared.field.Order.TheVariants.{Big, Little}
use Rattle.snd_layout.specs.Blocks.{block_align, is_adpcm}
use Rattle.snd_layout.specs.Fit.{fit_refusal}
use Rattle.snd_layout.specs.Kinds.{eight_bits}
use Rattle.snd_layout.specs.declared.kind.Kind.{Kind}
use Rattle.snd_layout.specs.declared.kind.Kind.TheVariants.{Wave, Rf64, W64, Au, Dns, Voc, Svx, Sphere}
use Rattle.snd_output.specs.Codecs.{fitting}
use Rattle.snd_layout.specs.Params.{AreParams, Parameters, params_of, params_refusal}
use Rattle.snd_layout.specs.Refusals.{unless}
use Rattle.snd_layout.specs.declared.codec.Codec.{Codec}
use Rattle.snd_layout.specs.declared.codec.Codec.TheVariants.{U8, S8, S16, S24, S32, MuLaw, ALaw, Ima, Ms}
use Rattle.snd_layout.specs.declared.refusal.OpenRefusal.{OpenRefusal}
use Rattle.snd_layout.specs.declared.refusal.OpenRefusal.TheVariants.{BadBits, NotSound}
use Rattle.snd_pvf.specs.Pvf.{are_bits, codec_of, cut_at, has_mark, head_at, head_by, head_of, params_in, pvf_head, second_line, stated_in, with_bits}
use Rattle.snd_pvf.specs.declared.head.Head.{Head}
use Rattle.snd_import.proofs.Pieces.{align_range, part_fits}
use Rattle.snd_import.specs.Import.{bytes_in, class_in, params_for, samples_at}
use Rattle.snd_import.specs.Source.{IsHeld}
use Rattle.snd_import.specs.declared.source.Coding.TheVariants.{Samples, Codes}
use Rattle.snd_import.specs.declared.source.Coding.{Coding}
use Rattle.snd_import.specs.declared.source.Source.{Source}

-- ---- parameters

by_refusal : (o : Option OpenRefusal) (x p : Parameters) → unless o x ≡ Ok p → x ≡ p
by_refusal None x p is = cc
by_refusal (Some why) x p is = absurd (cc)

-- those that are taken are the stated ones
pub params_are : (channels rate : ℕ) (codec : Codec) (p : Parameters) → params_of channels rate codec ≡ Ok p → record { channels = channels; rate = rate; codec = codec } ≡ p
params_are channels rate codec p is = by_refusal (params_refusal channels rate codec) (record { channels = channels; rate = rate; codec = codec }) p is

pub plain_codec : (channels rate : ℕ) (codec : Codec) (p : Parameters) → is_adpcm codec ≡ false → params_of channels rate codec ≡ Ok p → is_adpcm p.codec ≡ false
plain_codec channels rate codec p plain is = ap (λ (q : Parameters). is_adpcm q.codec) (sym (params_are channels rate codec p is)) ∙ plain

-- ---- what they become

eight_plain : (kind : Kind) → is_adpcm (eight_bits kind) ≡ false
eight_plain Wave = refl
eight_plain Rf64 = refl
eight_plain W64 = refl
eight_plain Au = refl
eight_plain Dns = refl
eight_plain Voc = refl
eight_plain Svx = refl
eight_plain Sphere = refl

class_plain : (kind : Kind) (codec : Codec) → is_adpcm codec ≡ false → is_adpcm (class_in kind codec) ≡ false
class_plain kind U8 plain = eight_plain kind
class_plain kind S8 plain = eight_plain kind
class_plain kind (S16 order) plain = refl
class_plain kind (S24 order) plain = refl
class_plain kind (S32 order) plain = refl
class_plain kind MuLaw plain = refl
class_plain kind ALaw plain = refl
class_plain kind (Ima align per_block) plain = plain
class_plain kind (Ms align per_block) plain = plain

fitting_is : (kind : Kind) (r : Result Parameters OpenRefusal) (p : Parameters) → fitting kind r ≡ Ok p → r ≡ Ok p
fitting_is kind (Err why) p is = absurd (cc)
fitting_is kind (Ok q) p is = ap (λ (x : Parameters). Ok x) (by_refusal (fit_refusal kind q) q p is)

pub made_params : (kind : Kind) (s p : Parameters) → is_adpcm s.codec ≡ false → params_for kind s ≡ Ok p → (s.channels ≡ p.channels) × (is_adpcm p.codec ≡ false)
made_params kind s p plain is =
    let codec = class_in kind s.codec in
    let taken : params_of s.channels s.rate codec ≡ Ok p = fitting_is kind (params_of s.channels s.rate codec) p is in
    (ap (λ (q : Parameters). q.channels) (params_are s.channels s.rate codec p taken), plain_codec s.channels s.rate codec p (class_plain kind s.codec plain) taken)

-- ---- the head of PVF

codec_plain : (bits : ℕ) → is_adpcm (codec_of bits) ≡ false
codec_plain bits =
    let P : Bool → Bool → Type 0 = λ t u. is_adpcm (cond t S8 (cond u (S32 Big) (S16 Big))) ≡ false in
    elim (cases_Bool (bits == 8)) [
      | inl eight ↦ subst (λ (t : Bool). P t (bits == 32)) (sym eight) refl
      | inr other ↦ subst (λ (t : Bool). P t (bits == 32)) (sym other) (elim (cases_Bool (bits == 32)) [ inl most ↦ subst (λ (u : Bool). P false u) (sym most) refl | inr least ↦ subst (λ (u : Bool). P false u) (sym least) refl ])
    ]

abbrev Plain : Parameters → Type 0
Plain p = is_adpcm p.codec ≡ false

bits_plain : (bits : ℕ) (r : Result Parameters OpenRefusal) (p : Parameters) → ((q : Parameters) → r ≡ Ok q → Plain q) → with_bits bits r ≡ Ok p → Plain p
bits_plain bits (Err why) p plain is = absurd (cc)
bits_plain bits (Ok q) p plain is = by_bits (are_bits bits) is
  where
    by_bits : (t : Bool) → cond t (Ok q) (Err BadBits) ≡ Ok p → Plain p
    by_bits true same = let e : q ≡ p = cc in subst Plain e (plain q refl)
    by_bits false same = absurd (cc)

stated_plain : (s : _) (p : Parameters) → params_in s ≡ Ok p → Plain p
stated_plain s p is = bits_plain s.bits (params_of s.channels s.rate (codec_of s.bits)) p (λ q same. plain_codec s.channels s.rate (codec_of s.bits) q (codec_plain s.bits) same) is

at_plain : (start : ℕ) (r : Result Parameters OpenRefusal) (h : Head) → ((q : Parameters) → r ≡ Ok q → Plain q) → head_at start r ≡ Ok h → Plain h.params
at_plain start (Err why) h plain is = absurd (cc)
at_plain start (Ok p) h plain is = let e : p ≡ h.params = cc in subst Plain e (plain p refl)

of_plain : (start : ℕ) (o : _) (h : Head) → head_of start o ≡ Ok h → Plain h.params
of_plain start None h is = absurd (cc)
of_plain start (Some s) h is = at_plain start (params_in s) h (λ q same. stated_plain s q same) is

by_plain : (o : Option (List ℕ × List ℕ)) (h : Head) → head_by o ≡ Ok h → Plain h.params
by_plain None h is = absurd (cc)
by_plain (Some parts) h is = of_plain (5 + length parts.0 + 1) (stated_in parts.0) h is

mark_plain : (t : Bool) (o : Option (List ℕ × List ℕ)) (h : Head) → cond t (head_by o) (Err NotSound) ≡ Ok h → Plain h.params
mark_plain true o h is = by_plain o h is
mark_plain false o h is = absurd (cc)

pub head_plain : (b : List ℕ) (r : Result Head OpenRefusal) → r ≡ pvf_head b → IfOk r (λ h. is_adpcm h.params.codec ≡ false)
head_plain b (Ok h) is = mark_plain (has_mark b) (second_line b) h (sym is)
head_plain b (Err why) is = tt

-- what stands behind the first 64 bytes says nothing
front_mark : (b : List ℕ) → has_mark (take 64 b) ≡ has_mark b
unfolding has_mark
front_mark b = ap (bytes_eq (codes "PVF1\n")) (take-take 5 64 b (omega arith))

front_line : (b : List ℕ) → second_line (take 64 b) ≡ second_line b
unfolding second_line
front_line b = ap (λ (l : List ℕ). cut_at 10 (drop 5 l)) (take-take 64 64 b (omega arith))

front_head : (b : List ℕ) → pvf_head (take 64 b) ≡ pvf_head b
front_head b =
    ap (λ (t : Bool). cond t (head_by (second_line (take 64 b))) (Err NotSound)) (front_mark b)
    ∙ ap (λ (o : Option (List ℕ × List ℕ)). cond (has_mark b) (head_by o) (Err NotSound)) (front_line b)

front_bytes : (b : List ℕ) (n : ℕ) → n ≡ min 64 (length b) → take n b ≡ take 64 b
front_bytes b n is = elim (cases_lt 64 (length b)) [
  | inl lt ↦ ap (λ (k : ℕ). take k b) (let e : n ≡ 64 = omega (arith, is, lt) in e)
  | inr le ↦ take_all n b (omega (arith, is, le)) ∙ sym (take_all 64 b (omega (arith, le)))
]

-- .. of the bytes that were read, as many as there are
pub read_head_is : (b front : List ℕ) (n size : ℕ) → size ≡ length b → n ≡ min 64 (size - 0) → front ≡ take n (drop 0 b) → pvf_head front ≡ pvf_head b
read_head_is b front n size long is same = ap pvf_head (same ∙ front_bytes b n (omega (arith, is, long))) ∙ front_head b

-- ---- sources

-- whole frames lie within what is there
pub samples_held : (start size : ℕ) (p : Parameters) → is_adpcm p.codec ≡ false → AreParams p → start ≤ size → IsHeld size (samples_at start size p)
samples_held start size p fixed good within =
    let align = block_align p.channels p.codec in
    let fits : (size - start) / align * align ≤ size - start = part_fits (size - start) align ((size - start) / align) (omega arith) in
    record {
      source = record { fixed = fixed; good = good; codes = λ is. absurd (let e : ◌≡◌ {A = Coding} Samples Codes = is in cc) };
      within = omega (arith, fits, within);
    }

-- and so do those of codes
pub codes_held : (rate size : ℕ) (p : Parameters) → params_of 1 rate (S16 Little) ≡ Ok p → AreParams p → IsHeld size (record { params = p; coding = Codes; start = 0; frames = 2 * size })
codes_held rate size p is good =
    let are = params_are 1 rate (S16 Little) p is in
    record {
      source = record {
        fixed = plain_codec 1 rate (S16 Little) p refl is;
        good = good;
        codes = λ same. record { mono = ap (λ (q : Parameters). q.channels) (sym are); codec = ap (λ (q : Parameters). q.codec) (sym are); even = omega arith };
      };
      within = omega arith;
    }
