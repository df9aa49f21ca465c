-- The laws of the fields, their values, and what closes data.
use Rattle.std.proofs.Common.{◌≡◌, ◌⊎◌, ℕ, ◌+◌, ◌-◌, ◌<◌, ◌≤◌, List, [], ◌∷◌, ◌++◌, All, Bool, true, false, not, ◌&&◌, Option, None, Some, Ok, length, replicate, refl, sym, ap, subst, ◌∙◌, inl, inr, arith}
use Rattle.std.proofs.lemmas.Bool.{and_parts, cases_Bool, cases_lt, eqb-true, le-ltb, lt-leb, ltb-true}
use Rattle.std.proofs.lemmas.List.{length-replicate}
use Rattle.std.proofs.lemmas.List.Elements.{All-append, All-cons, All-nil, All-replicate}
use Rattle.std.specs.Prelude.{◌==◌, IfSome, IsTrue, codes, nat_le, nat_lt}
use Rattle.snd_disk.specs.Runs.{AreApart}
use Rattle.snd_chunks.specs.declared.chunk.Chunk.{Chunk}
use Rattle.snd_fields.proofs.Numbers.{bytes_are_bytes, length-bytes_of}
use Rattle.snd_fields.specs.Field.{bytes_of}
use Rattle.snd_fields.specs.Laws.{IsByte}
use Rattle.snd_fields.specs.declared.field.Order.TheVariants.{Little}
use Rattle.snd_layout.specs.Blocks.{is_adpcm}
use Rattle.snd_layout.specs.Container.{AreBytes, ClosesNear, EndsAreInOrder, FieldsApart, FillsFields, FitsFields, FitsField, KeepsMarks, Says, closed_end, is_in_some, is_mark}
use Rattle.snd_layout.specs.Params.{Parameters}
use Rattle.snd_layout.specs.Shape.{KeepsRule, Shape, end, is_inner_size, is_outer_size, is_side_size}
use Rattle.snd_layout.specs.declared.codec.Codec.{Codec}
use Rattle.snd_layout.specs.declared.field.Field.{Field}
use Rattle.snd_layout.specs.declared.kind.Kind.TheVariants.{W64, Voc}
use Rattle.snd_w64.specs.Container.{w64}
use Rattle.snd_chunks.specs.Parts.{fact_chunk, inner_field, is_joined, side_field}
use Rattle.snd_w64.specs.Layout.{id_end, raised, w64_front, w64_layout}
use Rattle.snd_w64.specs.Values.{closing, count_bytes, data_size, inner_value, outer_value, side_value, whole_of}
use Rattle.snd_w64.proofs.Agreements.{Stand, StandsBefore, out_of_fields, outside, stand}
use Rattle.snd_w64.proofs.Opens.{Opens, opens}
use Rattle.snd_w64.proofs.Raising.{raised-grows, raised-least, raised-most}

-- ---- a file that says a layout has it

kind_is : (b : List ℕ) (h : Shape) → w64_layout b ≡ Ok h → h.kind ≡ W64
kind_is b h is = ap (λ (s : Shape). s.kind) (opens b h is).shape

voc_no : (h : Shape) → h.kind ≡ W64 → h.kind ≡ Voc → ⊥
voc_no h is other = let both : W64 ≡ Voc = sym is ∙ other in cc

pub said : (b : List ℕ) (h : Shape) → Says w64 b h → w64_layout b ≡ Ok h
said b h says = by_case says.same
  where
    by_case : (h.kind ≡ Voc) ⊎ (says.goes_on ≡ h.trailing) → w64_layout b ≡ Ok h
    by_case (inl voc) = absurd (voc_no h (kind_is b (record h { trailing = says.goes_on }) says.told) voc)
    by_case (inr same) = says.told ∙ ap (λ (t : Bool). Ok (record h { trailing = t })) same

-- ---- where the fields stand

pub record FieldsStand (h : Shape) : Type 0 where
  pub kind : h.kind ≡ W64
  pub outer : h.outer ≡ Some (record { at = 16; size = 8 })
  pub side : IfSome h.side (λ field. (field.size ≡ 8) × (64 ≤ field.at) × (field.at + 8 ≤ h.inner.at))
  pub inner : 56 ≤ h.inner.at
  pub start : h.inner.at + h.inner.size ≡ h.start
  pub sizes : (h.inner.size ≡ 8) ⊎ (h.inner.size ≡ 32)

inner_stands : (p : Parameters) (fact : Option Chunk) (sound : Chunk) → 64 ≤ sound.at → ((f : Chunk) → fact ≡ Some f → StandsBefore sound f)
    → (56 ≤ (inner_field 8 24 p fact sound).at) × ((inner_field 8 24 p fact sound).at + (inner_field 8 24 p fact sound).size ≡ sound.at) × (((inner_field 8 24 p fact sound).size ≡ 8) ⊎ ((inner_field 8 24 p fact sound).size ≡ 32))
inner_stands p None sound late stands = elim (cases_Bool (is_adpcm p.codec)) [
  | inl is ↦ rw is (omega arith, omega arith, inl refl)
  | inr other ↦ rw other (omega arith, omega arith, inl refl)
]
inner_stands p (Some fact) sound late stands = elim (cases_Bool (is_adpcm p.codec && is_joined 8 24 (Some fact) sound)) [
  | inl both ↦
      let before : StandsBefore sound fact = stands fact refl in
      let parts = and_parts (fact.len == 8) (fact.next + 24 == sound.at) (and_parts (is_adpcm p.codec) (is_joined 8 24 (Some fact) sound) both).1 in
      let next : fact.next ≡ fact.at + 8 = before.joined (eqb-true fact.len 8 parts.0) in
      let joined : fact.next + 24 ≡ sound.at = eqb-true (fact.next + 24) sound.at parts.1 in
      rw both (omega (arith, before.behind), omega (arith, next, joined), inr refl)
  | inr other ↦ rw other (omega arith, omega arith, inl refl)
]

side_stands : (p : Parameters) (fact : Option Chunk) (sound : Chunk) → ((f : Chunk) → fact ≡ Some f → StandsBefore sound f)
    → IfSome (side_field 8 p fact) (λ field. (field.size ≡ 8) × (64 ≤ field.at) × (field.at + 8 ≤ (inner_field 8 24 p fact sound).at))
side_stands p None sound stands = elim (cases_Bool (is_adpcm p.codec)) [ inl is ↦ rw is tt | inr other ↦ rw other tt ]
side_stands p (Some fact) sound stands = elim (cases_Bool (is_adpcm p.codec)) [
  | inl is ↦ rw is tt
  | inr other ↦
      let before : StandsBefore sound fact = stands fact refl in
      rw other (refl, before.behind, omega (arith, before.before, before.count))
]

pub fields_stand : (b : List ℕ) (h : Shape) → w64_layout b ≡ Ok h → FieldsStand h
fields_stand b h is =
    let from : Opens b (w64_front b) h = opens b h is in
    let there : Stand b from.sound = stand b from.sound from.sound_is in
    let inner = inner_stands from.params (fact_chunk 8 (w64_front b).chunks) from.sound (omega (arith, there.at, there.late)) there.fact in
    rw from.shape (record {
      kind = refl;
      outer = refl;
      side = side_stands from.params (fact_chunk 8 (w64_front b).chunks) from.sound there.fact;
      inner = inner.0;
      start = inner.1;
      sizes = inner.2;
    })

side_apart : (side : Option Field) (inner : Field) → 56 ≤ inner.at → IfSome side (λ field. (field.size ≡ 8) × (64 ≤ field.at) × (field.at + 8 ≤ inner.at)) → IfSome side (λ field. AreApart inner.at inner.size field.at field.size)
side_apart None inner late stands = tt
side_apart (Some field) inner late stands = inr (omega (arith, stands))

side_behind : (side : Option Field) (inner : Field) → IfSome side (λ field. (field.size ≡ 8) × (64 ≤ field.at) × (field.at + 8 ≤ inner.at)) → IfSome side (λ field. AreApart 16 8 field.at field.size)
side_behind None inner stands = tt
side_behind (Some field) inner stands = inl (omega (arith, stands))

pub fields_apart : (b : List ℕ) (h : Shape) → Says w64 b h → FieldsApart h
fields_apart b h says =
    let stands : FieldsStand h = fields_stand b h (said b h says) in
    record {
      outer = rw stands.outer (inr (omega (arith, stands.inner)));
      side = side_apart h.side h.inner stands.inner stands.side;
      others = rw stands.outer (side_behind h.side h.inner stands.side);
      whole = rw stands.outer refl;
    }

-- ---- the marks of the kind

side_out : (side : Option Field) (inner : Field) (i : ℕ) → i < 40 → IfSome side (λ field. (field.size ≡ 8) × (64 ≤ field.at) × (field.at + 8 ≤ inner.at)) → is_in_some side i ≡ false
side_out None inner i early stands = refl
side_out (Some field) inner i early stands = outside field i (inl (omega (arith, stands, early)))

marked : (i : ℕ) → is_mark W64 i ≡ true → (i < 16) ⊎ ((24 ≤ i) × (i < 40))
marked i is = elim (cases_lt i 16) [
  | inl early ↦ inl early
  | inr from ↦ elim (cases_lt i 24) [
    | inl before ↦ absurd (let a = le-ltb i 16 from in let c = ltb_le 24 i before in let h = rw (a, c) at is in cc)
    | inr behind ↦ elim (cases_lt i 40) [
      | inl to ↦ inr (behind, to)
      | inr past ↦ absurd (let a = le-ltb i 16 from in let c = le-ltb i 40 past in let d = and_false (nat_le 24 i) in let h = rw (a, c, d) at is in cc)
    ]
  ]
]
  where
    and_false : (x : Bool) → (x && false) ≡ false
    and_false true = refl
    and_false false = refl

    ltb_le : (m n : ℕ) → n < m → nat_le m n ≡ false
    ltb_le m n lt = lt-leb m n lt

pub keeps_marks : (b : List ℕ) (h : Shape) → w64_layout b ≡ Ok h → KeepsMarks W64 h
keeps_marks b h is =
    let stands : FieldsStand h = fields_stand b h is in
    record {
      is_kind = stands.kind;
      marks = λ i mark.
          let place = marked i mark in
          let early : i < 40 = elim place [ inl first ↦ omega (arith, first) | inr second ↦ second.1 ] in
          let beside : (i < 16) ⊎ (16 + 8 ≤ i) = elim place [ inl first ↦ inl first | inr second ↦ inr second.0 ] in (
            omega (arith, stands.inner, stands.start, early),
            out_of_fields h i (outside h.inner i (inl (omega (arith, stands.inner, early)))) (rw stands.outer (outside (record { at = 16; size = 8 }) i beside)) (side_out h.side h.inner i early stands.side),
          );
    }

-- ---- the values

pub inner_eight : (h : Shape) (n : ℕ) → h.inner.size ≡ 8 → inner_value h n ≡ bytes_of Little 8 (data_size h n)
unfolding inner_value
inner_eight h n eight = rw eight refl

pub inner_joined : (h : Shape) (n : ℕ) → h.inner.size ≡ 32 → inner_value h n ≡ bytes_of Little 8 n ++ (codes "data" ++ id_end) ++ bytes_of Little 8 (data_size h n)
unfolding inner_value
inner_joined h n joined = rw joined refl

pub length-inner : (h : Shape) (n : ℕ) → (h.inner.size ≡ 8) ⊎ (h.inner.size ≡ 32) → length (inner_value h n) ≡ h.inner.size
length-inner h n (inl eight) = ap length (inner_eight h n eight) ∙ length-bytes_of Little 8 (data_size h n) ∙ sym eight
length-inner h n (inr joined) = ap length (inner_joined h n joined) ∙ refl ∙ sym joined

pub length-outer : (h : Shape) (n : ℕ) → length (outer_value h n) ≡ 8
unfolding outer_value
length-outer h n = length-bytes_of Little 8 (whole_of (end h n))

length-count : (side : Option Field) (n : ℕ) → IfSome side (λ field. field.size ≡ 8) → IfSome side (λ field. length (count_bytes side n) ≡ field.size)
length-count None n eight = tt
length-count (Some field) n eight = length-bytes_of Little 8 n ∙ sym eight

sized : (side : Option Field) (inner : Field) → IfSome side (λ field. (field.size ≡ 8) × (64 ≤ field.at) × (field.at + 8 ≤ inner.at)) → IfSome side (λ field. field.size ≡ 8)
sized None inner stands = tt
sized (Some field) inner stands = stands.0

pub fills_fields : (b : List ℕ) (h : Shape) (n : ℕ) → Says w64 b h → FillsFields w64 h n
unfolding side_value
fills_fields b h n says =
    let stands : FieldsStand h = fields_stand b h (said b h says) in
    record {
      inner = length-inner h n stands.sizes;
      outer = subst (λ (o : Option Field). IfSome o (λ field. length (outer_value h n) ≡ field.size)) (sym stands.outer) (length-outer h n);
      side = length-count h.side n (sized h.side h.inner stands.side);
    }

inner_sizes : (codec : Codec) (size : ℕ) → IsTrue (is_inner_size W64 codec size) → (size ≡ 8) ⊎ (size ≡ 32)
inner_sizes codec size is = elim (cases_Bool (size == 8)) [
  | inl eight ↦ inl (eqb-true size 8 eight)
  | inr other ↦ elim (cases_Bool (size == 32)) [
    | inl joined ↦ inr (eqb-true size 32 joined)
    | inr none ↦ absurd (let d = and_false (is_adpcm codec) in let h = rw (other, none, d) at is in cc)
  ]
]
  where
    and_false : (x : Bool) → (x && false) ≡ false
    and_false true = refl
    and_false false = refl

fits_outer : (outer : Option Field) (v : List ℕ) → IsTrue (is_outer_size W64 outer) → length v ≡ 8 → FitsField outer v
fits_outer None v is long = tt
fits_outer (Some field) v is long = omega (arith, eqb-true field.size 8 is, long)

fits_side : (codec : Codec) (side : Option Field) (n : ℕ) → IsTrue (is_side_size W64 codec side) → FitsField side (count_bytes side n)
fits_side codec None n is = tt
fits_side codec (Some field) n is = omega (arith, eqb-true field.size 8 (and_parts (not (is_adpcm codec)) (field.size == 8) is).1, length-bytes_of Little 8 n)

few_count : (side : Option Field) (n : ℕ) → length (count_bytes side n) ≤ 8
few_count None n = omega arith
few_count (Some field) n = omega (arith, length-bytes_of Little 8 n)

pub fits_fields : (h : Shape) (n : ℕ) → h.kind ≡ W64 → KeepsRule h → FitsFields w64 h n
unfolding side_value
fits_fields h n kind rule =
    let inner_is : IsTrue (is_inner_size W64 h.params.codec h.inner.size) = rw kind at rule.inner_size in
    let outer_is : IsTrue (is_outer_size W64 h.outer) = rw kind at rule.outer_size in
    let side_is : IsTrue (is_side_size W64 h.params.codec h.side) = rw kind at rule.side_size in
    let sizes = inner_sizes h.params.codec h.inner.size inner_is in
    let long : length (inner_value h n) ≡ h.inner.size = length-inner h n sizes in
    record {
      inner = omega (arith, long);
      few_inner = elim sizes [ inl eight ↦ omega (arith, long, eight) | inr joined ↦ omega (arith, long, joined) ];
      outer = fits_outer h.outer (outer_value h n) outer_is (length-outer h n);
      few_outer = omega (arith, length-outer h n);
      side = fits_side h.params.codec h.side n side_is;
      few_side = few_count h.side n;
    }

number_bytes : (n : ℕ) → All IsByte (bytes_of Little 8 n)
number_bytes n = (bytes_are_bytes Little 8 n).1

zeros_are : (k : ℕ) → All IsByte (replicate k 0)
zeros_are k = All-replicate IsByte k 0 (omega arith)

abbrev pub are_bytes : List ℕ → Bool
are_bytes [] = true
are_bytes (x ∷ xs) = nat_lt x 256 && are_bytes xs

pub from_test : (xs : List ℕ) → are_bytes xs ≡ true → All IsByte xs
from_test [] is = All-nil IsByte
from_test (x ∷ xs) is =
    let parts = and_parts (nat_lt x 256) (are_bytes xs) is in
    All-cons IsByte x xs (ltb-true x 256 parts.0) (from_test xs parts.1)

id_bytes : All IsByte (codes "data" ++ id_end)
id_bytes = from_test (codes "data" ++ id_end) refl

pub values_are_bytes : (h : Shape) (n : ℕ) → AreBytes w64 h n
unfolding inner_value outer_value side_value closing
values_are_bytes h n = record {
  inner = elim (cases_Bool (h.inner.size == 32)) [
    | inl joined ↦ rw joined (All-append IsByte (bytes_of Little 8 n ++ (codes "data" ++ id_end)) (bytes_of Little 8 (data_size h n)) (All-append IsByte (bytes_of Little 8 n) (codes "data" ++ id_end) (number_bytes n) id_bytes) (number_bytes (data_size h n)))
    | inr other ↦ rw other (number_bytes (data_size h n))
  ];
  outer = number_bytes (whole_of (end h n));
  side = counts h.side;
  closing = zeros_are (raised (end h n) - end h n);
}
  where
    counts : (side : Option Field) → All IsByte (count_bytes side n)
    counts None = All-nil IsByte
    counts (Some field) = number_bytes n

-- ---- what closes data

pub closed_is : (h : Shape) (n : ℕ) → closed_end w64 h n ≡ raised (end h n)
unfolding closing
closed_is h n = omega (arith, length-replicate {A = ℕ} (raised (end h n) - end h n) 0, raised-least (end h n))

pub closes_near : (h : Shape) → ClosesNear w64 h
closes_near h = record {
  few = λ n. omega (arith, closed_is h n, raised-most (end h n));
  ordered = λ n m le. omega (arith, closed_is h n, closed_is h m, raised-grows (end h n) (end h m) (omega (arith, le)));
}

pub ends_in_order : EndsAreInOrder w64
ends_in_order b h n says = (
  λ le. omega (arith, closed_is h n, raised-grows (h.start + h.declared) (end h n) (omega (arith, le))),
  λ le. omega (arith, closed_is h n, raised-grows (end h n) (h.start + h.declared) (omega (arith, le))),
)
