-- The fields of a layout, and the values that stand in them.
use Rattle.std.proofs.Common.{◌≡◌, ◌⊎◌, ℕ, ◌-◌, ◌%◌, ◌<◌, ◌≤◌, Bool, true, ◌&&◌, List, All, Option, None, Some, Ok, length, refl, subst, inl, inr, arith}
use Rattle.std.proofs.lemmas.Bool.{and_parts, cases_Bool, eqb-true, leb-true, ltb-true}
use Rattle.std.proofs.lemmas.List.Elements.{All-replicate}
use Rattle.std.specs.Prelude.{nat_le, nat_lt}
use Rattle.snd_fields.proofs.Numbers.{bytes_are_bytes, length-bytes_of}
use Rattle.snd_fields.specs.Field.{bytes_of}
use Rattle.snd_fields.specs.Laws.{IsByte}
use Rattle.snd_fields.specs.declared.field.Order.TheVariants.{Big}
use Rattle.snd_layout.specs.Container.{AreBytes, ClosesNear, FieldsApart, FillsFields, FitsField, FitsFields, KeepsMarks, SameValues, Says, is_mark}
use Rattle.snd_layout.specs.Params.{data_bytes}
use Rattle.snd_layout.specs.Shape.{KeepsRule, Shape, has_size, is_inner_size, is_outer_size, is_side_size}
use Rattle.snd_layout.specs.declared.field.Field.{Field}
use Rattle.snd_layout.specs.declared.kind.Kind.{Kind}
use Rattle.snd_layout.specs.declared.kind.Kind.TheVariants.{Svx}
use Rattle.snd_svx.specs.Container.{svx}
use Rattle.snd_svx.specs.Layout.{svx_front, svx_layout, svx_shape}
use Rattle.snd_svx.specs.Values.{closing, form_size, inner_value, outer_value, side_value}
use Rattle.snd_svx.proofs.Agreements.{Stands, out_of_fields, outside, stands}
use Rattle.snd_svx.proofs.Images.{closing_is, said}
use Rattle.snd_svx.proofs.Opens.{Opens, opens}

-- ---- where the fields stand

pub apart : (b : List ℕ) (h : Shape) → Says svx b h → FieldsApart h
apart b h told =
    let from : Opens b (svx_front b) h = opens b h (said b h told) in
    let there : Stands b from.chunk from.sound = stands b h from in
    rw from.shape (record {
      outer = inr (omega (arith, there.behind, there.before));
      side = inr (omega (arith, there.long, there.before));
      others = inl (omega (arith, there.behind));
      whole = refl;
    })

mark_place : (i : ℕ) → is_mark Svx i ≡ true → (i < 4) ⊎ ((8 ≤ i) × (i < 12))
mark_place i is = elim (cases_Bool (nat_lt i 4)) [
  | inl first ↦ inl (ltb-true i 4 first)
  | inr other ↦
      let second : (nat_le 8 i && nat_lt i 12) ≡ true = rw other at is in
      let parts = and_parts (nat_le 8 i) (nat_lt i 12) second in
      inr (leb-true 8 i parts.0, ltb-true i 12 parts.1)
]

before_form : (i : ℕ) → (i < 4) ⊎ ((8 ≤ i) × (i < 12)) → (i < 4) ⊎ (8 ≤ i)
before_form i (inl first) = inl first
before_form i (inr second) = inr second.0

early : (i : ℕ) → (i < 4) ⊎ ((8 ≤ i) × (i < 12)) → i < 12
early i (inl first) = omega (arith, first)
early i (inr second) = second.1

pub marks : (b : List ℕ) (h : Shape) → svx_layout b ≡ Ok h → KeepsMarks Svx h
marks b h is =
    let from : Opens b (svx_front b) h = opens b h is in
    let there : Stands b from.chunk from.sound = stands b h from in
    rw from.shape (record {
      is_kind = refl;
      marks = λ i mark.
          let place = mark_place i mark in
          let few : i < 12 = early i place in (
            omega (arith, few, there.behind, there.before),
            out_of_fields (svx_shape b (svx_front b) from.header from.chunk from.sound) i (outside (record { at = from.sound.at - 4; size = 4 }) i (inl (omega (arith, few, there.behind, there.long, there.before))))
                (outside (record { at = 4; size = 4 }) i (before_form i place)) (outside (record { at = from.chunk.at; size = 4 }) i (inl (omega (arith, few, there.behind)))),
          );
    })

-- ---- what stands in them

inner_width : (h : Shape) (n : ℕ) → length (inner_value h n) ≡ 4
unfolding inner_value
inner_width h n = length-bytes_of Big 4 (data_bytes h.params n)

outer_width : (h : Shape) (n : ℕ) → length (outer_value h n) ≡ 4
unfolding outer_value
outer_width h n = length-bytes_of Big 4 (form_size h.start (data_bytes h.params n))

side_width : (h : Shape) (n : ℕ) → length (side_value h n) ≡ 4
unfolding side_value
side_width h n = length-bytes_of Big 4 n

pub fill : (b : List ℕ) (h : Shape) (n : ℕ) → Says svx b h → FillsFields svx h n
fill b h n told =
    let from : Opens b (svx_front b) h = opens b h (said b h told) in
    rw from.shape (record { inner = inner_width _ n; outer = outer_width _ n; side = side_width _ n })

fits_four : (field : Option Field) (v : List ℕ) → has_size field 4 ≡ true → length v ≡ 4 → FitsField field v
fits_four None v is few = tt
fits_four (Some f) v is few = omega (arith, eqb-true f.size 4 is, few)

pub fit : (h : Shape) (n : ℕ) → h.kind ≡ Svx → KeepsRule h → FitsFields svx h n
fit h n kind rule =
    let inner : is_inner_size Svx h.params.codec h.inner.size ≡ true = subst (λ (k : Kind). is_inner_size k h.params.codec h.inner.size ≡ true) kind rule.inner_size in
    let outer : is_outer_size Svx h.outer ≡ true = subst (λ (k : Kind). is_outer_size k h.outer ≡ true) kind rule.outer_size in
    let side : is_side_size Svx h.params.codec h.side ≡ true = subst (λ (k : Kind). is_side_size k h.params.codec h.side ≡ true) kind rule.side_size in
    record {
      inner = omega (arith, inner_width h n, eqb-true h.inner.size 4 inner);
      few_inner = omega (arith, inner_width h n);
      outer = fits_four h.outer (outer_value h n) outer (outer_width h n);
      few_outer = omega (arith, outer_width h n);
      side = fits_four h.side (side_value h n) side (side_width h n);
      few_side = omega (arith, side_width h n);
    }

pub free : (h : Shape) (frames declared : ℕ) (trailing : Bool) (n : ℕ) → SameValues svx h (record h { frames = frames; declared = declared; trailing = trailing }) n
unfolding inner_value outer_value side_value closing
free h frames declared trailing n = record { inner = refl; outer = refl; side = refl; closing = refl }

pub number_bytes : (k n : ℕ) → All IsByte (bytes_of Big k n)
number_bytes k n = (bytes_are_bytes Big k n).1

pub bytes : (h : Shape) (n : ℕ) → AreBytes svx h n
unfolding inner_value outer_value side_value closing
bytes h n = record {
  inner = number_bytes 4 (data_bytes h.params n);
  outer = number_bytes 4 (form_size h.start (data_bytes h.params n));
  side = number_bytes 4 n;
  closing = All-replicate IsByte (data_bytes h.params n % 2) 0 (omega arith);
}

pub closes : (h : Shape) → ClosesNear svx h
unfolding closing
closes h = record {
  few = λ n. omega (arith, closing_is h.params n);
  ordered = λ n m le. omega (arith, le, closing_is h.params n, closing_is h.params m);
}
