-- Which places a step of an update may change.
use Rattle.std.proofs.Common.{◌≡◌, ℕ, ◌+◌, ◌<◌, ◌≤◌, Bool, true, false, ◌||◌, ◌&&◌, List, length, Option, None, Some, refl, subst, inl, inr, arith}
use Rattle.std.proofs.lemmas.Bool.{cases_lt, le-leb, lt-ltb}
use Rattle.std.specs.Prelude.{nat_le, nat_lt}
use Rattle.snd_disk.specs.Runs.{IsBeside}
use Rattle.snd_layout.specs.Shape.{Shape}
use Rattle.snd_layout.specs.declared.field.Field.{Field}
use Rattle.snd_layout.specs.Container.{FitsField, is_in, is_in_fields, is_in_some}
use Rattle.snd_patch.specs.Steps.{IsFieldOf, IsOutside}

in_both : (a b : Bool) → a ≡ true → b ≡ true → (a && b) ≡ true
in_both a b one two = rw (one, two) refl

in_field : (f : Field) (i : ℕ) → f.at ≤ i → i < f.at + f.size → is_in f i ≡ true
in_field f i after before = in_both (nat_le f.at i) (nat_lt i (f.at + f.size)) (le-leb f.at i after) (lt-ltb i (f.at + f.size) before)

-- a place that is not in a field is beside the bytes that are put into it
pub beside_field : (f : Field) (i count : ℕ) → count ≤ f.size → is_in f i ≡ false → IsBeside i f.at count
beside_field f i count few out = elim (cases_lt i f.at) [
  | inl lt ↦ inl lt
  | inr after ↦ elim (cases_lt i (f.at + count)) [
    | inl before ↦ absurd (let is = in_field f i after (omega (arith, before, few)) in cc)
    | inr past ↦ inr past
  ]
]

pub none_of : (a b c : Bool) → (a || b || c) ≡ false → (a ≡ false) × (b ≡ false) × (c ≡ false)
none_of false false false is = (refl, refl, refl)
none_of false false true is = absurd cc
none_of false true c is = absurd cc
none_of true b c is = absurd cc

field_of : (h : Shape) (field : Option Field) → ((i : ℕ) → is_in_fields h i ≡ false → is_in_some field i ≡ false) → IsFieldOf h field
field_of h None out = tt
field_of h (Some f) out = out

pub outer_is_field : (h : Shape) → IsFieldOf h h.outer
outer_is_field h = field_of h h.outer (λ i out. (none_of (is_in h.inner i) (is_in_some h.outer i) (is_in_some h.side i) out).1)

pub side_is_field : (h : Shape) → IsFieldOf h h.side
side_is_field h = field_of h h.side (λ i out. (none_of (is_in h.inner i) (is_in_some h.outer i) (is_in_some h.side i) out).2)

pub inner_is_field : (h : Shape) → IsFieldOf h (Some h.inner)
inner_is_field h = λ i out. (none_of (is_in h.inner i) (is_in_some h.outer i) (is_in_some h.side i) out).0

pub inner_outside : (h : Shape) (n at : ℕ) (v : List ℕ) → h.inner.at ≡ at → length v ≤ h.inner.size → IsOutside h n at (length v)
inner_outside h n at v is few = subst (λ (a : ℕ). IsOutside h n a (length v)) is (λ i lt out. beside_field h.inner i (length v) few (none_of (is_in h.inner i) (is_in_some h.outer i) (is_in_some h.side i) out).0)

pub field_outside : (h : Shape) (n : ℕ) (field : Option Field) (f : Field) (v : List ℕ) → field ≡ Some f → FitsField field v → IsFieldOf h field → IsOutside h n f.at (length v)
field_outside h n field f v is fits of =
    let few : length v ≤ f.size = subst (λ (o : Option Field). FitsField o v) is fits in
    let only : (i : ℕ) → is_in_fields h i ≡ false → is_in f i ≡ false = subst (λ (o : Option Field). IsFieldOf h o) is of in
    λ i lt out. beside_field f i (length v) few (only i out)
