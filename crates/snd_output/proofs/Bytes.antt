-- The bytes of a file that is being made, and of one that is made.
use Rattle.std.proofs.Common.{◌≡◌, ◌⊎◌, inl, inr, drop, ◌∙◌, ap, sym, refl, ℕ, ◌*◌, ◌≤◌, ℤ, Bool, true, false, cond, List, [], ◌++◌, Option, None, Some, length, arith}
use Rattle.std.specs.Prelude.{IfSome, is_none, nat_lt}
use Rattle.std.proofs.lemmas.Bool.{cases_lt, le-ltb, lt-ltb}
use Rattle.std.proofs.lemmas.List.{append-nil, drop_all, length-append, nil_from_length}
use Rattle.snd_disk.proofs.Public.{length-over}
use Rattle.snd_disk.specs.Bytes.{over}
use Rattle.snd_container.proofs.Public.{bytes_of_joined, count_of_bytes, free, inner_value_fits, outer_value_fits, side_value_fits}
use Rattle.snd_container.specs.Fixed.{byte_count, samples_bytes}
use Rattle.snd_container.specs.Sound.{fixed_of}
use Rattle.snd_container.specs.Values.{closed_end, closing, inner_value, outer_value, side_value}
use Rattle.snd_container.specs.declared.fixed.Fixed.{Fixed}
use Rattle.snd_layout.specs.Container.{FitsField}
use Rattle.snd_layout.specs.Filled.{over_field}
use Rattle.snd_layout.specs.Params.{Parameters, data_bytes}
use Rattle.snd_layout.specs.Shape.{EndsBy, KeepsRule, Shape, end}
use Rattle.snd_layout.specs.declared.field.Field.{Field}
use Rattle.snd_patch.specs.Sealed.{closed, over_closing, with_fields, with_inner}
use Rattle.snd_edits.specs.Edits.{coded, coded_as}
use Rattle.snd_edits.proofs.Public.{length-coded, linear_bytes}
use Rattle.snd_output.specs.Made.{closing_so_far}
use Rattle.snd_output.proofs.Lists.{over_behind, over_in_front}

-- ---- the bytes of numbers

coded_none_as : (o : Option Fixed) → coded_as o [] ≡ []
coded_none_as None = refl
coded_none_as (Some form) = nil_from_length (samples_bytes form []) ((count_of_bytes form []).0 ∙ (let e : byte_count form * 0 ≡ 0 = omega arith in e))

pub coded_none : (p : Parameters) → coded p [] ≡ []
coded_none p = coded_none_as (fixed_of p.codec)

coded_joined_as : (o : Option Fixed) (xs ys : List ℤ) → coded_as o (xs ++ ys) ≡ coded_as o xs ++ coded_as o ys
coded_joined_as None xs ys = refl
coded_joined_as (Some form) xs ys = bytes_of_joined form xs ys

pub coded_joined : (p : Parameters) (xs ys : List ℤ) → coded p (xs ++ ys) ≡ coded p xs ++ coded p ys
coded_joined p xs ys = coded_joined_as (fixed_of p.codec) xs ys

coded_data_as : (p : Parameters) (xs : List ℤ) (k : ℕ) (o : Option Fixed) → fixed_of p.codec ≡ o → is_none o ≡ false → length xs ≡ p.channels * k → length (coded p xs) ≡ data_bytes p k
coded_data_as p xs k None is linear count = absurd (cc)
coded_data_as p xs k (Some form) is linear count = length-coded p form xs is ∙ ap (λ (m : ℕ). byte_count form * m) count ∙ sym (linear_bytes p form k is)

-- those of so many frames
pub coded_data : (p : Parameters) (xs : List ℤ) (k : ℕ) → is_none (fixed_of p.codec) ≡ false → length xs ≡ p.channels * k → length (coded p xs) ≡ data_bytes p k
coded_data p xs k linear count = coded_data_as p xs k (fixed_of p.codec) refl linear count

-- ---- a head in front of others

field_in_front : (field : Option Field) (f t v : List ℕ) (start : ℕ) → FitsField field v → IfSome field (EndsBy start) → start ≤ length f → over_field field (f ++ t) v ≡ over_field field f v ++ t
field_in_front None f t v start fits ends there = refl
field_in_front (Some field) f t v start fits ends there = over_in_front f t v field.at (omega (arith, fits, ends, there))

field_longer : (field : Option Field) (f v : List ℕ) → length f ≤ length (over_field field f v)
field_longer None f v = omega arith
field_longer (Some field) f v = omega (arith, length-over f field.at v)

-- the fields lie in the head
pub fields_in_front : (h : Shape) (n : ℕ) (f t : List ℕ) → KeepsRule h → h.start ≤ length f → with_fields (f ++ t) h n ≡ with_fields f h n ++ t
fields_in_front h n f t rule there =
    let first = with_inner f h n in
    let second = over_field h.outer first (outer_value h n) in
    let first_long : length f ≤ length first = omega (arith, length-over f h.inner.at (inner_value h n)) in
    let second_long : length first ≤ length second = field_longer h.outer first (outer_value h n) in
    ap (λ (l : List ℕ). over_field h.side (over_field h.outer l (outer_value h n)) (side_value h n)) (over_in_front f t (inner_value h n) h.inner.at (omega (arith, rule.inner_end, inner_value_fits h n rule, there)))
    ∙ ap (λ (l : List ℕ). over_field h.side l (side_value h n)) (field_in_front h.outer first t (outer_value h n) h.start (outer_value_fits h n rule) rule.outer_end (omega (arith, there, first_long)))
    ∙ field_in_front h.side second t (side_value h n) h.start (side_value_fits h n rule) rule.side_end (omega (arith, there, first_long, second_long))

-- what the fields say of n frames, and what closes these, hangs not on the frames that a layout counts
pub same_fields : (h : Shape) (m n : ℕ) (f : List ℕ) → with_fields f (record h { frames = m }) n ≡ with_fields f h n
same_fields h m n f =
    let values = free h m h.declared h.trailing n in
    ap (λ (v : List ℕ). over_field h.side (over_field h.outer (over f h.inner.at v) (outer_value (record h { frames = m }) n)) (side_value (record h { frames = m }) n)) values.inner
    ∙ ap (λ (v : List ℕ). over_field h.side (over_field h.outer (over f h.inner.at (inner_value h n)) v) (side_value (record h { frames = m }) n)) values.outer
    ∙ ap (λ (v : List ℕ). over_field h.side (over_field h.outer (over f h.inner.at (inner_value h n)) (outer_value h n)) v) values.side

pub same_closing : (h : Shape) (m n : ℕ) → closing (record h { frames = m }) n ≡ closing h n
same_closing h m n = (free h m h.declared h.trailing n).closing

-- ---- data that are closed

-- what closes them is put, or is there already
pub closed_now : (h : Shape) (n : ℕ) (a r : List ℕ) → length a ≡ end h n → (r ≡ []) ⊎ (r ≡ closing h n) → closed (a ++ r) h n ≡ a ++ closing h n
closed_now h n a r is (inl none) = elim (cases_lt (length (a ++ r)) (closed_end h n)) [
  | inl lt ↦
      ap (λ (t : Bool). cond t (over_closing (a ++ r) h n) (a ++ r)) (lt-ltb (length (a ++ r)) (closed_end h n) lt)
      ∙ over_behind a r (closing h n) (end h n) (sym is)
      ∙ ap (λ (l : List ℕ). a ++ closing h n ++ drop (length (closing h n)) l) none
      ∙ ap (λ (l : List ℕ). a ++ closing h n ++ l) (drop_all {X = ℕ} (length (closing h n)) [] (omega arith))
      ∙ append-nil (a ++ closing h n)
  | inr le ↦
      let nothing : closing h n ≡ [] = nil_from_length (closing h n) (omega (arith, le, is, length-append a r, ap length none)) in
      ap (λ (t : Bool). cond t (over_closing (a ++ r) h n) (a ++ r)) (le-ltb (length (a ++ r)) (closed_end h n) le)
      ∙ ap (λ (l : List ℕ). a ++ l) (none ∙ sym nothing)
]
closed_now h n a r is (inr there) =
    let all : nat_lt (length (a ++ r)) (closed_end h n) ≡ false = le-ltb (length (a ++ r)) (closed_end h n) (omega (arith, is, length-append a r, ap length there)) in
    ap (λ (t : Bool). cond t (over_closing (a ++ r) h n) (a ++ r)) all ∙ ap (λ (l : List ℕ). a ++ l) there

pub so_far_either : (h : Shape) (n : ℕ) → (closing_so_far h n ≡ []) ⊎ (closing_so_far h n ≡ closing h n)
so_far_either h n = either (nat_lt 0 n)
  where
    either : (t : Bool) → (cond t (closing h n) [] ≡ []) ⊎ (cond t (closing h n) [] ≡ closing h n)
    either true = inr refl
    either false = inl refl

pub so_far_few : (h : Shape) (n : ℕ) → length (closing_so_far h n) ≤ length (closing h n)
so_far_few h n = few (nat_lt 0 n)
  where
    few : (t : Bool) → length (cond t (closing h n) []) ≤ length (closing h n)
    few true = omega arith
    few false = omega arith
