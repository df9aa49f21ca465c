-- Whole files whose fields are brought up to a number of frames.
use Rattle.std.proofs.Common.{◌≡◌, ℕ, ◌+◌, ◌≤◌, Bool, true, false, cond, List, length, max, Option, None, Some, IfSome, refl, ◌∙◌, sym, ap, inl, inr, arith}
use Rattle.std.proofs.lemmas.Bool.{cases_Bool, cases_lt, cond_both, le-ltb, lt-ltb}
use Rattle.std.proofs.lemmas.List.{length-take, places, same_lists}
use Rattle.std.specs.Prelude.{nat_le, nat_lt}
use Rattle.snd_disk.specs.Bytes.{over}
use Rattle.snd_disk.specs.Runs.{AreApart}
use Rattle.snd_disk.proofs.Public.{length-over}
use Rattle.snd_layout.specs.Params.{data_bytes}
use Rattle.snd_layout.specs.Shape.{EndsBy, KeepsRule, Shape, end}
use Rattle.snd_layout.specs.declared.field.Field.{Field}
use Rattle.snd_layout.specs.Container.{FitsField}
use Rattle.snd_layout.specs.Filled.{over_field}
use Rattle.snd_container.specs.Values.{closed_end, closing, inner_value, outer_value, side_value}
use Rattle.snd_container.proofs.Public.{inner_value_fits, outer_value_fits, side_value_fits}
use Rattle.snd_patch.specs.Laws.{GrownKeeps, GrownLength, OrderIsFree, SealedKeeps, SealedLength, ShrunkKeeps, ShrunkLength}
use Rattle.snd_patch.specs.Sealed.{LieApart, SameBesideFields, closed, over_closing, patched, with_fewer, with_fields, with_inner, with_others}
use Rattle.snd_patch.specs.Steps.{IsFieldOf}
use Rattle.snd_patch.proofs.Bytes.{over_beside, take_before}
use Rattle.snd_patch.proofs.Places.{field_outside, inner_outside, outer_is_field, side_is_field}

-- the bytes that stay
inner_same : (b : List ℕ) (h : Shape) (n : ℕ) → KeepsRule h → SameBesideFields h n b (with_inner b h n)
inner_same b h n rule = λ i lt out. over_beside b h.inner.at (inner_value h n) i (inner_outside h n h.inner.at (inner_value h n) refl (inner_value_fits h n rule) i lt out)

field_same : (h : Shape) (n : ℕ) (field : Option Field) (b v : List ℕ) → FitsField field v → IsFieldOf h field → SameBesideFields h n b (over_field field b v)
field_same h n None b v fits of = λ i lt out. refl
field_same h n (Some f) b v fits of = λ i lt out. over_beside b f.at v i (field_outside h n (Some f) f v refl fits of i lt out)

others_same : (b : List ℕ) (h : Shape) (n : ℕ) → KeepsRule h → SameBesideFields h n b (with_others b h n)
others_same b h n rule = λ i lt out.
    field_same h n h.side (over_field h.outer b (outer_value h n)) (side_value h n) (side_value_fits h n rule) (side_is_field h) i lt out
    ∙ field_same h n h.outer b (outer_value h n) (outer_value_fits h n rule) (outer_is_field h) i lt out

fields_same : (b : List ℕ) (h : Shape) (n : ℕ) → KeepsRule h → SameBesideFields h n b (with_fields b h n)
fields_same b h n rule = λ i lt out. others_same (with_inner b h n) h n rule i lt out ∙ inner_same b h n rule i lt out

fewer_same : (b : List ℕ) (h : Shape) (n : ℕ) → KeepsRule h → SameBesideFields h n b (with_fewer b h n)
fewer_same b h n rule = λ i lt out. inner_same (with_others b h n) h n rule i lt out ∙ others_same b h n rule i lt out

pub closing_same : (b : List ℕ) (h : Shape) (n : ℕ) → SameBesideFields h n b (over_closing b h n)
closing_same b h n = λ i lt out. over_beside b (end h n) (closing h n) i (inl lt)

pub closed_same : (b : List ℕ) (h : Shape) (n : ℕ) → SameBesideFields h n b (closed b h n)
closed_same b h n = elim (cases_Bool (nat_lt (length b) (closed_end h n))) [
  | inl is ↦ rw is (closing_same b h n)
  | inr other ↦ rw other (λ i lt out. refl)
]

patched_same : (b : List ℕ) (h : Shape) (n : ℕ) → KeepsRule h → SameBesideFields h n b (patched b h n)
patched_same b h n rule = elim (cases_Bool (nat_le h.declared (data_bytes h.params n))) [
  | inl is ↦ rw is (fields_same b h n rule)
  | inr other ↦ rw other (fewer_same b h n rule)
]

pub grown_keeps : GrownKeeps
grown_keeps b h n rule = cond_both h.trailing b (with_fields b h n) (λ x. SameBesideFields h n b x) (λ is. λ i lt out. refl) (λ other. fields_same b h n rule)

pub shrunk_keeps : ShrunkKeeps
shrunk_keeps b h n rule = λ i lt out.
    take_before (over_closing (with_fewer b h n) h n) (closed_end h n) i (omega (arith, lt))
    ∙ closing_same (with_fewer b h n) h n i lt out ∙ fewer_same b h n rule i lt out

pub sealed_keeps : SealedKeeps
sealed_keeps b h n rule = cond_both h.trailing b (patched (closed b h n) h n) (λ x. SameBesideFields h n b x)
    (λ is. λ i lt out. refl) (λ other. λ i lt out. patched_same (closed b h n) h n rule i lt out ∙ closed_same b h n i lt out)

-- the lengths
inner_length : (b : List ℕ) (h : Shape) (n : ℕ) → KeepsRule h → h.start ≤ length b → length (with_inner b h n) ≡ length b
inner_length b h n rule there = omega (arith, there, rule.inner_end, inner_value_fits h n rule, length-over b h.inner.at (inner_value h n))

pub field_length : (field : Option Field) (b v : List ℕ) (start : ℕ) → FitsField field v → IfSome field (EndsBy start) → start ≤ length b → length (over_field field b v) ≡ length b
field_length None b v start fits by there = refl
field_length (Some f) b v start fits by there = omega (arith, there, by, fits, length-over b f.at v)

others_length : (b : List ℕ) (h : Shape) (n : ℕ) → KeepsRule h → h.start ≤ length b → length (with_others b h n) ≡ length b
others_length b h n rule there =
    let outer : length (over_field h.outer b (outer_value h n)) ≡ length b = field_length h.outer b (outer_value h n) h.start (outer_value_fits h n rule) rule.outer_end there in
    field_length h.side (over_field h.outer b (outer_value h n)) (side_value h n) h.start (side_value_fits h n rule) rule.side_end (omega (arith, outer, there)) ∙ outer

fields_length : (b : List ℕ) (h : Shape) (n : ℕ) → KeepsRule h → h.start ≤ length b → length (with_fields b h n) ≡ length b
fields_length b h n rule there =
    let inner : length (with_inner b h n) ≡ length b = inner_length b h n rule there in
    others_length (with_inner b h n) h n rule (omega (arith, inner, there)) ∙ inner

fewer_length : (b : List ℕ) (h : Shape) (n : ℕ) → KeepsRule h → h.start ≤ length b → length (with_fewer b h n) ≡ length b
fewer_length b h n rule there =
    let others : length (with_others b h n) ≡ length b = others_length b h n rule there in
    inner_length (with_others b h n) h n rule (omega (arith, others, there)) ∙ others

patched_length : (b : List ℕ) (h : Shape) (n : ℕ) → KeepsRule h → h.start ≤ length b → length (patched b h n) ≡ length b
patched_length b h n rule there = elim (cases_Bool (nat_le h.declared (data_bytes h.params n))) [
  | inl is ↦ rw is (fields_length b h n rule there)
  | inr other ↦ rw other (fewer_length b h n rule there)
]

closed_length : (b : List ℕ) (h : Shape) (n : ℕ) → end h n ≤ length b → length (closed b h n) ≡ max (length b) (closed_end h n)
closed_length b h n there = elim (cases_lt (length b) (closed_end h n)) [
  | inl lt ↦ rw (lt-ltb (length b) (closed_end h n) lt) (length-over b (end h n) (closing h n))
  | inr le ↦ rw (le-ltb (length b) (closed_end h n) le) (omega (arith, le))
]

pub grown_length : GrownLength
grown_length b h n rule there = cond_both h.trailing b (with_fields b h n) (λ x. length x ≡ length b) (λ is. refl) (λ other. fields_length b h n rule there)

pub shrunk_length : ShrunkLength
shrunk_length b h n rule there =
    let fewer : length (with_fewer b h n) ≡ length b = fewer_length b h n rule (omega (arith, there)) in
    length-take (closed_end h n) (over_closing (with_fewer b h n) h n)
    ∙ omega (arith, there, fewer, length-over (with_fewer b h n) (end h n) (closing h n))

length_by : (test : Bool) (x y : List ℕ) (k m : ℕ) → length x ≡ k → length y ≡ m → length (cond test x y) ≡ cond test k m
length_by true x y k m one other = one
length_by false x y k m one other = other

pub sealed_length : SealedLength
sealed_length b h n rule there =
    let shut : length (closed b h n) ≡ max (length b) (closed_end h n) = closed_length b h n there in
    length_by h.trailing b (patched (closed b h n) h n) (length b) (max (length b) (closed_end h n)) refl (patched_length (closed b h n) h n rule (omega (arith, there, shut)) ∙ shut)

-- bytes that are put at places apart, in either order
over_swapped : (b : List ℕ) (at : ℕ) (v : List ℕ) (at' : ℕ) (w : List ℕ) → AreApart at (length v) at' (length w) → at + length v ≤ length b → at' + length w ≤ length b
    → over (over b at v) at' w ≡ over (over b at' w) at v
over_swapped b at v at' w (inl before) fits fits' = same_lists _ _ (grind (arith, places)) (λ k d lt. grind (arith, places))
over_swapped b at v at' w (inr behind) fits fits' = same_lists _ _ (grind (arith, places)) (λ k d lt. grind (arith, places))

smaller_apart : (one other : Field) (v w : List ℕ) → LieApart one other → length v ≤ one.size → length w ≤ other.size → AreApart one.at (length v) other.at (length w)
smaller_apart one other v w (inl before) few few' = inl (omega (arith, before, few))
smaller_apart one other v w (inr behind) few few' = inr (omega (arith, behind, few'))

field_swapped : (b : List ℕ) (inner : Field) (v : List ℕ) (field : Option Field) (w : List ℕ) (start : ℕ) → IfSome field (LieApart inner) → length v ≤ inner.size → FitsField field w
    → EndsBy start inner → IfSome field (EndsBy start) → start ≤ length b → over_field field (over b inner.at v) w ≡ over (over_field field b w) inner.at v
field_swapped b inner v None w start apart few fits by by' there = refl
field_swapped b inner v (Some f) w start apart few fits by by' there =
    over_swapped b inner.at v f.at w (smaller_apart inner f v w apart few fits) (omega (arith, by, few, there)) (omega (arith, by', fits, there))

pub order_is_free : OrderIsFree
order_is_free b h n rule apart there =
    let outer : length (over_field h.outer b (outer_value h n)) ≡ length b = field_length h.outer b (outer_value h n) h.start (outer_value_fits h n rule) rule.outer_end there in
    let first = field_swapped b h.inner (inner_value h n) h.outer (outer_value h n) h.start apart.outer (inner_value_fits h n rule) (outer_value_fits h n rule) rule.inner_end rule.outer_end there in
    let second = field_swapped (over_field h.outer b (outer_value h n)) h.inner (inner_value h n) h.side (side_value h n) h.start apart.side (inner_value_fits h n rule) (side_value_fits h n rule) rule.inner_end rule.side_end (omega (arith, outer, there)) in
    sym (ap (λ (l : List ℕ). over_field h.side l (side_value h n)) first ∙ second)
