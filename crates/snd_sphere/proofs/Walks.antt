-- The walk over the lines of a header, a byte on.
use Rattle.std.proofs.Common.{◌≡◌, ℕ, ◌+◌, ◌-◌, ◌<◌, ◌≤◌, true, false, List, [], ◌∷◌, ◌++◌, refl, sym, ap, ◌∙◌, drop, length, arith}
use Rattle.std.proofs.lemmas.Bool.{eq-eqb, ne_eqb}
use Rattle.std.proofs.lemmas.List.{drop_more, length-take, length-drop, places, same_lists}
use Rattle.std.specs.Prelude.{◌==◌, get_or}
use Rattle.snd_sphere.specs.Found.{part}
use Rattle.std.specs.List.{list_any}
use Rattle.std.specs.Prelude.{codes}
use Rattle.std.specs.Str.{bytes_eq}
use Rattle.snd_sphere.specs.Layout.{is_float}
use Rattle.snd_sphere.specs.Lines.{all_lines, are_named, before_end, begins, has_name, is_end, lines_from}

part_size : (h : List ℕ) (start i : ℕ) → start ≤ i → i ≤ length h → length (part h start i) ≡ i - start
part_size h start i le within = omega (arith, length-take (i - start) (drop start h), length-drop start h)

part_more : (h : List ℕ) (start i : ℕ) → start ≤ i → i < length h → part h start (i + 1) ≡ part h start i ++ get_or h i 0 ∷ []
part_more h start i le lt = same_lists _ _ (grind (arith, places)) (λ k d below. grind (arith, places))

pub part_none : (h : List ℕ) (i : ℕ) → part h i i ≡ []
part_none h i = let e : i - i ≡ 0 = omega arith in rw e refl

pub goes_on : (h : List ℕ) (start i : ℕ) → start ≤ i → i < length h → (get_or h i 0 ≡ 10 → ⊥) → lines_from start (part h start i) (drop i h) ≡ lines_from start (part h start (i + 1)) (drop (i + 1) h)
goes_on h start i le lt other =
    let no : (get_or h i 0 == 10) ≡ false = ne_eqb (get_or h i 0) 10 other in
    let next : lines_from start (part h start i) (get_or h i 0 ∷ drop (i + 1) h) ≡ lines_from start (part h start i ++ get_or h i 0 ∷ []) (drop (i + 1) h) = rw no refl in
    ap (lines_from start (part h start i)) (drop_more h i 0 lt) ∙ next ∙ ap (λ w. lines_from start w (drop (i + 1) h)) (sym (part_more h start i le lt))

pub line_ends : (h : List ℕ) (start i : ℕ) → start ≤ i → i < length h → get_or h i 0 ≡ 10
    → lines_from start (part h start i) (drop i h) ≡ (record { at = start; text = part h start i }) ∷ lines_from (i + 1) (part h (i + 1) (i + 1)) (drop (i + 1) h)
line_ends h start i le lt feed =
    let yes : (get_or h i 0 == 10) ≡ true = eq-eqb (get_or h i 0) 10 feed in
    let place : start + length (part h start i) + 1 ≡ i + 1 = omega (arith, part_size h start i le (omega (arith, lt))) in
    let next : lines_from start (part h start i) (get_or h i 0 ∷ drop (i + 1) h) ≡ (record { at = start; text = part h start i }) ∷ lines_from (start + length (part h start i) + 1) [] (drop (i + 1) h) = rw yes refl in
    ap (lines_from start (part h start i)) (drop_more h i 0 lt) ∙ next
    ∙ ap (λ (n : ℕ). (record { at = start; text = part h start i }) ∷ lines_from n [] (drop (i + 1) h)) place
    ∙ ap (λ (w : List ℕ). (record { at = start; text = part h start i }) ∷ lines_from (i + 1) w (drop (i + 1) h)) (sym (part_none h (i + 1)))

pub starts : (h : List ℕ) → lines_from 16 (part h 16 16) (drop 16 h) ≡ all_lines h
unfolding all_lines
starts h = refl

-- a line that does not end them
pub not_end : (h : List ℕ) (start i : ℕ) → start ≤ i → i < length h → get_or h i 0 ≡ 10 → bytes_eq (part h start i) (codes "end_head") ≡ false
    → list_any is_end (lines_from (i + 1) (part h (i + 1) (i + 1)) (drop (i + 1) h)) ≡ list_any is_end (lines_from start (part h start i) (drop i h))
not_end h start i le lt feed other =
    let next : list_any is_end ((record { at = start; text = part h start i }) ∷ lines_from (i + 1) (part h (i + 1) (i + 1)) (drop (i + 1) h)) ≡ list_any is_end (lines_from (i + 1) (part h (i + 1) (i + 1)) (drop (i + 1) h)) = rw other refl in
    sym (ap (list_any is_end) (line_ends h start i le lt feed) ∙ next)

pub before_goes_on : (h : List ℕ) (start i : ℕ) → start ≤ i → i < length h → get_or h i 0 ≡ 10 → bytes_eq (part h start i) (codes "end_head") ≡ false
    → before_end (lines_from start (part h start i) (drop i h)) ≡ (record { at = start; text = part h start i }) ∷ before_end (lines_from (i + 1) (part h (i + 1) (i + 1)) (drop (i + 1) h))
before_goes_on h start i le lt feed other =
    let next : before_end ((record { at = start; text = part h start i }) ∷ lines_from (i + 1) (part h (i + 1) (i + 1)) (drop (i + 1) h)) ≡ (record { at = start; text = part h start i }) ∷ before_end (lines_from (i + 1) (part h (i + 1) (i + 1)) (drop (i + 1) h)) = rw other refl in
    ap before_end (line_ends h start i le lt feed) ∙ next

pub before_stops : (h : List ℕ) (start i : ℕ) → start ≤ i → i < length h → get_or h i 0 ≡ 10 → bytes_eq (part h start i) (codes "end_head") ≡ true
    → before_end (lines_from start (part h start i) (drop i h)) ≡ []
before_stops h start i le lt feed is =
    let next : before_end ((record { at = start; text = part h start i }) ∷ lines_from (i + 1) (part h (i + 1) (i + 1)) (drop (i + 1) h)) ≡ [] = rw is refl in
    ap before_end (line_ends h start i le lt feed) ∙ next

pub is_end_there : (h : List ℕ) (start i : ℕ) → start ≤ i → i < length h → get_or h i 0 ≡ 10 → bytes_eq (part h start i) (codes "end_head") ≡ true
    → list_any is_end (lines_from start (part h start i) (drop i h)) ≡ true
is_end_there h start i le lt feed is =
    let next : list_any is_end ((record { at = start; text = part h start i }) ∷ lines_from (i + 1) (part h (i + 1) (i + 1)) (drop (i + 1) h)) ≡ true = rw is refl in
    ap (list_any is_end) (line_ends h start i le lt feed) ∙ next

pub float_passed : (h : List ℕ) (start i : ℕ) → start ≤ i → i < length h → get_or h i 0 ≡ 10 → bytes_eq (part h start i) (codes "end_head") ≡ false → begins (codes "sample_rate -r ") (part h start i) ≡ false
    → list_any is_float (before_end (lines_from (i + 1) (part h (i + 1) (i + 1)) (drop (i + 1) h))) ≡ list_any is_float (before_end (lines_from start (part h start i) (drop i h)))
float_passed h start i le lt feed other none =
    let next : list_any is_float ((record { at = start; text = part h start i }) ∷ before_end (lines_from (i + 1) (part h (i + 1) (i + 1)) (drop (i + 1) h))) ≡ list_any is_float (before_end (lines_from (i + 1) (part h (i + 1) (i + 1)) (drop (i + 1) h))) = rw none refl in
    sym (ap (list_any is_float) (before_goes_on h start i le lt feed other) ∙ next)

pub float_there : (h : List ℕ) (start i : ℕ) → start ≤ i → i < length h → get_or h i 0 ≡ 10 → bytes_eq (part h start i) (codes "end_head") ≡ false → begins (codes "sample_rate -r ") (part h start i) ≡ true
    → list_any is_float (before_end (lines_from start (part h start i) (drop i h))) ≡ true
float_there h start i le lt feed other is =
    let next : list_any is_float ((record { at = start; text = part h start i }) ∷ before_end (lines_from (i + 1) (part h (i + 1) (i + 1)) (drop (i + 1) h))) ≡ true = rw is refl in
    ap (list_any is_float) (before_goes_on h start i le lt feed other) ∙ next

-- a line with another name, and one with the name
pub name_passed : (word h : List ℕ) (start i : ℕ) → start ≤ i → i < length h → get_or h i 0 ≡ 10 → bytes_eq (part h start i) (codes "end_head") ≡ false → has_name word (part h start i) ≡ false
    → are_named word (before_end (lines_from (i + 1) (part h (i + 1) (i + 1)) (drop (i + 1) h))) ≡ are_named word (before_end (lines_from start (part h start i) (drop i h)))
name_passed word h start i le lt feed other none =
    let next : are_named word ((record { at = start; text = part h start i }) ∷ before_end (lines_from (i + 1) (part h (i + 1) (i + 1)) (drop (i + 1) h))) ≡ are_named word (before_end (lines_from (i + 1) (part h (i + 1) (i + 1)) (drop (i + 1) h))) = rw none refl in
    sym (ap (are_named word) (before_goes_on h start i le lt feed other) ∙ next)

pub name_there : (word h : List ℕ) (start i : ℕ) → start ≤ i → i < length h → get_or h i 0 ≡ 10 → bytes_eq (part h start i) (codes "end_head") ≡ false → has_name word (part h start i) ≡ true
    → are_named word (before_end (lines_from start (part h start i) (drop i h))) ≡ (record { at = start; text = part h start i }) ∷ are_named word (before_end (lines_from (i + 1) (part h (i + 1) (i + 1)) (drop (i + 1) h)))
name_there word h start i le lt feed other is =
    let next : are_named word ((record { at = start; text = part h start i }) ∷ before_end (lines_from (i + 1) (part h (i + 1) (i + 1)) (drop (i + 1) h))) ≡ (record { at = start; text = part h start i }) ∷ are_named word (before_end (lines_from (i + 1) (part h (i + 1) (i + 1)) (drop (i + 1) h))) = rw is refl in
    ap (are_named word) (before_goes_on h start i le lt feed other) ∙ next
