-- Bytes that were read of a file, and where they stand on a tape.
use Rattle.std.proofs.Common.{◌≡◌, ℕ, ◌+◌, ◌-◌, ◌<◌, ◌≤◌, List, [], ◌∷◌, ◌++◌, length, take, drop, map, get_or, min, Bool, true, false, refl, ap, sym, subst, ◌∙◌, arith}
use Rattle.std.specs.Prelude.{nat_eq, nat_le, ◌||◌, ◌&&◌}
use Rattle.std.specs.List.{All, Contains, list_any}
use Rattle.std.proofs.lemmas.List.{places}
use Rattle.std.proofs.lemmas.List.Elements.{All-cons, All-contains, All-head, All-push, All-tail}
use Rattle.std.proofs.lemmas.Bool.{leb-true}
use Rattle.snd_disk.specs.Runs.{HasAt}
use Rattle.snd_plan.specs.Windows.{HasPart, HasParts, are_held, holds, is_within, part_of}
use Rattle.snd_plan.specs.declared.windows.Window.{Window}
use Rattle.snd_plan.proofs.Carried.{first_of, second_of}

-- part of a window
pub part_read : (b tape : List ℕ) (place from len at n : ℕ) → HasAt b place (take len (drop from tape)) → place ≤ at → at + n ≤ place + len
    → HasAt b at (take n (drop (from + (at - place)) tape))
part_read b tape place from len at n has after before j lt =
    let inside : get_or (take n (drop (from + (at - place)) tape)) j 0 ≡ get_or (take len (drop from tape)) (at - place + j) 0 = grind (arith, places) in
    let same : at + j ≡ place + (at - place + j) = omega (arith, after) in
    let shorter : at - place + j < length (take len (drop from tape)) = grind (arith, places) in
    ap (λ i. get_or b i 0) same ∙ has (at - place + j) shorter ∙ sym inside

pub whole_part : (b x tape tape' : List ℕ) (place from len at n : ℕ) → HasAt b place (take len (drop from tape')) → place ≤ at
    → at + n ≤ place + len → tape ≡ tape'
    → x ≡ take (from + (at - place) + n - (from + (at - place))) (drop (from + (at - place)) tape) → HasAt b at x
whole_part b x tape tape' place from len at n has after before same is =
    let count : from + (at - place) + n - (from + (at - place)) ≡ n = omega arith in
    subst (λ (y : List ℕ). HasAt b at y) (sym (is ∙ ap (λ k. take k (drop (from + (at - place)) tape)) count ∙ ap (λ t. take n (drop (from + (at - place)) t)) same))
    (part_read b tape' place from len at n has after before)

-- where a part lies that is kept beside a tape
pub part_start : (at n : ℕ) (w : Window) → holds at n w ≡ true → w.at ≤ at
part_start at n w is = leb-true w.at at (first_of (nat_le w.at at) (nat_le (at + n) (w.at + w.len)) is)

pub part_end : (at n : ℕ) (w : Window) → holds at n w ≡ true → at + n ≤ w.at + w.len
part_end at n w is = leb-true (at + n) (w.at + w.len) (second_of (nat_le w.at at) (nat_le (at + n) (w.at + w.len)) is)

module _ (tape : List ℕ) where
  part_length : (w : Window) → w.from + w.len ≤ length tape → length (take w.len (drop w.from tape)) ≡ w.len
  part_length w within = grind (arith, places)

  same_part : (at n : ℕ) (w : Window) → w.from + w.len ≤ length tape → holds at n w ≡ is_within at n (part_of tape w)
  same_part at n w within = ap (λ k. nat_le w.at at && nat_le (at + n) (w.at + k)) (sym (part_length w within))

  pub same_parts : (at n : ℕ) (ws : List Window) → All (λ w. w.from + w.len ≤ length tape) ws → list_any (holds at n) ws ≡ are_held (map (part_of tape) ws) at n
  same_parts at n [] within = refl
  same_parts at n (w ∷ ws) within =
      ap (λ b. b || list_any (holds at n) ws) (same_part at n w (All-head (λ (v : Window). v.from + v.len ≤ length tape) w ws within))
      ∙ ap (λ b. is_within at n (part_of tape w) || b) (same_parts at n ws (All-tail (λ (v : Window). v.from + v.len ≤ length tape) w ws within))

  each_part : (b : List ℕ) (ws : List Window) → HasParts b (map (part_of tape) ws) → All (λ w. HasAt b w.at (take w.len (drop w.from tape))) ws
  each_part b [] has = λ k d lt. absurd (omega (arith, lt))
  each_part b (w ∷ ws) has = All-cons (λ (v : Window). HasAt b v.at (take v.len (drop v.from tape))) w ws
      (All-head (HasPart b) (part_of tape w) (map (part_of tape) ws) has) (each_part b ws (All-tail (HasPart b) (part_of tape w) (map (part_of tape) ws) has))

  pub one_part : (b : List ℕ) (ws : List Window) (w : Window) → HasParts b (map (part_of tape) ws) → Contains ws w
      → HasAt b w.at (take w.len (drop w.from tape))
  one_part b ws w has = All-contains (λ (v : Window). HasAt b v.at (take v.len (drop v.from tape))) ws w (each_part b ws has)

-- one part more
or_second : (a b : Bool) → b ≡ true → (a || b) ≡ true
or_second true b is = refl
or_second false b is = is

or_kept : (a b c : Bool) → (b ≡ true → c ≡ true) → (a || b) ≡ true → (a || c) ≡ true
or_kept true b c f is = refl
or_kept false b c f is = f is

module _ (p : ℕ × List ℕ → Bool) where
  any-last : (ps : List (ℕ × List ℕ)) (r : ℕ × List ℕ) → p r ≡ true → list_any p (ps ++ r ∷ []) ≡ true
  any-last [] r is = ap (λ b. b || false) is
  any-last (q ∷ ps) r is = or_second (p q) _ (any-last ps r is)

  any-kept : (ps : List (ℕ × List ℕ)) (r : ℕ × List ℕ) → list_any p ps ≡ true → list_any p (ps ++ r ∷ []) ≡ true
  any-kept [] r is = absurd (cc is)
  any-kept (q ∷ ps) r is = or_kept (p q) (list_any p ps) _ (any-kept ps r) is

module _ (ps ps' : List (ℕ × List ℕ)) (r : ℕ × List ℕ) (at k k' : ℕ) (more : ps' ≡ ps ++ r ∷ []) (same : k' ≡ k) where
  with_more : (nat_eq k' 0 || are_held ps' at k') ≡ (nat_eq k 0 || are_held (ps ++ r ∷ []) at k)
  with_more = ap (λ m. nat_eq m 0 || are_held ps' at m) same ∙ ap (λ l. nat_eq k 0 || are_held l at k) more

  pub given_held : is_within at k r ≡ true → (nat_eq k' 0 || are_held ps' at k') ≡ true
  given_held is = with_more ∙ or_second (nat_eq k 0) _ (any-last (is_within at k) ps r is)

  pub kept_held : (nat_eq k 0 || are_held ps at k) ≡ true → (nat_eq k' 0 || are_held ps' at k') ≡ true
  kept_held is = with_more ∙ or_kept (nat_eq k 0) _ _ (any-kept (is_within at k) ps r) is

pub has_more : (b : List ℕ) (ps ps' : List (ℕ × List ℕ)) (at : ℕ) (bytes : List ℕ) → ps' ≡ ps ++ (at, bytes) ∷ [] → HasParts b ps → HasAt b at bytes
    → HasParts b ps'
has_more b ps ps' at bytes more has one = subst (HasParts b) (sym more) (All-push (HasPart b) ps (at, bytes) has one)

pub same_needs : (at n size size' held held' : ℕ) → size' ≡ size → held' ≡ held
    → min (min n (size' - at)) (held' - at) ≡ min (min n (size - at)) (held - at)
same_needs at n size size' held held' same stands = ap (λ s. min (min n (s - at)) (held' - at)) same ∙ ap (λ h. min (min n (size - at)) (h - at)) stands
