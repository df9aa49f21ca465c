-- Operations and parts beside a tape, to which more is added.
use Rattle.std.proofs.Common.{◌≡◌, ℕ, ◌+◌, ◌≤◌, List, [], ◌∷◌, ◌++◌, length, take, drop, map, Option, Some, None, option_map, refl, ap, sym, ◌∙◌, arith}
use Rattle.std.specs.List.{All, slice_get}
use Rattle.std.proofs.lemmas.List.{places, same_lists, drop-append-le, drop-drop, map-append, drop-map}
use Rattle.std.proofs.lemmas.List.Elements.{All-head, All-tail, All-drop}
use Rattle.snd_plan.specs.Operations.{Operation, operation_of, tape_end}
use Rattle.snd_plan.specs.declared.planned.Planned.{Planned}
use Rattle.snd_plan.specs.declared.planned.Planned.TheVariants.{Write, Cut, Sync}
use Rattle.snd_plan.specs.Windows.{part_of}
use Rattle.snd_plan.specs.declared.windows.Window.{Window}

-- a tape that grows keeps what stands on it
kept_part : (tape more : List ℕ) (from len : ℕ) → from + len ≤ length tape → take len (drop from (tape ++ more)) ≡ take len (drop from tape)
kept_part tape more from len within = same_lists _ _ (grind (arith, places)) (λ k d lt. grind (arith, places))

kept_one : (tape more : List ℕ) (s : Planned) → tape_end s ≤ length tape → operation_of (tape ++ more) s ≡ operation_of tape s
kept_one tape more (Write at from len) within = ap (Operation.write at) (kept_part tape more from len within)
kept_one tape more (Cut len) within = refl
kept_one tape more Sync within = refl

pub kept_all : (tape more : List ℕ) (steps : List Planned) → All (λ s. tape_end s ≤ length tape) steps
    → map (operation_of (tape ++ more)) steps ≡ map (operation_of tape) steps
kept_all tape more [] within = refl
kept_all tape more (s ∷ steps) within =
    ap (λ o. o ∷ map (operation_of (tape ++ more)) steps) (kept_one tape more s (All-head (λ (s : Planned). tape_end s ≤ length tape) s steps within))
    ∙ ap (λ os. operation_of tape s ∷ os) (kept_all tape more steps (All-tail (λ (s : Planned). tape_end s ≤ length tape) s steps within))

module _ (tape more : List ℕ) (steps : List Planned) (next : ℕ) (within : All (λ s. tape_end s ≤ length tape) steps) where
  -- nothing is noted
  pub same_operations : map (operation_of (tape ++ more)) (drop next steps) ≡ map (operation_of tape) (drop next steps)
  same_operations = kept_all tape more (drop next steps) (All-drop (λ (s : Planned). tape_end s ≤ length tape) next steps within)

  -- one is noted behind the others
  pub one_more : next ≤ length steps → (s : Planned) → map (operation_of (tape ++ more)) (drop next (steps ++ s ∷ []))
      ≡ map (operation_of tape) (drop next steps) ++ operation_of (tape ++ more) s ∷ []
  one_more le s =
      ap (map (operation_of (tape ++ more))) (drop-append-le next steps (s ∷ []) le)
      ∙ map-append (operation_of (tape ++ more)) (drop next steps) (s ∷ [])
      ∙ ap (λ os. os ++ operation_of (tape ++ more) s ∷ []) same_operations

-- the bytes that are added to the tape are those of the write
pub added_part : (tape more : List ℕ) → take (length more) (drop (length tape) (tape ++ more)) ≡ more
added_part tape more = same_lists _ _ (grind (arith, places)) (λ k d lt. grind (arith, places))

module _ (tape tape' bytes : List ℕ) (steps steps' : List Planned) (next at from : ℕ)
    (all : All (λ s. tape_end s ≤ length tape) steps) (within : next ≤ length steps) (longer : tape' ≡ tape ++ bytes) where
  pub write_noted : from ≡ length tape → steps' ≡ steps ++ Write at from (length bytes) ∷ []
      → map (operation_of tape') (drop next steps') ≡ map (operation_of tape) (drop next steps) ++ Operation.write at bytes ∷ []
  write_noted from_is more =
      ap (λ t. map (operation_of t) (drop next steps')) longer
      ∙ ap (λ l. map (operation_of (tape ++ bytes)) (drop next l)) more
      ∙ one_more tape bytes steps next all within (Write at from (length bytes))
      ∙ ap (λ n. map (operation_of tape) (drop next steps) ++ Operation.write at (take (length bytes) (drop n (tape ++ bytes))) ∷ []) from_is
      ∙ ap (λ s. map (operation_of tape) (drop next steps) ++ Operation.write at s ∷ []) (added_part tape bytes)

  pub not_noted : steps' ≡ steps → map (operation_of tape') (drop next steps') ≡ map (operation_of tape) (drop next steps)
  not_noted same =
      ap (λ t. map (operation_of t) (drop next steps')) longer
      ∙ ap (λ l. map (operation_of (tape ++ bytes)) (drop next l)) same
      ∙ same_operations tape bytes steps next all

-- without the first
drop-next : {X : Type 0} (n : ℕ) (xs : List X) → drop (n + 1) xs ≡ drop 1 (drop n xs)
drop-next n xs = sym (drop-drop 1 n xs)

pub one_fewer : (tape : List ℕ) (steps : List Planned) (next : ℕ)
    → map (operation_of tape) (drop (next + 1) steps) ≡ drop 1 (map (operation_of tape) (drop next steps))
one_fewer tape steps next = ap (map (operation_of tape)) (drop-next next steps) ∙ sym (drop-map (operation_of tape) 1 (drop next steps))

-- the first
pub first_taken : (tape : List ℕ) (steps : List Planned) (s : Planned) → slice_get steps 0 ≡ Some s
    → take 1 (map (operation_of tape) steps) ≡ operation_of tape s ∷ []
first_taken tape [] s is = absurd (cc is)
first_taken tape (x ∷ steps) s is = let same : x ≡ s = cc in ap (λ y. operation_of tape y ∷ []) same

module _ (tape : List ℕ) (os : List Operation) (r : Option Planned) (first : option_map (operation_of tape) r ≡ slice_get os 0) where
  pub first_planned : (s : Planned) → r ≡ Some s → take 1 os ≡ operation_of tape s ∷ []
  first_planned s is = among os (sym first ∙ ap (option_map (operation_of tape)) is)
    where
      among : (os : List Operation) → slice_get os 0 ≡ Some (operation_of tape s) → take 1 os ≡ operation_of tape s ∷ []
      among [] is = absurd (cc is)
      among (o ∷ os) is = let same : o ≡ operation_of tape s = cc in ap (λ y. y ∷ []) same

  pub none_planned : r ≡ None → os ≡ []
  none_planned is = among os (sym first ∙ ap (option_map (operation_of tape)) is)
    where
      among : (os : List Operation) → slice_get os 0 ≡ None → os ≡ []
      among [] is = refl
      among (o ∷ os) is = absurd (cc is)

-- parts of a file
kept_parts : (tape more : List ℕ) (ws : List Window) → All (λ w. w.from + w.len ≤ length tape) ws
    → map (part_of (tape ++ more)) ws ≡ map (part_of tape) ws
kept_parts tape more [] within = refl
kept_parts tape more (w ∷ ws) within =
    ap (λ s. (w.at, s) ∷ map (part_of (tape ++ more)) ws) (kept_part tape more w.from w.len (All-head (λ (v : Window). v.from + v.len ≤ length tape) w ws within))
    ∙ ap (λ ps. part_of tape w ∷ ps) (kept_parts tape more ws (All-tail (λ (v : Window). v.from + v.len ≤ length tape) w ws within))

module _ (tape tape' bytes : List ℕ) (ws ws' : List Window) (within : All (λ w. w.from + w.len ≤ length tape) ws) (longer : tape' ≡ tape ++ bytes) where
  pub part_added : (w : Window) → w.from ≡ length tape → w.len ≡ length bytes → ws' ≡ ws ++ w ∷ []
      → map (part_of tape') ws' ≡ map (part_of tape) ws ++ (w.at, bytes) ∷ []
  part_added w from_is len_is more =
      ap (λ t. map (part_of t) ws') longer
      ∙ ap (map (part_of (tape ++ bytes))) more
      ∙ map-append (part_of (tape ++ bytes)) ws (w ∷ [])
      ∙ ap (λ ps. ps ++ part_of (tape ++ bytes) w ∷ []) (kept_parts tape bytes ws within)
      ∙ ap (λ n. map (part_of tape) ws ++ (w.at, take w.len (drop n (tape ++ bytes))) ∷ []) from_is
      ∙ ap (λ n. map (part_of tape) ws ++ (w.at, take n (drop (length tape) (tape ++ bytes))) ∷ []) len_is
      ∙ ap (λ s. map (part_of tape) ws ++ (w.at, s) ∷ []) (added_part tape bytes)

  pub no_part_added : ws' ≡ ws → map (part_of tape') ws' ≡ map (part_of tape) ws
  no_part_added same = ap (λ t. map (part_of t) ws') longer ∙ ap (map (part_of (tape ++ bytes))) same ∙ kept_parts tape bytes ws within
