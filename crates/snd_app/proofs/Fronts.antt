-- What a script that was served in part has put: a front of all its answers.
use Rattle.std.proofs.Common.{◌≡◌, inl, inr, ℕ, ◌+◌, ◌≤◌, List, [], ◌∷◌, ◌++◌, Option, Some, length, take, refl, sym, ◌∙◌, ap, subst, append-nil, append_assoc, arith}
use Rattle.std.proofs.lemmas.List.{places, same_lists, take_all}
use Rattle.snd_disk.specs.Shelf.{ShelfState}
use Rattle.snd_disk.specs.Streams.{AppendsFront}
use Rattle.snd_script.proofs.Public.{texts_append}
use Rattle.snd_rules.specs.Desk.{Desk, Store}
use Rattle.snd_rules.specs.Edit.{Edited}
use Rattle.snd_rules.specs.Script.{texts}
use Rattle.snd_script.specs.Served.{Appends, AppendsPart, FaultCounts, IsFault, StopsAtMemory, Takes, TakesPart, first_text}

take_part : (a b c : List ℕ) (n : ℕ) → n ≤ length b → a ++ take n b ≡ take (length a + n) (a ++ b ++ c)
take_part a b c n few = same_lists _ _ (grind (arith, places)) (λ k d lt. grind (arith, places))

module _ (before after : Option (List ℕ)) where
  pub whole_front : (text : List ℕ) → Appends before after text → AppendsFront before after text
  whole_front text put t told = (length text, omega arith, put t told ∙ ap (λ (l : List ℕ). Some (t ++ l)) (sym (take_all (length text) text (omega arith))))

  pub part_front : (text more others : List ℕ) → AppendsPart before after text more → AppendsFront before after (text ++ more ++ others)
  part_front text more others put t told =
      let part = put t told in
      (length text + part.0, grind (arith, places, part.1), part.2 ∙ ap (λ (l : List ℕ). Some l) (append_assoc t text (take part.0 more)) ∙ ap (λ (l : List ℕ). Some (t ++ l)) (take_part text more others part.0 part.1))

  -- a text alone is one with nothing of another
  no_part : (text more : List ℕ) → Appends before after text → AppendsPart before after text more
  no_part text more put t told = (0, omega arith, put t told ∙ ap (λ (l : List ℕ). Some l) (sym (append-nil (t ++ text))))

-- the answers behind the first one that is left
abbrev texts_behind : List Edited → List ℕ
texts_behind [] = []
texts_behind (step ∷ left) = texts left

first_then : (left : List Edited) → texts left ≡ first_text left ++ texts_behind left
first_then [] = refl
first_then (step ∷ left) = refl

module _ (all left : List Edited) (start desk : Desk) (before after : Option (List ℕ)) where
  texts_are : (done : List Edited) → all ≡ done ++ left → texts done ++ first_text left ++ texts_behind left ≡ texts all
  texts_are done whole = sym (ap texts whole ∙ texts_append done left ∙ ap (λ l. texts done ++ l) (first_then left) ∙ sym (append_assoc (texts done) (first_text left) (texts_behind left)))

  taken_part : TakesPart all left start desk before after → AppendsFront before after (texts all)
  taken_part takes = subst (λ (l : List ℕ). AppendsFront before after l) (texts_are takes.done takes.whole)
      (part_front before after (texts takes.done) (first_text left) (texts_behind left) takes.appended)

  taken : Takes all left start desk before after → AppendsFront before after (texts all)
  taken takes = subst (λ (l : List ℕ). AppendsFront before after l) (texts_are takes.done takes.whole)
      (part_front before after (texts takes.done) (first_text left) (texts_behind left) (no_part before after (texts takes.done) (first_text left) takes.appended))

module _ {S : Type 0} (state : S → ShelfState) (store : Store) (all : List Edited) (before after : Option (List ℕ)) (shelf : S) where
  pub fault_front : (old new : FaultCounts) (more : Option (List ℕ)) → IsFault state store all old new before after more shelf → AppendsFront before after (texts all)
  fault_front old new more (inl (calm, rises, quiet, (left, desk, takes, cut, there))) = taken all left _ desk before after takes
  fault_front old new more (inr (inl (calm, same, rises, (step, left, desk, takes, there)))) = taken_part all (step ∷ left) _ desk before after takes
  fault_front old new more (inr (inr (rises, inl (left, desk, takes, there)))) = taken_part all left _ desk before after takes
  fault_front old new more (inr (inr (rises, inr (step, left, desk, takes, there)))) = taken_part all (step ∷ left) _ desk before after takes

  pub memory_front : StopsAtMemory state store all before after shelf → AppendsFront before after (texts all)
  memory_front (left, desk, takes, there) = taken all left _ desk before after takes
