-- From what is said of each name to what is said of all of them.
use Rattle.std.proofs.Common.{◌≡◌, inl, inr, ℕ, zero, suc, ◌+◌, ◌<◌, ◌≤◌, List, [], ◌∷◌, ◌++◌, Option, Some, slice_get, take, drop, max, refl, sym, ◌∙◌, ap, subst, append-nil, append_assoc, arith}
use Rattle.std.proofs.lemmas.Bool.{cases_Bool}
use Rattle.snd_disk.specs.Shelf.{Files, KeepsFiles, SameFiles, ShelfState}
use Rattle.snd_disk.specs.Shelves.{KeepsFileImages}
use Rattle.snd_disk.specs.State.{Rises}
use Rattle.snd_disk.specs.Streams.{AppendsFront}
use Rattle.snd_disk.proofs.Public.{keeps_images_then}
use Rattle.snd_app.specs.Look.{OnlyLooks}
use Rattle.snd_app.specs.declared.look.Found.{Found}
use Rattle.snd_app.specs.Outcome.{found_in, info, is_refused, outcome_of_info, outcome_of_infos}
use Rattle.snd_app.specs.Printed.{Outcome, and_then, says}
use Rattle.snd_app.specs.Run.{AnyRises, Appends, Faults, IsRun, Prints, PrintsFront, SameFaults}
use Rattle.snd_app.proofs.Fronts.{part_front}

-- ---- lists of names

take_next : {X : Type 0} (xs : List X) (at : ℕ) (x : X) → slice_get xs at ≡ Some x → take (at + 1) xs ≡ take at xs ++ x ∷ []
take_next [] at x there = cc
take_next (y ∷ xs) zero x there = let is : y ≡ x = cc in ap (λ z. z ∷ []) is
take_next (y ∷ xs) (suc at) x there =
    let next : suc at + 1 ≡ suc (at + 1) = omega arith in
    ap (λ n. take n (y ∷ xs)) next ∙ ap (λ l. y ∷ l) (take_next xs at x there)

split_at : {X : Type 0} (xs : List X) (at : ℕ) (x : X) → slice_get xs at ≡ Some x → xs ≡ take at xs ++ x ∷ drop (at + 1) xs
split_at [] at x there = cc
split_at (y ∷ xs) zero x there = let is : y ≡ x = cc in ap (λ z. z ∷ xs) is
split_at (y ∷ xs) (suc at) x there =
    let next : suc (at + 1) ≡ suc at + 1 = omega arith in
    ap (λ l. y ∷ l) (split_at xs at x there) ∙ ap (λ n. y ∷ take at xs ++ x ∷ drop n (y ∷ xs)) next

-- ---- the texts of outcomes behind each other, on either sink

module _ (text : Outcome → List ℕ) (none : text (says []) ≡ []) (joins : (one other : Outcome) → text (and_then one other) ≡ text one ++ text other) (files : Files) where
  text_append : (xs ys : List (List ℕ)) → text (outcome_of_infos (xs ++ ys) files) ≡ text (outcome_of_infos xs files) ++ text (outcome_of_infos ys files)
  text_append [] ys = sym (ap (λ t. t ++ text (outcome_of_infos ys files)) none)
  text_append (x ∷ xs) ys =
      joins _ _ ∙ ap (λ t. text (outcome_of_info x files) ++ t) (text_append xs ys) ∙ sym (append_assoc (text (outcome_of_info x files)) _ _)
      ∙ sym (ap (λ t. t ++ text (outcome_of_infos ys files)) (joins (outcome_of_info x files) (outcome_of_infos xs files)))

  module _ (names : List (List ℕ)) (at : ℕ) (name : List ℕ) (there : slice_get names at ≡ Some name) where
    text_next : text (outcome_of_infos (take (at + 1) names) files) ≡ text (outcome_of_infos (take at names) files) ++ text (outcome_of_info name files)
    text_next =
        ap (λ l. text (outcome_of_infos l files)) (take_next names at name there) ∙ text_append (take at names) (name ∷ [])
        ∙ ap (λ t. text (outcome_of_infos (take at names) files) ++ t) (joins _ _ ∙ ap (λ t. text (outcome_of_info name files) ++ t) none ∙ append-nil _)

    text_split : text (outcome_of_infos names files)
        ≡ text (outcome_of_infos (take at names) files) ++ text (outcome_of_info name files) ++ text (outcome_of_infos (drop (at + 1) names) files)
    text_split =
        ap (λ l. text (outcome_of_infos l files)) (split_at names at name there) ∙ text_append (take at names) (name ∷ drop (at + 1) names)
        ∙ ap (λ t. text (outcome_of_infos (take at names) files) ++ t) (joins _ _) ∙ sym (append_assoc (text (outcome_of_infos (take at names) files)) _ _)

    -- a sink that had the texts so far, and then this one, or a front of it
    module _ (a b c : Option (List ℕ)) (so_far : Appends (record { before = a; after = b }) (text (outcome_of_infos (take at names) files))) where
      appends_next : Appends (record { before = b; after = c }) (text (outcome_of_info name files)) → Appends (record { before = a; after = c }) (text (outcome_of_infos (take (at + 1) names) files))
      appends_next next t told =
          next _ (so_far t told) ∙ ap (λ (l : List ℕ). Some l) (append_assoc t _ _) ∙ ap (λ (l : List ℕ). Some (t ++ l)) (sym text_next)

      front_next : AppendsFront b c (text (outcome_of_info name files)) → AppendsFront a c (text (outcome_of_infos names files))
      front_next next = subst (λ (l : List ℕ). AppendsFront a c l) (sym text_split)
          (part_front a c _ _ (text (outcome_of_infos (drop (at + 1) names) files)) (λ t told. next _ (so_far t told)))

status_append : (xs ys : List (List ℕ)) (files : Files) → (outcome_of_infos (xs ++ ys) files).status ≡ max (outcome_of_infos xs files).status (outcome_of_infos ys files).status
status_append [] ys files = omega arith
status_append (x ∷ xs) ys files = let so_far = status_append xs ys files in omega (arith, so_far)

-- what is said of one file has the status 0 or 1
info_status : (name : List ℕ) (found : Found) → (info name found).status ≤ 1
info_status name found = elim (cases_Bool (is_refused found)) [
  | inl refused ↦ rw refused (omega arith)
  | inr sound ↦ rw sound (omega arith)
]

-- ---- counts of faults

pub any_rises_from : (old mid new : Faults) → SameFaults old mid → AnyRises mid new → AnyRises old new
any_rises_from old mid new calm (inl rises) = inl (subst (λ (n : ℕ). Rises n new.shelf) calm.shelf rises)
any_rises_from old mid new calm (inr (inl rises)) = inr (inl (subst (λ (n : ℕ). Rises n new.script) calm.script rises))
any_rises_from old mid new calm (inr (inr (inl rises))) = inr (inr (inl (subst (λ (n : ℕ). Rises n new.out) calm.out rises)))
any_rises_from old mid new calm (inr (inr (inr rises))) = inr (inr (inr (subst (λ (n : ℕ). Rises n new.err) calm.err rises)))

pub calm_then : (old mid new : Faults) → SameFaults old mid → SameFaults mid new → SameFaults old new
calm_then old mid new first second = record {
  shelf = second.shelf ∙ first.shelf;
  script = second.script ∙ first.script;
  out = second.out ∙ first.out;
  err = second.err ∙ first.err;
}

-- ---- the shelf

pub kept_then : (a b c : ShelfState) → KeepsFiles a b → KeepsFiles b c → KeepsFiles a c
kept_then a b c first second f told =
    let mid = first f told in
    let last = second mid.0 mid.1 in
    (last.0, last.1, λ n. last.2 n ∙ mid.2 n)

pub images_then : {S : Type 0} (state : S → ShelfState) (may_leave : S → List ℕ → List ℕ → Type 0) (left_between : S → List ℕ → ℕ → ℕ → List ℕ → Type 0) (a b c : S)
    → KeepsFiles (state a) (state b) → KeepsFileImages state may_leave left_between a b → KeepsFileImages state may_leave left_between b c → KeepsFileImages state may_leave left_between a c
images_then state may_leave left_between a b c files first second f n bytes told is =
    let mid = files f told in
    keeps_images_then ((state a).clock n) ((state b).clock n) ((state c).clock n) (may_leave a n) (may_leave b n) (may_leave c n) (left_between a n) (left_between b n) (left_between c n)
    (first f n bytes told is) (second mid.0 n bytes mid.1 (mid.2 n ∙ is))

pub looks_then : (names : ℕ) (a b c : ShelfState) → OnlyLooks names a b → OnlyLooks 1 b c → OnlyLooks (names + 1) a c
looks_then names a b c first second = record {
  asked = record { later = omega (arith, first.asked.later, second.asked.later); most = omega (arith, first.asked.most, second.asked.most) };
  written = second.written ∙ first.written;
}

-- what is found in files that are the same
same_info : (name : List ℕ) (f f' : Files) → SameFiles f f' → outcome_of_info name f' ≡ outcome_of_info name f
same_info name f f' same = ap (λ o. info name (found_in o)) (same name)

-- ---- a run over names

module _ (names : List (List ℕ)) (at : ℕ) (name : List ℕ) (there : slice_get names at ≡ Some name) (files : Files) where
  status_next : (outcome_of_infos (take (at + 1) names) files).status ≡ max (outcome_of_info name files).status (outcome_of_infos (take at names) files).status
  status_next =
      let is = ap (λ l. (outcome_of_infos l files).status) (take_next names at name there) ∙ status_append (take at names) (name ∷ []) files in
      omega (arith, is)

  module _ (o o' o'' e e' e'' : Option (List ℕ)) (so_far : Prints (outcome_of_infos (take at names) files) (record { before = o; after = o' }) (record { before = e; after = e' })) where
    prints_next : Prints (outcome_of_info name files) (record { before = o'; after = o'' }) (record { before = e'; after = e'' })
        → Prints (outcome_of_infos (take (at + 1) names) files) (record { before = o; after = o'' }) (record { before = e; after = e'' })
    prints_next next = record {
      on_out = appends_next (λ x. x.out) refl (λ x y. refl) files names at name there o o' o'' so_far.on_out next.on_out;
      on_err = appends_next (λ x. x.err) refl (λ x y. refl) files names at name there e e' e'' so_far.on_err next.on_err;
    }

    prints_stopped : PrintsFront (outcome_of_info name files) (record { before = o'; after = o'' }) (record { before = e'; after = e'' })
        → PrintsFront (outcome_of_infos names files) (record { before = o; after = o'' }) (record { before = e; after = e'' })
    prints_stopped next = record {
      on_out = front_next (λ x. x.out) refl (λ x y. refl) files names at name there o o' o'' so_far.on_out next.on_out;
      on_err = front_next (λ x. x.err) refl (λ x y. refl) files names at name there e e' e'' so_far.on_err next.on_err;
    }

    module _ (one : ℕ) (mid new : Faults) (leaves : Type 0) (files' : Files) (same : SameFiles files files')
        (runs : IsRun one (outcome_of_info name files') mid new (record { before = o'; after = o'' }) (record { before = e'; after = e'' }) leaves) where
      runs_told : IsRun one (outcome_of_info name files) mid new (record { before = o'; after = o'' }) (record { before = e'; after = e'' }) leaves
      runs_told = subst (λ (x : Outcome). IsRun one x mid new (record { before = o'; after = o'' }) (record { before = e'; after = e'' }) leaves) (same_info name files files' same) runs

      -- it goes on behind a file that was described or refused
      pub so_far_next : (status greater : ℕ) → status ≡ (outcome_of_infos (take at names) files).status → greater ≡ max one status → one < 3
          → (greater ≡ (outcome_of_infos (take (at + 1) names) files).status) × Prints (outcome_of_infos (take (at + 1) names) files) (record { before = o; after = o'' }) (record { before = e; after = e'' })
      so_far_next status greater is most low = elim runs_told [
        | inl done ↦ (most ∙ (rw (done.0, is) (sym status_next)), prints_next done.2)
        | inr stopped ↦ elim stopped [
          | inl failed ↦ absurd (let three = failed.0 in omega (arith, three, low))
          | inr memory ↦ absurd (let four = memory.0 in omega (arith, four, low))
        ]
      ]

      -- and stops behind one that failed
      pub stopped_there : (old : Faults) → SameFaults old mid → 3 ≤ one → (leaves' : Type 0)
          → IsRun one (outcome_of_infos names files) old new (record { before = o; after = o'' }) (record { before = e; after = e'' }) leaves'
      stopped_there old calm high leaves' = elim runs_told [
        | inl done ↦ absurd (let is = done.0 in let few = info_status name (found_in (files name)) in omega (arith, is, few, high))
        | inr stopped ↦ elim stopped [
          | inl failed ↦ inr (inl (failed.0, any_rises_from old mid new calm failed.1, prints_stopped failed.2))
          | inr memory ↦ inr (inr (memory.0, prints_stopped memory.1))
        ]
      ]
