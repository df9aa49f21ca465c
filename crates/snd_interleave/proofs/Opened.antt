-- Inputs that are opened one after the other: which names are out, and what is to be done.
use Rattle.std.proofs.Common.{◌≡◌, ◌∙◌, ap, sym, refl, inl, inr, ℕ, zero, suc, ◌+◌, ◌<◌, ◌≤◌, Bool, true, false, cond, ◌||◌, List, [], ◌∷◌, ◌++◌, Option, None, Some, Result, Ok, Err, length, take, drop, get_or, slice_get, arith}
use Rattle.std.proofs.lemmas.Bool.{cases_lt}
use Rattle.std.proofs.lemmas.List.{append-nil, append_assoc, drop_all, get_or_append_left, get_or_at, length-append, take-append-le, take_all}
use Rattle.std.proofs.lemmas.List.Folds.{list_any-append}
use Rattle.std.proofs.lemmas.Option.{get_or_from_slice_get, slice_get-get_or, slice_get_within}
use Rattle.std.specs.List.{list_any}
use Rattle.std.specs.Str.{bytes_eq}
use Rattle.snd_disk.specs.Shelf.{Files, SameFiles, ShelfState, put}
use Rattle.snd_inputs.specs.Inputs.{input_as, input_before, input_in, inputs_in}
use Rattle.snd_lines.specs.declared.refusal.Refusal.{Refusal}
use Rattle.snd_lines.specs.declared.refusal.Refusal.TheVariants.{SameName}
use Rattle.snd_edits.specs.Editing.{Editing, opening_of}
use Rattle.snd_tools.proofs.Public.{apart_back, put_beside}
use Rattle.snd_tools.specs.Done.{Done}
use Rattle.snd_words.specs.Repeats.{first_repeated, is_repeated_at}
use Rattle.snd_interleave.specs.Interleave.{done_beside, done_if_apart, done_with, interleaved}
use Rattle.snd_interleave.specs.Opening.{AreApart, AreOut, done_rest, opened_behind}
use Rattle.snd_words.proofs.Runs.{drop_get, get_drop}
use Rattle.snd_interleave.proofs.Lists.{found_within, none_found, take_more}

-- ---- names

-- where no name is repeated, each is apart from those before it
pub apart_from_none : (inputs : List (List ℕ)) (output : List ℕ) → first_repeated (inputs ++ output ∷ []) ≡ None → AreApart inputs output
unfolding first_repeated
apart_from_none inputs output none at lt = none_found (is_repeated_at (inputs ++ output ∷ [])) 0 (length (inputs ++ output ∷ [])) at none (omega arith) (omega (arith, lt))

or_none : (a b : Bool) → (a || b) ≡ false → (a ≡ false) × (b ≡ false)
or_none true b is = absurd (cc)
or_none false b is = (refl, is)

none_is : (p : List ℕ → Bool) (xs : List (List ℕ)) (at : ℕ) (x : List ℕ) → slice_get xs at ≡ Some x → list_any p xs ≡ false → p x ≡ false
none_is p [] at x there none = absurd (cc)
none_is p (y ∷ ys) zero x there none = let same : y ≡ x = cc in ap p (sym same) ∙ (or_none (p y) (list_any p ys) none).0
none_is p (y ∷ ys) (suc at) x there none = none_is p ys at x there (or_none (p y) (list_any p ys) none).1

front_get : (xs : List (List ℕ)) (k at : ℕ) → at < k → slice_get (take k xs) at ≡ slice_get xs at
front_get xs zero at lt = absurd (omega (arith, lt))
front_get [] (suc k) at lt = refl
front_get (x ∷ xs) (suc k) zero lt = refl
front_get (x ∷ xs) (suc k) (suc at) lt = front_get xs k at (omega (arith, lt))

-- the output's name is none of the inputs'
output_apart : (inputs : List (List ℕ)) (output : List ℕ) → AreApart inputs output → list_any (bytes_eq output) inputs ≡ false
output_apart inputs output apart =
    sym (ap (λ (n : List ℕ). list_any (bytes_eq n) (take (length inputs) (inputs ++ output ∷ []))) (get_or_at inputs output [] [] (length inputs) refl)
    ∙ ap (list_any (bytes_eq output)) (take-append-le (length inputs) inputs (output ∷ []) (omega arith) ∙ take_all (length inputs) inputs (omega arith)))
    ∙ apart (length inputs) (omega (arith, length-append inputs (output ∷ [])))

-- .. and it is in where all of these are out
pub output_in : (inputs : List (List ℕ)) (output : List ℕ) (shelf : ShelfState) (k : ℕ) → AreApart inputs output → length inputs ≤ k → AreOut (take k inputs) shelf → shelf.out output ≡ false
output_in inputs output shelf k apart all out = out output ∙ ap (list_any (bytes_eq output)) (take_all k inputs all) ∙ output_apart inputs output apart

-- no name is there from the end on
pub none_there : (xs : List (List ℕ)) (k : ℕ) → slice_get xs k ≡ None → length xs ≤ k
none_there xs k none = elim (cases_lt k (length xs)) [
  | inl lt ↦ absurd (let never : Some (get_or xs k []) ≡ None = sym (slice_get-get_or xs k [] lt) ∙ none in cc)
  | inr le ↦ le
]

module _ (inputs : List (List ℕ)) (output : List ℕ) (apart : AreApart inputs output) (at : ℕ) (name : List ℕ) (there : slice_get inputs at ≡ Some name) where
  within : at < length inputs
  within = slice_get_within inputs at name there

  named : get_or inputs at [] ≡ name
  named = get_or_from_slice_get inputs at name [] there

  -- it is none of those before it
  pub new_name : list_any (bytes_eq name) (take at inputs) ≡ false
  new_name =
      let lt : at < length (inputs ++ output ∷ []) = omega (arith, within, length-append inputs (output ∷ [])) in
      sym (ap (λ (n : List ℕ). list_any (bytes_eq n) (take at (inputs ++ output ∷ []))) (get_or_append_left inputs (output ∷ []) [] at within ∙ named)
      ∙ ap (list_any (bytes_eq name)) (take-append-le at inputs (output ∷ []) (omega (arith, within))))
      ∙ apart at lt

  -- and not the output's
  pub other_name : bytes_eq name output ≡ false
  other_name =
      apart_back output name (none_is (bytes_eq output) inputs at name there (output_apart inputs output apart))

  -- once it is taken out, one name more is
  pub out_more : (old new : ShelfState) → ((n : List ℕ) → new.out n ≡ cond (bytes_eq n name) true (old.out n)) → AreOut (take at inputs) old → AreOut (take (at + 1) inputs) new
  out_more old new takes out n =
      takes n ∙ ap (cond (bytes_eq n name) true) (out n) ∙ or_of (bytes_eq n name) (list_any (bytes_eq n) (take at inputs))
      ∙ sym (list_any-append (bytes_eq n) (take at inputs) (name ∷ [])) ∙ ap (list_any (bytes_eq n)) (sym (take_more inputs at name there))
    where
      or_of : (t u : Bool) → cond t true u ≡ (u || (t || false))
      or_of true true = refl
      or_of true false = refl
      or_of false true = refl
      or_of false false = refl

-- the names behind one are others
later_apart : (inputs : List (List ℕ)) (output : List ℕ) → AreApart inputs output → (at : ℕ) (name : List ℕ) → slice_get inputs at ≡ Some name → (k : ℕ) (n : List ℕ) → at < k → slice_get inputs k ≡ Some n → bytes_eq n name ≡ false
later_apart inputs output apart at name there k n lt is = none_is (bytes_eq n) (take k inputs) at name (front_get inputs k at lt ∙ there) (new_name inputs output apart k n is)

-- ---- what is to be done

-- files that are the same under the names
same_inputs : (names : List (List ℕ)) (files files' : Files) → ((i : ℕ) (n : List ℕ) → slice_get names i ≡ Some n → files' n ≡ files n) → inputs_in files' names ≡ inputs_in files names
same_inputs [] files files' same = refl
same_inputs (n ∷ names) files files' same =
    ap (λ (o : Option (List ℕ)). input_before n (input_in o) (inputs_in files' names)) (same zero n refl)
    ∙ ap (input_before n (input_in (files n))) (same_inputs names files files' (λ i m is. same (suc i) m is))

behind_one : (es : List Editing) (name : List ℕ) (e : Editing) (r : Result (List Editing) (List ℕ × Refusal)) → opened_behind (es ++ e ∷ []) r ≡ opened_behind es (input_before name (Ok e) r)
behind_one es name e (Err refused) = refl
behind_one es name e (Ok others) = ap Ok (append_assoc es (e ∷ []) others)

module _ (inputs : List (List ℕ)) (output : List ℕ) where
  -- all are open
  pub rest_none : (files : Files) (es : List Editing) → length inputs ≤ length es → done_rest inputs output files es ≡ done_beside inputs output es
  rest_none files es all =
      ap (λ (l : List (List ℕ)). done_with inputs output (opened_behind es (inputs_in files l))) (drop_all (length es) inputs all)
      ∙ ap (done_beside inputs output) (append-nil es)

  module _ (files : Files) (es : List Editing) (name : List ℕ) (there : slice_get inputs (length es) ≡ Some name) where
    -- the next one
    rest_next : done_rest inputs output files es ≡ done_with inputs output (opened_behind es (input_before name (input_in (files name)) (inputs_in files (drop (length es + 1) inputs))))
    rest_next = ap (λ (l : List (List ℕ)). done_with inputs output (opened_behind es (inputs_in files l))) (drop_get inputs (length es) name there)

    -- .. is refused
    pub rest_refused : (why : Refusal) → input_in (files name) ≡ Err why → done_rest inputs output files es ≡ Done.refuses name why
    rest_refused why refused = rest_next ∙ ap (λ (r : Result Editing Refusal). done_with inputs output (opened_behind es (input_before name r (inputs_in files (drop (length es + 1) inputs))))) refused

    -- .. or is taken out, and open beside the others
    pub rest_open : (apart : AreApart inputs output) (files' : Files) (b : List ℕ) (e : Editing) → files name ≡ Some b → SameFiles (put files name None) files' → input_as (opening_of b) ≡ Ok e
        → done_rest inputs output files es ≡ done_rest inputs output files' (es ++ e ∷ [])
    rest_open apart files' b e is out opens =
        rest_next
        ∙ ap (λ (o : Option (List ℕ)). done_with inputs output (opened_behind es (input_before name (input_in o) (inputs_in files (drop (length es + 1) inputs))))) is
        ∙ ap (λ r. done_with inputs output (opened_behind es (input_before name (input_as (opening_of b)) r))) (sym (same_inputs (drop (length es + 1) inputs) files files' same))
        ∙ ap (λ r. done_with inputs output (opened_behind es (input_before name r (inputs_in files' (drop (length es + 1) inputs))))) opens
        ∙ ap (done_with inputs output) (sym (behind_one es name e (inputs_in files' (drop (length es + 1) inputs))))
        ∙ ap (λ (n : ℕ). done_with inputs output (opened_behind (es ++ e ∷ []) (inputs_in files' (drop n inputs)))) (sym (length-append es (e ∷ [])))
      where
        same : (i : ℕ) (n : List ℕ) → slice_get (drop (length es + 1) inputs) i ≡ Some n → files' n ≡ files n
        same i n at =
            let later : slice_get inputs (length es + 1 + i) ≡ Some n = sym (get_drop inputs (length es + 1) i (length es + 1 + i) refl) ∙ at in
            out n ∙ put_beside files name n None (later_apart inputs output apart (length es) name there (length es + 1 + i) n (omega arith) later)

-- ---- where none is open yet

behind_none : (r : Result (List Editing) (List ℕ × Refusal)) → r ≡ opened_behind [] r
behind_none (Err refused) = refl
behind_none (Ok es) = refl

pub none_open : (inputs : List (List ℕ)) (output : List ℕ) (files : Files) → first_repeated (inputs ++ output ∷ []) ≡ None → interleaved inputs output files ≡ done_rest inputs output files []
none_open inputs output files none = ap (done_if_apart inputs output files) none ∙ ap (done_with inputs output) (behind_none (inputs_in files inputs))

-- .. and where a name is repeated
pub repeated : (inputs : List (List ℕ)) (output : List ℕ) (files : Files) (at : ℕ) (name : List ℕ) → first_repeated (inputs ++ output ∷ []) ≡ Some at → name ≡ get_or (inputs ++ output ∷ []) at []
    → interleaved inputs output files ≡ Done.refuses name SameName
repeated inputs output files at name found is = ap (done_if_apart inputs output files) found ∙ ap (λ (n : List ℕ). Done.refuses n SameName) (sym is)

pub repeated_within : (inputs : List (List ℕ)) (output : List ℕ) (at : ℕ) → first_repeated (inputs ++ output ∷ []) ≡ Some at → at < length inputs + 1
unfolding first_repeated
repeated_within inputs output at found =
    let below = found_within (is_repeated_at (inputs ++ output ∷ [])) 0 (length (inputs ++ output ∷ [])) at found in omega (arith, below, length-append inputs (output ∷ []))
