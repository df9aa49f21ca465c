-- Inputs one after the other.
use Rattle.std.proofs.Common.{◌≡◌, ℕ, zero, suc, ◌+◌, ◌<◌, Bool, cond, true, false, List, [], ◌∷◌, ◌++◌, All, Option, None, Some, length, Result, Ok, Err, slice_get, get_or, take, map, inl, inr, refl, sym, ◌∙◌, ap, arith}
use Rattle.std.proofs.lemmas.Bool.{cases_lt, le-ltb, lt-ltb}
use Rattle.std.proofs.lemmas.List.Sums.{fails_before_first, position_or_len_is}
use Rattle.std.proofs.lemmas.Option.{get_or_from_slice_get, slice_get_within}
use Rattle.std.specs.List.{position_or_len}
use Rattle.std.specs.Prelude.{nat_lt}
use Rattle.snd_disk.specs.Shelf.{Files}
use Rattle.snd_layout.specs.Shape.{Shape}
use Rattle.snd_lines.specs.declared.refusal.Refusal.{Refusal}
use Rattle.snd_edits.specs.Editing.{Editing}
use Rattle.snd_inputs.specs.Inputs.{first_bad, input_before, input_in, inputs_in, is_bad}
use Rattle.snd_inputs.specs.Looking.{all_seen, seen_of}

-- what is seen behind one that is opened
seen_behind : (name : List ℕ) (e : Editing) (rs : Result (List Editing) (List ℕ × Refusal)) (hs : List Shape) → all_seen rs ≡ Ok hs → all_seen (input_before name (Ok e) rs) ≡ Ok (e.shape ∷ hs)
seen_behind name e (Ok es) hs seen = let is : map (λ (e : Editing). e.shape) es ≡ hs = cc in ap (λ (l : List Shape). Ok (e.shape ∷ l)) is
seen_behind name e (Err refused) hs seen = absurd (cc)

-- what is seen of one
one_seen : (name : List ℕ) (r : Result Editing Refusal) (h : Shape) → seen_of r ≡ Ok h → all_seen (input_before name r (Ok [])) ≡ Ok (h ∷ [])
one_seen name (Ok e) h seen = let is : e.shape ≡ h = cc in ap (λ (g : Shape). Ok (g ∷ [])) is
one_seen name (Err why) h seen = absurd (cc)

take_after_first : {X : Type 0} (x : X) (xs : List X) (at : ℕ) → take (suc at + 1) (x ∷ xs) ≡ x ∷ take (at + 1) xs
take_after_first x xs at = let next : suc at + 1 ≡ suc (at + 1) = omega arith in ap (λ n. take n (x ∷ xs)) next

module _ (files : Files) where
  -- behind those that are opened, the first that is not
  refused_behind : (x : List ℕ) (xs front : List (List ℕ)) (name : List ℕ) (why : Refusal) (hs : List Shape) (r : Result Editing Refusal) (rs : Result (List Editing) (List ℕ × Refusal))
      → input_in (files x) ≡ r → inputs_in files front ≡ rs → all_seen (input_before x r rs) ≡ Ok hs
      → ((hs : List Shape) → all_seen (inputs_in files front) ≡ Ok hs → inputs_in files xs ≡ Err (name, why)) → inputs_in files (x ∷ xs) ≡ Err (name, why)
  refused_behind x xs front name why hs (Err other) rs r_is rs_is seen later = absurd (cc)
  refused_behind x xs front name why hs (Ok e) (Err other) r_is rs_is seen later = absurd (cc)
  refused_behind x xs front name why hs (Ok e) (Ok es) r_is rs_is seen later =
      ap (λ (r : Result Editing Refusal). input_before x r (inputs_in files xs)) r_is ∙ ap (input_before x (Ok e)) (later (map (λ (e : Editing). e.shape) es) (ap all_seen rs_is))

  pub refused_at : (names : List (List ℕ)) (at : ℕ) (name : List ℕ) (why : Refusal) (hs : List Shape) → slice_get names at ≡ Some name → all_seen (inputs_in files (take at names)) ≡ Ok hs
      → input_in (files name) ≡ Err why → inputs_in files names ≡ Err (name, why)
  refused_at [] at name why hs there seen is = absurd (cc)
  refused_at (x ∷ xs) zero name why hs there seen is =
      let same : x ≡ name = cc in
      ap (λ (n : List ℕ). input_before n (input_in (files n)) (inputs_in files xs)) same ∙ ap (λ (r : Result Editing Refusal). input_before name r (inputs_in files xs)) is
  refused_at (x ∷ xs) (suc at) name why hs there seen is =
      refused_behind x xs (take at xs) name why hs (input_in (files x)) (inputs_in files (take at xs)) refl refl seen (λ hs' seen'. refused_at xs at name why hs' there seen' is)

  -- one more that is opened
  next_behind : (x : List ℕ) (front more : List (List ℕ)) (h : Shape) (hs : List Shape) (r : Result Editing Refusal) (rs : Result (List Editing) (List ℕ × Refusal))
      → input_in (files x) ≡ r → inputs_in files front ≡ rs → all_seen (input_before x r rs) ≡ Ok hs
      → ((hs : List Shape) → all_seen (inputs_in files front) ≡ Ok hs → all_seen (inputs_in files more) ≡ Ok (hs ++ h ∷ [])) → all_seen (inputs_in files (x ∷ more)) ≡ Ok (hs ++ h ∷ [])
  next_behind x front more h hs (Err other) rs r_is rs_is seen later = absurd (cc)
  next_behind x front more h hs (Ok e) (Err other) r_is rs_is seen later = absurd (cc)
  next_behind x front more h hs (Ok e) (Ok es) r_is rs_is seen later =
      let shapes = map (λ (e : Editing). e.shape) es in
      let whole : e.shape ∷ shapes ≡ hs = cc in
      ap (λ (r : Result Editing Refusal). all_seen (input_before x r (inputs_in files more))) r_is
      ∙ seen_behind x e (inputs_in files more) (shapes ++ h ∷ []) (later shapes (ap all_seen rs_is)) ∙ ap (λ (l : List Shape). Ok (l ++ h ∷ [])) whole

  pub seen_next : (names : List (List ℕ)) (at : ℕ) (name : List ℕ) (h : Shape) (hs : List Shape) → slice_get names at ≡ Some name → all_seen (inputs_in files (take at names)) ≡ Ok hs
      → seen_of (input_in (files name)) ≡ Ok h → all_seen (inputs_in files (take (at + 1) names)) ≡ Ok (hs ++ h ∷ [])
  seen_next [] at name h hs there seen is = absurd (cc)
  seen_next (x ∷ xs) zero name h hs there seen is =
      let same : x ≡ name = cc in
      let none : [] ≡ hs = cc in
      one_seen x (input_in (files x)) h (ap (λ (n : List ℕ). seen_of (input_in (files n))) same ∙ is) ∙ ap (λ (l : List Shape). Ok (l ++ h ∷ [])) none
  seen_next (x ∷ xs) (suc at) name h hs there seen is =
      ap (λ (l : List (List ℕ)). all_seen (inputs_in files l)) (take_after_first x xs at)
      ∙ next_behind x (take at xs) (take (at + 1) xs) h hs (input_in (files x)) (inputs_in files (take at xs)) refl refl seen (λ hs' seen'. seen_next xs at name h hs' there seen' is)

  -- ---- the files of names that are all opened

  opened_behind : (x : List ℕ) (xs : List (List ℕ)) (es : List Editing) (r : Result Editing Refusal) (rs : Result (List Editing) (List ℕ × Refusal))
      → input_in (files x) ≡ r → inputs_in files xs ≡ rs → input_before x r rs ≡ Ok es
      → (e : Editing) × (others : List Editing) × (es ≡ e ∷ others) × (input_in (files x) ≡ Ok e) × (inputs_in files xs ≡ Ok others)
  opened_behind x xs es (Err why) rs r_is rs_is all = absurd (cc)
  opened_behind x xs es (Ok e) (Err refused) r_is rs_is all = absurd (cc)
  opened_behind x xs es (Ok e) (Ok others) r_is rs_is all = (e, others, (let is : es ≡ e ∷ others = cc in is), r_is, rs_is)

  pub input_at : (names : List (List ℕ)) (es : List Editing) (at : ℕ) (name : List ℕ) → inputs_in files names ≡ Ok es → slice_get names at ≡ Some name
      → (e : Editing) × (slice_get es at ≡ Some e) × (input_in (files name) ≡ Ok e)
  input_at [] es at name all there = absurd (cc)
  input_at (x ∷ xs) es zero name all there =
      let first = opened_behind x xs es (input_in (files x)) (inputs_in files xs) refl refl all in
      let same : x ≡ name = cc in
      (first.0, ap (λ (l : List Editing). slice_get l zero) first.2, ap (λ (n : List ℕ). input_in (files n)) (sym same) ∙ first.3)
  input_at (x ∷ xs) es (suc at) name all there =
      let first = opened_behind x xs es (input_in (files x)) (inputs_in files xs) refl refl all in
      let later = input_at xs first.1 at name first.4 there in
      (later.0, ap (λ (l : List Editing). slice_get l (suc at)) first.2 ∙ later.1, later.2)

  pub length-inputs : (names : List (List ℕ)) (es : List Editing) → inputs_in files names ≡ Ok es → length es ≡ length names
  length-inputs [] es all = let none : [] ≡ es = cc in ap length (sym none)
  length-inputs (x ∷ xs) es all =
      let first = opened_behind x xs es (input_in (files x)) (inputs_in files xs) refl refl all in
      ap length first.2 ∙ ap suc (length-inputs xs first.1 first.4)

-- ---- files that are the same under some names

pub same_inputs : (files files' : Files) (names : List (List ℕ)) → All (λ n. files' n ≡ files n) names → inputs_in files' names ≡ inputs_in files names
same_inputs files files' [] same = refl
same_inputs files files' (x ∷ xs) same =
    ap (λ (o : Option (List ℕ)). input_before x (input_in o) (inputs_in files' xs)) (same 0 x (omega arith))
    ∙ ap (input_before x (input_in (files x))) (same_inputs files files' xs (λ k d lt. same (suc k) d (omega (arith, lt))))

-- what is seen of one says what it is
pub seen_err : (r : Result Editing Refusal) (why : Refusal) → Err why ≡ seen_of r → r ≡ Err why
seen_err (Ok e) why is = absurd (cc)
seen_err (Err other) why is = let same : other ≡ why = cc in ap (λ (x : Refusal). Err x) same

pub opened_same : (r : Result Editing Refusal) (e f : Editing) → r ≡ Ok e → r ≡ Ok f → e ≡ f
opened_same (Ok x) e f is is' = cc
opened_same (Err why) e f is is' = absurd (cc)

-- ---- the first file with a bad block

pub bad_first : (es : List Editing) (at : ℕ) (e : Editing) → slice_get es at ≡ Some e → is_bad e ≡ true → ((k : ℕ) (d : Editing) → k < at → is_bad (get_or es k d) ≡ false) → Some at ≡ first_bad es
bad_first es at e there bad none =
    let within : at < length es = slice_get_within es at e there in
    let this : is_bad (get_or es at e) ≡ true = ap is_bad (get_or_from_slice_get es at e e there) ∙ bad in
    let is : position_or_len is_bad es ≡ at = position_or_len_is is_bad es at e (omega (arith, within)) (λ k lt. none k e lt) (λ lt. this) in
    sym (ap (λ (n : ℕ). cond (nat_lt n (length es)) (Some n) None) is ∙ ap (λ (t : Bool). cond t (Some at) None) (lt-ltb at (length es) within))

none_found : (es : List Editing) (d : Editing) → ((k : ℕ) (d : Editing) → k < length es → is_bad (get_or es k d) ≡ false) → None ≡ first_bad es
none_found es d none =
    let is : position_or_len is_bad es ≡ length es = position_or_len_is is_bad es (length es) d (omega arith) (λ k lt. none k d lt) (λ lt. absurd (omega (arith, lt))) in
    sym (ap (λ (n : ℕ). cond (nat_lt n (length es)) (Some n) None) is ∙ ap (λ (t : Bool). cond t (Some (length es)) None) (le-ltb (length es) (length es) (omega arith)))

pub bad_none : (es : List Editing) → ((k : ℕ) (d : Editing) → k < length es → is_bad (get_or es k d) ≡ false) → None ≡ first_bad es
bad_none [] none = refl
bad_none (e ∷ es) none = none_found (e ∷ es) e none

-- where there is none, none has one
pub none_bad : (es : List Editing) → first_bad es ≡ None → (k : ℕ) (d : Editing) → k < length es → is_bad (get_or es k d) ≡ false
none_bad es none k d lt = elim (cases_lt (position_or_len is_bad es) (length es)) [
  | inl found ↦ absurd (
      let is : first_bad es ≡ Some (position_or_len is_bad es) = ap (λ (t : Bool). cond t (Some (position_or_len is_bad es)) None) (lt-ltb (position_or_len is_bad es) (length es) found) in
      let no : ◌≡◌ {A = Option ℕ} None (Some (position_or_len is_bad es)) = sym none ∙ is in
      cc)
  | inr past ↦ fails_before_first is_bad es k d (omega (arith, lt, past))
]
