-- Pairs of words.
use Rattle.std.proofs.Common.{◌≡◌, ℕ, zero, suc, inl, inr, ◌+◌, ◌*◌, ◌<◌, ◌≤◌, Bool, true, false, List, [], ◌∷◌, Option, Some, None, option_map, slice_get, get_or, length, drop, refl, sym, ap, subst, ◌∙◌, arith}
use Rattle.std.proofs.Math.Seq.{drop-cons}
use Rattle.std.proofs.lemmas.Bool.{cases_lt}
use Rattle.std.proofs.lemmas.List.{length-drop}
use Rattle.std.proofs.lemmas.Option.{slice_get-get_or, slice_get-map}
use Rattle.std.specs.List.{list_any}
use Rattle.std.specs.Option.{is_some, option_and_then}
use Rattle.std.specs.Str.{bytes_eq}
use Rattle.snd_words.specs.Metadata.{are_distinct, option_pairs, options_in}
use Rattle.snd_words.specs.Options.{all_of, is_option}
use Rattle.snd_words.proofs.Runs.{both, drop_get, get_drop}

-- a pair at the front, where its first word is an option
first_pair : (o t : List ℕ) (ws : List (List ℕ)) → is_option o ≡ true → option_pairs (o ∷ t ∷ ws) ≡ (o, t) ∷ option_pairs ws
first_pair o t ws option = rw option refl

no_pair : (o t : List ℕ) (ws : List (List ℕ)) → is_option o ≡ false → option_pairs (o ∷ t ∷ ws) ≡ []
no_pair o t ws other = rw other refl

-- the words of a pair stand beside each other
PairsAt : List (List ℕ) → List (List ℕ × List ℕ) → Type 0
PairsAt ws ps = (k m : ℕ) → m ≡ 2 * k → k < length ps → slice_get ps k ≡ both (slice_get ws m) (slice_get ws (m + 1))

pairs_at_more : (o t : List ℕ) (ws : List (List ℕ)) (ps : List (List ℕ × List ℕ)) → PairsAt ws ps → PairsAt (o ∷ t ∷ ws) ((o, t) ∷ ps)
unfolding PairsAt
pairs_at_more o t ws ps at zero zero e lt = refl
pairs_at_more o t ws ps at zero (suc m) e lt = absurd (omega (arith, e))
pairs_at_more o t ws ps at (suc k) zero e lt = absurd (omega (arith, e))
pairs_at_more o t ws ps at (suc k) (suc zero) e lt = absurd (omega (arith, e))
pairs_at_more o t ws ps at (suc k) (suc (suc m)) e lt =
    let next : suc (suc m) + 1 ≡ suc (suc (m + 1)) = omega arith in
    rw next (at k m (omega (arith, e)) (omega (arith, lt)))

pairs_at_none : (ws : List (List ℕ)) (ps : List (List ℕ × List ℕ)) → ps ≡ [] → PairsAt ws ps
unfolding PairsAt
pairs_at_none ws ps none k m e lt = absurd (omega (arith, lt, ap length none))

pairs_at : (ws : List (List ℕ)) → PairsAt ws (option_pairs ws)
pairs_at [] = pairs_at_none [] [] refl
pairs_at (o ∷ []) = pairs_at_none (o ∷ []) [] refl
pairs_at (o ∷ t ∷ ws) = by_option (is_option o) refl (pairs_at ws)
  where
    by_option : (b : Bool) → is_option o ≡ b → PairsAt ws (option_pairs ws) → PairsAt (o ∷ t ∷ ws) (option_pairs (o ∷ t ∷ ws))
    by_option true option at = let P : List (List ℕ × List ℕ) → Type 0 = PairsAt (o ∷ t ∷ ws) in subst P (sym (first_pair o t ws option)) (pairs_at_more o t ws (option_pairs ws) at)
    by_option false other at = pairs_at_none (o ∷ t ∷ ws) (option_pairs (o ∷ t ∷ ws)) (no_pair o t ws other)

-- .. behind the command
pub pair_words : (ws : List (List ℕ)) (k : ℕ) → k < length (option_pairs (drop 1 ws))
    → slice_get (option_pairs (drop 1 ws)) k ≡ both (slice_get ws (2 * k + 1)) (slice_get ws (2 * k + 2))
unfolding PairsAt
pair_words ws k lt =
    let one : slice_get (drop 1 ws) (2 * k) ≡ slice_get ws (2 * k + 1) = get_drop ws 1 (2 * k) (2 * k + 1) (omega arith) in
    let two : slice_get (drop 1 ws) (2 * k + 1) ≡ slice_get ws (2 * k + 2) = get_drop ws 1 (2 * k + 1) (2 * k + 2) (omega arith) in
    pairs_at (drop 1 ws) k (2 * k) refl lt ∙ ap (λ o. both o (slice_get (drop 1 ws) (2 * k + 1))) one ∙ ap (both (slice_get ws (2 * k + 1))) two

first_of : (a b : Option (List ℕ)) (p : List ℕ × List ℕ) → both a b ≡ Some p → a ≡ Some p.0
first_of None b p e = cc
first_of (Some a) None p e = cc
first_of (Some a) (Some b) p e =
    let same : (a, b) ≡ p = cc in
    ap (λ q. Some q.0) same

-- the option of a pair
pub option_words : (ws : List (List ℕ)) (k : ℕ) → k < length (option_pairs (drop 1 ws))
    → slice_get ws (2 * k + 1) ≡ slice_get (options_in (option_pairs (drop 1 ws))) k
option_words ws k lt =
    let ps : List (List ℕ × List ℕ) = option_pairs (drop 1 ws) in
    let p : List ℕ × List ℕ = get_or ps k ([], []) in
    let there : slice_get ps k ≡ Some p = slice_get-get_or ps k ([], []) lt in
    first_of (slice_get ws (2 * k + 1)) (slice_get ws (2 * k + 2)) p (sym (pair_words ws k lt) ∙ there)
    ∙ sym (slice_get-map (λ (pair : List ℕ × List ℕ). pair.0) ps k ∙ ap (option_map (λ (pair : List ℕ × List ℕ). pair.0)) there)

-- ---- how many pairs there are

two_at : (ws : List (List ℕ)) (m : ℕ) → m + 1 < length ws → drop m ws ≡ get_or ws m [] ∷ get_or ws (suc m) [] ∷ drop (m + 2) ws
two_at ws m lt =
    let next : suc (suc m) ≡ m + 2 = omega arith in
    drop-cons ws m [] (omega (arith, lt)) ∙ ap (λ l. get_or ws m [] ∷ l) (drop-cons ws (suc m) [] (omega (arith, lt)) ∙ ap (λ n. get_or ws (suc m) [] ∷ drop n ws) next)

one_plus : (p : List ℕ × List ℕ) (ps : List (List ℕ × List ℕ)) → length (p ∷ ps) ≡ 1 + length ps
one_plus p ps = omega arith

pub pairs_more : (ws : List (List ℕ)) (m : ℕ) → m + 1 < length ws → is_option (get_or ws m []) ≡ true
    → length (option_pairs (drop m ws)) ≡ 1 + length (option_pairs (drop (m + 2) ws))
pairs_more ws m lt option =
    let o : List ℕ = get_or ws m [] in
    let t : List ℕ = get_or ws (suc m) [] in
    ap (λ l. length (option_pairs l)) (two_at ws m lt) ∙ ap length (first_pair o t (drop (m + 2) ws) option) ∙ one_plus (o, t) (option_pairs (drop (m + 2) ws))

short : (ws : List (List ℕ)) → length ws ≤ 1 → option_pairs ws ≡ []
short [] le = refl
short (w ∷ []) le = refl
short (v ∷ w ∷ ws) le = absurd (omega (arith, le))

pub pairs_short : (ws : List (List ℕ)) (m : ℕ) → length ws ≤ m + 1 → length (option_pairs (drop m ws)) ≡ 0
pairs_short ws m le = ap length (short (drop m ws) (omega (arith, le, length-drop m ws)))

pub pairs_end : (ws : List (List ℕ)) (m : ℕ) → is_option (get_or ws m []) ≡ false → length (option_pairs (drop m ws)) ≡ 0
pairs_end ws m other =
    elim (cases_lt (m + 1) (length ws)) [
      | inl lt ↦ ap (λ l. length (option_pairs l)) (two_at ws m lt) ∙ ap length (no_pair (get_or ws m []) (get_or ws (suc m) []) (drop (m + 2) ws) other)
      | inr le ↦ pairs_short ws m le
    ]

-- ---- what each element gives

-- the first element, and the others
record Head {W T : Type 0} (form : W → Option T) (p : W) (ps : List W) (xs : List T) : Type 0 where
  first : T
  rest : List T
  of_first : form p ≡ Some first
  of_rest : all_of form ps ≡ Some rest
  is : xs ≡ first ∷ rest

head_of : {W T : Type 0} (form : W → Option T) (p : W) (ps : List W) (xs : List T) (o : Option T) (a : Option (List T)) → form p ≡ o → all_of form ps ≡ a
    → option_and_then (λ x. option_map (λ ys. x ∷ ys) a) o ≡ Some xs → Head form p ps xs
head_of form p ps xs None a eo ea e = let never : ⊥ = cc in absurd never
head_of form p ps xs (Some x) None eo ea e = let never : ⊥ = cc in absurd never
head_of form p ps xs (Some x) (Some ys) eo ea e = record { first = x; rest = ys; of_first = eo; of_rest = ea; is = cc }

head : {W T : Type 0} (form : W → Option T) (p : W) (ps : List W) (xs : List T) → all_of form (p ∷ ps) ≡ Some xs → Head form p ps xs
head form p ps xs e = head_of form p ps xs (form p) (all_of form ps) refl refl e

-- a list of what each element gives, at a place
pub get_all : {W T : Type 0} (form : W → Option T) (ps : List W) (xs : List T) (k : ℕ) → all_of form ps ≡ Some xs
    → slice_get xs k ≡ option_and_then form (slice_get ps k)
get_all form [] [] k e = refl
get_all form [] (x ∷ xs) k e = cc
get_all form (p ∷ ps) xs zero e = let h = head form p ps xs e in ap (λ l. slice_get l 0) h.is ∙ sym h.of_first
get_all form (p ∷ ps) xs (suc k) e = let h = head form p ps xs e in ap (λ l. slice_get l (suc k)) h.is ∙ get_all form ps h.rest k h.of_rest

pub length_all : {W T : Type 0} (form : W → Option T) (ps : List W) (xs : List T) → all_of form ps ≡ Some xs → length xs ≡ length ps
length_all form [] [] e = refl
length_all form [] (x ∷ xs) e = cc
length_all form (p ∷ ps) xs e = let h = head form p ps xs e in ap length h.is ∙ ap suc (length_all form ps h.rest h.of_rest)

with_one : {T : Type 0} (x : T) (a : Option (List T)) → is_some (option_map (λ ys. x ∷ ys) a) ≡ is_some a
with_one x None = refl
with_one x (Some ys) = refl

-- whether each of the elements from a place on gives something
pub all_more : {W T : Type 0} (form : W → Option T) (ps : List W) (k : ℕ) (x : T) → option_and_then form (slice_get ps k) ≡ Some x
    → is_some (all_of form (drop k ps)) ≡ is_some (all_of form (drop (k + 1) ps))
all_more form [] k x e = cc
all_more form (p ∷ ps) zero x e = rw e (with_one x (all_of form ps))
all_more form (p ∷ ps) (suc k) x e =
    let next : suc k + 1 ≡ suc (k + 1) = omega arith in
    all_more form ps k x e ∙ ap (λ n. is_some (all_of form (drop n (p ∷ ps)))) (sym next)

pub all_none : {W T : Type 0} (form : W → Option T) (ps : List W) (k : ℕ) → k < length ps → option_and_then form (slice_get ps k) ≡ None
    → is_some (all_of form (drop k ps)) ≡ false
all_none form [] k lt e = absurd (omega (arith, lt))
all_none form (p ∷ ps) zero lt e = rw e refl
all_none form (p ∷ ps) (suc k) lt e = all_none form ps k (omega (arith, lt)) e

-- ---- words that stand twice

pub any_here : (w x : List ℕ) (ws : List (List ℕ)) (k : ℕ) → slice_get ws k ≡ Some x → bytes_eq w x ≡ true → list_any (bytes_eq w) (drop k ws) ≡ true
any_here w x ws k there same = ap (list_any (bytes_eq w)) (drop_get ws k x there) ∙ rw same refl

pub any_next : (w x : List ℕ) (ws : List (List ℕ)) (k : ℕ) → slice_get ws k ≡ Some x → bytes_eq w x ≡ false
    → list_any (bytes_eq w) (drop k ws) ≡ list_any (bytes_eq w) (drop (k + 1) ws)
any_next w x ws k there other = ap (list_any (bytes_eq w)) (drop_get ws k x there) ∙ rw other refl

pub distinct_not : (x : List ℕ) (ws : List (List ℕ)) (k : ℕ) → slice_get ws k ≡ Some x → list_any (bytes_eq x) (drop (k + 1) ws) ≡ true
    → are_distinct (drop k ws) ≡ false
distinct_not x ws k there again = ap are_distinct (drop_get ws k x there) ∙ rw again refl

pub distinct_next : (x : List ℕ) (ws : List (List ℕ)) (k : ℕ) → slice_get ws k ≡ Some x → list_any (bytes_eq x) (drop (k + 1) ws) ≡ false
    → are_distinct (drop k ws) ≡ are_distinct (drop (k + 1) ws)
distinct_next x ws k there once = ap are_distinct (drop_get ws k x there) ∙ rw once refl
