-- The samples of codes, some behind others.
use Rattle.std.proofs.Common.{◌≡◌, ◌∙◌, ap, sym, subst, refl, ℕ, ◌+◌, ◌*◌, ◌/◌, ◌%◌, ◌<◌, ◌≤◌, ℤ, List, [], ◌∷◌, ◌++◌, All, length, set, take, get_or, arith}
use Rattle.std.proofs.lemmas.List.{append_assoc, length-set, take_more_set}
use Rattle.std.proofs.lemmas.List.Elements.{All-append, All-cons, All-nil}
use Rattle.snd_ima_adpcm.specs.Frames.{high_half_first}
use Rattle.snd_vox.specs.Vox.{VoxState, vox_next, vox_predictor, vox_samples, vox_state_read}
use Rattle.snd_pcm.specs.Width.{HasWidth}

pub halves_joined : (xs ys : List ℕ) → high_half_first (xs ++ ys) ≡ high_half_first xs ++ high_half_first ys
halves_joined [] ys = refl
halves_joined (x ∷ xs) ys = ap (λ (l : List ℕ). x / 16 ∷ x % 16 ∷ l) (halves_joined xs ys)

pub samples_joined : (s : VoxState) (xs ys : List ℕ) → vox_samples s (xs ++ ys) ≡ vox_samples s xs ++ vox_samples (vox_state_read s xs) ys
samples_joined s [] ys = refl
samples_joined s (x ∷ xs) ys = rw (samples_joined (vox_next s x) xs ys) refl

pub state_joined : (s : VoxState) (xs ys : List ℕ) → vox_state_read s (xs ++ ys) ≡ vox_state_read (vox_state_read s xs) ys
state_joined s [] ys = refl
state_joined s (x ∷ xs) ys = state_joined (vox_next s x) xs ys

count_of_halves : (xs : List ℕ) → length (high_half_first xs) ≡ 2 * length xs
count_of_halves [] = refl
count_of_halves (x ∷ xs) = let e = count_of_halves xs in omega (arith, e)

count_of_each : (s : VoxState) (xs : List ℕ) → length (vox_samples s xs) ≡ length xs
count_of_each s [] = refl
count_of_each s (x ∷ xs) = let e = count_of_each (vox_next s x) xs in omega (arith, e)

-- each byte has two
pub count_of_samples : (s : VoxState) (xs : List ℕ) → length (vox_samples s (high_half_first xs)) ≡ 2 * length xs
count_of_samples s xs = count_of_each s (high_half_first xs) ∙ count_of_halves xs

-- ---- one byte more

pub two_put : (xs : List ℤ) (j : ℕ) (x y : ℤ) → j + 1 < length xs → take (j + 2) (set (set xs j x) (j + 1) y) ≡ take j xs ++ x ∷ y ∷ []
two_put xs j x y within =
    ap (λ (n : ℕ). take n (set (set xs j x) (j + 1) y)) (let e : j + 2 ≡ j + 1 + 1 = omega arith in e)
    ∙ take_more_set (set xs j x) (j + 1) y (omega (arith, within, length-set xs j x))
    ∙ ap (λ (l : List ℤ). l ++ y ∷ []) (take_more_set xs j x (omega (arith, within)))
    ∙ append_assoc (take j xs) (x ∷ []) (y ∷ [])

pub one_read : (s s' : VoxState) (b : ℕ) (rest : List ℕ) (xs all : List ℤ) (j : ℕ) (x y : ℤ) → x ∷ y ∷ [] ≡ vox_samples s (high_half_first (b ∷ [])) → s' ≡ vox_state_read s (high_half_first (b ∷ []))
    → j + 1 < length xs → take j xs ++ vox_samples s (high_half_first (b ∷ rest)) ≡ all → take (j + 2) (set (set xs j x) (j + 1) y) ++ vox_samples s' (high_half_first rest) ≡ all
one_read s s' b rest xs all j x y samples state within so_far =
    ap (λ (l : List ℤ). l ++ vox_samples s' (high_half_first rest)) (two_put xs j x y within)
    ∙ append_assoc (take j xs) (x ∷ y ∷ []) (vox_samples s' (high_half_first rest))
    ∙ ap (λ (l : List ℤ). take j xs ++ (l ++ vox_samples s' (high_half_first rest))) samples
    ∙ ap (λ (t : VoxState). take j xs ++ (vox_samples s (high_half_first (b ∷ [])) ++ vox_samples t (high_half_first rest))) state
    ∙ so_far

pub one_stepped : (s s' last : VoxState) (b : ℕ) (rest : List ℕ) → s' ≡ vox_state_read s (high_half_first (b ∷ [])) → vox_state_read s (high_half_first (b ∷ rest)) ≡ last → vox_state_read s' (high_half_first rest) ≡ last
one_stepped s s' last b rest state so_far = ap (λ (t : VoxState). vox_state_read t (high_half_first rest)) state ∙ so_far

pub two_fit : (xs : List ℤ) (j : ℕ) (x y : ℤ) → j + 1 < length xs → All (HasWidth 16) (take j xs) → HasWidth 16 x → HasWidth 16 y → All (HasWidth 16) (take (j + 2) (set (set xs j x) (j + 1) y))
two_fit xs j x y within fit first second =
    subst (All (HasWidth 16)) (sym (two_put xs j x y within))
    (All-append (HasWidth 16) (take j xs) (x ∷ y ∷ []) fit (All-cons (HasWidth 16) x (y ∷ []) first (All-cons (HasWidth 16) y [] second (All-nil (HasWidth 16)))))
