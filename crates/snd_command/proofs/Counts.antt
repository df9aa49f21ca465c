-- How many words a text can hold.
use Rattle.std.proofs.Common.{◌≡◌, ℕ, suc, ◌+◌, ◌*◌, ◌≤◌, Bool, true, false, cond, List, [], ◌∷◌, length, refl, arith}
use Rattle.std.specs.List.{filter, slice_split, onto_first}
use Rattle.snd_command.specs.Words.{is_space, is_filled, words}

-- of pieces: how many are filled, where one more is due if the first is
abbrev pub Few : List (List ℕ) → ℕ → Type 0
Few [] n = ⊥
Few (piece ∷ pieces) n = (2 * length (filter is_filled (piece ∷ pieces)) ≤ n + cond (is_filled piece) 1 0)

few_more : (c n : ℕ) (pieces : List (List ℕ)) → Few pieces n → Few (onto_first c pieces) (suc n)
few_more c n [] few = absurd few
few_more c n ([] ∷ pieces) few = omega (arith, few)
few_more c n ((x ∷ xs) ∷ pieces) few = omega (arith, few)

few_at_space : (n : ℕ) (pieces : List (List ℕ)) → Few pieces n → Few ([] ∷ pieces) (suc n)
few_at_space n [] few = absurd few
few_at_space n ([] ∷ pieces) few = omega (arith, few)
few_at_space n ((x ∷ xs) ∷ pieces) few = omega (arith, few)

few_behind : (c : ℕ) (cs : List ℕ) (b : Bool) → is_space c ≡ b → Few (slice_split is_space cs) (length cs) → Few (slice_split is_space (c ∷ cs)) (suc (length cs))
few_behind c cs true space few = rw space (few_at_space (length cs) (slice_split is_space cs) few)
few_behind c cs false other few = rw other (few_more c (length cs) (slice_split is_space cs) few)

few_words : (text : List ℕ) → Few (slice_split is_space text) (length text)
few_words [] = omega arith
few_words (c ∷ cs) = few_behind c cs (is_space c) refl (few_words cs)

at_most_half : (pieces : List (List ℕ)) (n : ℕ) → Few pieces n → 2 * length (filter is_filled pieces) ≤ n + 1
at_most_half [] n few = absurd few
at_most_half ([] ∷ pieces) n few = omega (arith, few)
at_most_half ((x ∷ xs) ∷ pieces) n few = omega (arith, few)

-- every two bytes hold one word at most
pub few : (text : List ℕ) → 2 * length (words text) ≤ length text + 1
unfolding words
few text = at_most_half (slice_split is_space text) (length text) (few_words text)
