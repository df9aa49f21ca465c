-- The words of a line of a script. Only the space, 0x20, separates words.
use Rattle.std.specs.Prelude.{◌≡◌, ℕ, Bool, true, false, ◌==◌, List, [], ◌∷◌, ◌-◌, drop, length, take}
use Rattle.std.specs.List.{filter, slice_split, prefix_len, suffix_len, position_or_len}

abbrev pub is_space : ℕ → Bool
is_space c = c == 32

abbrev pub is_filled : List ℕ → Bool
is_filled [] = false
is_filled (c ∷ cs) = true

-- the words of a text: the text cut at each space, and the empty pieces dropped
unfoldable pub words : List ℕ → List (List ℕ)
words text = filter is_filled (slice_split is_space text)

-- a text of these five words
abbrev pub AreFive : List ℕ → List ℕ → List ℕ → List ℕ → List ℕ → List ℕ → Type 0
AreFive text first second third fourth fifth = words text ≡ first ∷ second ∷ third ∷ fourth ∷ fifth ∷ []

-- a text without the spaces at its front
abbrev pub without_spaces : List ℕ → List ℕ
without_spaces text = drop (prefix_len is_space text) text

-- what stands behind the first word of a text, from the space on that ends the word
unfoldable pub behind_word : List ℕ → List ℕ
behind_word text = drop (position_or_len is_space (without_spaces text)) (without_spaces text)

-- a text without the spaces at its end
abbrev pub trimmed : List ℕ → List ℕ
trimmed text = take (length text - suffix_len is_space text) text
