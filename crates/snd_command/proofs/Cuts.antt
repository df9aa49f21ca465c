-- How a text is cut into words.
use Rattle.std.proofs.Common.{◌≡◌, ℕ, zero, suc, inl, inr, ◌+◌, ◌≤◌, ◌<◌, Bool, true, false, not, List, [], ◌∷◌, length, take, drop, refl, sym, ap, ◌∙◌, arith}
use Rattle.std.proofs.lemmas.Bool.{cases_Bool}
use Rattle.std.proofs.lemmas.List.Sums.{prefix_len-le-length}
use Rattle.std.specs.List.{filter, slice_split, prefix_len, position_or_len}
use Rattle.snd_command.specs.Words.{is_space, is_filled, words, without_spaces}

-- a text is its bytes to the first space, as one piece, and the pieces behind it
pub record CutAt (text : List ℕ) (n : ℕ) : Type 0 where
  pub pieces : List (List ℕ)
  pub cut : slice_split is_space text ≡ take n text ∷ pieces
  pub rest : filter is_filled pieces ≡ filter is_filled (slice_split is_space (drop n text))

one_more : (c n : ℕ) (cs : List ℕ) → is_space c ≡ false → CutAt cs n → CutAt (c ∷ cs) (1 + n)
one_more c n cs other at =
    let next : 1 + n ≡ suc n = omega arith in
    record {
      pieces = at.pieces;
      cut = rw (other, at.cut, next) refl;
      rest = rw next at.rest;
    }

none_more : (c : ℕ) (cs : List ℕ) → is_space c ≡ true → CutAt (c ∷ cs) 0
none_more c cs space =
    record {
      pieces = slice_split is_space cs;
      cut = rw space refl;
      rest = rw space refl;
    }

pub cut_at : (text : List ℕ) → CutAt text (position_or_len is_space text)
cut_at [] = record { pieces = []; cut = refl; rest = refl }
cut_at (c ∷ cs) =
    elim (cases_Bool (is_space c)) [
      | inl space ↦ rw space (none_more c cs space)
      | inr other ↦ rw other (one_more c _ cs other (cut_at cs))
    ]

one_plus : (n : ℕ) → 1 + n ≡ suc n
one_plus n = omega arith

-- the spaces at the front cut off no word
pub words-without_spaces : (text : List ℕ) → words text ≡ words (without_spaces text)
unfolding words
words-without_spaces [] = refl
words-without_spaces (c ∷ cs) =
    elim (cases_Bool (is_space c)) [
      | inl space ↦ rw (space, one_plus (prefix_len is_space cs)) (words-without_spaces cs)
      | inr other ↦
          let same : without_spaces (c ∷ cs) ≡ c ∷ cs = rw other refl in
          ap words (sym same)
    ]

nothing_in : (xs : List ℕ) → length xs ≡ 0 → xs ≡ []
nothing_in [] none = refl
nothing_in (x ∷ xs) none = absurd (omega (arith, none))

pub no_words : (text : List ℕ) → length (without_spaces text) ≡ 0 → words text ≡ []
unfolding words
no_words text none = words-without_spaces text ∙ ap words (nothing_in (without_spaces text) none)

first_kept : (text : List ℕ) (n : ℕ) (pieces : List (List ℕ)) → 0 < n → n ≤ length text → filter is_filled (take n text ∷ pieces) ≡ take n text ∷ filter is_filled pieces
first_kept [] n pieces some within = absurd (omega arith)
first_kept (c ∷ cs) zero pieces some within = absurd (omega arith)
first_kept (c ∷ cs) (suc n) pieces some within = refl

first_of : (text : List ℕ) (n : ℕ) → 0 < n → n ≤ length text → CutAt text n → words text ≡ take n text ∷ words (drop n text)
unfolding words
first_of text n some within at =
    ap (filter is_filled) at.cut ∙ first_kept text n at.pieces some within ∙ ap (λ (rest : List (List ℕ)). take n text ∷ rest) at.rest

word_behind : (c : ℕ) (cs : List ℕ) (b : Bool) → is_space c ≡ b → 0 < length (without_spaces (c ∷ cs)) → (0 < length (without_spaces cs) → 0 < position_or_len is_space (without_spaces cs))
    → 0 < position_or_len is_space (without_spaces (c ∷ cs))
word_behind c cs true space some behind =
    let same : without_spaces (c ∷ cs) ≡ without_spaces cs = rw (space, one_plus (prefix_len is_space cs)) refl in
    rw same (behind (rw same at some))
word_behind c cs false other some behind = rw (other, other) (omega arith)

pub word_there : (text : List ℕ) → 0 < length (without_spaces text) → 0 < position_or_len is_space (without_spaces text)
word_there [] some = absurd (omega (arith, some))
word_there (c ∷ cs) some = word_behind c cs (is_space c) refl some (word_there cs)

-- the first word, and what stands behind it
pub words-next : (text : List ℕ) → 0 < length (without_spaces text)
    → words text ≡ take (position_or_len is_space (without_spaces text)) (without_spaces text) ∷ words (drop (position_or_len is_space (without_spaces text)) (without_spaces text))
words-next text some =
    let inner = without_spaces text in
    words-without_spaces text ∙ first_of inner (position_or_len is_space inner) (word_there text some) (prefix_len-le-length (λ c. not (is_space c)) inner) (cut_at inner)
