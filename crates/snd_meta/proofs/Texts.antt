-- Texts that end at a 0.
use Rattle.std.proofs.Common.{ℕ, ◌≡◌, ◌≢◌, ◌<◌, ◌≤◌, ◌+◌, ◌-◌, one-add, cond, zero, suc, nat_eq, List, [], ◌∷◌, ◌++◌, length, take, get_or, replicate, refl, sym, ap, ◌∙◌, arith, All, inl, inr}
use Rattle.std.specs.List.{position_or_len}
use Rattle.std.proofs.lemmas.List.{append_assoc, append-nil, take_all, get_or-take, length-take}
use Rattle.std.proofs.lemmas.List.Sums.{position_or_len_is, fails_before_first}
use Rattle.std.proofs.lemmas.Bool.{cases_Bool, eqb-false}
use Rattle.std.proofs.lemmas.Bool.Decides.{nat_tests}
use Rattle.snd_meta.specs.Text.{text_of, padded}

-- a text without a 0 is all of its bytes
pub whole_text : (bytes : List ℕ) → All (λ b. b ≢ 0) bytes → text_of bytes ≡ bytes
whole_text bytes h =
    let whole : position_or_len (λ b. nat_eq b 0) bytes ≡ length bytes =
    position_or_len_is (λ b. nat_eq b 0) bytes (length bytes) 0 (omega arith) (λ k lt. let here = h k 0 lt in grind (arith, nat_tests)) (λ lt. absurd (omega arith)) in
    take_all _ bytes (omega arith)

-- a text has no 0
pub text_whole : (bytes : List ℕ) → text_of (text_of bytes) ≡ text_of bytes
text_whole bytes = whole_text (text_of bytes) (λ k d lt.
    let before : k < position_or_len (λ b. nat_eq b 0) bytes = omega (arith, length-take (position_or_len (λ b. nat_eq b 0) bytes) bytes) in
    let there : get_or (text_of bytes) k d ≡ get_or bytes k d = get_or-take (position_or_len (λ b. nat_eq b 0) bytes) bytes k d before in
    λ zero. eqb-false (get_or bytes k d) 0 (fails_before_first (λ b. nat_eq b 0) bytes k d before) (sym there ∙ zero))

pub text_short : (bytes : List ℕ) → length (text_of bytes) ≤ length bytes
text_short bytes = omega (arith, length-take (position_or_len (λ b. nat_eq b 0) bytes) bytes)

-- ---- texts with zeros behind them

text_of-cons : (b : ℕ) (bytes : List ℕ) → text_of (b ∷ bytes) ≡ cond (nat_eq b 0) [] (b ∷ text_of bytes)
text_of-cons b bytes = elim (cases_Bool (nat_eq b 0)) [
  | inl stops ↦ rw stops refl
  | inr other ↦ rw (other, one-add) refl
]

pub text_of-stops : (text rest : List ℕ) → text_of (text ++ 0 ∷ rest) ≡ text_of text
text_of-stops [] rest = refl
text_of-stops (b ∷ text) rest =
    text_of-cons b (text ++ 0 ∷ rest) ∙ ap (λ t. cond (nat_eq b 0) [] (b ∷ t)) (text_of-stops text rest) ∙ sym (text_of-cons b text)

pub text_of-zeros : (text : List ℕ) (n : ℕ) → text_of (text ++ replicate n 0) ≡ text_of text
text_of-zeros text zero = ap text_of (append-nil text)
text_of-zeros text (suc n) = text_of-stops text (replicate n 0)

-- a text that was appended, and then zeros up to a length
pub padded_by : (old text more new : List ℕ) (size n m : ℕ) → n ≡ length more + (size - length text) → m ≡ length more
    → more ≡ old ++ text → new ≡ take n more ++ replicate (n - m) 0 → new ≡ old ++ padded size text
padded_by old text more new size n m is_n is_m is_more is_new =
    let zeros : replicate {A = ℕ} (n - m) 0 ≡ replicate (size - length text) 0 = ap (λ k. replicate k 0) (omega arith) in
    is_new ∙ ap (λ xs. xs ++ replicate (n - m) 0) (take_all n more (omega arith) ∙ is_more) ∙ ap (λ z. (old ++ text) ++ z) zeros
    ∙ append_assoc old text (replicate (size - length text) 0)
