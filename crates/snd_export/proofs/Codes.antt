-- Numbers as codes of VOX, two in each byte.
use Rattle.std.proofs.Common.{◌≡◌, ◌∙◌, ap, sym, refl, subst, inl, inr, ℕ, zero, suc, ◌+◌, ◌*◌, ◌/◌, ◌%◌, ◌<◌, ◌≤◌, ℤ, pos, Bool, cond, true, false, List, [], ◌∷◌, ◌++◌, length, get_or, set, take, drop, append_assoc, arith}
use Rattle.std.specs.Prelude.{◌==◌}
use Rattle.std.proofs.lemmas.List.{append-nil, drop_all, length-append, nil_from_length, take_all, take_more_set}
use Rattle.snd_ima_adpcm.specs.Frames.{bytes_high_half_first}
use Rattle.snd_vox.specs.Vox.{VoxState, made_even, vox_code, vox_codes, vox_next, vox_state_written}
use Rattle.snd_ima_adpcm.proofs.Public.{drop_two}

-- ---- codes of more numbers

pub length-codes : (w : VoxState) (xs : List ℤ) → length (vox_codes w xs) ≡ length xs
length-codes w [] = refl
length-codes w (x ∷ xs) = omega (arith, length-codes (vox_next w (vox_code w.0 w.1 x)) xs)

codes_on : (w : VoxState) (xs ys : List ℤ) → vox_codes w (xs ++ ys) ≡ vox_codes w xs ++ vox_codes (vox_state_written w xs) ys
codes_on w [] ys = refl
codes_on w (x ∷ xs) ys = ap (λ (l : List ℕ). vox_code w.0 w.1 x ∷ l) (codes_on (vox_next w (vox_code w.0 w.1 x)) xs ys)

state_on : (w : VoxState) (xs ys : List ℤ) → vox_state_written w (xs ++ ys) ≡ vox_state_written (vox_state_written w xs) ys
state_on w [] ys = refl
state_on w (x ∷ xs) ys = state_on (vox_next w (vox_code w.0 w.1 x)) xs ys

-- pairs before others are bytes before others
high_on : (k : ℕ) (xs ys : List ℕ) → length xs ≡ 2 * k → bytes_high_half_first (xs ++ ys) ≡ bytes_high_half_first xs ++ bytes_high_half_first ys
high_on zero [] ys is = refl
high_on zero (x ∷ xs) ys is = absurd (omega (arith, is))
high_on (suc k) [] ys is = absurd (omega (arith, is))
high_on (suc k) (x ∷ []) ys is = absurd (omega (arith, is))
high_on (suc k) (x ∷ y ∷ xs) ys is = ap (λ (l : List ℕ). (16 * x + y) ∷ l) (high_on k xs ys (omega (arith, is)))

length-high : (k : ℕ) (xs : List ℕ) → length xs ≡ 2 * k → length (bytes_high_half_first xs) ≡ k
length-high zero [] is = refl
length-high zero (x ∷ xs) is = absurd (omega (arith, is))
length-high (suc k) [] is = absurd (omega (arith, is))
length-high (suc k) (x ∷ []) is = absurd (omega (arith, is))
length-high (suc k) (x ∷ y ∷ xs) is = omega (arith, length-high k xs (omega (arith, is)))

-- ---- a zero behind a last odd number

even_test : (k n : ℕ) → ((2 * k + n) % 2 == 0) ≡ (n % 2 == 0)
even_test k n = ap (λ (m : ℕ). m == 0) (let e : (2 * k + n) % 2 ≡ n % 2 = omega arith in e)

by_test : (t : Bool) (xs ys : List ℤ) → cond t (xs ++ ys) ((xs ++ ys) ++ pos 0 ∷ []) ≡ xs ++ cond t ys (ys ++ pos 0 ∷ [])
by_test true xs ys = refl
by_test false xs ys = append_assoc xs ys (pos 0 ∷ [])

even_on : (k : ℕ) (xs ys : List ℤ) → length xs ≡ 2 * k → made_even (xs ++ ys) ≡ xs ++ made_even ys
even_on k xs ys is =
    let count : length (xs ++ ys) ≡ 2 * k + length ys = omega (arith, length-append xs ys, is) in
    let test : (length (xs ++ ys) % 2 == 0) ≡ (length ys % 2 == 0) = ap (λ (n : ℕ). n % 2 == 0) count ∙ even_test k (length ys) in
    ap (λ (t : Bool). cond t (xs ++ ys) ((xs ++ ys) ++ pos 0 ∷ [])) test ∙ by_test (length ys % 2 == 0) xs ys

pub even_same : (k : ℕ) (xs : List ℤ) → length xs ≡ 2 * k → made_even xs ≡ xs
even_same k xs is =
    let test : (length xs % 2 == 0) ≡ true = ap (λ (n : ℕ). n % 2 == 0) is ∙ ap (λ (n : ℕ). n == 0) (let e : 2 * k % 2 ≡ 0 = omega arith in e) in
    ap (λ (t : Bool). cond t xs (xs ++ pos 0 ∷ [])) test

pub odd_more : (k : ℕ) (xs : List ℤ) → length xs ≡ 2 * k + 1 → made_even xs ≡ xs ++ pos 0 ∷ []
odd_more k xs is =
    let test : (length xs % 2 == 0) ≡ false = ap (λ (n : ℕ). n % 2 == 0) is ∙ ap (λ (n : ℕ). n == 0) (let e : (2 * k + 1) % 2 ≡ 1 = omega arith in e) in
    ap (λ (t : Bool). cond t xs (xs ++ pos 0 ∷ [])) test

-- ---- bytes of more numbers, and the state behind them

module _ (k : ℕ) (w : VoxState) (xs ys : List ℤ) (is : length xs ≡ 2 * k) where
  pub bytes_on : bytes_high_half_first (vox_codes w (made_even (xs ++ ys))) ≡ bytes_high_half_first (vox_codes w (made_even xs)) ++ bytes_high_half_first (vox_codes (vox_state_written w (made_even xs)) (made_even ys))
  bytes_on =
      ap (λ (l : List ℤ). bytes_high_half_first (vox_codes w l)) (even_on k xs ys is)
      ∙ ap bytes_high_half_first (codes_on w xs (made_even ys))
      ∙ high_on k (vox_codes w xs) (vox_codes (vox_state_written w xs) (made_even ys)) (length-codes w xs ∙ is)
      ∙ ap (λ (l : List ℤ). bytes_high_half_first (vox_codes w l) ++ bytes_high_half_first (vox_codes (vox_state_written w l) (made_even ys))) (sym (even_same k xs is))

  pub behind_on : vox_state_written w (made_even (xs ++ ys)) ≡ vox_state_written (vox_state_written w (made_even xs)) (made_even ys)
  behind_on =
      ap (vox_state_written w) (even_on k xs ys is)
      ∙ state_on w xs (made_even ys)
      ∙ ap (λ (l : List ℤ). vox_state_written (vox_state_written w l) (made_even ys)) (sym (even_same k xs is))

-- ---- a byte after the other

-- what is put, and what is still to come, are all
pub record ArePut (w w' : VoxState) (numbers : List ℤ) (into : List ℕ) (i : ℕ) : Type 0 where
  pub codes : take i into ++ bytes_high_half_first (vox_codes w' (drop (2 * i) numbers)) ≡ bytes_high_half_first (vox_codes w numbers)
  pub state : vox_state_written w' (drop (2 * i) numbers) ≡ vox_state_written w numbers

pub put_none : (w : VoxState) (numbers : List ℤ) (into : List ℕ) → ArePut w w numbers into 0
put_none w numbers into = record { codes = refl; state = refl }

pub put_more : (w w' w'' : VoxState) (numbers : List ℤ) (into : List ℕ) (i byte : ℕ) → length numbers ≡ 2 * length into → i < length into
    → byte ∷ [] ≡ bytes_high_half_first (vox_codes w' (get_or numbers (2 * i) (pos 0) ∷ get_or numbers (2 * i + 1) (pos 0) ∷ []))
    → w'' ≡ vox_state_written w' (get_or numbers (2 * i) (pos 0) ∷ get_or numbers (2 * i + 1) (pos 0) ∷ [])
    → ArePut w w' numbers into i → ArePut w w'' numbers (set into i byte) (i + 1)
put_more w w' w'' numbers into i byte pairs lt is behind before =
    let x = get_or numbers (2 * i) (pos 0) in
    let y = get_or numbers (2 * i + 1) (pos 0) in
    let rest = drop (2 * (i + 1)) numbers in
    let split : drop (2 * i) numbers ≡ x ∷ y ∷ rest = drop_two numbers i (pos 0) (omega (arith, pairs, lt)) in
    let old : bytes_high_half_first (vox_codes w' (drop (2 * i) numbers)) ≡ byte ∷ bytes_high_half_first (vox_codes w'' rest) =
    ap (λ (l : List ℤ). bytes_high_half_first (vox_codes w' l)) split
    ∙ ap (λ (l : List ℕ). l ++ bytes_high_half_first (vox_codes (vox_state_written w' (x ∷ y ∷ [])) rest)) (sym is)
    ∙ ap (λ (v : VoxState). byte ∷ bytes_high_half_first (vox_codes v rest)) (sym behind) in
    record {
      codes =
          ap (λ (l : List ℕ). l ++ bytes_high_half_first (vox_codes w'' rest)) (take_more_set into i byte lt)
          ∙ append_assoc (take i into) (byte ∷ []) (bytes_high_half_first (vox_codes w'' rest))
          ∙ ap (λ (l : List ℕ). take i into ++ l) (sym old)
          ∙ before.codes;
      state =
          ap (λ (v : VoxState). vox_state_written v rest) behind
          ∙ sym (ap (vox_state_written w') split)
          ∙ before.state;
    }

pub all_put : (w w' : VoxState) (numbers : List ℤ) (into : List ℕ) (i : ℕ) → length numbers ≡ 2 * length into → length into ≤ i → ArePut w w' numbers into i
    → (into ≡ bytes_high_half_first (vox_codes w numbers)) × (w' ≡ vox_state_written w numbers)
all_put w w' numbers into i pairs all are =
    let none : drop (2 * i) numbers ≡ [] = drop_all (2 * i) numbers (omega (arith, pairs, all)) in (
      sym (append-nil into)
          ∙ ap (λ (l : List ℕ). l ++ []) (sym (take_all i into all))
          ∙ ap (λ (l : List ℤ). take i into ++ bytes_high_half_first (vox_codes w' l)) (sym none)
          ∙ are.codes,
      ap (vox_state_written w') (sym none) ∙ are.state,
    )

-- two numbers are those at a place
pub pair_is : (numbers : List ℤ) (i : ℕ) (x y : ℤ) → x ≡ get_or numbers (2 * i) (pos 0) → y ≡ get_or numbers (2 * i + 1) (pos 0)
    → x ∷ y ∷ [] ≡ get_or numbers (2 * i) (pos 0) ∷ get_or numbers (2 * i + 1) (pos 0) ∷ []
pair_is numbers i x y x_is y_is = ap (λ (z : ℤ). z ∷ y ∷ []) x_is ∙ ap (λ (z : ℤ). get_or numbers (2 * i) (pos 0) ∷ z ∷ []) y_is
