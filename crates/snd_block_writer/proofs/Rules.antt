-- The blocks of a list in two parts.
use Rattle.std.proofs.Common.{◌≡◌, ◌∙◌, refl, sym, ap, ℕ, ℤ, zero, suc, ◌+◌, ◌*◌, ◌≤◌, List, ◌++◌, length, take, drop, append_assoc, arith}
use Rattle.std.proofs.lemmas.List.{drop-append-le, drop-drop, length-append, length-drop, length-take-le, take-append-le}
use Rattle.snd_ima_adpcm.specs.Blocks.{Rule, bytes_of_blocks}
use Rattle.snd_block_writer.specs.Writing.{carried}

module _ {State : Type 0} (rule : Rule State) (n : ℕ) where
  -- blocks behind others
  pub bytes-more : (a b : ℕ) (state : State) (xs : List ℤ) → bytes_of_blocks rule n (a + b) state xs ≡ bytes_of_blocks rule n a state xs ++ bytes_of_blocks rule n b (carried rule n a state xs) (drop (a * n) xs)
  bytes-more zero b state xs =
      ap (λ (m : ℕ). bytes_of_blocks rule n m state xs) (let e : 0 + b ≡ b = omega arith in e)
      ∙ ap (λ (m : ℕ). bytes_of_blocks rule n b state (drop m xs)) (let e : 0 ≡ 0 * n = omega arith in e)
  bytes-more (suc a) b state xs =
      let front = rule.bytes state (take n xs) in
      let next = rule.next state (take n xs) in
      ap (λ (m : ℕ). bytes_of_blocks rule n m state xs) (let e : suc a + b ≡ suc (a + b) = omega arith in e)
      ∙ ap (λ (l : List ℕ). front ++ l) (bytes-more a b next (drop n xs))
      ∙ sym (append_assoc front (bytes_of_blocks rule n a next (drop n xs)) (bytes_of_blocks rule n b (carried rule n a next (drop n xs)) (drop (a * n) (drop n xs))))
      ∙ ap (λ (l : List ℤ). front ++ bytes_of_blocks rule n a next (drop n xs) ++ bytes_of_blocks rule n b (carried rule n a next (drop n xs)) l)
      (drop-drop (a * n) n xs ∙ ap (λ (m : ℕ). drop m xs) (let e : n + a * n ≡ suc a * n = omega arith in e))

  pub carried-more : (a b : ℕ) (state : State) (xs : List ℤ) → carried rule n (a + b) state xs ≡ carried rule n b (carried rule n a state xs) (drop (a * n) xs)
  carried-more zero b state xs =
      ap (λ (m : ℕ). carried rule n m state xs) (let e : 0 + b ≡ b = omega arith in e)
      ∙ ap (λ (m : ℕ). carried rule n b state (drop m xs)) (let e : 0 ≡ 0 * n = omega arith in e)
  carried-more (suc a) b state xs =
      let next = rule.next state (take n xs) in
      ap (λ (m : ℕ). carried rule n m state xs) (let e : suc a + b ≡ suc (a + b) = omega arith in e)
      ∙ carried-more a b next (drop n xs)
      ∙ ap (λ (l : List ℤ). carried rule n b (carried rule n a next (drop n xs)) l)
      (drop-drop (a * n) n xs ∙ ap (λ (m : ℕ). drop m xs) (let e : n + a * n ≡ suc a * n = omega arith in e))

  -- what stands behind them does not matter
  pub bytes-front : (a : ℕ) (state : State) (xs ys : List ℤ) → a * n ≤ length xs → bytes_of_blocks rule n a state (xs ++ ys) ≡ bytes_of_blocks rule n a state xs
  bytes-front zero state xs ys there = refl
  bytes-front (suc a) state xs ys there =
      let more : suc a * n ≡ n + a * n = omega arith in
      let fits : n ≤ length xs = omega (arith, there, more) in
      ap (λ (l : List ℤ). rule.bytes state l ++ bytes_of_blocks rule n a (rule.next state l) (drop n (xs ++ ys))) (take-append-le n xs ys fits)
      ∙ ap (λ (l : List ℤ). rule.bytes state (take n xs) ++ bytes_of_blocks rule n a (rule.next state (take n xs)) l) (drop-append-le n xs ys fits)
      ∙ ap (λ (l : List ℕ). rule.bytes state (take n xs) ++ l) (bytes-front a (rule.next state (take n xs)) (drop n xs) ys (omega (arith, there, more, length-drop n xs)))

  pub carried-front : (a : ℕ) (state : State) (xs ys : List ℤ) → a * n ≤ length xs → carried rule n a state (xs ++ ys) ≡ carried rule n a state xs
  carried-front zero state xs ys there = refl
  carried-front (suc a) state xs ys there =
      let more : suc a * n ≡ n + a * n = omega arith in
      let fits : n ≤ length xs = omega (arith, there, more) in
      ap (λ (l : List ℤ). carried rule n a (rule.next state l) (drop n (xs ++ ys))) (take-append-le n xs ys fits)
      ∙ ap (λ (l : List ℤ). carried rule n a (rule.next state (take n xs)) l) (drop-append-le n xs ys fits)
      ∙ carried-front a (rule.next state (take n xs)) (drop n xs) ys (omega (arith, there, more, length-drop n xs))

  -- each block has its size
  pub length-blocks : (size : ℕ) → ((state : State) (xs : List ℤ) → length xs ≡ n → length (rule.bytes state xs) ≡ size) → (a : ℕ) (state : State) (xs : List ℤ) → a * n ≤ length xs
      → length (bytes_of_blocks rule n a state xs) ≡ a * size
  length-blocks size each zero state xs there = let e : 0 ≡ 0 * size = omega arith in e
  length-blocks size each (suc a) state xs there =
      let more : suc a * n ≡ n + a * n = omega arith in
      let front : length (take n xs) ≡ n = length-take-le n xs (omega (arith, there, more)) in
      let others = length-blocks size each a (rule.next state (take n xs)) (drop n xs) (omega (arith, there, more, length-drop n xs)) in
      omega (arith, length-append (rule.bytes state (take n xs)) (bytes_of_blocks rule n a (rule.next state (take n xs)) (drop n xs)), each state (take n xs) front, others)
