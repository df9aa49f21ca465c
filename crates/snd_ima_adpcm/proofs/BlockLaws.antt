-- Calls one after another give the blocks of the whole list.
use Rattle.std.proofs.Common.{◌≡◌, ℕ, ℤ, pos, ◌-◌, ◌*◌, ◌/◌, ◌%◌, ◌<◌, List, [], ◌∷◌, ◌++◌, length, replicate, refl, sym, ap, ◌⊎◌, inl, inr, ◌∙◌, arith}
use Rattle.std.specs.List.{All}
use Rattle.std.proofs.Math.Nat.{mul-mod_left, mul-div_cancel, mod_self}
use Rattle.std.proofs.lemmas.List.{take_at, drop_at, length-append, append-nil}
use Rattle.std.proofs.lemmas.List.Elements.{All-head, All-tail}
use Rattle.snd_ima_adpcm.specs.Blocks.{Rule, filled, bytes_of_blocks, bytes_of_list, bytes_of_calls, joined}
use Rattle.snd_ima_adpcm.specs.Ima.{ima_numbers}

length-joined : (n : ℕ) (calls : List (List ℤ)) → All (λ call. length call ≡ n) calls → length (joined calls) ≡ length calls * n
length-joined n [] all = omega arith
length-joined n (c ∷ calls) all =
    let head : length c ≡ n = All-head (λ call. length call ≡ n) c calls all in
    omega (arith, length-append c (joined calls), head, length-joined n calls (All-tail (λ call. length call ≡ n) c calls all))

blocks_are_calls : {State : Type 0} (rule : Rule State) (n : ℕ) (state : State) (calls : List (List ℤ)) → All (λ call. length call ≡ n) calls →
    bytes_of_blocks rule n (length calls) state (joined calls) ≡ bytes_of_calls rule state calls
blocks_are_calls rule n state [] all = refl
blocks_are_calls rule n state (c ∷ calls) all =
    let head : length c ≡ n = All-head (λ call. length call ≡ n) c calls all in
    rw (take_at c (joined calls) n head, drop_at c (joined calls) n head)
    (ap (λ (rest : List ℕ). rule.bytes state c ++ rest) (blocks_are_calls rule n (rule.next state c) calls (All-tail (λ call. length call ≡ n) c calls all)))

count_of_blocks : (n : ℕ) (calls : List (List ℤ)) → 0 < n → All (λ call. length call ≡ n) calls → length (joined calls) / n ≡ length calls
count_of_blocks n calls positive all = ap (λ k. k / n) (length-joined n calls all) ∙ mul-div_cancel (length calls) positive

pub calls_give_list : {State : Type 0} (rule : Rule State) (n : ℕ) (state : State) (samples : List ℤ) (calls : List (List ℤ)) → 0 < n → All (λ call. length call ≡ n) calls → joined calls ≡ filled n samples →
    bytes_of_calls rule state calls ≡ bytes_of_list rule n state samples
calls_give_list rule n state samples calls positive all e =
    sym (blocks_are_calls rule n state calls all) ∙ ap (λ k. bytes_of_blocks rule n k state (joined calls)) (sym (count_of_blocks n calls positive all)) ∙ ap (λ xs. bytes_of_blocks rule n (length xs / n) state xs) e

pub filled-whole : (n : ℕ) (calls : List (List ℤ)) → 0 < n → All (λ call. length call ≡ n) calls → joined calls ≡ filled n (joined calls)
filled-whole n calls positive all =
    let none : length (joined calls) % n ≡ 0 = ap (λ k. k % n) (length-joined n calls all) ∙ mul-mod_left (length calls) n in
    let less : n - length (joined calls) % n ≡ n = omega (arith, none) in
    let pad : (n - length (joined calls) % n) % n ≡ 0 = ap (λ k. k % n) less ∙ mod_self n in
    sym (append-nil (joined calls)) ∙ ap (λ k. joined calls ++ replicate k (pos 0)) (sym pad)

-- a block has samples
pub ima_numbers-positive : (channels align : ℕ) → (channels ≡ 1) ⊎ (channels ≡ 2) → 0 < ima_numbers channels align
ima_numbers-positive channels align (inl one) = rw one (omega arith)
ima_numbers-positive channels align (inr two) = rw two (omega arith)
