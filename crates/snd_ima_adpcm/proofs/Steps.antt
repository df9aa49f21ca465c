-- What holds at every entry of the step table, and at the tables made of it.
use Rattle.std.proofs.Common.{◌≡◌, ℕ, ℤ, pos, negsuc, ◌+◌, ◌*◌, ◌/◌, ◌%◌, ◌<◌, ◌≤◌, ◌≤ℤ◌, ◌+ℤ◌, ◌-ℤ◌, map, get_or, unsigned_abs, Bool, true, false, leb, refl, sym, ap, ◌∙◌, subst, arith, rules, w32, to_z, of_z}
use Rattle.std.specs.Prelude.{◌==◌, bit_and, if◌then◌else◌}
use Rattle.std.proofs.lemmas.Bool.{agree_below_at, leb-true}
use Rattle.std.proofs.lemmas.Int.{ints}
use Rattle.std.proofs.lemmas.List.FromFn.{get_or-map-range_with_len}
use Rattle.std.specs.List.{range_with_len}
use Rattle.snd_ima_adpcm.specs.Step.{step_size, step_sizes, distance, change, moved, next_index}
use Rattle.snd_ima_adpcm.specs.Frames.{clamp}
use Rattle.snd_ima_adpcm.specs.Ima.{ima_predictor}
use Rattle.snd_ima_adpcm.proofs.Numbers.{abs_least, abs_most}

pub step_size_most : (index : ℕ) → index ≤ 88 → step_size index ≤ 32767
unfolding step_size step_sizes
step_size_most index le = leb-true _ _ (agree_below_at (λ n. leb (step_size n) 32767) (λ _. true) 89 index refl (omega arith))

-- an entry of a list of what a function gives
pub entry_is : {X : Type 0} (f : ℕ → X) (n k : ℕ) (d : X) → k < n → get_or (map f (range_with_len 0 n)) k d ≡ f k
entry_is f n k d lt = get_or-map-range_with_len f 0 n k k d lt (omega arith)

-- the number of an index and a code
index_of_both : (index code : ℕ) → code < 16 → (16 * index + code) / 16 ≡ index
index_of_both index code lt = omega arith

code_of_both : (index code : ℕ) → code < 16 → (16 * index + code) % 16 ≡ code
code_of_both index code lt = omega arith

pub of_both : {X : Type 0} (f : ℕ → ℕ → X) (index code : ℕ) → code < 16 → f ((16 * index + code) / 16) ((16 * index + code) % 16) ≡ f index code
of_both f index code lt = rw (index_of_both index code lt, code_of_both index code lt) refl

changes_small : (k : ℕ) → k < 1424 → unsigned_abs (change (k / 16) (k % 16)) ≤ 65535
unfolding change step_size step_sizes
changes_small k lt = leb-true _ _ (agree_below_at (λ k. leb (unsigned_abs (change (k / 16) (k % 16))) 65535) (λ _. true) 1424 k refl lt)

pub change_small : (index code : ℕ) → index ≤ 88 → code < 16 → unsigned_abs (change index code) ≤ 65535
change_small index code le lt = subst (λ z. unsigned_abs z ≤ 65535) (of_both change index code lt) (changes_small (16 * index + code) (omega arith))

pub change_least : (index code : ℕ) → index ≤ 88 → code < 16 → negsuc 65534 ≤ℤ change index code
change_least index code le lt = abs_least (change index code) 65534 (change_small index code le lt)

pub change_most : (index code : ℕ) → index ≤ 88 → code < 16 → change index code ≤ℤ pos 65535
change_most index code le lt = abs_most (change index code) 65535 (change_small index code le lt)

-- the tables
kept : (x z : ℤ) → negsuc 65534 ≤ℤ z → z ≤ℤ pos 65535 → x ≡ z → to_z w32 (of_z w32 x) ≡ z
kept x z least most is = rw is (search rules)

entry_at : (f : ℕ → ℤ) (m k n : ℕ) (z : ℤ) → n ≡ k → k < m → f k ≡ z → get_or (map f (range_with_len 0 m)) n (pos 0) ≡ z
entry_at f m k n z same lt is = rw same (entry_is f m k (pos 0) lt ∙ is)

pub change_entry : (index code n : ℕ) → index ≤ 88 → code < 16 → n ≡ code → to_z w32 (of_z w32 (get_or (map (λ k. change (k / 16) (k % 16)) (range_with_len 0 1424)) (16 * index + n) (pos 0))) ≡ change index code
change_entry index code n le lt same =
    kept _ (change index code) (change_least index code le lt) (change_most index code le lt)
    (entry_at (λ k. change (k / 16) (k % 16)) 1424 (16 * index + code) (16 * index + n) (change index code) (omega arith) (omega arith) (of_both change index code lt))

-- what is known of an equal number
least_of : (x z : ℤ) → x ≡ z → negsuc 65534 ≤ℤ z → negsuc 65534 ≤ℤ x
least_of x z is le = rw is le

most_of : (x z : ℤ) → x ≡ z → z ≤ℤ pos 65535 → x ≤ℤ pos 65535
most_of x z is le = rw is le

pub entry_least : (index code n : ℕ) → index ≤ 88 → code < 16 → n ≡ code → negsuc 65534 ≤ℤ to_z w32 (of_z w32 (get_or (map (λ k. change (k / 16) (k % 16)) (range_with_len 0 1424)) (16 * index + n) (pos 0)))
entry_least index code n le lt same = least_of _ (change index code) (change_entry index code n le lt same) (change_least index code le lt)

pub entry_most : (index code n : ℕ) → index ≤ 88 → code < 16 → n ≡ code → to_z w32 (of_z w32 (get_or (map (λ k. change (k / 16) (k % 16)) (range_with_len 0 1424)) (16 * index + n) (pos 0))) ≤ℤ pos 65535
entry_most index code n le lt same = most_of _ (change index code) (change_entry index code n le lt same) (change_most index code le lt)

pub next_index_entry : (index code n : ℕ) → index ≤ 88 → code < 16 → n ≡ code → get_or (map (λ k. next_index 0 88 (k / 16) (k % 16)) (range_with_len 0 1424)) (16 * index + n) 0 ≡ next_index 0 88 index code
next_index_entry index code n le lt same =
    rw same (entry_is (λ k. next_index 0 88 (k / 16) (k % 16)) 1424 (16 * index + code) 0 (omega arith) ∙ of_both (λ i b. next_index 0 88 i b) index code lt)

moved-cases : (p : ℤ) (b : Bool) (d : ℕ) → p +ℤ (if b then pos d else pos 0 -ℤ pos d) ≡ (if b then p +ℤ pos d else p -ℤ pos d)
moved-cases p true d = refl
moved-cases p false d = omega (arith, ints)

-- a change is what a code moves the predictor by
pub moved_is : (predictor : ℤ) (index code : ℕ) → predictor +ℤ change index code ≡ moved predictor (step_size index) code
unfolding change
moved_is predictor index code = moved-cases predictor (bit_and code 8 == 0) (distance (step_size index) code)

pub predictor_is : (predictor : ℤ) (index code : ℕ) → ima_predictor predictor index code ≡ clamp (negsuc 32767) (pos 32767) (predictor +ℤ change index code)
unfolding ima_predictor
predictor_is predictor index code = sym (ap (λ z. clamp (negsuc 32767) (pos 32767) z) (moved_is predictor index code))

-- an entry of a table of signed numbers
pub table_entry : (f : ℕ → ℤ) (m code n : ℕ) → code < m → n ≡ code → negsuc 65534 ≤ℤ f code → f code ≤ℤ pos 65535 → to_z w32 (of_z w32 (get_or (map f (range_with_len 0 m)) n (pos 0))) ≡ f code
table_entry f m code n lt same least most = kept _ (f code) least most (entry_at f m code n (f code) same lt refl)

pub next_step_entry : (index code n : ℕ) → index ≤ 88 → code < 16 → n ≡ code → get_or (map (λ k. step_size (next_index 0 88 (k / 16) (k % 16))) (range_with_len 0 1424)) (16 * index + n) 0 ≡ step_size (next_index 0 88 index code)
next_step_entry index code n le lt same =
    rw same (entry_is (λ k. step_size (next_index 0 88 (k / 16) (k % 16))) 1424 (16 * index + code) 0 (omega arith) ∙ of_both (λ i b. step_size (next_index 0 88 i b)) index code lt)

pub next_step_most : (index code step : ℕ) → step ≡ step_size (next_index 0 88 index code) → step ≤ 32767
next_step_most index code step is = rw is (step_size_most (next_index 0 88 index code) (omega arith))
