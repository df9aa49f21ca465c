-- What holds at every entry of the table of indices, and where a code leads.
use Rattle.std.proofs.Common.{◌≡◌, ℕ, ℤ, pos, negsuc, ◌+◌, ◌*◌, ◌/◌, ◌%◌, ◌<◌, ◌≤◌, ◌+ℤ◌, ◌-ℤ◌, map, get_or, Bool, true, false, refl, sym, ap, ◌∙◌, arith}
use Rattle.std.specs.Prelude.{◌==◌, bit_and, if◌then◌else◌}
use Rattle.std.specs.List.{range_with_len}
use Rattle.std.proofs.lemmas.Int.{ints}
use Rattle.std.proofs.lemmas.List.FromFn.{get_or-map-range_with_len}
use Rattle.snd_ima_adpcm.specs.Step.{step_size, distance, change, moved, next_index}
use Rattle.snd_ima_adpcm.specs.Frames.{clamp}
use Rattle.snd_vox.specs.Vox.{vox_index, vox_predictor}

-- the number of an index and a code
index_of_both : (index code : ℕ) → code < 16 → (16 * index + code) / 16 ≡ index
index_of_both index code lt = omega arith

code_of_both : (index code : ℕ) → code < 16 → (16 * index + code) % 16 ≡ code
code_of_both index code lt = omega arith

of_both : (f : ℕ → ℕ → ℕ) (index code : ℕ) → code < 16 → f ((16 * index + code) / 16) ((16 * index + code) % 16) ≡ f index code
of_both f index code lt = rw (index_of_both index code lt, code_of_both index code lt) refl

pub index_entry : (index code n : ℕ) → index ≤ 56 → code < 16 → n ≡ code →
    get_or (map (λ k. next_index 8 56 (k / 16) (k % 16)) (range_with_len 0 912)) (16 * index + n) 0 ≡ next_index 8 56 index code
index_entry index code n le lt same =
    rw same (get_or-map-range_with_len (λ k. next_index 8 56 (k / 16) (k % 16)) 0 912 (16 * index + code) (16 * index + code) 0 (omega arith) (omega arith)
    ∙ of_both (λ i b. next_index 8 56 i b) index code lt)

pub index_least : (index code result : ℕ) → result ≡ vox_index index code → 8 ≤ result
unfolding vox_index
index_least index code result is = omega arith

pub index_most : (index code result : ℕ) → result ≡ vox_index index code → result ≤ 56
unfolding vox_index
index_most index code result is = omega arith

-- a change is what a code moves the predictor by
moved-cases : (p : ℤ) (b : Bool) (d : ℕ) → p +ℤ (if b then pos d else pos 0 -ℤ pos d) ≡ (if b then p +ℤ pos d else p -ℤ pos d)
moved-cases p true d = refl
moved-cases p false d = omega (arith, ints)

moved_is : (predictor : ℤ) (index code : ℕ) → predictor +ℤ change index code ≡ moved predictor (step_size index) code
unfolding change
moved_is predictor index code = moved-cases predictor (bit_and code 8 == 0) (distance (step_size index) code)

pub predictor_is : (predictor : ℤ) (index code : ℕ) → vox_predictor predictor index code ≡ clamp (negsuc 2047) (pos 2047) (predictor +ℤ change index code)
unfolding vox_predictor
predictor_is predictor index code = sym (ap (λ z. clamp (negsuc 2047) (pos 2047) z) (moved_is predictor index code))
