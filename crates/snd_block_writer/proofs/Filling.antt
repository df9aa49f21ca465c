-- Zeros that fill the last block.
use Rattle.std.proofs.Common.{◌≡◌, ◌∙◌, sym, ap, subst, inl, inr, ℕ, ℤ, pos, Some, ◌+◌, ◌-◌, ◌*◌, ◌%◌, ◌<◌, ◌≤◌, List, [], ◌++◌, length, replicate, arith}
use Rattle.std.proofs.Math.Nat.{mod-eq_of_lt, mod_self, zero-mod}
use Rattle.std.proofs.lemmas.Bool.{cases_lt}
use Rattle.std.proofs.lemmas.List.{length-replicate}
use Rattle.snd_ima_adpcm.specs.Blocks.{filled}
use Rattle.snd_disk.specs.Bytes.{over}
use Rattle.snd_disk.specs.State.{IsWritten, State}
use Rattle.snd_layout.specs.Blocks.{block_align}
use Rattle.snd_layout.specs.Params.{Parameters}
use Rattle.snd_blocks.specs.Calls.{AreBlocks}
use Rattle.snd_block_writer.specs.Coded.{block_numbers, coded, whole}
use Rattle.snd_block_writer.specs.Writing.{KeepsRule, StandsFor, Writing, given_more, more_bytes, next_place, padding}
use Rattle.snd_block_writer.proofs.Given.{length-new, one_new}
use Rattle.snd_block_writer.proofs.Parts.{bytes_none, given_none}
use Rattle.snd_block_writer.proofs.Standing.{coded_padded, holds_more, padded, stands_more}

module _ (w : Writing) (rule : KeepsRule w) where
  abbrev n : ℕ
  n = block_numbers w.params

  pub padding_some : 1 ≤ length w.waiting → padding w ≡ replicate (n - length w.waiting) (pos 0)
  padding_some some =
      ap (λ (m : ℕ). replicate ((n - m) % n) (pos 0)) (mod-eq_of_lt rule.few)
      ∙ ap (λ (m : ℕ). replicate m (pos 0)) (mod-eq_of_lt (let h : n - length w.waiting < n = omega (arith, some, rule.few) in h))

  pub padding_none : length w.waiting ≡ 0 → padding w ≡ []
  padding_none none =
      ap (λ (m : ℕ). replicate ((n - m % n) % n) (pos 0)) none
      ∙ ap (λ (m : ℕ). replicate ((n - m) % n) (pos 0)) (zero-mod n)
      ∙ ap (λ (m : ℕ). replicate (m % n) (pos 0)) (let e : n - 0 ≡ n = omega arith in e)
      ∙ ap (λ (m : ℕ). replicate m (pos 0)) (mod_self n)

  pub is_filled : 1 ≤ length w.waiting → length w.waiting + length (padding w) ≡ n
  is_filled some =
      let size : length (padding w) ≡ n - length w.waiting = ap length (padding_some some) ∙ length-replicate (n - length w.waiting) (pos 0) in
      omega (arith, size, rule.few)

  -- nothing waits
  pub last_none : length w.waiting ≡ 0 → more_bytes w (padding w) ≡ []
  last_none none = ap (more_bytes w) (padding_none none) ∙ bytes_none w rule

  pub given_last_none : length w.waiting ≡ 0 → w ≡ given_more w (padding w)
  given_last_none none = given_none w rule ∙ ap (given_more w) (sym (padding_none none))

  pub last_size : length (more_bytes w (padding w)) ≤ block_align w.params.channels w.params.codec
  last_size = elim (cases_lt 0 (length w.waiting)) [
    | inl some ↦
        let one = one_new w (length (padding w)) rule.form (is_filled (omega (arith, some))) in
        let align = block_align w.params.channels w.params.codec in
        omega (arith, length-new w (padding w) rule.form, ap (λ (m : ℕ). m * align) one)
    | inr none ↦
        let nothing : length (more_bytes w (padding w)) ≡ 0 = ap length (last_none (omega (arith, none))) in
        omega (arith, nothing)
  ]

  module _ (p : Parameters) (ys : List ℤ) (stands : StandsFor w p ys) where
    form : AreBlocks p
    form = subst AreBlocks (ap (λ (u : Writing). u.params) stands) rule.form

    pub stands_filled : StandsFor (given_more w (padding w)) p (filled (block_numbers p) ys)
    stands_filled = subst (StandsFor (given_more w (padding w)) p) (padded p form w ys stands) (stands_more p form w (padding w) ys stands)

    pub holds_all : (a b : State) (start : ℕ) (l : List ℕ) → IsWritten (next_place start w) (more_bytes w (padding w)) a b
        → a.contents ≡ Some (over l start (coded p (whole p ys))) → b.contents ≡ Some (over l start (coded p ys))
    holds_all a b start l done told =
        holds_more p form a b start w (padding w) ys l stands done told
        ∙ ap (λ (xs : List ℤ). Some (over l start (coded p (whole p xs)))) (padded p form w ys stands)
        ∙ ap (λ (x : List ℕ). Some (over l start x)) (coded_padded p form ys)

-- ---- of a writer that is known by its parts

pub none_waits : (w v : Writing) → v ≡ w → length v.waiting ≡ 0 → length w.waiting ≡ 0
none_waits w v is none = sym (ap (λ (u : Writing). length u.waiting) is) ∙ none

pub some_wait : (v w : Writing) → v ≡ w → 1 ≤ length v.waiting → 1 ≤ length w.waiting
some_wait v w is some = omega (arith, some, ap (λ (u : Writing). length u.waiting) is)

pub fills_block : (v w : Writing) → v ≡ w → KeepsRule w → 1 ≤ length w.waiting → length v.waiting + length (padding w) ≡ block_numbers v.params
fills_block v w is rule some =
    omega (arith, ap (λ (u : Writing). length u.waiting) is, ap (λ (u : Writing). block_numbers u.params) is, is_filled w rule some)

pub fills_up : (v w : Writing) → v ≡ w → KeepsRule w → 1 ≤ length w.waiting → (items : List ℤ) (numbers : ℕ) → numbers ≡ block_numbers w.params
    → items ≡ v.waiting ++ replicate (numbers - length v.waiting) (pos 0) → items ≡ v.waiting ++ padding w
fills_up v w is rule some items numbers numbers_are filled_up =
    let same : numbers - length v.waiting ≡ block_numbers w.params - length w.waiting = omega (arith, numbers_are, ap (λ (u : Writing). length u.waiting) is) in
    filled_up ∙ ap (λ (m : ℕ). v.waiting ++ replicate m (pos 0)) same ∙ ap (λ (l : List ℤ). v.waiting ++ l) (sym (padding_some w rule some))
