-- Numbers given a part at a time.
use Rattle.std.proofs.Common.{◌≡◌, ◌∙◌, refl, sym, ap, inl, inr, ℕ, ℤ, ◌+◌, ◌-◌, ◌*◌, ◌/◌, ◌<◌, ◌≤◌, List, [], ◌++◌, length, take, drop, max, arith}
use Rattle.std.proofs.Math.Nat.{div-div-eq-div-mul, div-eq_of_lt, div-mul-le_self, lt-div-mul-add, mul-le-mul_right}
use Rattle.std.proofs.Math.Seq.{take-add}
use Rattle.std.proofs.lemmas.Bool.{cases_lt}
use Rattle.std.proofs.lemmas.List.{append-nil, length-append, take-append-drop}
use Rattle.snd_disk.specs.State.{AtMost, IsWritten, State}
use Rattle.snd_disk.specs.declared.disk.Disk.{Ghosts}
use Rattle.snd_layout.specs.Blocks.{block_align, block_frames}
use Rattle.snd_block_writer.specs.Coded.{block_numbers}
use Rattle.snd_block_writer.specs.Puts.{Puts}
use Rattle.snd_block_writer.specs.Writing.{KeepsRule, Writing, carried, given_more, more_bytes, new_blocks, next_place, place_after, rule_of}
use Rattle.snd_block_writer.proofs.Given.{bytes_in_two, given_in_two, length-new, none_new, place_behind, same_writing, some_numbers}
use Rattle.snd_block_writer.proofs.Putting.{puts_as, puts_more, puts_then, written_as, written_then}

module _ (w : Writing) (rule : KeepsRule w) where
  -- none
  none_more : new_blocks w 0 ≡ 0
  none_more = div-eq_of_lt (let h : length w.waiting + 0 < block_numbers w.params = omega (arith, rule.few) in h)

  pub given_none : w ≡ given_more w []
  given_none =
      let n = block_numbers w.params in
      same_writing w.params _ _ _ _ _ _ (omega (arith, none_more)) (ap (λ (m : ℕ). carried (rule_of w.params) n m w.indices (w.waiting ++ [])) (sym none_more))
      (sym (ap (λ (m : ℕ). drop (m * n) (w.waiting ++ [])) none_more ∙ ap (λ (m : ℕ). drop m (w.waiting ++ [])) (let e : 0 * n ≡ 0 = omega arith in e) ∙ append-nil w.waiting))

  pub bytes_none : more_bytes w [] ≡ []
  bytes_none = none_new w [] (let h : length w.waiting + 0 < block_numbers w.params = omega (arith, rule.few) in h)

  -- so many blocks at most become whole
  pub most_new : (count : ℕ) → new_blocks w count ≤ count / w.params.channels / block_frames w.params.codec + 1
  most_new count =
      let n = block_numbers w.params in
      let q = count / n in
      let m = new_blocks w count in
      let few : m ≤ q + 1 = elim (cases_lt (q + 1) m) [
        | inl many ↦
            let least : (q + 2) * n ≤ m * n = mul-le-mul_right n (let h : q + 2 ≤ m = omega (arith, many) in h) in
            let most : m * n ≤ length w.waiting + count = div-mul-le_self (length w.waiting + count) n in
            let split : (q + 2) * n ≡ q * n + n + n = omega arith in
            absurd (omega (arith, least, most, split, rule.few, lt-div-mul-add {a = count} (some_numbers w.params rule.form)))
        | inr le ↦ le
      ] in
      omega (arith, few, div-div-eq-div-mul count w.params.channels (block_frames w.params.codec))

  pub most_bytes : (xs : List ℤ) → length (more_bytes w xs) ≤ (length xs / w.params.channels / block_frames w.params.codec + 1) * block_align w.params.channels w.params.codec
  most_bytes xs =
      let align = block_align w.params.channels w.params.codec in
      let times : new_blocks w (length xs) * align ≤ (length xs / w.params.channels / block_frames w.params.codec + 1) * align = mul-le-mul_right align (most_new (length xs)) in
      omega (arith, length-new w xs rule.form, times)

  pub writes_few : (xs : List ℤ) (old new : ℕ) → AtMost old (length (more_bytes w xs)) new
      → AtMost old ((length xs / w.params.channels / block_frames w.params.codec + 1) * block_align w.params.channels w.params.codec) new
  writes_few xs old new few = record { later = few.later; most = omega (arith, few.most, most_bytes xs) }

  -- the part behind the first `done`
  module _ (xs : List ℤ) (done k : ℕ) where
    abbrev front : List ℤ
    front = take done xs

    abbrev part : List ℤ
    part = take (done + k - done) (drop done xs)

    abbrev next : List ℤ
    next = take (done + k) xs

    parts : next ≡ front ++ part
    parts = take-add done k xs ∙ ap (λ (m : ℕ). front ++ take m (drop done xs)) (let e : k ≡ done + k - done = omega arith in e)

    bytes_next : more_bytes w front ++ more_bytes (given_more w front) part ≡ more_bytes w next
    bytes_next = sym (bytes_in_two w front part rule.form) ∙ ap (more_bytes w) (sym parts)

    bytes_rest : more_bytes w next ++ more_bytes (given_more w next) (drop (done + k) xs) ≡ more_bytes w xs
    bytes_rest = sym (bytes_in_two w next (drop (done + k) xs) rule.form) ∙ ap (more_bytes w) (take-append-drop (done + k) xs)

    module _ (v : Writing) (is : v ≡ given_more w front) where
      pub given_next : given_more v part ≡ given_more w next
      given_next = ap (λ (u : Writing). given_more u part) is ∙ sym (given_in_two w front part rule.form) ∙ ap (given_more w) (sym parts)

      bytes_of_next : more_bytes w front ++ more_bytes v part ≡ more_bytes w next
      bytes_of_next = ap (λ (u : Writing). more_bytes w front ++ more_bytes u part) is ∙ bytes_next

      place_of_next : (start : ℕ) → next_place start v ≡ next_place start w + length (more_bytes w front)
      place_of_next start = ap (next_place start) is ∙ place_behind start w front rule.form

      pub is_there : (start old size : ℕ) → size ≡ max old (next_place start w + length (more_bytes w front)) → next_place start v ≤ size
      is_there start old size sized = omega (arith, sized, place_of_next start)

      pub fits_there : (start most : ℕ) → place_after start w (length xs) < most → place_after start v (length part) < most
      fits_there start most fits =
          let end : next_place start (given_more w xs) ≡ next_place start w + length (more_bytes w xs) = place_behind start w xs rule.form in
          let to : next_place start (given_more v part) ≡ next_place start w + length (more_bytes w next) = ap (next_place start) given_next ∙ place_behind start w next rule.form in
          let rest : length (more_bytes w next) + length (more_bytes (given_more w next) (drop (done + k) xs)) ≡ length (more_bytes w xs) = sym (length-append (more_bytes w next) _) ∙ ap length bytes_rest in
          omega (arith, fits, end, to, rest)

      pub written_next : (start : ℕ) (a b c : State) → IsWritten (next_place start w) (more_bytes w front) a b → IsWritten (next_place start v) (more_bytes v part) b c → IsWritten (next_place start w) (more_bytes w next) a c
      written_next start a b c first second =
          written_as a c _ _ _ _ refl bytes_of_next (written_then a b c (next_place start w) (next_place start v) (more_bytes w front) (more_bytes v part) (place_of_next start) first second)

      module _ {D : Type 0} (d : Ghosts D) (a b c : D) (start : ℕ) (first : Puts d (next_place start w) (more_bytes w front) a b) (second : Puts d (next_place start v) (more_bytes v part) b c) where
        pub puts_next : Puts d (next_place start w) (more_bytes w next) a c
        puts_next = puts_as d a c _ _ _ _ refl bytes_of_next (puts_then d a b c (next_place start w) (next_place start v) (more_bytes w front) (more_bytes v part) (place_of_next start) first second)

        pub puts_all : Puts d (next_place start w) (more_bytes w xs) a c
        puts_all = puts_as d a c _ _ _ _ refl bytes_rest (puts_more d a c (next_place start w) (more_bytes w next) (more_bytes (given_more w next) (drop (done + k) xs)) puts_next)
