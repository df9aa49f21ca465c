-- A writer stands for the numbers that it was given, and its blocks are those of the whole list.
use Rattle.std.proofs.Common.{◌≡◌, ◌∙◌, refl, sym, ap, inl, inr, ℕ, ℤ, pos, zero, suc, ◌+◌, ◌-◌, ◌*◌, ◌/◌, ◌%◌, ◌<◌, ◌≤◌, Some, option_map, List, [], ◌++◌, length, take, drop, replicate, arith}
use Rattle.std.proofs.Math.Nat.{div-add-mod, div-mul-le_self, mod-eq-sub-div-mul, mod-eq_of_lt, mod-lt, mod_self, mul-div_left, mul-mod_left, zero-div}
use Rattle.std.proofs.lemmas.List.{append-nil, length-append, length-drop, length-replicate, length-take-le, take-append-drop, take_all}
use Rattle.std.proofs.lemmas.Bool.{cases_lt}
use Rattle.snd_ima_adpcm.specs.Blocks.{Rule, bytes_of_blocks, bytes_of_list, filled}
use Rattle.snd_ima_adpcm.specs.Ima.{Indices}
use Rattle.snd_ms_adpcm.specs.Laws.{ms_rule}
use Rattle.snd_disk.specs.Bytes.{over}
use Rattle.snd_disk.specs.State.{IsWritten, State}
use Rattle.snd_layout.specs.declared.codec.Codec.{Codec}
use Rattle.snd_layout.specs.declared.codec.Codec.TheVariants.{Ima, Ms}
use Rattle.snd_layout.specs.Blocks.{block_align, block_frames}
use Rattle.snd_layout.specs.Params.{Parameters}
use Rattle.snd_blocks.specs.Calls.{AreBlocks, HasForm}
use Rattle.snd_block_writer.specs.Coded.{block_numbers, blocks_coded, coded, rest, whole, whole_blocks}
use Rattle.snd_block_writer.specs.Writing.{StandsFor, Writing, block_bytes, carried, given, given_more, more_bytes, new_blocks, next_indices, next_place, padding, rule_of}
use Rattle.snd_block_writer.proofs.Given.{bytes_in_two, given_in_two, place_behind, same_writing, some_numbers, writing}
use Rattle.snd_block_writer.proofs.Putting.{over_over}
use Rattle.snd_block_writer.proofs.Rules.{bytes-front, length-blocks}
use Rattle.snd_block_writer.proofs.Sizes.{size_of_block}

-- ---- the blocks of a list

-- two rules that give the same bytes, whatever they carry
same_blocks : {A B : Type 0} (r : Rule A) (s : Rule B) → ((a : A) (b : B) (xs : List ℤ) → r.bytes a xs ≡ s.bytes b xs) → (n count : ℕ) (a : A) (b : B) (xs : List ℤ)
    → bytes_of_blocks r n count a xs ≡ bytes_of_blocks s n count b xs
same_blocks r s same n zero a b xs = refl
same_blocks r s same n (suc count) a b xs =
    ap (λ (l : List ℕ). l ++ bytes_of_blocks r n count (r.next a (take n xs)) (drop n xs)) (same a b (take n xs))
    ∙ ap (λ (l : List ℕ). s.bytes b (take n xs) ++ l) (same_blocks r s same n count (r.next a (take n xs)) (s.next b (take n xs)) (drop n xs))

abbrev rule_by : ℕ → Codec → Rule Indices
rule_by channels codec = record { bytes = block_bytes channels codec; next = next_indices channels codec }

coded_by : (channels : ℕ) (codec : Codec) (xs : List ℤ) → HasForm channels codec → blocks_coded channels codec xs ≡ bytes_of_list (rule_by channels codec) (channels * block_frames codec) (0, 0) xs
unfolding blocks_coded block_bytes next_indices
coded_by channels (Ima align per_block) xs form = ap (λ (m : ℕ). bytes_of_list (rule_by channels (Ima align per_block)) (channels * m) (0, 0) xs) (sym form.1)
coded_by channels (Ms align per_block) xs form =
    ap (λ (m : ℕ). bytes_of_list (ms_rule channels) (channels * m) tt xs) (sym form.1)
    ∙ same_blocks (ms_rule channels) (rule_by channels (Ms align per_block)) (λ a b ys. refl) (channels * per_block) (length (filled (channels * per_block) xs) / (channels * per_block)) tt (0, 0) (filled (channels * per_block) xs)
coded_by channels codec xs form = absurd form

-- a list that is whole blocks needs no filling
none_filled : (n count : ℕ) (xs : List ℤ) → 0 < n → length xs ≡ count * n → filled n xs ≡ xs
none_filled n count xs some size =
    let none : length xs % n ≡ 0 = ap (λ (m : ℕ). m % n) size ∙ mul-mod_left count n in
    let pad : (n - length xs % n) % n ≡ 0 = ap (λ (m : ℕ). m % n) (let e : n - length xs % n ≡ n = omega (arith, none) in e) ∙ mod_self n in
    ap (λ (m : ℕ). xs ++ replicate m (pos 0)) pad ∙ append-nil xs

-- a filled list is whole blocks
pub whole_filled : (n : ℕ) (xs : List ℤ) → 0 < n → length (filled n xs) % n ≡ 0
whole_filled n xs some =
    let r = length xs % n in
    let whole : n * (length xs / n) + r ≡ length xs = div-add-mod (length xs) n in
    let size : length (filled n xs) ≡ length xs + (n - r) % n = length-append xs (replicate ((n - r) % n) (pos 0)) ∙ ap (λ (m : ℕ). length xs + m) (length-replicate ((n - r) % n) (pos 0)) in
    elim (cases_lt 0 r) [
      | inl more ↦
          let pad : (n - r) % n ≡ n - r = mod-eq_of_lt (omega (arith, more, some)) in
          let sum : length (filled n xs) ≡ (length xs / n + 1) * n = omega (arith, whole, size, pad, mod-lt (length xs) some) in
          ap (λ (m : ℕ). m % n) sum ∙ mul-mod_left (length xs / n + 1) n
      | inr none ↦
          let pad : (n - r) % n ≡ 0 = ap (λ (m : ℕ). m % n) (let e : n - r ≡ n = omega (arith, none) in e) ∙ mod_self n in
          ap (λ (m : ℕ). m % n) (let e : length (filled n xs) ≡ length xs = omega (arith, size, pad) in e) ∙ (let e : length xs % n ≡ 0 = omega (arith, none) in e)
    ]

-- the zeros are fewer than a block's numbers
pub filled_few : (n : ℕ) (xs : List ℤ) → 0 < n → (length xs ≤ length (filled n xs)) × (length (filled n xs) < length xs + n)
filled_few n xs some =
    let zeros = (n - length xs % n) % n in
    let size : length (filled n xs) ≡ length xs + zeros = length-append xs (replicate zeros (pos 0)) ∙ ap (λ (m : ℕ). length xs + m) (length-replicate zeros (pos 0)) in
    let few : zeros < n = mod-lt (n - length xs % n) some in
    (omega (arith, size), omega (arith, size, few))

-- ---- what a writer stands for

abbrev fresh : Parameters → Writing
fresh p = writing p 0 (0, 0) []

given_fresh : (p : Parameters) (xs : List ℤ) → given_more (fresh p) xs ≡ given p xs
given_fresh p xs =
    let n = block_numbers p in
    let count : new_blocks (fresh p) (length xs) ≡ whole_blocks p xs = ap (λ (m : ℕ). m / n) (let e : 0 + length xs ≡ length xs = omega arith in e) in
    same_writing p _ _ _ _ _ _ (omega (arith, count)) (ap (λ (m : ℕ). carried (rule_of p) n m (0, 0) xs) count) (ap (λ (m : ℕ). drop (m * n) xs) count)

module _ (p : Parameters) (blocks : AreBlocks p) where
  abbrev n : ℕ
  n = block_numbers p

  some : 0 < block_numbers p
  some = some_numbers p blocks

  -- all blocks are whole blocks of the filled list
  pub coded_blocks : (xs : List ℤ) → coded p xs ≡ bytes_of_blocks (rule_of p) n (length (filled n xs) / n) (0, 0) (filled n xs)
  coded_blocks xs = coded_by p.channels p.codec xs blocks.form

  pub length-coded : (xs : List ℤ) → length (coded p xs) ≡ length (filled n xs) / n * block_align p.channels p.codec
  length-coded xs =
      ap length (coded_blocks xs)
      ∙ length-blocks (rule_of p) n (block_align p.channels p.codec) (λ indices block whole. size_of_block p indices block blocks whole) (length (filled n xs) / n) (0, 0) (filled n xs) (div-mul-le_self (length (filled n xs)) n)

  -- .. of which whole blocks have so many
  pub length-whole : (xs : List ℤ) → (length (whole p xs) ≡ whole_blocks p xs * n) × (length (coded p (whole p xs)) ≡ whole_blocks p xs * block_align p.channels p.codec)
  length-whole xs =
      let count = whole_blocks p xs in
      let size : length (whole p xs) ≡ count * n = length-take-le (count * n) xs (div-mul-le_self (length xs) n) in
      let same : length (filled n (whole p xs)) / n ≡ count = ap (λ (l : List ℤ). length l / n) (none_filled n count (whole p xs) some size) ∙ ap (λ (m : ℕ). m / n) size ∙ mul-div_left count some in
      (size, length-coded (whole p xs) ∙ ap (λ (m : ℕ). m * block_align p.channels p.codec) same)

  bytes_of_whole : (count : ℕ) (xs : List ℤ) → length xs ≡ count * n → coded p xs ≡ bytes_of_blocks (rule_of p) n (length xs / n) (0, 0) xs
  bytes_of_whole count xs size =
      coded_by p.channels p.codec xs blocks.form
      ∙ ap (λ (l : List ℤ). bytes_of_blocks (rule_of p) n (length l / n) (0, 0) l) (none_filled n count xs some size)

  -- the bytes that a new writer makes of numbers are the blocks of the front that is whole blocks
  bytes_fresh : (xs : List ℤ) → more_bytes (fresh p) xs ≡ coded p (whole p xs)
  bytes_fresh xs =
      let rule = rule_of p in
      let count = whole_blocks p xs in
      let size : length (whole p xs) ≡ count * n = length-take-le (count * n) xs (div-mul-le_self (length xs) n) in
      ap (λ (m : ℕ). bytes_of_blocks rule n (m / n) (0, 0) xs) (let e : 0 + length xs ≡ length xs = omega arith in e)
      ∙ ap (λ (l : List ℤ). bytes_of_blocks rule n count (0, 0) l) (sym (take-append-drop (count * n) xs))
      ∙ bytes-front rule n count (0, 0) (whole p xs) (rest p xs) (omega (arith, size))
      ∙ ap (λ (m : ℕ). bytes_of_blocks rule n m (0, 0) (whole p xs)) (sym (ap (λ (m : ℕ). m / n) size ∙ mul-div_left count some))
      ∙ sym (bytes_of_whole count (whole p xs) size)

  -- given more, it stands for all
  pub stands_more : (w : Writing) (xs ys : List ℤ) → StandsFor w p ys → StandsFor (given_more w xs) p (ys ++ xs)
  stands_more w xs ys stands =
      ap (λ (u : Writing). given_more u xs) (stands ∙ sym (given_fresh p ys))
      ∙ sym (given_in_two (fresh p) ys xs blocks)
      ∙ given_fresh p (ys ++ xs)

  -- its blocks and the new ones are those of all numbers
  pub coded_more : (w : Writing) (xs ys : List ℤ) → StandsFor w p ys → coded p (whole p ys) ++ more_bytes w xs ≡ coded p (whole p (ys ++ xs))
  coded_more w xs ys stands =
      ap (λ (u : Writing). coded p (whole p ys) ++ more_bytes u xs) (stands ∙ sym (given_fresh p ys))
      ∙ ap (λ (l : List ℕ). l ++ more_bytes (given_more (fresh p) ys) xs) (sym (bytes_fresh ys))
      ∙ sym (bytes_in_two (fresh p) ys xs blocks)
      ∙ bytes_fresh (ys ++ xs)

  pub place_coded : (start : ℕ) (w : Writing) (ys : List ℤ) → StandsFor w p ys → next_place start w ≡ start + length (coded p (whole p ys))
  place_coded start w ys stands =
      ap (next_place start) (stands ∙ sym (given_fresh p ys))
      ∙ place_behind start (fresh p) ys blocks
      ∙ (let e : next_place start (fresh p) + length (more_bytes (fresh p) ys) ≡ start + length (more_bytes (fresh p) ys) = omega arith in e)
      ∙ ap (λ (l : List ℕ). start + length l) (bytes_fresh ys)

  -- a new writer has written nothing
  pub none_coded : coded p (whole p []) ≡ []
  none_coded =
      let none : length (coded p (whole p [])) ≡ 0 =
      (length-whole []).1 ∙ ap (λ (m : ℕ). m * block_align p.channels p.codec) (zero-div n) ∙ (let e : 0 * block_align p.channels p.codec ≡ 0 = omega arith in e) in
      sym (take_all 0 (coded p (whole p [])) (omega (arith, none)))

  pub place_of_whole : (start : ℕ) (w : Writing) (ys : List ℤ) → StandsFor w p ys → next_place start w ≡ start + whole_blocks p ys * block_align p.channels p.codec
  place_of_whole start w ys stands = place_coded start w ys stands ∙ ap (λ (m : ℕ). start + m) (length-whole ys).1

  -- zeros that fill the last block
  pub padded : (w : Writing) (ys : List ℤ) → StandsFor w p ys → ys ++ padding w ≡ filled (block_numbers p) ys
  padded w ys stands =
      let waiting : length (rest p ys) % n ≡ length ys % n =
      ap (λ (m : ℕ). m % n) (length-drop (whole_blocks p ys * n) ys ∙ sym (mod-eq-sub-div-mul (length ys) n)) ∙ mod-eq_of_lt (mod-lt (length ys) some) in
      ap (λ (u : Writing). ys ++ padding u) stands ∙ ap (λ (m : ℕ). ys ++ replicate ((n - m) % n) (pos 0)) waiting

  pub coded_padded : (ys : List ℤ) → coded p (whole p (filled (block_numbers p) ys)) ≡ coded p ys
  coded_padded ys =
      let all = filled n ys in
      let whole_is : length all / n * n ≡ length all = omega (arith, div-add-mod (length all) n, whole_filled n ys some) in
      ap (coded p) (take_all (length all / n * n) all (omega (arith, whole_is)))
      ∙ bytes_of_whole (length all / n) all (sym whole_is)
      ∙ sym (coded_by p.channels p.codec ys blocks.form)

  -- the contents
  pub holds_more : (a b : State) (start : ℕ) (w : Writing) (xs ys : List ℤ) (l : List ℕ) → StandsFor w p ys → IsWritten (next_place start w) (more_bytes w xs) a b
      → a.contents ≡ Some (over l start (coded p (whole p ys))) → b.contents ≡ Some (over l start (coded p (whole p (ys ++ xs))))
  holds_more a b start w xs ys l stands done told =
      done.contents
      ∙ ap (option_map (λ x. over x (next_place start w) (more_bytes w xs))) told
      ∙ ap (λ (m : ℕ). Some (over (over l start (coded p (whole p ys))) m (more_bytes w xs))) (place_coded start w ys stands)
      ∙ ap (λ (x : List ℕ). Some x) (over_over l start (coded p (whole p ys)) (more_bytes w xs))
      ∙ ap (λ (x : List ℕ). Some (over l start x)) (coded_more w xs ys stands)
