-- What a writer knows once it was given more numbers, in two parts.
use Rattle.std.proofs.Common.{◌≡◌, ◌⊎◌, ◌∙◌, refl, sym, ap, inl, inr, ℕ, ℤ, ◌+◌, ◌*◌, ◌/◌, ◌<◌, ◌≤◌, List, [], ◌++◌, length, take, drop, max, append_assoc, arith}
use Rattle.std.proofs.Math.Nat.{add-mul-div_right, div-eq_of_lt, div-eq_of_lt-le, lt-div-mul-add}
use Rattle.std.proofs.lemmas.List.{append-nil, drop_all, drop-append-le, drop-drop, length-append, length-drop, take_all}
use Rattle.snd_ima_adpcm.specs.Blocks.{bytes_of_blocks}
use Rattle.snd_ima_adpcm.specs.Ima.{Indices}
use Rattle.snd_layout.specs.Blocks.{block_align}
use Rattle.snd_layout.specs.Params.{Parameters}
use Rattle.snd_blocks.specs.Calls.{AreBlocks}
use Rattle.snd_block_writer.specs.Coded.{block_numbers}
use Rattle.snd_block_writer.specs.Writing.{Writing, carried, given_more, more_bytes, new_blocks, next_place, place_after, rule_of}
use Rattle.snd_block_writer.proofs.Rules.{bytes-front, bytes-more, carried-front, carried-more, length-blocks}
use Rattle.snd_block_writer.proofs.Sizes.{size_of_block}

pub some_numbers : (p : Parameters) → AreBlocks p → 0 < block_numbers p
some_numbers p blocks = some p.channels _ blocks.channels blocks.some_frames
  where
    some : (channels frames : ℕ) → (channels ≡ 1) ⊎ (channels ≡ 2) → 1 ≤ frames → 0 < channels * frames
    some channels frames (inl one) least = rw one (omega (arith, least))
    some channels frames (inr two) least = rw two (omega (arith, least))

-- the parts of a writing, one by one
abbrev pub writing : Parameters → ℕ → Indices → List ℤ → Writing
writing p blocks indices waiting = record { params = p; blocks = blocks; indices = indices; waiting = waiting }

pub same_writing : (p : Parameters) (a b : ℕ) (i j : Indices) (xs ys : List ℤ) → a ≡ b → i ≡ j → xs ≡ ys → writing p a i xs ≡ writing p b j ys
same_writing p a b i j xs ys one two three =
    ap (λ (m : ℕ). writing p m i xs) one ∙ ap (λ (k : Indices). writing p b k xs) two ∙ ap (writing p b j) three

-- ---- numbers that all go into the block that waits

pub none_new : (w : Writing) (xs : List ℤ) → length w.waiting + length xs < block_numbers w.params → more_bytes w xs ≡ []
none_new w xs few = rw (div-eq_of_lt few) refl

pub one_new : (w : Writing) (count : ℕ) → AreBlocks w.params → length w.waiting + count ≡ block_numbers w.params → new_blocks w count ≡ 1
one_new w count blocks full = ap (λ (m : ℕ). m / block_numbers w.params) full ∙ div-eq_of_lt-le (block_numbers w.params) (omega arith) (let h = some_numbers w.params blocks in omega (arith, h))

module _ (w : Writing) (xs all : List ℤ) (blocks : AreBlocks w.params) (full : length w.waiting + length xs ≡ block_numbers w.params) (joined : all ≡ w.waiting ++ xs) where
  size : length (w.waiting ++ xs) ≡ block_numbers w.params
  size = length-append w.waiting xs ∙ full

  pub one_block : (rule_of w.params).bytes w.indices all ≡ more_bytes w xs
  one_block =
      sym (rw (one_new w (length xs) blocks full) (append-nil ((rule_of w.params).bytes w.indices (take (block_numbers w.params) (w.waiting ++ xs))))
      ∙ ap (λ (l : List ℤ). (rule_of w.params).bytes w.indices l) (take_all (block_numbers w.params) (w.waiting ++ xs) (omega (arith, size)) ∙ sym joined))

  pub one_given : writing w.params (w.blocks + 1) ((rule_of w.params).next w.indices all) [] ≡ given_more w xs
  one_given =
      let n = block_numbers w.params in
      let one = one_new w (length xs) blocks full in
      let rest : drop (new_blocks w (length xs) * n) (w.waiting ++ xs) ≡ [] =
      ap (λ (m : ℕ). drop (m * n) (w.waiting ++ xs)) one ∙ drop_all (1 * n) (w.waiting ++ xs) (omega (arith, size)) in
      let next : carried (rule_of w.params) n (new_blocks w (length xs)) w.indices (w.waiting ++ xs) ≡ (rule_of w.params).next w.indices all =
      ap (λ (m : ℕ). carried (rule_of w.params) n m w.indices (w.waiting ++ xs)) one
      ∙ ap (λ (l : List ℤ). (rule_of w.params).next w.indices l) (take_all n (w.waiting ++ xs) (omega (arith, size)) ∙ sym joined) in
      sym (same_writing w.params _ _ _ _ _ _ (ap (λ (m : ℕ). w.blocks + m) one) next rest)

-- .. of a writer that is known by its parts
module _ (v w : Writing) (xs items : List ℤ) (is : v ≡ w) (blocks : AreBlocks v.params) (full : length v.waiting + length xs ≡ block_numbers v.params) (joined : items ≡ v.waiting ++ xs) where
  pub block_made : (rule_of v.params).bytes v.indices items ≡ more_bytes w xs
  block_made = one_block v xs items blocks full joined ∙ ap (λ (u : Writing). more_bytes u xs) is

  pub block_given : writing v.params (v.blocks + 1) ((rule_of v.params).next v.indices items) [] ≡ given_more w xs
  block_given = one_given v xs items blocks full joined ∙ ap (λ (u : Writing). given_more u xs) is

-- ---- numbers in two parts

module _ (w : Writing) (xs ys : List ℤ) (blocks : AreBlocks w.params) where
  abbrev n : ℕ
  n = block_numbers w.params

  abbrev first : ℕ
  first = new_blocks w (length xs)

  abbrev all : List ℤ
  all = w.waiting ++ xs

  abbrev second : ℕ
  second = new_blocks (given_more w xs) (length ys)

  fits : first * n ≤ length all
  fits = omega (arith, length-append w.waiting xs, lt-div-mul-add {a = length w.waiting + length xs} (some_numbers w.params blocks))

  together : new_blocks w (length (xs ++ ys)) ≡ first + second
  together =
      let whole : length w.waiting + length (xs ++ ys) ≡ length (drop (first * n) all) + length ys + first * n =
      omega (arith, length-append xs ys, length-append w.waiting xs, length-drop (first * n) all, fits) in
      ap (λ (m : ℕ). m / n) whole ∙ add-mul-div_right (length (drop (first * n) all) + length ys) first (some_numbers w.params blocks) ∙ (let e : second + first ≡ first + second = omega arith in e)

  joined : w.waiting ++ (xs ++ ys) ≡ all ++ ys
  joined = sym (append_assoc w.waiting xs ys)

  behind : drop (first * n) (all ++ ys) ≡ drop (first * n) all ++ ys
  behind = drop-append-le (first * n) all ys fits

  pub bytes_in_two : more_bytes w (xs ++ ys) ≡ more_bytes w xs ++ more_bytes (given_more w xs) ys
  bytes_in_two =
      let rule = rule_of w.params in
      ap (λ (m : ℕ). bytes_of_blocks rule n m w.indices (w.waiting ++ (xs ++ ys))) together
      ∙ ap (λ (l : List ℤ). bytes_of_blocks rule n (first + second) w.indices l) joined
      ∙ bytes-more rule n first second w.indices (all ++ ys)
      ∙ ap (λ (l : List ℕ). l ++ bytes_of_blocks rule n second (carried rule n first w.indices (all ++ ys)) (drop (first * n) (all ++ ys))) (bytes-front rule n first w.indices all ys fits)
      ∙ ap (λ (l : List ℤ). bytes_of_blocks rule n first w.indices all ++ bytes_of_blocks rule n second (carried rule n first w.indices (all ++ ys)) l) behind
      ∙ ap (λ (i : Indices). bytes_of_blocks rule n first w.indices all ++ bytes_of_blocks rule n second i (drop (first * n) all ++ ys)) (carried-front rule n first w.indices all ys fits)

  pub given_in_two : given_more w (xs ++ ys) ≡ given_more (given_more w xs) ys
  given_in_two =
      let rule = rule_of w.params in
      let count : w.blocks + new_blocks w (length (xs ++ ys)) ≡ w.blocks + first + second = omega (arith, together) in
      let indices =
      ap (λ (m : ℕ). carried rule n m w.indices (w.waiting ++ (xs ++ ys))) together
      ∙ ap (λ (l : List ℤ). carried rule n (first + second) w.indices l) joined
      ∙ carried-more rule n first second w.indices (all ++ ys)
      ∙ ap (λ (l : List ℤ). carried rule n second (carried rule n first w.indices (all ++ ys)) l) behind
      ∙ ap (λ (i : Indices). carried rule n second i (drop (first * n) all ++ ys)) (carried-front rule n first w.indices all ys fits) in
      let waiting =
      ap (λ (m : ℕ). drop (m * n) (w.waiting ++ (xs ++ ys))) together
      ∙ ap (λ (l : List ℤ). drop ((first + second) * n) l) joined
      ∙ ap (λ (m : ℕ). drop m (all ++ ys)) (let e : (first + second) * n ≡ first * n + second * n = omega arith in e)
      ∙ sym (drop-drop (second * n) (first * n) (all ++ ys))
      ∙ ap (λ (l : List ℤ). drop (second * n) l) behind in
      same_writing w.params _ _ _ _ _ _ count indices waiting

-- ---- places

pub length-new : (w : Writing) (xs : List ℤ) → AreBlocks w.params → length (more_bytes w xs) ≡ new_blocks w (length xs) * block_align w.params.channels w.params.codec
length-new w xs blocks =
    length-blocks (rule_of w.params) (block_numbers w.params) (block_align w.params.channels w.params.codec) (λ indices block whole. size_of_block w.params indices block blocks whole)
    (new_blocks w (length xs)) w.indices (w.waiting ++ xs)
    (omega (arith, length-append w.waiting xs, lt-div-mul-add {a = length w.waiting + length xs} (some_numbers w.params blocks)))

pub place_behind : (start : ℕ) (w : Writing) (xs : List ℤ) → AreBlocks w.params → next_place start (given_more w xs) ≡ next_place start w + length (more_bytes w xs)
place_behind start w xs blocks =
    let align = block_align w.params.channels w.params.codec in
    let more : (w.blocks + new_blocks w (length xs)) * align ≡ w.blocks * align + new_blocks w (length xs) * align = omega arith in
    omega (arith, more, length-new w xs blocks)

pub place_is : (start : ℕ) (w : Writing) (xs : List ℤ) → place_after start w (length xs) ≡ next_place start (given_more w xs)
place_is start w xs = refl

-- ---- of a writer that is known by its parts, to whose waiting numbers others were added

module _ (v w : Writing) (xs : List ℤ) (is : v ≡ w) where
  pub is_full : (items : List ℤ) (numbers count : ℕ) → items ≡ v.waiting ++ xs → length w.waiting + length xs ≤ block_numbers w.params → numbers ≡ block_numbers w.params
      → count ≡ length items → numbers ≤ count → length v.waiting + length xs ≡ block_numbers v.params
  is_full items numbers count joined room numbers_are count_is full =
      let params : block_numbers v.params ≡ block_numbers w.params = ap (λ (u : Writing). block_numbers u.params) is in
      let waiting : length v.waiting ≡ length w.waiting = ap (λ (u : Writing). length u.waiting) is in
      let size : length items ≡ length v.waiting + length xs = ap length joined ∙ length-append v.waiting xs in
      omega (arith, params, waiting, size, room, numbers_are, count_is, full)

  pub block_fits : (start at most : ℕ) → AreBlocks v.params → length v.waiting + length xs ≡ block_numbers v.params → at ≡ next_place start w → place_after start w (length xs) < most
      → at + block_align v.params.channels v.params.codec < most
  block_fits start at most blocks full at_is fits =
      let align = block_align v.params.channels v.params.codec in
      let place : next_place start w ≡ start + v.blocks * align = ap (next_place start) (sym is) in
      let end : place_after start w (length xs) ≡ start + (v.blocks + 1) * align =
      ap (λ (u : Writing). place_after start u (length xs)) (sym is) ∙ ap (λ (m : ℕ). start + (v.blocks + m) * align) (one_new v (length xs) blocks full) in
      let more : (v.blocks + 1) * align ≡ v.blocks * align + align = omega arith in
      omega (arith, place, end, more, at_is, fits)

-- the blocks that were written end where the next one belongs
pub is_reached : (start old size : ℕ) (w v : Writing) (xs : List ℤ) → AreBlocks w.params → v ≡ given_more w xs → size ≡ max old (next_place start w + length (more_bytes w xs)) → next_place start v ≤ size
is_reached start old size w v xs blocks is sized = omega (arith, sized, ap (next_place start) is ∙ place_behind start w xs blocks)
