-- One block, or four, that are made at once.
use Rattle.std.specs.Prelude.{◌==◌, nat_le}
use Rattle.std.proofs.Common.{◌≡◌, ◌∙◌, refl, sym, subst, ap, inl, inr, ℕ, ℤ, zero, suc, ◌+◌, ◌-◌, ◌*◌, ◌/◌, ◌%◌, ◌<◌, ◌≤◌, List, [], ◌∷◌, ◌++◌, length, take, drop, IsTrue, arith}
use Rattle.std.proofs.Math.Nat.{add-mul-div_right, div-eq_of_lt}
use Rattle.std.proofs.lemmas.List.{drop_all}
use Rattle.std.proofs.lemmas.Bool.{and_parts, leb-true}
use Rattle.snd_fields.specs.Blocks.{is_ms_align, ms_samples_per_block}
use Rattle.snd_ima_adpcm.specs.Blocks.{bytes_of_blocks}
use Rattle.snd_ima_adpcm.specs.Ima.{Indices}
use Rattle.snd_ms_adpcm.specs.Laws.{ms_rule}
use Rattle.snd_ms_adpcm.specs.Microsoft.{IsMsBlock, ms_bytes}
use Rattle.snd_layout.specs.declared.codec.Codec.{Codec}
use Rattle.snd_layout.specs.declared.codec.Codec.TheVariants.{Ms}
use Rattle.snd_layout.specs.Blocks.{block_align, block_frames}
use Rattle.snd_layout.specs.Params.{Parameters}
use Rattle.snd_blocks.specs.Calls.{AreBlocks, HasForm}
use Rattle.snd_blocks.specs.Four.{IsFourfold, IsMs}
use Rattle.snd_block_writer.specs.Coded.{block_numbers}
use Rattle.snd_block_writer.specs.Writing.{IsOneOrFour, IsPart, Writing, block_bytes, carried, given_more, more_bytes, new_blocks, next_indices, next_place, place_after, rule_of}
use Rattle.snd_block_writer.proofs.Given.{place_behind, same_writing, some_numbers, writing}

-- ---- four

ms_bytes_are : (channels : ℕ) (codec : Codec) (indices : Indices) (xs : List ℤ) → IsMs codec → ms_bytes channels xs ≡ block_bytes channels codec indices xs
unfolding block_bytes
ms_bytes_are channels (Ms align per_block) indices xs is = refl
ms_bytes_are channels codec indices xs is = absurd is

ms_carries_none : (channels : ℕ) (codec : Codec) (indices : Indices) (xs : List ℤ) → IsMs codec → indices ≡ next_indices channels codec indices xs
unfolding next_indices
ms_carries_none channels (Ms align per_block) indices xs is = refl
ms_carries_none channels codec indices xs is = absurd is

module _ (p : Parameters) (four : IsFourfold p) (n : ℕ) where
  pub four_made : (count : ℕ) (indices : Indices) (xs : List ℤ) → bytes_of_blocks (ms_rule 2) n count tt xs ≡ bytes_of_blocks (rule_of p) n count indices xs
  four_made zero indices xs = refl
  four_made (suc count) indices xs =
      ap (λ (l : List ℕ). l ++ bytes_of_blocks (ms_rule 2) n count tt (drop n xs))
      (ap (λ (k : ℕ). ms_bytes k (take n xs)) (sym four.two) ∙ ms_bytes_are p.channels p.codec indices (take n xs) four.ms)
      ∙ ap (λ (l : List ℕ). (rule_of p).bytes indices (take n xs) ++ l) (four_made count ((rule_of p).next indices (take n xs)) (drop n xs))

  pub none_carried : (count : ℕ) (indices : Indices) (xs : List ℤ) → indices ≡ carried (rule_of p) n count indices xs
  none_carried zero indices xs = refl
  none_carried (suc count) indices xs =
      none_carried count indices (drop n xs) ∙ ap (λ (i : Indices). carried (rule_of p) n count i (drop n xs)) (ms_carries_none p.channels p.codec indices (take n xs) four.ms)

pub four_together : (p : Parameters) → IsFourfold p → (size : ℕ) (indices : Indices) (xs : List ℤ) → size ≡ block_numbers p
    → bytes_of_blocks (ms_rule 2) size 4 tt xs ≡ bytes_of_blocks (rule_of p) (block_numbers p) 4 indices xs
four_together p four size indices xs is = ap (λ (m : ℕ). bytes_of_blocks (ms_rule 2) m 4 tt xs) is ∙ four_made p four (block_numbers p) 4 indices xs

-- what holds of Microsoft ADPCM
ms_form : (k : ℕ) (codec : Codec) → IsMs codec → HasForm k codec → IsTrue (is_ms_align k (block_align k codec)) × (block_frames codec ≡ ms_samples_per_block k (block_align k codec))
ms_form k (Ms align per_block) is form = form
ms_form k codec is form = absurd is

-- their numbers are whole blocks, and there is room for their bytes
module _ (p : Parameters) (blocks : AreBlocks p) (four : IsFourfold p) where
  abbrev align : ℕ
  align = block_align p.channels p.codec

  form : IsTrue (is_ms_align p.channels align) × (block_frames p.codec ≡ ms_samples_per_block p.channels align)
  form = ms_form p.channels p.codec four.ms blocks.form

  accepted : IsTrue (is_ms_align 2 align)
  accepted = subst (λ (k : ℕ). IsTrue (is_ms_align k align)) four.two form.0

  numbers : block_numbers p ≡ 2 * ms_samples_per_block 2 align
  numbers = ap (λ (k : ℕ). k * block_frames p.codec) four.two ∙ ap (λ (k : ℕ). 2 * k) (form.1 ∙ ap (λ (k : ℕ). ms_samples_per_block k align) four.two)

  heads : 14 ≤ align
  heads = leb-true 14 align (and_parts (nat_le 14 align) ((align - 14) * 2 % 2 == 0) accepted).0

  pub four_whole : (count : ℕ) → count ≡ 4 * block_numbers p → IsMsBlock 2 (count / 4)
  four_whole count is = record { align = align; accepted = accepted; room = blocks.most_bytes; whole = omega (arith, is, numbers) }

  pub four_room : (count : ℕ) → count ≡ 4 * block_numbers p → count / 2 + 48 ≤ 8192
  four_room count is = omega (arith, is, numbers, heads, four.small)

-- ---- what is taken at once

pub is_four : (p : Parameters) (count : ℕ) → IsOneOrFour p count → block_numbers p < count → (count ≡ 4 * block_numbers p) × IsFourfold p
is_four p count (inl one) many = absurd (omega (arith, one, many))
is_four p count (inr four) many = four

pub is_one : (p : Parameters) (count : ℕ) → AreBlocks p → IsOneOrFour p count → count ≤ block_numbers p → count ≡ block_numbers p
is_one p count blocks (inl one) few = one
is_one p count blocks (inr four) few = absurd (omega (arith, four.0, few, some_numbers p blocks))

pub part_room : (w : Writing) (count : ℕ) → IsPart w count → count < block_numbers w.params → length w.waiting + count ≤ block_numbers w.params
part_room w count (inl fits) few = fits
part_room w count (inr blocks) few = absurd (omega (arith, few, blocks.1))

pub empty : (xs : List ℤ) → length xs ≡ 0 → xs ≡ []
empty [] none = refl
empty (x ∷ xs) none = absurd (omega (arith, none))

pub part_none : (w : Writing) (count : ℕ) → IsPart w count → block_numbers w.params ≤ count → w.waiting ≡ []
part_none w count (inl fits) many = empty w.waiting (omega (arith, fits, many))
part_none w count (inr blocks) many = blocks.0

pub part_blocks : (w : Writing) (count : ℕ) → IsPart w count → block_numbers w.params ≤ count → IsOneOrFour w.params count
part_blocks w count (inl fits) many = inl (omega (arith, fits, many))
part_blocks w count (inr blocks) many = inr (blocks.1, blocks.2)

-- ---- whole blocks where none wait, of a writer that is known by its parts

module _ (v w : Writing) (xs : List ℤ) (is : v ≡ w) (none : w.waiting ≡ []) (blocks : AreBlocks v.params) (count : ℕ) (size : count * block_numbers v.params ≡ length xs) where
  abbrev n : ℕ
  n = block_numbers v.params

  pub none_before : v.waiting ≡ []
  none_before = ap (λ (u : Writing). u.waiting) is ∙ none

  all : v.waiting ++ xs ≡ xs
  all = ap (λ (l : List ℤ). l ++ xs) none_before

  count_is : new_blocks v (length xs) ≡ count
  count_is =
      ap (λ (m : ℕ). m / n) (let e : length v.waiting + length xs ≡ 0 + count * n = omega (arith, ap length none_before, size) in e)
      ∙ add-mul-div_right 0 count (some_numbers v.params blocks)
      ∙ ap (λ (m : ℕ). m + count) (div-eq_of_lt (some_numbers v.params blocks))
      ∙ (let e : 0 + count ≡ count = omega arith in e)

  pub blocks_made : bytes_of_blocks (rule_of v.params) n count v.indices xs ≡ more_bytes w xs
  blocks_made =
      sym (ap (λ (m : ℕ). bytes_of_blocks (rule_of v.params) n m v.indices (v.waiting ++ xs)) count_is ∙ ap (bytes_of_blocks (rule_of v.params) n count v.indices) all)
      ∙ ap (λ (u : Writing). more_bytes u xs) is

  pub blocks_given : writing v.params (v.blocks + count) (carried (rule_of v.params) n count v.indices xs) v.waiting ≡ given_more w xs
  blocks_given =
      let indices = ap (λ (m : ℕ). carried (rule_of v.params) n m v.indices (v.waiting ++ xs)) count_is ∙ ap (carried (rule_of v.params) n count v.indices) all in
      let waiting = ap (λ (m : ℕ). drop (m * n) (v.waiting ++ xs)) count_is ∙ ap (drop (count * n)) all ∙ drop_all (count * n) xs (omega (arith, size)) ∙ sym none_before in
      sym (same_writing v.params _ _ _ _ _ _ (ap (λ (m : ℕ). v.blocks + m) count_is) indices waiting) ∙ ap (λ (u : Writing). given_more u xs) is

  pub blocks_fit : (start at most : ℕ) (bytes : List ℕ) → bytes ≡ bytes_of_blocks (rule_of v.params) n count v.indices xs → at ≡ next_place start w → place_after start w (length xs) < most → at + length bytes < most
  blocks_fit start at most bytes made at_is fits =
      let form : AreBlocks w.params = subst (λ (u : Writing). AreBlocks u.params) is blocks in
      omega (arith, ap length (made ∙ blocks_made), at_is, fits, place_behind start w xs form)
