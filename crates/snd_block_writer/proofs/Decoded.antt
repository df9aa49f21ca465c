-- The frames of blocks that are written.
use Rattle.std.proofs.Common.{◌≡◌, ◌⊎◌, ◌∙◌, refl, sym, ap, inl, inr, ℕ, ℤ, zero, suc, ◌+◌, ◌*◌, ◌/◌, ◌<◌, ◌≤◌, false, List, [], ◌∷◌, ◌++◌, length, take, drop, arith}
use Rattle.std.specs.List.{flat_map}
use Rattle.std.proofs.Math.Nat.{add-mul-div_right, mul-div_left, zero-div}
use Rattle.std.proofs.lemmas.Grind.{flat_map-append}
use Rattle.std.proofs.lemmas.List.{append-nil, length-append, length-drop, length-take-le, take_all}
use Rattle.std.proofs.lemmas.List.Folds.{list_any-append}
use Rattle.snd_ima_adpcm.specs.Blocks.{bytes_of_blocks}
use Rattle.snd_ima_adpcm.specs.Ima.{Indices}
use Rattle.snd_layout.specs.declared.codec.Codec.{Codec}
use Rattle.snd_layout.specs.declared.codec.Codec.TheVariants.{Ima, Ms}
use Rattle.snd_layout.specs.Blocks.{block_align, block_frames}
use Rattle.snd_layout.specs.Params.{Parameters}
use Rattle.snd_pcm.specs.Groups.{first_groups, groups}
use Rattle.snd_pcm.proofs.Series.{length-first_groups}
use Rattle.snd_blocks.specs.Calls.{AreBlocks, HasForm}
use Rattle.snd_blocks.specs.Frames.{block_samples, blocks_decoded, frames_of, has_bad, is_bad_block, is_bad_frame}
use Rattle.snd_blocks.proofs.Public.{count_frames, groups_joined, no_bad_groups}
use Rattle.snd_block_writer.specs.Coded.{block_numbers}
use Rattle.snd_block_writer.specs.Writing.{block_bytes, next_indices, rule_of}
use Rattle.snd_block_writer.proofs.Goods.{AreIndices, good_ima, good_ms, indices_kept, samples_ima, samples_ms}
use Rattle.snd_block_writer.proofs.Sizes.{size_of_block}

-- ---- pieces of one length

count_pieces : {X Y : Type 0} (f : X → List Y) (m : ℕ) → ((x : X) → length (f x) ≡ m) → (xs : List X) → length (flat_map f xs) ≡ length xs * m
count_pieces f m same [] = omega arith
count_pieces f m same (x ∷ xs) = omega (arith, length-append (f x) (flat_map f xs), same x, count_pieces f m same xs)

-- ---- one block

good_by : (channels : ℕ) (codec : Codec) (indices : Indices) (xs : List ℤ) → (channels ≡ 1) ⊎ (channels ≡ 2) → HasForm channels codec → length xs ≡ channels * block_frames codec → AreIndices indices
    → is_bad_block channels codec (block_bytes channels codec indices xs) ≡ false
unfolding is_bad_block block_bytes
good_by channels (Ima align per_block) indices xs few form size are = good_ima channels align indices xs few (size ∙ ap (λ (m : ℕ). channels * m) form.1) are
good_by channels (Ms align per_block) indices xs few form size are = good_ms channels xs few
good_by channels codec indices xs few form size are = absurd form

samples_by : (channels : ℕ) (codec : Codec) (block : List ℕ) → (channels ≡ 1) ⊎ (channels ≡ 2) → HasForm channels codec → length block ≡ block_align channels codec
    → length (block_samples channels codec block) ≡ channels * block_frames codec
unfolding block_samples
samples_by channels (Ima align per_block) block few form size = samples_ima channels align block few form.0 size ∙ ap (λ (m : ℕ). channels * m) (sym form.1)
samples_by channels (Ms align per_block) block few form size = samples_ms channels align block few form.0 size ∙ ap (λ (m : ℕ). channels * m) (sym form.1)
samples_by channels codec block few form size = absurd form

indices_by : (channels : ℕ) (codec : Codec) (indices : Indices) (xs : List ℤ) → (channels ≡ 1) ⊎ (channels ≡ 2) → HasForm channels codec → AreIndices indices
    → AreIndices (next_indices channels codec indices xs)
unfolding next_indices
indices_by channels (Ima align per_block) indices xs few form are = indices_kept channels indices xs few are
indices_by channels (Ms align per_block) indices xs few form are = are
indices_by channels codec indices xs few form are = absurd form

pub some_channel : (channels : ℕ) → (channels ≡ 1) ⊎ (channels ≡ 2) → 1 ≤ channels
some_channel channels (inl one) = omega (arith, one)
some_channel channels (inr two) = omega (arith, two)

module _ (p : Parameters) (blocks : AreBlocks p) where
  abbrev n : ℕ
  n = block_numbers p

  abbrev align : ℕ
  align = block_align p.channels p.codec

  positive : 0 < align
  positive = let h = blocks.some_bytes in omega (arith, h)

  good_frames : (indices : Indices) (xs : List ℤ) → length xs ≡ n → AreIndices indices → has_bad (frames_of p (block_bytes p.channels p.codec indices xs)) ≡ false
  good_frames indices xs size are =
      let block = block_bytes p.channels p.codec indices xs in
      let good = good_by p.channels p.codec indices xs blocks.channels blocks.form size are in
      let count = samples_by p.channels p.codec block blocks.channels blocks.form (size_of_block p indices xs blocks size) in
      rw good (no_bad_groups p.channels (block_frames p.codec) (block_samples p.channels p.codec block) (some_channel p.channels blocks.channels) (omega (arith, count)))

  -- ---- all blocks

  -- blocks of some bytes, and those behind them
  pub decoded_joined : (a : ℕ) (xs ys : List ℕ) → length xs ≡ a * align → blocks_decoded p (xs ++ ys) ≡ blocks_decoded p xs ++ blocks_decoded p ys
  decoded_joined a xs ys size =
      let f = frames_of p in
      let one : length (xs ++ ys) / align ≡ a + length ys / align =
      ap (λ (m : ℕ). m / align) (let e : length (xs ++ ys) ≡ length ys + a * align = omega (arith, length-append xs ys, size) in e)
      ∙ add-mul-div_right (length ys) a positive ∙ (let e : length ys / align + a ≡ a + length ys / align = omega arith in e) in
      let two : length xs / align ≡ a = ap (λ (m : ℕ). m / align) size ∙ mul-div_left a positive in
      ap (λ (m : ℕ). flat_map f (first_groups align m (xs ++ ys))) one
      ∙ ap (flat_map f) (groups_joined align a (length ys / align) xs ys (size ∙ (let e : a * align ≡ align * a = omega arith in e)))
      ∙ flat_map-append f (first_groups align a xs) (groups align ys)
      ∙ ap (λ (m : ℕ). flat_map f (first_groups align m xs) ++ blocks_decoded p ys) (sym two)

  -- so many blocks have so many frames
  pub count_decoded : (a : ℕ) (xs : List ℕ) → length xs ≡ a * align → length (blocks_decoded p xs) ≡ a * block_frames p.codec
  count_decoded a xs size =
      let two : length xs / align ≡ a = ap (λ (m : ℕ). m / align) size ∙ mul-div_left a positive in
      count_pieces (frames_of p) (block_frames p.codec) (count_frames p) (groups align xs)
      ∙ ap (λ (m : ℕ). m * block_frames p.codec) (length-first_groups align (length xs / align) xs ∙ two)

  one_decoded : (block : List ℕ) → length block ≡ align → blocks_decoded p block ≡ frames_of p block
  one_decoded block size =
      let count : length block / align ≡ 1 = ap (λ (m : ℕ). m / align) (size ∙ (let e : align ≡ 1 * align = omega arith in e)) ∙ mul-div_left 1 positive in
      ap (λ (m : ℕ). flat_map (frames_of p) (first_groups align m block)) count
      ∙ append-nil (frames_of p (take align block))
      ∙ ap (frames_of p) (take_all align block (omega (arith, size)))

  pub good_blocks : (count : ℕ) (indices : Indices) (xs : List ℤ) → count * n ≤ length xs → AreIndices indices
      → has_bad (blocks_decoded p (bytes_of_blocks (rule_of p) n count indices xs)) ≡ false
  good_blocks zero indices xs there are = ap (λ (m : ℕ). has_bad (flat_map (frames_of p) (first_groups align m []))) (zero-div align)
  good_blocks (suc count) indices xs there are =
      let more : suc count * n ≡ n + count * n = omega arith in
      let front : length (take n xs) ≡ n = length-take-le n xs (omega (arith, there, more)) in
      let block = block_bytes p.channels p.codec indices (take n xs) in
      let next = next_indices p.channels p.codec indices (take n xs) in
      let others = bytes_of_blocks (rule_of p) n count next (drop n xs) in
      let size = size_of_block p indices (take n xs) blocks front in
      let first : has_bad (frames_of p block) ≡ false = good_frames indices (take n xs) front are in
      let rest : has_bad (blocks_decoded p others) ≡ false =
      good_blocks count next (drop n xs) (omega (arith, there, more, length-drop n xs)) (indices_by p.channels p.codec indices (take n xs) blocks.channels blocks.form are) in
      ap has_bad (decoded_joined 1 block others (size ∙ (let e : align ≡ 1 * align = omega arith in e)))
      ∙ ap (λ (l : List (List ℤ)). has_bad (l ++ blocks_decoded p others)) (one_decoded block size)
      ∙ list_any-append is_bad_frame (frames_of p block) (blocks_decoded p others)
      ∙ rw (first, rest) refl
