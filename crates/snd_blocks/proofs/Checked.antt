-- All counted frames, a block at a time.
use Rattle.std.proofs.Common.{◌≡◌, ◌⊎◌, ◌∙◌, ap, subst, sym, refl, ℕ, ◌+◌, ◌-◌, ◌*◌, ◌/◌, ◌<◌, ◌≤◌, true, false, List, inl, inr, length, take, drop, arith}
use Rattle.std.specs.Prelude.{IsTrue}
use Rattle.std.proofs.Math.Nat.{lt-div-mul-add, mul-le-mul_right}
use Rattle.std.proofs.Math.Seq.{take-add}
use Rattle.std.proofs.lemmas.Bool.{cases_lt}
use Rattle.std.proofs.lemmas.List.{length-drop, length-take, length-take-le, take_all}
use Rattle.std.proofs.lemmas.List.Folds.{list_any-append}
use Rattle.snd_ima_adpcm.specs.Ima.{ima_numbers}
use Rattle.snd_ms_adpcm.specs.Microsoft.{ms_numbers}
use Rattle.snd_ima_adpcm.proofs.Public.{count_ima_block}
use Rattle.snd_ms_adpcm.proofs.Public.{count_ms_block}
use Rattle.snd_fields.specs.Blocks.{is_ima_align, is_ms_align}
use Rattle.snd_layout.specs.declared.codec.Codec.{Codec}
use Rattle.snd_layout.specs.declared.codec.Codec.TheVariants.{Ima, Ms}
use Rattle.snd_layout.specs.Blocks.{block_align, block_frames}
use Rattle.snd_layout.specs.Params.{Parameters, data_bytes}
use Rattle.snd_layout.specs.Shape.{Shape, end}
use Rattle.snd_blocks.specs.Calls.{AreBlocks, HasForm, block_at}
use Rattle.snd_blocks.specs.Frames.{block_samples, blocks_decoded, frames_in_blocks, frames_of, has_bad, is_bad_block, is_bad_frame}
use Rattle.snd_blocks.proofs.BlockFrames.{frames_in_block, has_bad_part, no_bad_groups, no_bad_part}
use Rattle.snd_blocks.proofs.Places.{block_fits}
use Rattle.snd_blocks.proofs.ReadSpans.{bad_span}

few_frames : (b : List ℕ) (s : Shape) → length (frames_in_blocks b s) ≤ s.frames
unfolding frames_in_blocks
few_frames b s = omega (arith, length-take s.frames (blocks_decoded s.params (take (data_bytes s.params s.frames) (drop s.start b))))

take_short : {X : Type 0} (m n : ℕ) (xs : List X) → length xs ≤ n → n ≤ m → take m xs ≡ take n xs
take_short m n xs few le = take_all m xs (omega arith) ∙ sym (take_all n xs few)

-- how many samples a block has
count_samples : (channels : ℕ) (codec : Codec) (block : List ℕ) → (channels ≡ 1) ⊎ (channels ≡ 2) → HasForm channels codec → length block ≡ block_align channels codec
    → length (block_samples channels codec block) ≡ channels * block_frames codec
unfolding block_samples
count_samples channels (Ima align per_block) block few form size =
    let aligned : IsTrue (is_ima_align channels (length block)) = subst (λ (n : ℕ). IsTrue (is_ima_align channels n)) (sym size) form.0 in
    count_ima_block channels block few aligned ∙ ap (ima_numbers channels) size ∙ ap (λ (n : ℕ). channels * n) (sym form.1)
count_samples channels (Ms align per_block) block few form size =
    let aligned : IsTrue (is_ms_align channels (length block)) = subst (λ (n : ℕ). IsTrue (is_ms_align channels n)) (sym size) form.0 in
    count_ms_block channels block few aligned ∙ ap (ms_numbers channels) size ∙ ap (λ (n : ℕ). channels * n) (sym form.1)
count_samples channels codec block few form size = absurd form

no_bad_block : (p : Parameters) (block : List ℕ) → AreBlocks p → length block ≡ block_align p.channels p.codec → is_bad_block p.channels p.codec block ≡ false → has_bad (frames_of p block) ≡ false
no_bad_block p block blocks size good =
    rw good
    (no_bad_groups p.channels (block_frames p.codec) (block_samples p.channels p.codec block)
    (omega (arith, blocks.channels))
    (omega (arith, count_samples p.channels p.codec block blocks.channels blocks.form size)))

module _ (b : List ℕ) (s : Shape) (blocks : AreBlocks s.params) (fits : end s s.frames ≤ length b) where
  length-block_at : (number : ℕ) → number * block_frames s.params.codec < s.frames → length (block_at b s number) ≡ block_align s.params.channels s.params.codec
  length-block_at number counted =
      let align = block_align s.params.channels s.params.codec in
      let last = block_fits number (block_frames s.params.codec) s.frames align blocks.some_frames counted in
      length-take-le align (drop (s.start + number * align) b) (omega (arith, fits, last, length-drop (s.start + number * align) b))

  -- so many frames of a good block are good
  good_frames : (number count : ℕ) → is_bad_block s.params.channels s.params.codec (block_at b s number) ≡ false
      → number * block_frames s.params.codec + count ≤ s.frames → count ≤ block_frames s.params.codec → 1 ≤ count
      → has_bad (take count (drop (number * block_frames s.params.codec) (frames_in_blocks b s))) ≡ false
  good_frames number count good counted within some =
      let per = block_frames s.params.codec in
      ap (λ (m : ℕ). has_bad (take count (drop m (frames_in_blocks b s)))) (let e : number * per ≡ number * per + 0 = omega arith in e)
      ∙ ap has_bad (frames_in_block b s number 0 count blocks fits (omega arith) (omega arith) some)
      ∙ no_bad_part (frames_of s.params (block_at b s number)) 0 count (no_bad_block s.params (block_at b s number) blocks (length-block_at number (omega arith)) good)

  good_rest : (number : ℕ) → is_bad_block s.params.channels s.params.codec (block_at b s number) ≡ false
      → number * block_frames s.params.codec < s.frames
      → has_bad (take (block_frames s.params.codec) (drop (number * block_frames s.params.codec) (frames_in_blocks b s))) ≡ false
  good_rest number good counted =
      let per = block_frames s.params.codec in
      let at = number * per in
      let rest = drop at (frames_in_blocks b s) in
      elim (cases_lt s.frames (at + per)) [
        | inr whole ↦ good_frames number per good whole (omega arith) blocks.some_frames
        | inl part ↦
            let few : length rest ≤ s.frames - at = omega (arith, length-drop at (frames_in_blocks b s), few_frames b s) in
            ap has_bad (take_short per (s.frames - at) rest few (omega arith))
            ∙ good_frames number (s.frames - at) good (omega arith) (omega arith) (omega arith)
      ]

  pub good_block : (number : ℕ) → is_bad_block s.params.channels s.params.codec (block_at b s number) ≡ false
      → number * block_frames s.params.codec < s.frames
      → has_bad (take (number * block_frames s.params.codec) (frames_in_blocks b s)) ≡ false
      → has_bad (take ((number + 1) * block_frames s.params.codec) (frames_in_blocks b s)) ≡ false
  good_block number good counted so_far =
      let per = block_frames s.params.codec in
      let at = number * per in
      let frames = frames_in_blocks b s in
      let next = good_rest number good counted in
      ap (λ (m : ℕ). has_bad (take m frames)) (let e : (number + 1) * per ≡ at + per = omega arith in e)
      ∙ ap has_bad (take-add at per frames)
      ∙ list_any-append is_bad_frame (take at frames) (take per (drop at frames))
      ∙ rw (so_far, next) refl

  pub bad_block : (number : ℕ) → number * block_frames s.params.codec < s.frames → is_bad_block s.params.channels s.params.codec (block_at b s number) ≡ true → has_bad (frames_in_blocks b s) ≡ true
  bad_block number counted bad =
      has_bad_part (frames_in_blocks b s) 0 s.frames
      (bad_span b s 0 s.frames number blocks fits (omega arith) (omega arith) (omega (arith, blocks.some_frames)) (omega arith) bad)

  pub all_good : (number : ℕ) → (s.frames + block_frames s.params.codec - 1) / block_frames s.params.codec ≤ number
      → has_bad (take (number * block_frames s.params.codec) (frames_in_blocks b s)) ≡ false → has_bad (frames_in_blocks b s) ≡ false
  all_good number last good =
      let per = block_frames s.params.codec in
      let some = blocks.some_frames in
      let end : s.frames + per - 1 < (s.frames + per - 1) / per * per + per = lt-div-mul-add {a = s.frames + per - 1} (let h : 0 < per = omega arith in h) in
      let all : s.frames ≤ number * per = omega (arith, end, some, mul-le-mul_right per last) in
      sym (ap has_bad (take_all (number * per) (frames_in_blocks b s) (omega (arith, all, few_frames b s)))) ∙ good
