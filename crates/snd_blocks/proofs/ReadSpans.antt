-- The wanted frames of a block.
use Rattle.std.proofs.Common.{◌≡◌, ◌∙◌, ap, sym, subst, refl, ℕ, ℤ, zero, suc, ◌+◌, ◌-◌, ◌*◌, ◌<◌, ◌≤◌, true, false, List, [], ◌++◌, length, take, drop, arith}
use Rattle.std.specs.Prelude.{replicate}
use Rattle.std.proofs.Math.Seq.{take-add}
use Rattle.std.proofs.lemmas.List.{drop-drop, drop-replicate, drop-take, length-take-le, take-replicate, take-take}
use Rattle.snd_layout.specs.Blocks.{block_frames}
use Rattle.snd_layout.specs.Shape.{Shape, end}
use Rattle.snd_pcm.specs.Groups.{first_groups}
use Rattle.snd_blocks.specs.Calls.{AreBlocks, block_at}
use Rattle.snd_blocks.specs.Frames.{block_samples, frames_in_blocks, frames_of, has_bad, is_bad_block, wanted_frames}
use Rattle.snd_blocks.specs.Spans.{HasSpan, count_before}
use Rattle.snd_blocks.proofs.BlockFrames.{frames_in_block, groups_from, groups_joined, groups_of_front, has_bad_part, no_bad_groups}

-- a span of a block: so many of its frames are skipped, so many of the wanted ones are done before, and so many it has
pub record IsSpan (per_block place count number skipped done size : ℕ) : Type 0 where
  pub starts : number * per_block + skipped ≡ place + done
  pub within : skipped + size ≤ per_block
  pub room : done + size ≤ count
  pub some : 1 ≤ size

has_bad_run : (n : ℕ) → 1 ≤ n → has_bad (replicate n []) ≡ true
has_bad_run zero some = absurd (omega arith)
has_bad_run (suc n) some = refl

-- ---- the frames before the first block, and before the one behind the last

pub no_span : (b : List ℕ) (s : Shape) (place count number : ℕ) (xs : List ℤ) → count_before (block_frames s.params.codec) place count number ≡ 0 → HasSpan b s place count number xs
no_span b s place count number xs none =
    ap (λ (m : ℕ). first_groups s.params.channels m xs) none ∙ sym (ap (λ (m : ℕ). take m (wanted_frames b s place count)) none)

pub whole_span : (b : List ℕ) (s : Shape) (place count number : ℕ) (xs : List ℤ) → count_before (block_frames s.params.codec) place count number ≡ count
    → HasSpan b s place count number xs → first_groups s.params.channels count xs ≡ wanted_frames b s place count
whole_span b s place count number xs all span =
    subst (λ (m : ℕ). first_groups s.params.channels m xs ≡ take m (wanted_frames b s place count)) all span
    ∙ take-take count count (drop place (frames_in_blocks b s)) (omega arith)

pub no_bad_span : (b : List ℕ) (s : Shape) (place count : ℕ) (xs : List ℤ) → 1 ≤ s.params.channels → s.params.channels * count ≤ length xs
    → first_groups s.params.channels count xs ≡ wanted_frames b s place count → has_bad (wanted_frames b s place count) ≡ false
no_bad_span b s place count xs some room same = sym (ap has_bad same) ∙ no_bad_groups s.params.channels count xs some room

-- ---- the frames of a block

module _ (b : List ℕ) (s : Shape) (place count number : ℕ) (blocks : AreBlocks s.params) (fits : end s s.frames ≤ length b) (counted : place + count ≤ s.frames) where
  wanted : List (List ℤ)
  wanted = wanted_frames b s place count

  span_frames : (skipped done size : ℕ) → IsSpan (block_frames s.params.codec) place count number skipped done size
      → take size (drop done (wanted_frames b s place count)) ≡ take size (drop skipped (frames_of s.params (block_at b s number)))
  span_frames skipped done size span =
      let frames = frames_in_blocks b s in
      let split : count ≡ done + (count - done) = omega (arith, span.room) in
      ap (λ (m : ℕ). take size (drop done (take m (drop place frames)))) split
      ∙ ap (take size) (drop-take done (count - done) (drop place frames))
      ∙ take-take size (count - done) (drop done (drop place frames)) (omega (arith, span.room))
      ∙ ap (take size) (drop-drop done place frames ∙ ap (λ (m : ℕ). drop m frames) (sym span.starts))
      ∙ frames_in_block b s number skipped size blocks fits (omega (arith, span.starts, span.room)) span.within span.some

  -- a bad block that has a wanted frame
  pub bad_span : number * block_frames s.params.codec < place + count → place < number * block_frames s.params.codec + block_frames s.params.codec → 1 ≤ count
      → is_bad_block s.params.channels s.params.codec (block_at b s number) ≡ true → has_bad (wanted_frames b s place count) ≡ true
  bad_span begins ends some bad =
      let per = block_frames s.params.codec in
      let skipped = place - number * per in
      let done = number * per - place in
      let span : IsSpan per place count number skipped done 1 = record {
        starts = omega arith;
        within = omega arith;
        room = omega arith;
        some = omega arith;
      } in
      let frames : frames_of s.params (block_at b s number) ≡ replicate per [] = rw bad refl in
      has_bad_part (wanted_frames b s place count) done 1
      (ap has_bad
      (span_frames skipped done 1 span
      ∙ ap (λ fs. take 1 (drop skipped fs)) frames
      ∙ ap (take 1) (drop-replicate skipped per [])
      ∙ take-replicate 1 (per - skipped) [] (omega (arith, span.within)))
      ∙ has_bad_run 1 (omega arith))

  -- the samples of a good one, behind those that are done
  pub good_span : (skipped done size : ℕ) (old new : List ℤ) → IsSpan (block_frames s.params.codec) place count number skipped done size
      → is_bad_block s.params.channels s.params.codec (block_at b s number) ≡ false
      → take (s.params.channels * (done + size)) new
      ≡ take (s.params.channels * done) old ++ take (s.params.channels * size) (drop (s.params.channels * skipped) (block_samples s.params.channels s.params.codec (block_at b s number)))
      → s.params.channels * done ≤ length old
      → first_groups s.params.channels done old ≡ take done (wanted_frames b s place count)
      → first_groups s.params.channels (done + size) new ≡ take (done + size) (wanted_frames b s place count)
  good_span skipped done size old new span good copied room so_far =
      let k = s.params.channels in
      let per = block_frames s.params.codec in
      let samples = block_samples k s.params.codec (block_at b s number) in
      let part = take (k * size) (drop (k * skipped) samples) in
      let fs = wanted_frames b s place count in
      let frames : frames_of s.params (block_at b s number) ≡ first_groups k per samples = rw good refl in
      let here : first_groups k size part ≡ take size (drop done fs) =
      groups_of_front k size (drop (k * skipped) samples)
      ∙ sym (groups_from k per skipped size samples span.within)
      ∙ ap (λ l. take size (drop skipped l)) (sym frames)
      ∙ sym (span_frames skipped done size span) in
      sym (groups_of_front k (done + size) new)
      ∙ ap (first_groups k (done + size)) copied
      ∙ groups_joined k done size (take (k * done) old) part (length-take-le (k * done) old room)
      ∙ ap (λ l. l ++ first_groups k size part) (groups_of_front k done old ∙ so_far)
      ∙ ap (λ l. take done fs ++ l) here
      ∙ sym (take-add done size fs)
