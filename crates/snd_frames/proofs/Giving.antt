-- More numbers given to what makes blocks.
use Rattle.std.proofs.Common.{◌≡◌, ◌∙◌, ap, sym, inl, ℕ, ℤ, ◌+◌, ◌-◌, ◌*◌, ◌/◌, ◌%◌, ◌≤◌, List, ◌++◌, length, drop, arith}
use Rattle.std.proofs.Math.Nat.{div-add-mod, div-div-eq-div-mul, div-mul-le_self, mod-eq-sub-div-mul}
use Rattle.std.proofs.lemmas.List.{length-append, length-drop}
use Rattle.snd_blocks.specs.Calls.{AreBlocks}
use Rattle.snd_block_writer.specs.Coded.{block_numbers, rest, whole, whole_blocks}
use Rattle.snd_block_writer.specs.Puts.{Puts}
use Rattle.snd_block_writer.specs.Writing.{StandsFor, Writing, block_size, given_more, new_blocks, next_place, place_after}
use Rattle.snd_disk.specs.Device.{WritesAtMost}
use Rattle.snd_disk.specs.declared.disk.Disk.{Ghosts}
use Rattle.snd_layout.specs.Blocks.{block_align, block_frames}
use Rattle.snd_layout.specs.Params.{Parameters}
use Rattle.snd_layout.specs.Shape.{Shape, end}
use Rattle.snd_patch.specs.Steps.{Updates}
use Rattle.snd_edits.specs.Encoding.{counting_whole, whole_frames}
use Rattle.snd_edits.specs.Pacing.{KeepsPace}
use Rattle.snd_edits.proofs.Public.{next_is_end, place_behind_whole, places_within, whole_blocks_then}

-- the frames of whole blocks, as they are counted
pub counted_whole : (p : Parameters) (to per : ℕ) → per ≡ block_frames p.codec → to - to % per ≡ whole_frames p to
counted_whole p to per is =
    let r = mod-eq-sub-div-mul to per in
    let low = div-mul-le_self to per in
    let whole : to - to % per ≡ to / per * per = omega (arith, r, low) in
    whole ∙ ap (λ (n : ℕ). to / n * n) is

module _ (h : Shape) (form : AreBlocks h.params) (w : Writing) (to : ℕ) (xs : List ℤ) (even : length xs % h.params.channels ≡ 0) (more : length xs / h.params.channels ≤ to)
    (pace : KeepsPace h (to - length xs / h.params.channels) w) where
  abbrev ch : ℕ
  ch = h.params.channels

  abbrev k : ℕ
  k = length xs / h.params.channels

  all : to * h.params.channels ≡ h.frames * h.params.channels + length w.waiting + length xs
  all =
      let whole : ch * k + 0 ≡ length xs = sym (ap (λ (r : ℕ). ch * k + r) even) ∙ div-add-mod (length xs) ch in
      let turn : ch * k ≡ k * ch = omega arith in
      let parts : ((to - k) + k) * ch ≡ (to - k) * ch + k * ch = omega arith in
      let sum : (to - k) + k ≡ to = omega (arith, more) in
      sym (ap (λ (n : ℕ). n * ch) sum) ∙ omega (arith, parts, pace.waiting, whole, turn)

  pub is_there : next_place h.start w ≡ end h h.frames
  is_there = next_is_end h form w to (length xs) pace.numbers pace.size pace.blocks all

  pub ends_within : place_after h.start w (length xs) ≤ end h to
  ends_within = places_within h form w to (length xs) pace.numbers pace.size pace.blocks all

  pub ends_whole : next_place h.start (given_more w xs) ≡ end h (whole_frames h.params to)
  ends_whole = place_behind_whole h form w to (length xs) pace.numbers pace.size pace.blocks all

  pub whole_more : h.frames ≤ whole_frames h.params to
  whole_more =
      let then = whole_blocks_then h form w to (length xs) pace.numbers pace.size pace.blocks all in
      let sum : (w.blocks + new_blocks w (length xs)) * block_frames h.params.codec ≡ w.blocks * block_frames h.params.codec + new_blocks w (length xs) * block_frames h.params.codec = omega arith in
      omega (arith, then, sum, pace.blocks)

  pub paces_on : KeepsPace (counting_whole h to) to (given_more w xs)
  paces_on =
      let new = new_blocks w (length xs) in
      let n = block_numbers w.params in
      let per = block_frames h.params.codec in
      let then : (w.blocks + new) * per ≡ whole_frames h.params to = whole_blocks_then h form w to (length xs) pace.numbers pace.size pace.blocks all in
      let joined = length-append w.waiting xs in
      let left : length (drop (new * n) (w.waiting ++ xs)) ≡ length w.waiting + length xs - new * n = length-drop (new * n) (w.waiting ++ xs) ∙ ap (λ (m : ℕ). m - new * n) joined in
      let few = div-mul-le_self (length w.waiting + length xs) n in
      let a : whole_frames h.params to * ch ≡ (w.blocks + new) * per * ch = ap (λ (m : ℕ). m * ch) (sym then) in
      let b : (w.blocks + new) * per * ch ≡ w.blocks * per * ch + new * (ch * per) = omega arith in
      let c : new * (ch * per) ≡ new * n = ap (λ (m : ℕ). new * m) (sym pace.numbers) in
      let d : h.frames * ch ≡ w.blocks * per * ch = ap (λ (m : ℕ). m * ch) pace.blocks in
      record {
        numbers = pace.numbers;
        size = pace.size;
        blocks = sym then;
        waiting = omega (arith, a, b, c, d, all, left, few);
      }

  -- the bytes that are written for them
  pub most_written : (length xs / w.params.channels / block_frames w.params.codec + 1) * block_size w ≡ (length xs / h.params.channels / block_frames h.params.codec + 1) * block_align h.params.channels h.params.codec
  most_written =
      ap (λ (n : ℕ). (n + 1) * block_size w) (div-div-eq-div-mul (length xs) w.params.channels (block_frames w.params.codec) ∙ ap (λ (n : ℕ). length xs / n) pace.numbers
      ∙ sym (div-div-eq-div-mul (length xs) h.params.channels (block_frames h.params.codec)))
      ∙ ap (λ (n : ℕ). (length xs / h.params.channels / block_frames h.params.codec + 1) * n) pace.size

-- the numbers for which a writer stands are those of the frames before a place
pub all_numbers : (h : Shape) (w : Writing) (place : ℕ) (ys : List ℤ) → KeepsPace h place w → StandsFor w h.params ys → length ys ≡ place * h.params.channels
all_numbers h w place ys pace stands =
    let n = block_numbers h.params in
    let count : w.blocks ≡ whole_blocks h.params ys = ap (λ (v : Writing). v.blocks) stands in
    let waits : length w.waiting ≡ length (rest h.params ys) = ap (λ (v : Writing). length v.waiting) stands in
    let behind : length (rest h.params ys) ≡ length ys - whole_blocks h.params ys * n = length-drop (whole_blocks h.params ys * n) ys in
    let put : h.frames * h.params.channels ≡ whole_blocks h.params ys * n =
    ap (λ (m : ℕ). m * h.params.channels) (pace.blocks ∙ ap (λ (m : ℕ). m * block_frames h.params.codec) count)
    ∙ (let turn : whole_blocks h.params ys * block_frames h.params.codec * h.params.channels ≡ whole_blocks h.params ys * (h.params.channels * block_frames h.params.codec) = omega arith in turn) in
    omega (arith, pace.waiting, waits, behind, put, div-mul-le_self (length ys) n)

-- bytes that are put from the end of some frames on leave these
pub puts_behind : {D : Type 0} (d : Ghosts D) (h : Shape) (n most at : ℕ) (s : List ℕ) (old new : D) → at ≡ end h n → Puts d at s old new → WritesAtMost d.state most old new
    → Updates d.state d.left_between h n most old new
puts_behind d h n most at s old new is puts written = record {
  beside = λ b told. let one = puts.beside b told in (one.0, one.1, λ i lt other. one.2 i (inl (omega (arith, lt, is))));
  tells = puts.tells;
  time = puts.time;
  written = written;
  asked = puts.asked;
}
