-- The sounds of files.
use Rattle.std.proofs.Common.{◌≡◌, ◌∙◌, ap, ℕ, ◌+◌, ◌-◌, ◌*◌, ◌/◌, ◌<◌, ◌≤◌, Bool, cond, List, [], ◌∷◌, length, take, drop, arith}
use Rattle.std.specs.List.{flat_map}
use Rattle.std.proofs.Math.Nat.{mul-div_left, lt-div-mul-add}
use Rattle.std.proofs.lemmas.List.{length-append, length-drop, length-take-le}
use Rattle.snd_layout.specs.Blocks.{block_align, block_frames}
use Rattle.snd_layout.specs.Shape.{Shape, end}
use Rattle.snd_pcm.specs.Groups.{groups}
use Rattle.snd_pcm.proofs.Series.{length-first_groups}
use Rattle.snd_container.specs.Sound.{decoded, sound_bytes}
use Rattle.snd_blocks.specs.Calls.{AreBlocks}
use Rattle.snd_blocks.specs.Frames.{blocks_decoded, frames_in_blocks, frames_of}
use Rattle.snd_blocks.specs.Sound.{BlocksAreCounted, FramesAreInBlocks}
use Rattle.snd_blocks.proofs.BlockFrames.{count_frames}
use Rattle.snd_blocks.proofs.Parameters.{keeps_blocks}

module _ {X Y : Type 0} (f : X → List Y) (m : ℕ) (same : (x : X) → length (f x) ≡ m) where
  count_pieces : (xs : List X) → length (flat_map f xs) ≡ length xs * m
  count_pieces [] = omega arith
  count_pieces (x ∷ xs) = omega (arith, length-append (f x) (flat_map f xs), same x, count_pieces xs)

pub counted : (b : List ℕ) (s : Shape) → AreBlocks s.params → end s s.frames ≤ length b → length (frames_in_blocks b s) ≡ s.frames
unfolding frames_in_blocks
counted b s blocks fits =
    let p = s.params in
    let k = block_align p.channels p.codec in
    let per = block_frames p.codec in
    let n = (s.frames + per - 1) / per in
    let bytes = take (n * k) (drop s.start b) in
    let size : length bytes ≡ n * k = length-take-le (n * k) (drop s.start b) (omega (arith, fits, length-drop s.start b)) in
    let there : length bytes / k ≡ n = ap (λ (m : ℕ). m / k) size ∙ mul-div_left n (let h : 0 < k = omega (arith, blocks.some_bytes) in h) in
    let all = flat_map (frames_of p) (groups k bytes) in
    let whole : length all ≡ n * per =
    count_pieces (frames_of p) per (count_frames p) (groups k bytes) ∙ ap (λ (m : ℕ). m * per) (length-first_groups k (length bytes / k) bytes ∙ there) in
    let end : s.frames + per - 1 < n * per + per = lt-div-mul-add {a = s.frames + per - 1} (let h : 0 < per = omega (arith, blocks.some_frames) in h) in
    length-take-le s.frames all (omega (arith, whole, end, blocks.some_frames))

pub blocks_are_counted : BlocksAreCounted
blocks_are_counted b s rule good is fits = counted b s (keeps_blocks s.kind s.params is rule.fits good) fits

pub frames_are_in_blocks : FramesAreInBlocks
unfolding frames_in_blocks
frames_are_in_blocks b s is = ap (λ (t : Bool). cond t (take s.frames (blocks_decoded s.params (sound_bytes b s))) (decoded s.params (sound_bytes b s))) is
