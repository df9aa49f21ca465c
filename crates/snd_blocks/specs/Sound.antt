-- The sound of a file of any kind and any codec.
use Rattle.std.specs.Prelude.{◌≡◌, ℕ, ℤ, ◌≤◌, List, Result, Ok, Err, length, map, take, true, if◌then◌else◌}
use Rattle.snd_layout.specs.declared.refusal.OpenRefusal.{OpenRefusal}
use Rattle.snd_layout.specs.Blocks.{is_adpcm}
use Rattle.snd_layout.specs.Params.{AreParams, Parameters}
use Rattle.snd_layout.specs.Shape.{KeepsRule, Shape, end}
use Rattle.snd_container.specs.Sound.{Sound, decoded, kept_of, layout_of, sound_bytes}
use Rattle.snd_blocks.specs.Frames.{blocks_decoded, frames_in_blocks}

-- the frames that data bytes stand for, and of blocks the first n
abbrev pub decode : Parameters → ℕ → List ℕ → List (List ℤ)
decode p n bytes = if is_adpcm p.codec then take n (blocks_decoded p bytes) else decoded p bytes

-- the frames that a layout counts
abbrev pub frames_in : List ℕ → Shape → List (List ℤ)
frames_in b s = decode s.params s.frames (sound_bytes b s)

abbrev pub sound_in : List ℕ → Result Shape OpenRefusal → Result Sound OpenRefusal
sound_in b (Err refusal) = Err refusal
sound_in b (Ok s) = Ok (record { kind = s.kind; params = s.params; frames = frames_in b s; pieces = map (kept_of b) s.pieces })

abbrev pub sound_of : List ℕ → Result Sound OpenRefusal
sound_of b = sound_in b (layout_of b)

-- ---- laws

-- the frames of an ADPCM file are those of its blocks
abbrev pub FramesAreInBlocks : Type 0
FramesAreInBlocks = (b : List ℕ) (s : Shape) → is_adpcm s.params.codec ≡ true → frames_in b s ≡ frames_in_blocks b s

-- blocks have the frames that the layout counts, where the file has their data
abbrev pub BlocksAreCounted : Type 0
BlocksAreCounted = (b : List ℕ) (s : Shape) → KeepsRule s → AreParams s.params → is_adpcm s.params.codec ≡ true → end s s.frames ≤ length b → length (frames_in_blocks b s) ≡ s.frames
