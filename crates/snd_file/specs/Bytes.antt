-- Frames of an open file as the bytes of their samples, where each sample has bytes of its own.
use Rattle.std.specs.Prelude.{ℕ, ℤ, List, drop}
use Rattle.snd_disk.specs.declared.disk.Disk.{Ghosts}
use Rattle.snd_file.specs.declared.handle.File.{File}
use Rattle.snd_edits.specs.declared.mode.Mode.{Ghosts as ModeGhosts}
use Rattle.snd_file.specs.Handle.{codec_of, known_of}
use Rattle.snd_edits.specs.Reading.{bytes_of_frames}
use Rattle.snd_edits.specs.Bytes.{numbers_in, sources_in}

-- the numbers that bytes stand for in the codec of a file, and those of which they are the samples
abbrev pub numbers_of : {D M : Type 0} {ghosts : Ghosts D} {mode : ModeGhosts M} → File D M ghosts mode → List ℕ → List ℤ
numbers_of file bytes = numbers_in (codec_of file) bytes

abbrev pub sources_of : {D M : Type 0} {ghosts : Ghosts D} {mode : ModeGhosts M} → File D M ghosts mode → List ℕ → List ℤ
sources_of file bytes = sources_in (codec_of file) bytes

-- the bytes behind so many frames of a file
abbrev pub bytes_behind : {D M : Type 0} {ghosts : Ghosts D} {mode : ModeGhosts M} → File D M ghosts mode → ℕ → List ℕ → List ℕ
bytes_behind file count bytes = drop (bytes_of_frames (known_of file).shape.params count) bytes
