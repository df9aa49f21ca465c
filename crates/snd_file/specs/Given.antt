-- What is given to a handle to be written over the data of its file.
use Rattle.std.specs.Prelude.{ℤ, List}
use Rattle.snd_disk.specs.declared.disk.Disk.{Ghosts}
use Rattle.snd_frames.specs.declared.given.Given.{Given}
use Rattle.snd_file.specs.declared.handle.File.{File}
use Rattle.snd_edits.specs.declared.mode.Mode.{Ghosts as ModeGhosts}
use Rattle.snd_file.specs.Handle.{known_of}
use Rattle.snd_frames.specs.Given.{given}

-- the numbers that are given to a file
abbrev pub given_to : {D M : Type 0} {ghosts : Ghosts D} {mode : ModeGhosts M} → File D M ghosts mode → Given → List ℤ
given_to file from = given (known_of file).shape from
