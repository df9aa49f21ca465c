-- Frames that are read into a slice through a handle.
use Rattle.std.specs.Prelude.{◌≡◌, ℕ, ℤ, ◌*◌, true, List, Result, Err, take, drop}
use Rattle.snd_disk.specs.declared.disk.Disk.{Ghosts}
use Rattle.snd_disk.specs.State.{State}
use Rattle.snd_blocks.specs.Frames.{has_bad}
use Rattle.snd_edits.specs.declared.error.ReadError.{ReadError}
use Rattle.snd_edits.specs.declared.error.ReadError.TheVariants.{BadBlock}
use Rattle.snd_file.specs.declared.handle.File.{File}
use Rattle.snd_edits.specs.declared.mode.Mode.{Ghosts as ModeGhosts}
use Rattle.snd_edits.specs.Editing.{Editing}
use Rattle.snd_file.specs.Handle.{Stands, channels_of}

-- the front of a slice, with so many frames of a file, and the rest of the slice
abbrev pub front_of : {D M : Type 0} {ghosts : Ghosts D} {mode : ModeGhosts M} → File D M ghosts mode → ℕ → List ℤ → List ℤ
front_of file count xs = take (count * channels_of file) xs

abbrev pub rest_of : {D M : Type 0} {ghosts : Ghosts D} {mode : ModeGhosts M} → File D M ghosts mode → ℕ → List ℤ → List ℤ
rest_of file count xs = drop (count * channels_of file) xs

-- where a block is bad, one of the frames that are wanted is
abbrev pub FindsBad : {D M T : Type 0} {ghosts : Ghosts D} {mode : ModeGhosts M} → (D → State) → (Editing → List (List ℤ)) → File D M ghosts mode → Result T ReadError → Type 0
FindsBad state wanted file (Err BadBlock) = (e : Editing) → Stands state file e → has_bad (wanted e) ≡ true
FindsBad state wanted file other = Unit {0}
