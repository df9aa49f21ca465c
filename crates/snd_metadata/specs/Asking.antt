-- How many bytes are asked of a file that is copied with changed texts, as the code counts them. It is said for the proofs alone.
use Rattle.std.specs.Prelude.{ℕ, ◌+◌, if◌then◌else◌}
use Rattle.snd_carry.specs.Carried.{body_bytes}
use Rattle.snd_disk.specs.declared.disk.Disk.{Ghosts}
use Rattle.snd_disk.specs.Device.{AsksAtMost}
use Rattle.snd_disk.specs.State.{State}
use Rattle.snd_inputs.specs.Copying.{AsksToCopy, bytes_to_copy}
use Rattle.snd_layout.specs.Shape.{Shape}
use Rattle.snd_file.specs.declared.handle.File.{File}
use Rattle.snd_edits.specs.declared.mode.Mode.{Ghosts as ModeGhosts}
use Rattle.snd_file.specs.Handle.{known_of}
use Rattle.snd_layout.specs.Kinds.{holds_meta}

-- the bodies of the further chunks of a file: none of a kind that has no such chunks
abbrev pub bodies_in : Shape → ℕ
bodies_in h = if holds_meta h.kind then body_bytes h.pieces else 0

-- beside these, and its frames, no more is asked than 148480 bytes: for the chunks that are changed, and to find them
abbrev pub AsksToRetag : {D M : Type 0} {d : Ghosts D} {m : ModeGhosts M} → (D → State) → File D M d m → File D M d m → Type 0
AsksToRetag state old new = AsksToCopy state (148480 + bodies_in (known_of old).shape) old new

-- .. of the disk of one, by its layout
abbrev pub AsksToRetagLaid : {D : Type 0} → (D → State) → Shape → D → D → Type 0
AsksToRetagLaid state layout old new = AsksAtMost state (148480 + bodies_in layout + bytes_to_copy layout.params layout.frames) old new
