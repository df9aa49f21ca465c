-- What is seen of a handle. Its fields are named here alone.
use Rattle.std.specs.Prelude.{◌≡◌, ℕ, true, false, [], Option, Some, Result, IfOk, length}
use Rattle.std.specs.Borrow.{GName}
use Rattle.std.specs.Global.{Box}
use Rattle.snd_disk.specs.declared.disk.Disk.{Ghosts}
use Rattle.snd_disk.specs.State.{State}
use Rattle.snd_layout.specs.declared.codec.Codec.{Codec}
use Rattle.snd_blocks.specs.Sound.{frames_in}
use Rattle.snd_block_writer.specs.Writing.{Writing}
use Rattle.snd_file.specs.declared.handle.File.{File}
use Rattle.snd_edits.specs.declared.mode.Mode.{Ghosts as ModeGhosts}
use Rattle.snd_edits.specs.Editing.{Editing}
use Rattle.snd_edits.specs.Known.{Known}
use Rattle.snd_edits.specs.Pacing.{IsGiven}

-- the disk that a handle holds, and the loan by which it holds it
abbrev pub disk_of : {D M : Type 0} {ghosts : Ghosts D} {mode : ModeGhosts M} → File D M ghosts mode → D
disk_of file = file.disk.now

abbrev pub loan_of : {D M : Type 0} {ghosts : Ghosts D} {mode : ModeGhosts M} → File D M ghosts mode → GName
loan_of file = file.disk.ghost_name

-- what a handle knows over every disk
abbrev pub known_of : {D M : Type 0} {ghosts : Ghosts D} {mode : ModeGhosts M} → File D M ghosts mode → Known
known_of file = record {
  shape = file.layout;
  place = file.read_place;
  write_place = file.write_place;
  automatic = file.automatic;
  written = file.written;
  broken = file.broken;
}

-- the numbers of a frame of a handle, and their codec
abbrev pub channels_of : {D M : Type 0} {ghosts : Ghosts D} {mode : ModeGhosts M} → File D M ghosts mode → ℕ
channels_of file = (known_of file).shape.params.channels

abbrev pub codec_of : {D M : Type 0} {ghosts : Ghosts D} {mode : ModeGhosts M} → File D M ghosts mode → Codec
codec_of file = (known_of file).shape.params.codec

-- what makes the blocks of a file of ADPCM that is made
abbrev pub writer_of : {D M : Type 0} {ghosts : Ghosts D} {mode : ModeGhosts M} → File D M ghosts mode → Option (Box Writing)
writer_of file = file.writer

-- The handle with its disk stands for an editing state. The disk tells its contents.
pub record Stands {D M : Type 0} {ghosts : Ghosts D} {mode : ModeGhosts M} (state : D → State) (file : File D M ghosts mode) (e : Editing) : Type 0 where
  pub bytes : (state (disk_of file)).contents ≡ Some e.bytes
  pub shape : (known_of file).shape ≡ e.shape
  pub place : (known_of file).place ≡ e.place
  pub write_place : (known_of file).write_place ≡ e.write_place
  pub automatic : (known_of file).automatic ≡ e.automatic
  pub written : (known_of file).written ≡ e.written
  pub sound : e.frames ≡ frames_in e.bytes e.shape
  pub count : e.shape.frames ≡ length e.frames
  pub none_given : mode.ENCODES ≡ false → e.given ≡ []
  pub given : mode.ENCODES ≡ true → IsGiven (writer_of file) e.given e.bytes e.shape e.write_place

-- what a call that succeeds answers is right by the editing state for which the handle stands
abbrev pub IfOkStanding : {D M T E : Type 0} {ghosts : Ghosts D} {mode : ModeGhosts M} → (D → State) → File D M ghosts mode → Result T E → (Editing → T → Type 0) → Type 0
IfOkStanding state file result P = IfOk result (λ value. (e : Editing) → Stands state file e → P e value)

-- the handle then stands for the editing state that this one becomes
abbrev pub StandsAfter : {D M : Type 0} {ghosts : Ghosts D} {mode : ModeGhosts M} → (D → State) → File D M ghosts mode → File D M ghosts mode → (Editing → Editing) → Type 0
StandsAfter state old new next = (e : Editing) → Stands state old e → Stands state new (next e)
