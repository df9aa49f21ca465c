-- How a text, a field or cue points are set in a file that is made. The file itself is the draft: what its chunk says is read, one
-- text of it is changed, and the whole chunk is put in its place.
use Rattle.std.specs.Prelude.{◌≡◌, ◌⊎◌, ℕ, ◌≤◌, List, None, Some, Result, Ok, Err, true}
use Rattle.snd_disk.specs.State.{Rises, State}
use Rattle.snd_disk.specs.Device.{OnlyReadsOn}
use Rattle.snd_disk.specs.declared.disk.Disk.{Ghosts}
use Rattle.snd_layout.specs.declared.error.PieceError.TheVariants as piece_error
use Rattle.snd_file.specs.declared.handle.File.{File}
use Rattle.snd_edits.specs.declared.mode.Mode.{Ghosts as ModeGhosts}
use Rattle.snd_edits.specs.Editing.{Editing}
use Rattle.snd_edits.specs.Known.{Known}
use Rattle.snd_file.specs.Handle.{Stands, disk_of, known_of}
use Rattle.snd_layout.specs.Kinds.{holds_meta}
use Rattle.snd_edits.specs.PieceCalls.{IsPutRefusal, IsUntouched, MayPut, known_put, to_replace}
use Rattle.snd_edits.specs.Relaid.{place_named, replaced_to}
use Rattle.snd_chunks.specs.Heads.{new_piece}
use Rattle.snd_tags.specs.declared.error.SetError.{SetError}
use Rattle.snd_tags.specs.declared.error.SetError.TheVariants.{TextTooLong, Put}

-- ---- calls that set one

-- What the handle knows once a chunk of this body was put, or why it was not.
abbrev pub SetLeaves : {T : Type 0} → List ℕ → List ℕ → Known → Known → Result T SetError → Type 0
SetLeaves id body old new (Ok done) = MayPut (to_replace id body old) old × (new ≡ known_put (place_named id old.shape) (new_piece id body) old)
SetLeaves id body old new (Err TextTooLong) = new ≡ old
SetLeaves id body old new (Err (Put (piece_error.DiskFault step))) = (old.broken ≡ None) × (new ≡ record old { broken = Some step })
SetLeaves id body old new (Err (Put piece_error.Memory)) = (old.broken ≡ None) × (new ≡ old)
SetLeaves id body old new (Err (Put refusal)) = IsPutRefusal (to_replace id body old) old refusal × (new ≡ old)

-- over every disk: some body decides that
abbrev pub SetsSome : {T : Type 0} → List ℕ → Known → Known → Result T SetError → Type 0
SetsSome id old new result = (body : List ℕ) × SetLeaves id body old new result

-- .. and where the disk tells the file, this one, which is put; else the file is as it was, but after a fault of the disk
abbrev pub IsSet : {T : Type 0} → (Editing → Type 0) → List ℕ → List ℕ → Editing → Result T SetError → Type 0
IsSet stands id body e (Ok done) = stands (replaced_to id body e)
IsSet stands id body e (Err (Put (piece_error.DiskFault step))) = Unit {0}
IsSet stands id body e (Err refusal) = stands e

abbrev pub SetsBody : {D M T : Type 0} {ghosts : Ghosts D} {mode : ModeGhosts M} → (D → State) → List ℕ → (Editing → List ℕ) → File D M ghosts mode → File D M ghosts mode → Result T SetError → Type 0
SetsBody state id body old new result =
    (e : Editing) → Stands state old e → SetLeaves id (body e) (known_of old) (known_of new) result × IsSet (Stands state new) id (body e) e result

-- a chunk that says such things may be put, if it is small and the others are few
pub record MaySet (k : Known) : Type 0 where
  pub untouched : IsUntouched k
  pub held : holds_meta k.shape.kind ≡ true

-- the disk is only read where nothing is put, unless it fails; and also then where nothing may be put
abbrev pub OnlyPuts : {D M T : Type 0} {mode : ModeGhosts M} (d : Ghosts D) → File D M d mode → File D M d mode → Result T SetError → Type 0
OnlyPuts d old new (Ok done) = Unit {0}
OnlyPuts d old new (Err (Put (piece_error.DiskFault step))) = MaySet (known_of old) ⊎ OnlyReadsOn d.state d.may_leave d.left_between (disk_of old) (disk_of new)
OnlyPuts d old new (Err refusal) = OnlyReadsOn d.state d.may_leave d.left_between (disk_of old) (disk_of new)

-- the count of faults rises where the answer is a fault of the disk, and there alone
abbrev pub CountsSetting : {D M T : Type 0} {ghosts : Ghosts D} {mode : ModeGhosts M} → (D → State) → File D M ghosts mode → File D M ghosts mode → Result T SetError → Type 0
CountsSetting state old new (Err (Put (piece_error.DiskFault step))) = ((state (disk_of old)).faults ≤ (state (disk_of new)).faults) × Rises (state (disk_of old)).faults (state (disk_of new)).faults
CountsSetting state old new result = (state (disk_of new)).faults ≡ (state (disk_of old)).faults
