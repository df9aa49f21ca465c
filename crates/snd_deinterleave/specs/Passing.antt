-- How one channel of a file is put behind the frames of another. It is said for the proofs alone.
use Rattle.std.specs.Prelude.{◌≡◌, ℕ, ◌*◌, ◌+◌, ◌<◌, ◌≤◌, ℤ, pos, List, ◌++◌, None, get_or}
use Rattle.snd_disk.specs.declared.disk.Disk.{Ghosts}
use Rattle.snd_disk.specs.State.{State}
use Rattle.snd_chunks.specs.Written.{NewChunk}
use Rattle.snd_layout.specs.Params.{Parameters}
use Rattle.snd_layout.specs.declared.codec.Codec.{Codec}
use Rattle.snd_layout.specs.declared.kind.Kind.{Kind}
use Rattle.snd_edits.specs.Editing.{Editing, frames_read, moved_by}
use Rattle.snd_edits.specs.Known.{Known}
use Rattle.snd_edits.specs.Reading.{FitCodec}
use Rattle.snd_edits.specs.declared.mode.Mode.{Ghosts as ModeGhosts}
use Rattle.snd_file.specs.declared.handle.File.{File}
use Rattle.snd_file.specs.Handle.{Stands, StandsAfter, known_of}
use Rattle.snd_layout.specs.Blocks.{block_frames}
use Rattle.snd_output.specs.Appended.{HasRoom, IsAtEnd, frames_ahead, left_in}
use Rattle.snd_output.specs.Made.{IsMaking}
use Rattle.snd_deinterleave.specs.Deinterleave.{channel_of}

-- numbers are one channel of whole frames of others
abbrev pub ArePicked : ℕ → ℕ → List ℤ → List ℤ → ℕ → Type 0
ArePicked channels which block xs count = (j : ℕ) → j < count → get_or xs j (pos 0) ≡ get_or block (j * channels + which) (pos 0)

-- numbers of one codec are in the range of another
abbrev pub FitsAs : Codec → Codec → Type 0
FitsAs from to = (xs : List ℤ) → FitCodec from xs → FitCodec to xs

-- a channel of the frames that are left in one file may be put behind those of another, which has one channel
pub record MayPut (which : ℕ) (from to : Known) : Type 0 where
  pub working : from.broken ≡ None
  pub at_end : IsAtEnd to
  pub within : which < from.shape.params.channels
  pub mono : to.shape.params.channels ≡ 1
  pub fits : FitsAs from.shape.params.codec to.shape.params.codec
  pub together : 1 ≤ block_frames to.shape.params.codec
  pub in_room : HasRoom (left_in from) to

-- that channel of the next n frames of a state, and of all that are left
abbrev pub next_channel : ℕ → ℕ → Editing → List ℤ
next_channel which n e = channel_of which (frames_read e n)

abbrev pub channel_left : ℕ → Editing → List ℤ
channel_left which e = channel_of which (frames_ahead e)

-- Where both disks tell what they hold, a file that was being made then holds more numbers: those that a state of the other file gives.
abbrev pub Lengthens : {D E M N : Type 0} {d : Ghosts D} {m : ModeGhosts M} {t : Ghosts E} {n : ModeGhosts N}
    → (D → State) → (E → State) → (Editing → List ℤ) → File D M d m → File E N t n → File E N t n → Type 0
Lengthens state state' numbers from to to' =
    (kind : Kind) (p : Parameters) (pieces : List NewChunk) (xs : List ℤ) (r e : Editing)
    → Stands state from r → Stands state' to e → IsMaking kind p pieces xs e
    → (e' : Editing) × Stands state' to' e' × IsMaking kind p pieces (xs ++ numbers r) e'

-- .. those of one channel of the next n frames, of all that are left, or of all
abbrev pub TakesNext : {D E M N : Type 0} {d : Ghosts D} {m : ModeGhosts M} {t : Ghosts E} {n : ModeGhosts N}
    → (D → State) → (E → State) → ℕ → File D M d m → File E N t n → File E N t n → ℕ → Type 0
TakesNext state state' which from to to' n = Lengthens state state' (next_channel which n) from to to'

abbrev pub TakesLeft : {D E M N : Type 0} {d : Ghosts D} {m : ModeGhosts M} {t : Ghosts E} {n : ModeGhosts N}
    → (D → State) → (E → State) → ℕ → File D M d m → File E N t n → File E N t n → Type 0
TakesLeft state state' which from to to' = Lengthens state state' (channel_left which) from to to'

abbrev pub TakesAll : {D E M N : Type 0} {d : Ghosts D} {m : ModeGhosts M} {t : Ghosts E} {n : ModeGhosts N}
    → (D → State) → (E → State) → ℕ → File D M d m → File E N t n → File E N t n → Type 0
TakesAll state state' which from to to' = Lengthens state state' (λ e. channel_of which e.frames) from to to'

-- a file that is read then stands behind its last frame
abbrev pub StandsAtEnd : {D M : Type 0} {d : Ghosts D} {m : ModeGhosts M} → (D → State) → File D M d m → File D M d m → Type 0
StandsAtEnd state old new = StandsAfter state old new (moved_by (left_in (known_of old)))
