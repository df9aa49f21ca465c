-- What a crash leaves of a file in the midst of a call that is safe. file is the one that was opened or made, e the state before
-- the call, x what the crash leaves.
use Rattle.std.specs.Prelude.{◌≡◌, ◌⊎◌, ℕ, ℤ, ◌/◌, ◌<◌, Bool, true, false, All, List, length}
use Rattle.snd_container.specs.Laws.{FileSays}
use Rattle.snd_fields.specs.Laws.{IsByte}
use Rattle.snd_layout.specs.declared.kind.Kind.TheVariants.{Voc}
use Rattle.snd_patch.specs.Images.{IsClosing, IsCounting, IsCutting, IsGrowing, IsShrinking}
use Rattle.snd_patch.specs.Sealed.{closed, with_fewer}
use Rattle.snd_block_writer.specs.Puts.{IsPartly}
use Rattle.snd_edits.specs.Editing.{Editing}
use Rattle.snd_edits.specs.Edits.{automatic_to, closed_behind, count_written, cut_to, over_data, sealed_to, trimmed_to, truncated_to, written_to}
use Rattle.snd_edits.specs.Laws.{IsEdited, KeepsFile, Leads, MayTruncate, Reached}
use Rattle.snd_edits.specs.Safe.{IsFit, IsSafe, IsSized}
use Rattle.snd_edits.specs.WriteCalls.{MayWrite, is_whole_field}

-- ---- at rest

-- a file that says what its state knows of it
abbrev pub RestIsSafe : Type 0
RestIsSafe = (file : List ℕ) (e : Editing) → KeepsFile file e → FileSays e.bytes e.shape → IsSafe e e e.bytes

-- What is safe at rest is so during each call from there, and during each that leads there.
abbrev pub StaysSafe : Type 0
StaysSafe = (e e' : Editing) (x : List ℕ) → IsSafe e e x → IsSafe e e' x

abbrev pub SafeFromAfter : Type 0
SafeFromAfter = (e e' : Editing) (x : List ℕ) → e'.shape.params ≡ e.shape.params → IsSafe e' e' x → IsSafe e e' x

-- and so is what is safe at rest in another state of the same file with the same frames
abbrev pub SafeAcross : Type 0
SafeAcross = (file : List ℕ) (e g e' : Editing) (x : List ℕ) → KeepsFile file e → KeepsFile file g → g.frames ≡ e.frames → IsSafe g g x → IsSafe e e' x

-- ---- while frames are written

-- how many frames there are then, and the contents but for the head: the numbers, and what closes the data
abbrev pub frames_then : List ℤ → Editing → ℕ
frames_then xs e = count_written e.shape e.write_place (length xs / e.shape.params.channels)

abbrev pub data_then : List ℤ → Editing → List ℕ
data_then xs e = closed_behind (over_data e.bytes e.shape e.write_place xs) e.shape (frames_then xs e)

-- any of their bytes on the disk
abbrev pub WrittenIsSafe : Type 0
WrittenIsSafe = (file : List ℕ) (e : Editing) (xs : List ℤ) (x : List ℕ) → IsEdited file e → IsFit e → MayWrite xs e.shape e.write_place
    → (e.shape.trailing ≡ false → IsSized e) → IsPartly e.bytes (data_then xs e) x → IsSafe e (written_to xs e) x

-- all of them, while the head is brought up to them
abbrev pub GrownIsSafe : Type 0
GrownIsSafe = (file : List ℕ) (e : Editing) (xs : List ℤ) (x : List ℕ) → IsEdited file e → IsFit e → MayWrite xs e.shape e.write_place
    → e.shape.trailing ≡ false → IsSized e → IsGrowing (data_then xs e) e.shape (frames_then xs e) x → IsSafe e (written_to xs e) x

-- ---- while frames are cut off

abbrev pub CutIsSafe : Type 0
CutIsSafe = (file : List ℕ) (e : Editing) (to : ℕ) (x : List ℕ) → IsEdited file e → IsFit e → to < e.shape.frames → e.shape.trailing ≡ false
    → IsShrinking e.bytes e.shape to x ⊎ IsCutting (with_fewer e.bytes e.shape to) e.shape to x → IsSafe e (cut_to to e) x

-- ---- while a file is sealed: what closes the data is put, and then the head is brought up

abbrev pub SealedIsSafe : Type 0
SealedIsSafe = (file : List ℕ) (e e' : Editing) (x : List ℕ) → KeepsFile file e → IsFit e → e.shape.trailing ≡ false
    → IsClosing e.bytes e.shape e.shape.frames x ⊎ IsCounting (closed e.bytes e.shape e.shape.frames) e.shape e.shape.frames x → IsSafe e e' x

-- .. and then all behind its data is cut off
abbrev pub TailCutIsSafe : Type 0
TailCutIsSafe = (file : List ℕ) (e e' : Editing) (x : List ℕ) → KeepsFile file e → IsFit e → e.shape.trailing ≡ false → IsSized e
    → IsCutting e.bytes e.shape e.shape.frames x → IsSafe e e' x

abbrev pub TrimmedIsSafe : Type 0
TrimmedIsSafe = (file : List ℕ) (e e' : Editing) (x : List ℕ) → IsEdited file e → IsFit e → (e.shape.trailing ≡ true → e.shape.kind ≡ Voc)
    → IsCutting (sealed_to e).bytes (sealed_to e).shape e.shape.frames x → IsSafe e e' x

-- ---- at rest again

-- the bytes of a file are bytes, wherever calls lead
abbrev pub LeadsToBytes : Type 0
LeadsToBytes = (e e' : Editing) → All IsByte e.bytes → Leads e e' → All IsByte e'.bytes

abbrev pub ReachedIsBytes : Type 0
ReachedIsBytes = (file : List ℕ) (e : Editing) → All IsByte file → Reached file e → All IsByte e.bytes

-- A state is fit, and has its size where it does not go on behind its data.
abbrev pub Rests : Editing → Type 0
Rests e = IsFit e × (e.shape.trailing ≡ false → IsSized e)

-- A sealed file rests where the field that decides the count lies in one sector; and so does one that is cut or trimmed.
abbrev pub SealedRests : Type 0
SealedRests = (file : List ℕ) (e : Editing) → KeepsFile file e → All IsByte e.bytes → is_whole_field e.shape ≡ true → Rests (sealed_to e)

abbrev pub AutomaticRests : Type 0
AutomaticRests = (file : List ℕ) (e : Editing) (on : Bool) → KeepsFile file e → All IsByte e.bytes → is_whole_field e.shape ≡ true → Rests (automatic_to on e)

abbrev pub CutRests : Type 0
CutRests = (file : List ℕ) (e : Editing) (to : ℕ) → IsEdited file e → All IsByte e.bytes → is_whole_field e.shape ≡ true → MayTruncate to e.shape → Rests (truncated_to to e)

abbrev pub TrimmedRests : Type 0
TrimmedRests = (file : List ℕ) (e : Editing) → IsEdited file e → All IsByte e.bytes → is_whole_field e.shape ≡ true → (e.shape.trailing ≡ true → e.shape.kind ≡ Voc) → Rests (trimmed_to e)

-- While updates are automatic each write leaves a file that rests, and so does each call from one that rests.
abbrev pub WrittenRests : Type 0
WrittenRests = (file : List ℕ) (e : Editing) (xs : List ℤ) → IsEdited file e → All IsByte e.bytes → is_whole_field e.shape ≡ true
    → MayWrite xs e.shape e.write_place → e.automatic ≡ true → Rests (written_to xs e)

abbrev pub LeadsToRest : Type 0
LeadsToRest = (file : List ℕ) (e e' : Editing) → IsEdited file e → Rests e → e.automatic ≡ true → Leads e e' → Rests e'
