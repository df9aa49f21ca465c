-- What a promotion owes the file that is promoted. file is the one that was opened or made, e the state before the call; the file that
-- is promoted is from then on the one to which states are held.
use Rattle.std.specs.Prelude.{◌≡◌, ℕ, List, All, Ok}
use Rattle.snd_blocks.specs.Sound.{sound_of}
use Rattle.snd_container.specs.Sound.{Sound}
use Rattle.snd_fields.specs.Laws.{IsByte}
use Rattle.snd_layout.specs.declared.kind.Kind.TheVariants.{Rf64}
use Rattle.snd_ds64.specs.Moments.{IsPromoting}
use Rattle.snd_edits.specs.Chunks.{KeepsChunks}
use Rattle.snd_edits.specs.Editing.{Editing, opening_of}
use Rattle.snd_edits.specs.Edits.{sealed_to}
use Rattle.snd_edits.specs.Laws.{IsEdited, as_opened}
use Rattle.snd_edits.specs.Safe.{IsSafe}
use Rattle.snd_edits.specs.SafeLaws.{Rests}
use Rattle.snd_edits.specs.Updating.{updating_of}
use Rattle.snd_reservations.specs.States.{MayTurn, promoted_to}

-- an edited file of bytes that may be promoted
pub record IsReady (file : List ℕ) (e : Editing) : Type 0 where
  pub edited : IsEdited file e
  pub bytes : All IsByte e.bytes
  pub may : MayTurn e.shape

-- What it becomes is an edited file, of bytes.
abbrev pub PromotedIsEdited : Type 0
PromotedIsEdited = (file : List ℕ) (e : Editing) → IsReady file e → IsEdited (promoted_to e).bytes (promoted_to e)

abbrev pub PromotedIsBytes : Type 0
PromotedIsBytes = (file : List ℕ) (e : Editing) → IsReady file e → All IsByte (promoted_to e).bytes

-- Opened, to be read or updated, it gives the state that the promotion leaves.
abbrev pub PromotedOpens : Type 0
PromotedOpens = (file : List ℕ) (e : Editing) → IsReady file e
    → (opening_of (promoted_to e).bytes ≡ Ok (as_opened (promoted_to e))) × (updating_of (promoted_to e).bytes ≡ Ok (as_opened (promoted_to e)))

-- Its sound is that of the sealed file, but for the kind.
abbrev pub PromotedSound : Type 0
PromotedSound = (file : List ℕ) (e : Editing) → IsReady file e
    → (sound : Sound) × (sound_of (sealed_to e).bytes ≡ Ok sound) × (sound_of (promoted_to e).bytes ≡ Ok (record sound { kind = Rf64 }))

-- It has the further chunks that it had.
abbrev pub PromotedKeepsChunks : Type 0
PromotedKeepsChunks = (file : List ℕ) (e : Editing) → IsEdited file e → MayTurn e.shape → KeepsChunks e (promoted_to e)

-- While the sealed file is turned, whatever a crash leaves is safe.
abbrev pub PromotedIsSafe : Type 0
PromotedIsSafe = (file : List ℕ) (e : Editing) (x : List ℕ) → IsReady file e
    → IsPromoting (sealed_to e).bytes e.shape e.shape.frames x → IsSafe e (promoted_to e) x

-- It is at rest then, wherever the field was that decided the count.
abbrev pub PromotedRests : Type 0
PromotedRests = (file : List ℕ) (e : Editing) → IsReady file e → Rests (promoted_to e)
