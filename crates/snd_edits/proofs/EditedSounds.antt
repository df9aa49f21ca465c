-- The sound of a file that is sealed.
use Rattle.std.proofs.Common.{◌≡◌, ◌⊎◌, ◌∙◌, ap, sym, subst, inr, ℕ, ◌≤◌, ℤ, true, List, Ok, length, map, arith}
use Rattle.std.specs.Prelude.{Result}
use Rattle.snd_blocks.specs.Sound.{frames_in, sound_in, sound_of}
use Rattle.snd_container.specs.Laws.{FileSays}
use Rattle.snd_container.specs.Sound.{Kept, Sound, kept_of}
use Rattle.snd_layout.specs.Container.{KeepsHead}
use Rattle.snd_layout.specs.Shape.{Shape}
use Rattle.snd_layout.specs.declared.kind.Kind.TheVariants.{Voc}
use Rattle.snd_layout.specs.declared.refusal.OpenRefusal.{OpenRefusal}
use Rattle.snd_edits.specs.Editing.{Editing}
use Rattle.snd_edits.specs.Edits.{sealed_to}
use Rattle.snd_edits.specs.Laws.{HasSoundOf, KeepsFile, SealedSound}
use Rattle.snd_edits.proofs.EditedFiles.{lies_under, sealed_keeps_file, sealed_told}
use Rattle.snd_edits.proofs.KeptPieces.{SameTail, pieces_stay}

-- the further chunks of a file with the head of a state, and with its tail where it goes on behind its data
pub image_pieces : (file : List ℕ) (e : Editing) (of : KeepsFile file e) (x : List ℕ) → e.shape.start ≤ length x → KeepsHead e.shape file x
    → (e.shape.trailing ≡ true → (e.shape.kind ≡ Voc) ⊎ SameTail of.head x file) → map (kept_of x) of.head.pieces ≡ map (kept_of file) of.head.pieces
image_pieces file e of x begins kept tail =
    let head = of.head in
    let here : head.start ≤ length x = subst (λ (s : Shape). s.start ≤ length x) of.shape begins in
    let kept_too : KeepsHead (record head { frames = e.shape.frames; declared = e.shape.declared }) file x = subst (λ (s : Shape). KeepsHead s file x) of.shape kept in
    pieces_stay x file head of.opened (lies_under file e of).params here kept_too
    (λ goes_on. subst (λ (s : Shape). (s.kind ≡ Voc) ⊎ SameTail head x file) of.shape (tail (ap (λ (s : Shape). s.trailing) of.shape ∙ goes_on)))

-- .. and so of the state's own bytes
pub edited_pieces : (file : List ℕ) (e : Editing) (of : KeepsFile file e) → map (kept_of e.bytes) of.head.pieces ≡ map (kept_of file) of.head.pieces
edited_pieces file e of =
    image_pieces file e of e.bytes (let le : e.shape.start ≤ length e.bytes = omega (arith, of.holds.held) in le) of.kept
    (λ goes_on. let tail = of.stays goes_on in inr (tail.size, tail.behind))

abbrev pub sound_with : List ℕ → Shape → List (List ℤ) → Result Sound OpenRefusal
sound_with x s frames = Ok (record { kind = s.kind; params = s.params; frames = frames; pieces = map (kept_of x) s.pieces })

pub sound_by : (x : List ℕ) (s : Shape) → FileSays x s → sound_of x ≡ sound_with x s (frames_in x s)
sound_by x s says = ap (sound_in x) says.told

-- a state whose bytes say what it knows
pub sound_said : (file : List ℕ) (g : Editing) (of : KeepsFile file g) → FileSays g.bytes g.shape → HasSoundOf file g.frames g.bytes
sound_said file g of says =
    let head = of.head in (
      record { kind = head.kind; params = head.params; frames = frames_in file head; pieces = map (kept_of file) head.pieces },
      sound_by file head of.opened,
      sound_by g.bytes g.shape says
          ∙ ap (sound_with g.bytes g.shape) (sym of.holds.sound)
          ∙ ap (λ (h : Shape). sound_with g.bytes h g.frames) of.shape
          ∙ ap (λ (l : List Kept). Ok (record { kind = head.kind; params = head.params; frames = g.frames; pieces = l })) (edited_pieces file g of),
    )

pub sealed_sound : SealedSound
sealed_sound file e of = sound_said file (sealed_to e) (sealed_keeps_file file e of) (sealed_told file e of)
