-- What a crash may leave of an open file without harm: a file that opens, with its parameters and its further chunks, with the
-- frames that were acknowledged or those that the call under way acknowledges, and with every frame that this call does not
-- write. That a crash leaves no more is this library's own promise, for files that are updated automatically.
use Rattle.std.specs.Prelude.{◌≡◌, ◌⊎◌, ℕ, ◌+◌, ◌<◌, ◌≤◌, ℤ, false, true, List, [], All, Ok, IfSome, get_or, length, map, take}
use Rattle.snd_container.specs.Laws.{FileSays}
use Rattle.snd_blocks.specs.Sound.{sound_of}
use Rattle.snd_container.specs.Sound.{Kept, Sound, kept_of}
use Rattle.snd_container.specs.Values.{closed_end, outer_value}
use Rattle.snd_disk.specs.Runs.{HasAt}
use Rattle.snd_fields.specs.Laws.{IsByte}
use Rattle.snd_layout.specs.Params.{data_bytes}
use Rattle.snd_layout.specs.Shape.{Shape}
use Rattle.snd_layout.specs.declared.kind.Kind.TheVariants.{Voc}
use Rattle.snd_edits.specs.Editing.{Editing}
use Rattle.snd_edits.specs.WriteCalls.{is_whole_field}

-- how many frames a state acknowledges: all, but for those that wait for their block
abbrev pub acknowledged : Editing → ℕ
acknowledged e = length e.frames

-- the further chunks, with their bodies
abbrev pub chunks_of : Editing → List Kept
chunks_of e = map (kept_of e.bytes) e.shape.pieces

-- a sound is that of a file with the kind and the further chunks of a state
abbrev pub SaysAs : Editing → Sound → Type 0
SaysAs e sound = (sound.kind ≡ e.shape.kind) × (sound.pieces ≡ chunks_of e)

-- a frame has no numbers where there is none
abbrev pub frame_at : List (List ℤ) → ℕ → List ℤ
frame_at frames i = get_or frames i []

-- the way from one state to another does not write a frame: it is the same in both, or it is gone
abbrev pub IsUnwritten : Editing → Editing → ℕ → Type 0
IsUnwritten e e' i = (acknowledged e' ≤ i) ⊎ (frame_at e'.frames i ≡ frame_at e.frames i)

-- An image is safe between a state and the one to which a call leads from there.
pub record IsSafe (e e' : Editing) (x : List ℕ) : Type 0 where
  pub sound : Sound
  pub opens : sound_of x ≡ Ok sound
  pub params : sound.params ≡ e.shape.params
  pub head : SaysAs e sound ⊎ SaysAs e' sound
  pub count : (length sound.frames ≡ acknowledged e) ⊎ (length sound.frames ≡ acknowledged e')
  pub unwritten : (i : ℕ) → i < length sound.frames → i < acknowledged e → IsUnwritten e e' i → frame_at sound.frames i ≡ frame_at e.frames i
  pub risen : acknowledged e < length sound.frames → sound.frames ≡ take (length sound.frames) e'.frames

-- a Creative Voice file that was trimmed declares no whole frame more than it has
abbrev pub DeclaresFew : Shape → Type 0
DeclaresFew h = (h.kind ≡ Voc) × (h.declared < data_bytes h.params (h.frames + 1))

-- The file says what the state knows of it, and holds all the data that it declares where it does not go on behind them; the
-- field that decides the count lies in one sector; and the bytes are bytes, so that of linear samples different
-- ones are different numbers.
pub record IsFit (e : Editing) : Type 0 where
  pub bytes : All IsByte e.bytes
  pub told : FileSays e.bytes e.shape
  pub there : e.shape.trailing ≡ false → (e.shape.start + e.shape.declared ≤ length e.bytes) ⊎ DeclaresFew e.shape
  pub whole : is_whole_field e.shape ≡ true

-- .. and its size is that of its frames, with what closes them, where it does not go on behind them
pub record IsSized (e : Editing) : Type 0 where
  pub outer : IfSome e.shape.outer (λ field. HasAt e.bytes field.at (outer_value e.shape e.shape.frames))
  pub declared : (e.shape.declared ≡ data_bytes e.shape.params e.shape.frames) ⊎ DeclaresFew e.shape
  pub closed : closed_end e.shape e.shape.frames ≤ length e.bytes
