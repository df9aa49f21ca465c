-- The laws of layouts, for files of every kind.
use Rattle.std.specs.Prelude.{◌≡◌, ℕ, Bool, List, All, Ok, None}
use Rattle.snd_fields.specs.Laws.{IsByte}
use Rattle.snd_layout.specs.Container.{AreBytes, ClosesNear, EndsAreInOrder, FieldsApart, FillsFields, FitsFields, IsNew, LiesIn, NewCountReadsBack, OldCountReadsBack, OuterIsWithin, OuterReaches, OuterStops, PiecesStay, SameOutsideDataReadsBack, SameValues, Says, VoiceDeclares, VoiceReadsBack}
use Rattle.snd_layout.specs.Fit.{fit_refusal}
use Rattle.snd_layout.specs.Params.{AreParams, Parameters}
use Rattle.snd_layout.specs.Shape.{KeepsRule, Shape}
use Rattle.snd_layout.specs.declared.kind.Kind.{Kind}
use Rattle.snd_container.specs.Sound.{layout_of}
use Rattle.snd_container.specs.Values.{any}

-- a file of any kind says a layout
abbrev pub FileSays : List ℕ → Shape → Type 0
FileSays b h = Says (any h.kind) b h

pub record KeepAllLaws : Type 0 where
  pub lies : (b : List ℕ) (h : Shape) → All IsByte b → layout_of b ≡ Ok h → LiesIn b h
  pub old : (kind : Kind) → OldCountReadsBack (any kind)
  pub new : (kind : Kind) → NewCountReadsBack (any kind)
  pub outside : (kind : Kind) → SameOutsideDataReadsBack (any kind)
  pub voice : (kind : Kind) → VoiceReadsBack (any kind)
  pub declares : (kind : Kind) → VoiceDeclares (any kind)
  pub reaches : (kind : Kind) → OuterReaches (any kind)
  pub stops : (kind : Kind) → OuterStops (any kind)
  pub within : (kind : Kind) → OuterIsWithin (any kind)
  pub order : (kind : Kind) → EndsAreInOrder (any kind)
  pub closes : (kind : Kind) (h : Shape) → ClosesNear (any kind) h
  pub apart : (b : List ℕ) (h : Shape) → FileSays b h → FieldsApart h
  pub fill : (b : List ℕ) (h : Shape) (frames : ℕ) → FileSays b h → FillsFields (any h.kind) h frames
  pub fit : (h : Shape) (frames : ℕ) → KeepsRule h → FitsFields (any h.kind) h frames
  pub free : (h : Shape) (frames declared : ℕ) (trailing : Bool) (n : ℕ) → SameValues (any h.kind) h (record h { frames = frames; declared = declared; trailing = trailing }) n
  pub bytes : (h : Shape) (frames : ℕ) → AreBytes (any h.kind) h frames
  pub pieces : (kind : Kind) → PiecesStay (any kind)
  pub made : (kind : Kind) (p : Parameters) → AreParams p → fit_refusal kind p ≡ None → IsNew kind (any kind) p
