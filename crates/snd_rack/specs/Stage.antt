-- What a stage does to the frames that pass it, in their order.
use Rattle.std.specs.Prelude.{ℕ, ◌+◌, ◌≤◌, ℤ, pos, neg_ℤ, ◌*ℤ◌, Bool, false, true, List, [], ◌∷◌, length, map, int_lt, nat_lt, slice_index_or, if◌then◌else◌}
use Rattle.snd_pcm.specs.Width.{floor_div}
use Rattle.snd_rack.specs.declared.setting.StageKind.{StageKind}
use Rattle.snd_rack.specs.declared.setting.StageKind.TheVariants as kind

-- What it is set to: a factor a / b; the sign turned; the places of a frame's samples that are taken, in this order; or a rise to
-- the full sound over so many frames.
pub data Stated : Type 0 where
  gain : ℕ → ℕ → Stated
  invert : Stated
  pick : List ℕ → Stated
  fade : ℕ → Stated

abbrev pub kind_of : Stated → StageKind
kind_of (Stated.gain a b) = kind.Gain
kind_of Stated.invert = kind.Invert
kind_of (Stated.pick places) = kind.Pick
kind_of (Stated.fade count) = kind.Fade

-- whether a frame has as many samples behind a stage of a kind as before it: all but a map
abbrev pub keeps_width : StageKind → Bool
keeps_width kind.Pick = false
keeps_width other = true

-- nothing is divided by 0, and a frame keeps a sample
abbrev pub IsSettled : Stated → Type 0
IsSettled (Stated.gain a b) = 1 ≤ b
IsSettled Stated.invert = Unit {0}
IsSettled (Stated.pick places) = (1 ≤ length places) × (length places ≤ 256)
IsSettled (Stated.fade count) = 1 ≤ count

-- the number between low and high that is nearest to x
abbrev pub clamped : ℤ → ℤ → ℤ → ℤ
clamped low high x = if int_lt x low then low else (if int_lt high x then high else x)

-- the frame with the number i, counted from 0, behind the stage
abbrev pub mapped : Stated → ℤ → ℤ → ℕ → List ℤ → List ℤ
mapped (Stated.gain a b) low high i frame = map (λ x. clamped low high (floor_div (x *ℤ pos a) b)) frame
mapped Stated.invert low high i frame = map (λ x. clamped low high (neg_ℤ x)) frame
mapped (Stated.pick places) low high i frame = map (λ place. slice_index_or frame place (pos 0)) places
mapped (Stated.fade count) low high i frame = if nat_lt i count then map (λ x. floor_div (x *ℤ pos i) count) frame else frame

-- what becomes of each frame of a list by its number, of which the first has the number k
abbrev pub each_from : ℕ → (ℕ → List ℤ → List ℤ) → List (List ℤ) → List (List ℤ)
each_from k f [] = []
each_from k f (frame ∷ frames) = f k frame ∷ each_from (k + 1) f frames

-- all frames of a list
abbrev pub staged_from : ℕ → Stated → ℤ → ℤ → List (List ℤ) → List (List ℤ)
staged_from k s low high frames = each_from k (mapped s low high) frames

abbrev pub staged : Stated → ℤ → ℤ → List (List ℤ) → List (List ℤ)
staged s low high frames = staged_from 0 s low high frames
