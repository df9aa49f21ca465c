-- The laws of what is fed.
use Rattle.std.specs.Prelude.{◌≡◌, ℤ, List, ◌++◌, length, flat_map}
use Rattle.snd_taps.specs.declared.tap.TapKind.{TapKind}
use Rattle.snd_taps.specs.declared.tap.TapKind.TheVariants.{Peak, Clips, Energy}
use Rattle.snd_taps.specs.Measure.{peak_of, clips_of, energy_of}
use Rattle.snd_taps.specs.Meter.{capped, fed, fed_from}

-- all samples of the frames
abbrev pub all_of : List (List ℤ) → List ℤ
all_of frames = flat_map (λ frame. frame) frames

abbrev pub FramesInTurn : Type 0
FramesInTurn = (kind : TapKind) (low high : ℤ) (first more : List (List ℤ)) →
    fed kind low high (first ++ more) ≡ fed_from kind low high (fed kind low high first) more

abbrev pub CountOfFrames : Type 0
CountOfFrames = (kind : TapKind) (low high : ℤ) (frames : List (List ℤ)) →
    (fed kind low high frames).frames ≡ capped 64 (length frames)

abbrev pub PeakOfAll : Type 0
PeakOfAll = (low high : ℤ) (frames : List (List ℤ)) → (fed Peak low high frames).value ≡ peak_of (all_of frames)

abbrev pub ClipsOfAll : Type 0
ClipsOfAll = (low high : ℤ) (frames : List (List ℤ)) →
    (fed Clips low high frames).value ≡ capped 128 (clips_of low high (all_of frames))

abbrev pub EnergyOfAll : Type 0
EnergyOfAll = (low high : ℤ) (frames : List (List ℤ)) →
    (fed Energy low high frames).value ≡ capped 128 (energy_of (all_of frames))
