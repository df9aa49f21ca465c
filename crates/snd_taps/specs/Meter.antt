-- What a tap stands for.
use Rattle.std.specs.Prelude.{ℕ, ◌+◌, ◌-◌, ◌^◌, min, max, ℤ, pos, List, fold}
use Rattle.snd_taps.specs.declared.tap.TapKind.{TapKind}
use Rattle.snd_taps.specs.declared.tap.TapKind.TheVariants.{Peak, Clips, Energy}
use Rattle.snd_taps.specs.declared.tap.TapState.{TapState}
use Rattle.snd_taps.specs.Measure.{peak_of, clips_of, energy_of}

-- a sum or a count of this many bits, which stays at its greatest number
abbrev pub capped : ℕ → ℕ → ℕ
capped bits n = min n (2 ^ bits - 1)

-- the value after one more frame
abbrev pub value_after : TapKind → ℤ → ℤ → ℕ → List ℤ → ℕ
value_after Peak low high value frame = max value (peak_of frame)
value_after Clips low high value frame = capped 128 (value + clips_of low high frame)
value_after Energy low high value frame = capped 128 (value + energy_of frame)

-- the state after one more frame
abbrev pub step : TapKind → ℤ → ℤ → TapState → List ℤ → TapState
step kind low high state frame = record {
  frames = capped 64 (state.frames + 1);
  value = value_after kind low high state.value frame;
}

abbrev pub nothing : TapState
nothing = record { frames = 0; value = 0 }

-- the state after all these frames, from a state and from none
abbrev pub fed_from : TapKind → ℤ → ℤ → TapState → List (List ℤ) → TapState
fed_from kind low high state frames = fold (step kind low high) state frames

abbrev pub fed : TapKind → ℤ → ℤ → List (List ℤ) → TapState
fed kind low high frames = fed_from kind low high nothing frames

pub record Meter : Type 0 where
  pub kind : TapKind
  pub low : ℤ
  pub high : ℤ
  pub state : TapState

-- not started yet
abbrev pub idle : TapKind → Meter
idle kind = record { kind = kind; low = pos 0; high = pos 0; state = nothing }

-- no call but start changes the range, and none the kind
abbrev pub started : ℤ → ℤ → Meter → Meter
started low high m = record m { low = low; high = high; state = nothing }

abbrev pub after_frame : List ℤ → Meter → Meter
after_frame frame m = record m { state = step m.kind m.low m.high m.state frame }

abbrev pub after_frames : List (List ℤ) → Meter → Meter
after_frames frames m = record m { state = fed_from m.kind m.low m.high m.state frames }
