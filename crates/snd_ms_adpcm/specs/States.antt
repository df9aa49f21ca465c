-- What the rules of a code say of one channel's state, as the code of this crate holds it between two codes.
use Rattle.std.specs.Prelude.{ℕ, ℤ, List, [], ◌∷◌, ◌++◌}
use Rattle.snd_ima_adpcm.specs.Frames.{alternating, bytes_16, bytes_high_half_first, firsts, seconds}
use Rattle.snd_ms_adpcm.specs.declared.microsoft_state.MsState.{MsState}
use Rattle.snd_ms_adpcm.specs.Microsoft.{ms_code, ms_codes, ms_sample, ms_samples}

-- the sample of a code, and the code of a sample
abbrev pub ms_sample_at : MsState → ℕ → ℤ
ms_sample_at s code = ms_sample s.newer_by s.older_by s.newer s.older s.delta code

abbrev pub ms_code_at : MsState → ℤ → ℕ
ms_code_at s sample = ms_code s.newer_by s.older_by s.newer s.older s.delta sample

-- a channel's samples: the two that a state begins with, and those of a list of codes
abbrev pub ms_samples_from : MsState → List ℕ → List ℤ
ms_samples_from s codes = s.older ∷ s.newer ∷ ms_samples s.newer_by s.older_by s.newer s.older s.delta codes

-- the frames of two channels, whose codes stand in turn
abbrev pub ms_frames_from : MsState → MsState → List ℕ → List ℤ
ms_frames_from first second codes = alternating (ms_samples_from first (firsts codes)) (ms_samples_from second (seconds codes))

-- the codes of a channel's samples, and their bytes
abbrev pub ms_codes_from : MsState → List ℤ → List ℕ
ms_codes_from s samples = ms_codes s.newer_by s.older_by s.newer s.older s.delta samples

abbrev pub ms_run : MsState → List ℤ → List ℕ
ms_run s samples = bytes_high_half_first (ms_codes_from s samples)

-- the bytes of two channels' frames, a code of each channel in every byte
abbrev pub ms_runs : MsState → MsState → List ℤ → List ℕ
ms_runs first second frames = bytes_high_half_first (alternating (ms_codes_from first (firsts frames)) (ms_codes_from second (seconds frames)))

-- the heads of two channels: their predictor numbers, deltas, newer samples and older samples
abbrev pub ms_heads : ℕ → ℕ → MsState → MsState → List ℕ
ms_heads left_number right_number left right =
    (left_number ∷ right_number ∷ []) ++ (bytes_16 left.delta ++ bytes_16 right.delta)
    ++ (bytes_16 left.newer ++ bytes_16 right.newer) ++ (bytes_16 left.older ++ bytes_16 right.older)
