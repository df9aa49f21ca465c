-- VOX, a headerless file of Dialogic ADPCM (Dialogic Application Note 1366): IMA's rule for one code over 49 of its steps and 12 bits, two codes a byte, the first in the high half.
use Rattle.std.specs.Prelude.{◌%◌, ℕ, ℤ, pos, negsuc, ◌-ℤ◌, ◌*ℤ◌, List, [], ◌∷◌, ◌++◌, length, ◌==◌, if◌then◌else◌}
use Rattle.snd_ima_adpcm.specs.Step.{step_size, moved, next_index, code_for}
use Rattle.snd_ima_adpcm.specs.Frames.{clamp, floor_div, high_half_first, bytes_high_half_first}

-- a predictor of 12 bits, and the place of a step among IMA's, which is 8 to 56
abbrev pub VoxState : Type 0
VoxState = ℤ × ℕ

abbrev pub vox_start : VoxState
vox_start = (pos 0, 8)

-- the state after a code
unfoldable pub vox_predictor : ℤ → ℕ → ℕ → ℤ
vox_predictor predictor index code = clamp (negsuc 2047) (pos 2047) (moved predictor (step_size index) code)

unfoldable pub vox_index : ℕ → ℕ → ℕ
vox_index index code = next_index 8 56 index code

abbrev pub vox_next : VoxState → ℕ → VoxState
vox_next state code = (vox_predictor state.0 state.1 code, vox_index state.1 code)

-- the samples of a list of codes, in 16 bits, and the state after them
abbrev pub vox_samples : VoxState → List ℕ → List ℤ
vox_samples state [] = []
vox_samples state (code ∷ codes) = (pos 16 *ℤ (vox_next state code).0) ∷ vox_samples (vox_next state code) codes

abbrev pub vox_state_read : VoxState → List ℕ → VoxState
vox_state_read state [] = state
vox_state_read state (code ∷ codes) = vox_state_read (vox_next state code) codes

-- the samples of a file's bytes
abbrev pub vox_sound : List ℕ → List ℤ
vox_sound bytes = vox_samples vox_start (high_half_first bytes)

-- the code of a sample of 16 bits
unfoldable pub vox_code : ℤ → ℕ → ℤ → ℕ
vox_code predictor index sample = code_for (step_size index) (floor_div sample 16 -ℤ predictor)

-- the codes of a list of samples, and the state after them
abbrev pub vox_codes : VoxState → List ℤ → List ℕ
vox_codes state [] = []
vox_codes state (sample ∷ samples) = vox_code state.0 state.1 sample ∷ vox_codes (vox_next state (vox_code state.0 state.1 sample)) samples

abbrev pub vox_state_written : VoxState → List ℤ → VoxState
vox_state_written state [] = state
vox_state_written state (sample ∷ samples) = vox_state_written (vox_next state (vox_code state.0 state.1 sample)) samples

-- a last odd sample is followed by a zero
abbrev pub made_even : List ℤ → List ℤ
made_even samples = if length samples % 2 == 0 then samples else (samples ++ pos 0 ∷ [])

-- the bytes of a file's samples
abbrev pub vox_file : List ℤ → List ℕ
vox_file samples = bytes_high_half_first (vox_codes vox_start (made_even samples))
