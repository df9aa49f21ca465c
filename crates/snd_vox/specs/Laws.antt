-- Calls one after another give what the definitions make of the whole list.
use Rattle.std.specs.Prelude.{◌≡◌, ℕ, ℤ, List, [], ◌∷◌, ◌++◌}
use Rattle.snd_ima_adpcm.specs.Frames.{high_half_first, bytes_high_half_first}
use Rattle.snd_vox.specs.Vox.{VoxState, vox_start, vox_samples, vox_state_read, vox_sound, vox_codes, vox_state_written, vox_file, made_even}

-- the samples that a reader's calls give one after another
abbrev pub vox_reads : VoxState → List ℕ → List ℤ
vox_reads state [] = []
vox_reads state (byte ∷ bytes) = vox_samples state (high_half_first (byte ∷ [])) ++ vox_reads (vox_state_read state (high_half_first (byte ∷ []))) bytes

abbrev pub VoxReadsGiveSound : Type 0
VoxReadsGiveSound = (bytes : List ℕ) → vox_reads vox_start bytes ≡ vox_sound bytes

-- the bytes that a writer's calls give one after another
abbrev pub vox_puts : VoxState → List (ℤ × ℤ) → List ℕ
vox_puts state [] = []
vox_puts state (pair ∷ pairs) = bytes_high_half_first (vox_codes state (pair.0 ∷ pair.1 ∷ [])) ++ vox_puts (vox_state_written state (pair.0 ∷ pair.1 ∷ [])) pairs

-- pairs, joined
abbrev pub joined_pairs : List (ℤ × ℤ) → List ℤ
joined_pairs [] = []
joined_pairs (pair ∷ pairs) = pair.0 ∷ pair.1 ∷ joined_pairs pairs

abbrev pub VoxPutsGiveFile : Type 0
VoxPutsGiveFile = (samples : List ℤ) (pairs : List (ℤ × ℤ)) → joined_pairs pairs ≡ made_even samples → vox_puts vox_start pairs ≡ vox_file samples
