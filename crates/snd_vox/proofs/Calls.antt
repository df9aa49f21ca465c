-- VOX bytes and pairs of samples, one after another.
use Rattle.std.proofs.Common.{◌≡◌, ℕ, ℤ, List, [], ◌∷◌, refl, ap, ◌∙◌}
use Rattle.snd_ima_adpcm.specs.Frames.{high_half_first, bytes_high_half_first}
use Rattle.snd_vox.specs.Laws.{vox_reads, vox_puts, joined_pairs, VoxReadsGiveSound, VoxPutsGiveFile}
use Rattle.snd_vox.specs.Vox.{VoxState, vox_start, vox_samples, vox_state_read, vox_codes, vox_state_written}

vox_reads-from : (state : VoxState) (bytes : List ℕ) → vox_reads state bytes ≡ vox_samples state (high_half_first bytes)
vox_reads-from state [] = refl
vox_reads-from state (byte ∷ bytes) = rw (vox_reads-from (vox_state_read state (high_half_first (byte ∷ []))) bytes) refl

vox_puts-from : (state : VoxState) (pairs : List (ℤ × ℤ)) → vox_puts state pairs ≡ bytes_high_half_first (vox_codes state (joined_pairs pairs))
vox_puts-from state [] = refl
vox_puts-from state (pair ∷ pairs) = rw (vox_puts-from (vox_state_written state (pair.0 ∷ pair.1 ∷ [])) pairs) refl

pub vox_reads_give_sound : VoxReadsGiveSound
vox_reads_give_sound bytes = vox_reads-from vox_start bytes

pub vox_puts_give_file : VoxPutsGiveFile
vox_puts_give_file samples pairs e = vox_puts-from vox_start pairs ∙ ap (λ xs. bytes_high_half_first (vox_codes vox_start xs)) e
