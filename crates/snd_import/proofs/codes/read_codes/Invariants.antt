use Rattle.std.proofs.Common.{◌≡◌, ◌*◌, ◌++◌, All, drop, length, take}
use Rattle.snd_ima_adpcm.specs.Frames.{high_half_first}
use Rattle.snd_vox.specs.Vox.{vox_samples, vox_state_read}
use Rattle.snd_pcm.specs.Width.{HasWidth}
use Rattle.snd_import.proofs.codes.read_codes.Given as goal

abbrev pub invariant-loop-i : goal.invariant-loop-i
invariant-loop-i l = record {
  so_far : take (2 * l.i) l.numbers ++ vox_samples l.reader (high_half_first (drop l.i l.bytes)) ≡ vox_samples l.fn.reader (high_half_first l.bytes);
  state : vox_state_read l.reader (high_half_first (drop l.i l.bytes)) ≡ vox_state_read l.fn.reader (high_half_first l.bytes);
  in_range : All (HasWidth 16) (take (2 * l.i) l.numbers);
  size : length l.numbers ≡ 2 * length l.bytes;
}
