use Rattle.std.proofs.Common.{◌≡◌, ◌+◌, ◌-◌, ◌*◌, ◌≤◌, pos, drop, get_or}
use Rattle.snd_ms_adpcm.specs.Microsoft.{ms_error_sum}
use Rattle.snd_ms_adpcm.proofs.microsoft_writer.error_sum_of.Given as goal

abbrev pub invariant-loop-n : goal.invariant-loop-n
invariant-loop-n l = record {
  so_far : l.sum + ms_error_sum l.number (get_or l.samples (l.n - 1) (pos 0)) (get_or l.samples (l.n - 2) (pos 0)) (drop l.n l.samples)
      ≡ ms_error_sum l.number (get_or l.samples 1 (pos 0)) (get_or l.samples 0 (pos 0)) (drop 2 l.samples);
  small : l.sum ≤ 65535 * (l.n - 2);
}
