use Rattle.std.proofs.Common.{◌≡◌, ◌+◌, ◌*◌, ◌++◌, ◌≤ℤ◌, pos, drop, length}
use Rattle.snd_ima_adpcm.specs.Frames.{bytes_high_half_first}
use Rattle.snd_ms_adpcm.specs.Microsoft.{ms_codes}
use Rattle.snd_ms_adpcm.proofs.microsoft_writer.encode_samples.Given as goal

abbrev pub invariant-loop-n : goal.invariant-loop-n
invariant-loop-n l = record {
  so_far : l.into.items ++ bytes_high_half_first (ms_codes l.state.newer_by l.state.older_by l.state.newer l.state.older l.state.delta (drop (2 * l.n) l.samples))
      ≡ l.initial.into.items ++ bytes_high_half_first (ms_codes l.initial.state.newer_by l.initial.state.older_by l.initial.state.newer l.initial.state.older l.initial.state.delta l.samples);
  count : length l.into.items ≡ length l.initial.into.items + l.n;
  delta : pos 16 ≤ℤ l.state.delta;
}
