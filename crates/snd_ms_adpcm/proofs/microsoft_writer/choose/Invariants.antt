use Rattle.std.proofs.Common.{◌≡◌}
use Rattle.snd_ms_adpcm.specs.Microsoft.{least_number, ms_start_error}
use Rattle.snd_ms_adpcm.proofs.microsoft_writer.choose.Given as goal

abbrev pub invariant-loop-n : goal.invariant-loop-n
invariant-loop-n l = record {
  number : l.best.number ≡ least_number (ms_start_error l.samples) l.n;
  sum : l.best.sum ≡ ms_start_error l.samples (least_number (ms_start_error l.samples) l.n);
}
