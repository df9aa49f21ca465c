use Rattle.std.proofs.Common.{◌≡◌, ℕ, ◌<◌, get_or, length}
use Rattle.snd_ms_adpcm.specs.Four.{IsRow}
use Rattle.snd_ms_adpcm.specs.declared.microsoft_four.Row.{Row}
use Rattle.snd_ms_adpcm.proofs.microsoft_four.all_rows.Given as goal

abbrev pub invariant-loop-byte : goal.invariant-loop-byte
invariant-loop-byte l = record {
  long : length l.rows ≡ 256;
  rows : (b : ℕ) (row : Row) → b < l.byte → IsRow b (get_or l.rows b row);
}
