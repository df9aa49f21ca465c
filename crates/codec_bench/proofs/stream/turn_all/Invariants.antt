use Rattle.std.proofs.Common.{◌≤◌}
use Rattle.codec_bench.proofs.stream.turn_all.Given as goal

abbrev pub invariant-loop : goal.invariant-loop
invariant-loop g l = record { before : l.at ≤ l.count; within : l.count ≤ 131072; few : l.made ≤ 131072 }
