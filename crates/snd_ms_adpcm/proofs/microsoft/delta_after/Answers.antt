use Rattle.std.proofs.Common.{arith}
use Rattle.std.proofs.lemmas.Int.{ints}
use Rattle.snd_ms_adpcm.proofs.microsoft.delta_after.Goals as goal

pub floor_256-moved-requires-clause-low : goal.floor_256-moved-requires-clause-low
floor_256-moved-requires-clause-low c = omega (arith, ints)

pub floor_256-moved-requires-clause-high : goal.floor_256-moved-requires-clause-high
floor_256-moved-requires-clause-high c = omega (arith, ints)
