use Rattle.std.proofs.Common.{arith}
use Rattle.std.proofs.lemmas.Int.{to_z-of_z, ints}
use Rattle.snd_ms_adpcm.specs.Microsoft.{ms_delta}
use Rattle.snd_ms_adpcm.proofs.microsoft.held_delta.Goals as goal

pub floor_256-requires-clause-low : goal.floor_256-requires-clause-low
floor_256-requires-clause-low c = omega (arith, ints)

pub floor_256-requires-clause-high : goal.floor_256-requires-clause-high
floor_256-requires-clause-high c = omega (arith, ints)

pub returns-clause-value : goal.returns-clause-value
unfolding ms_delta
returns-clause-value c = grind (arith, to_z-of_z)
