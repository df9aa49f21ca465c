use Rattle.std.proofs.Common.{◌≡◌, length}
use Rattle.snd_ima_adpcm.proofs.number.make_room.Given as goal

abbrev pub invariant-loop : goal.invariant-loop
invariant-loop l = length l.into.items ≡ l.counter
