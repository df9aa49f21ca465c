use Rattle.std.proofs.Common.{[]}
use Rattle.snd_inputs.proofs.DataBytes.{none_take}
use Rattle.snd_inputs.proofs.room.bare_room.Goals as goal

pub returns : goal.returns
returns c = c.room_with.ensures [] (none_take c.args.kind)
