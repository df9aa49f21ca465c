use Rattle.std.proofs.Common.{take}
use Rattle.snd_carry.specs.Carried.{carried_pieces}
use Rattle.snd_carry.proofs.Taken.{IsSized}
use Rattle.snd_carry.proofs.choice.carried_size.Given as goal

abbrev pub invariant-loop-piece : goal.invariant-loop-piece
invariant-loop-piece l = IsSized (carried_pieces (take l.piece-index l.piece-items)) l.count l.size
