use Rattle.std.proofs.Common.{◌≡◌, [], drop, take}
use Rattle.snd_pvf.specs.Pvf.{cut_from}
use Rattle.snd_pvf.proofs.line.cut_at.Given as goal

abbrev pub invariant-loop-i : goal.invariant-loop-i
invariant-loop-i l = cut_from l.mark (take l.i l.bytes) (drop l.i l.bytes) ≡ cut_from l.mark [] l.bytes
