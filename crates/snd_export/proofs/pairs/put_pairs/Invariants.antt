use Rattle.snd_export.proofs.Codes.{ArePut}
use Rattle.snd_export.proofs.pairs.put_pairs.Given as goal

abbrev pub invariant-loop-i : goal.invariant-loop-i
invariant-loop-i l = ArePut l.fn.writer l.writer l.numbers l.into l.i
