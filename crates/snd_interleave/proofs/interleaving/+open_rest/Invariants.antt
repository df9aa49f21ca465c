use Rattle.std.proofs.Common.{◌-◌, length}
use Rattle.snd_interleave.proofs.interleaving.+open_rest.Given as goal

abbrev pub decreases-open_rest : goal.decreases-open_rest
decreases-open_rest g l = length l.interleaving.now.inputs - length l.inputs.now.items
