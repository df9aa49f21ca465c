use Rattle.snd_deinterleave.proofs.outputs.+make_first.Given as goal

abbrev pub decreases-make_first : goal.decreases-make_first
decreases-make_first g l = l.count
