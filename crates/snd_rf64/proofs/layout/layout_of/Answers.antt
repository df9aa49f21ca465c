use Rattle.snd_rf64.proofs.Counted.{frames_few}
use Rattle.snd_rf64.proofs.Lies.{keeps_rule}
use Rattle.snd_rf64.proofs.layout.layout_of.Goals as goal

pub invariant_of-result : goal.invariant_of-result
invariant_of-result c =
    rw c.whole_frames.ensures
    (keeps_rule c.args.params c.args.start c.args.ends.held c.args.sound _ c.args.pieces c.are_good.ensures c.requires.fits c.requires.least c.requires.held c.requires.few c.requires.sound c.requires.pieces)

pub returns-clause-short : goal.returns-clause-short
returns-clause-short c = rw c.whole_frames.ensures (frames_few c.args.params c.args.ends.held c.are_good.ensures c.requires.fits)
