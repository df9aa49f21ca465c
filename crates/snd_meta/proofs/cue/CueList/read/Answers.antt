use Rattle.std.proofs.Common.{◌≡◌, Some, arith}
use Rattle.std.proofs.lemmas.Grind.{common_steps}
use Rattle.snd_meta.specs.Cue.{cues_of}
use Rattle.snd_meta.proofs.Points.{cues_kept}
use Rattle.snd_meta.proofs.cue.CueList.read.Goals as goal

pub returns-clause-again : goal.returns-clause-again
unfolding cues_of
returns-clause-again c =
    let read : cues_of c.args.body.now ≡ Some c.in_ok-points.points.items = grind (arith, common_steps) in
    cues_kept c.args.body.now c.in_ok-points.points.items c.in_ok-points.ensures.info read
