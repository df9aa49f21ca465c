use Rattle.std.proofs.Common.{arith, subst}
use Rattle.snd_meta.specs.Cue.{IsCues}
use Rattle.snd_meta.proofs.Points.{written_step, cues_again}
use Rattle.snd_meta.proofs.cue.CueList.body.Goals as goal

pub loop-point-preserved : goal.loop-point-preserved
loop-point-preserved c = written_step _ c.loop-point.point-index _ c.loop-point.body.items c.push_point.new.body.items _ (omega arith) c.in_ok-push_point.ensures c.loop-point.invariant

pub returns-clause-again : goal.returns-clause-again
returns-clause-again c = cues_again c.args.self.now (subst IsCues c.self.view_is c.self.invariant)
