use Rattle.std.proofs.Common.{◌∙◌}
use Rattle.snd_inputs.proofs.Public.{reads_then}
use Rattle.snd_concat.proofs.make.see_apart.Goals as goal

pub returns-in_err-see-clause-reads : goal.returns-in_err-see-clause-reads
returns-in_err-see-clause-reads g c = reads_then g.S.Shelf _ _ _ c.loop-at.invariant.reads c.see.ensures.reads

pub loop-at-preserved : goal.loop-at-preserved
loop-at-preserved g c = record {
  calm = c.in_ok-see.ensures.faults ∙ c.loop-at.invariant.calm;
  reads = reads_then g.S.Shelf _ _ _ c.loop-at.invariant.reads c.see.ensures.reads;
  unasked = c.see.ensures.unasked ∙ c.loop-at.invariant.unasked;
}
