use Rattle.std.proofs.Common.{arith, subst, List, map}
use Rattle.std.proofs.lemmas.List.{take_all}
use Rattle.snd_disk.specs.Runs.{HasAt}
use Rattle.snd_plan.specs.Operations.{all_carried_out, operation_of}
use Rattle.snd_plan.specs.declared.planned.Planned.{Planned}
use Rattle.snd_plan.proofs.Carried.{carried_more}
use Rattle.snd_plan.proofs.patch.patch.Goals as goal

pub loop-step-preserved : goal.loop-step-preserved
loop-step-preserved c = λ b has.
    carried_more c.args.tape.now c.args.steps.now c.loop-step.step-index _ b c.patch_one.new.into c.args.at (omega arith) (c.patch_one.ensures _ (c.loop-step.invariant b has))

pub returns : goal.returns
returns c = λ b has.
    subst (λ (l : List Planned). HasAt (all_carried_out (map (operation_of c.args.tape.now) l) b) c.args.at c.loop-step.into)
    (take_all c.loop-step.step-index c.args.steps.now (omega arith)) (c.loop-step.invariant b has)
