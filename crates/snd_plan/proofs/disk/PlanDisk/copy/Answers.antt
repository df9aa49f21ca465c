use Rattle.std.proofs.Common.{List, ap, map, subst, ◌∙◌}
use Rattle.snd_disk.specs.Runs.{HasAt}
use Rattle.snd_plan.specs.Operations.{Operation, all_carried_out, operation_of}
use Rattle.snd_plan.proofs.disk.PlanDisk.copy.Goals as goal

pub returns-then-read-clause-bytes : goal.returns-then-read-clause-bytes
returns-then-read-clause-bytes c = λ yes b file.
    let read = c.read_file-read.ensures.bytes yes b file.size file.has in
    subst (λ (l : List Operation). HasAt (all_carried_out l b) c.args.at c.patch.new.into)
    (ap (λ t. map (operation_of t) c.steps.result.now) c.tape.ensures ∙ ap (map (operation_of c.args.self.now.plan.tape.items)) c.steps.ensures)
    (c.patch.ensures b read)
