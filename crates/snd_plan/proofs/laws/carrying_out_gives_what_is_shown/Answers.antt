use Rattle.std.proofs.Common.{ap, ◌∙◌, List}
use Rattle.std.specs.Prelude.{take}
use Rattle.snd_plan.specs.Operations.{Operation, all_carried_out}
use Rattle.snd_plan.specs.Plans.{operations}
use Rattle.snd_plan.proofs.Carried.{carried_out-append, carried_out-rest, length-carried_out}
use Rattle.snd_plan.proofs.laws.carrying_out_gives_what_is_shown.Goals as goal

pub returns-clause-size : goal.returns-clause-size
returns-clause-size c = λ d b file. length-carried_out (operations d.plan) b d.held file.size ∙ d.sized

pub returns-clause-parts : goal.returns-clause-parts
returns-clause-parts c = carried_out-append

pub returns-clause-one_by_one : goal.returns-clause-one_by_one
returns-clause-one_by_one c = λ old new b rest.
    ap (λ (l : List Operation). all_carried_out l (all_carried_out (take 1 (operations old.plan)) b)) rest ∙ carried_out-rest (operations old.plan) b
