-- A plan, as the operations that are left to be carried out.
use Rattle.std.specs.Prelude.{List, map, drop}
use Rattle.snd_plan.specs.Operations.{Operation, operation_of}
use Rattle.snd_plan.specs.declared.planned.Planned.{Planned}
use Rattle.snd_plan.specs.declared.plan.Plan.{Plan}

abbrev pub steps_left : Plan → List Planned
steps_left p = drop p.next p.steps.items

abbrev pub operations : Plan → List Operation
operations p = map (operation_of p.tape.items) (steps_left p)
