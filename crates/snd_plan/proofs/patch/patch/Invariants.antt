use Rattle.std.proofs.Common.{ℕ, List, take, map}
use Rattle.snd_disk.specs.Runs.{HasAt}
use Rattle.snd_plan.specs.Operations.{all_carried_out, operation_of}
use Rattle.snd_plan.proofs.patch.patch.Given as goal

abbrev pub invariant-loop-step : goal.invariant-loop-step
invariant-loop-step l = (b : List ℕ) → HasAt b l.at l.initial.into → HasAt (all_carried_out (map (operation_of l.tape) (take l.step-index l.steps)) b) l.at l.into
