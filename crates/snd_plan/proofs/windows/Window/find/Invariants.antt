use Rattle.std.proofs.Common.{◌≡◌, drop}
use Rattle.std.specs.List.{list_any}
use Rattle.snd_plan.specs.Windows.{holds}
use Rattle.snd_plan.proofs.windows.Window.find.Given as goal

abbrev pub invariant-loop-w : goal.invariant-loop-w
invariant-loop-w l = list_any (holds l.at l.count) (drop l.w-index l.list) ≡ list_any (holds l.at l.count) l.list
