use Rattle.std.proofs.Common.{◌≡◌, length}
use Rattle.snd_plan.specs.Disks.{held_length, plan_state, planned}
use Rattle.snd_plan.specs.Images.{LeavesOnTheWay}
use Rattle.snd_plan.proofs.Way.{IsReached}
use Rattle.snd_plan.proofs.carry.carry_out.Given as goal

abbrev pub invariant-loop-step : goal.invariant-loop-step
invariant-loop-step g l = record {
  size : (g.D.Disk.state l.onto).size ≡ held_length l.plan;
  reached : IsReached (planned l.initial.plan) (planned l.plan) (g.D.Disk.state l.initial.onto).contents (g.D.Disk.state l.onto).contents
      (g.D.Disk.may_leave l.initial.onto) (g.D.Disk.may_leave l.onto);
  moments : LeavesOnTheWay g.D.Disk.state g.D.Disk.may_leave g.D.Disk.left_between (planned l.initial.plan) l.initial.onto l.onto;
  faults : (g.D.Disk.state l.onto).faults ≡ (g.D.Disk.state l.initial.onto).faults;
  same : plan_state l.plan ≡ plan_state l.initial.plan;
}

abbrev pub decreases-loop-step : goal.decreases-loop-step
decreases-loop-step g l = length (planned l.plan)
