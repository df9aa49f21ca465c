use Rattle.std.proofs.Common.{inl, inr, ℕ, List, [], ◌∷◌, refl, ap, sym, ◌∙◌, arith}
use Rattle.snd_disk.specs.State.{State}
use Rattle.snd_plan.specs.Operations.{operation_of}
use Rattle.snd_plan.specs.Disks.{held_length, plan_state, planned, tape_of}
use Rattle.snd_plan.proofs.Carried.{first_shortens, size_one, size_none}
use Rattle.snd_plan.proofs.Noted.{first_planned, none_planned}
use Rattle.snd_plan.proofs.Way.{all_done, all_left, broken_on_the_way, nothing_reached, on_the_way, one_reached, some_left}
use Rattle.snd_plan.proofs.carry.carry_out.Goals as goal

pub loop-step-init : goal.loop-step-init
loop-step-init g c = record {
  size = c.requires;
  reached = nothing_reached (planned c.args.plan.now) (g.D.Disk.state c.args.onto.now).contents (g.D.Disk.may_leave c.args.onto.now);
  moments = λ b told t x left. (0, g.met.D.Disk.only_now c.args.onto.now (g.D.Disk.state c.args.onto.now).clock t x (omega arith) left);
  faults = refl;
  same = refl;
}

pub carry_one-requires-clause-shortens : goal.carry_one-requires-clause-shortens
carry_one-requires-clause-shortens g c =
    let plan = c.loop-step.plan in
    let first = first_planned (tape_of plan) (planned plan) c.first.result c.first.ensures.first c.in-Some.step c.in-Some.is in
    first_shortens (planned plan) (operation_of c.tape.result.now c.in-Some.step) (held_length plan) (g.D.Disk.state c.loop-step.onto).size
    (first ∙ ap (λ (t : List ℕ). operation_of t c.in-Some.step ∷ []) (sym c.tape.ensures)) plan.shortens c.loop-step.invariant.size

pub loop-step-preserved : goal.loop-step-preserved
loop-step-preserved g c =
    let state = g.D.Disk.state in
    let left = g.D.Disk.may_leave in
    let plan = c.loop-step.plan in
    let onto = c.loop-step.onto in
    let next = c.carry_one.new.onto in
    let start = c.args.onto.now in
    let all = planned c.args.plan.now in
    let o = operation_of c.tape.result.now c.in-Some.step in
    let first = first_planned (tape_of plan) (planned plan) c.first.result c.first.ensures.first c.in-Some.step c.in-Some.is ∙ ap (λ (t : List ℕ). operation_of t c.in-Some.step ∷ []) (sym c.tape.ensures) in
    let reached = one_reached all (planned plan) (state start).contents (state onto).contents (left start) (left onto)
    (planned c.carried.new.self) (state next).contents (left next) o c.loop-step.invariant.reached first c.carried.ensures.plan c.in-Ok.ensures.done c.in-Ok.ensures.images in
    record {
      size = size_one (planned plan) o (state next).size (state onto).size (held_length plan) (held_length c.carried.new.self) first c.in-Ok.ensures.size c.loop-step.invariant.size c.carried.ensures.file;
      reached = reached;
      moments = λ b told t x stood. elim (c.in-Ok.ensures.time.nothing_else (state start).clock t x stood) [
        | inl before ↦ c.loop-step.invariant.moments b told t x before
        | inr now ↦ on_the_way all (planned c.carried.new.self) (state start).contents (state next).contents (left start) (left next) reached b told x now
      ];
      faults = c.in-Ok.ensures.faults.ok ∙ c.loop-step.invariant.faults;
      same = c.carried.ensures.state ∙ c.loop-step.invariant.same;
    }

pub returns-in_default-carry_one-clause-moments : goal.returns-in_default-carry_one-clause-moments
returns-in_default-carry_one-clause-moments g c =
    let state = g.D.Disk.state in
    let left = g.D.Disk.may_leave in
    let plan = c.loop-step.plan in
    let onto = c.loop-step.onto in
    let next = c.carry_one.new.onto in
    let start = c.args.onto.now in
    let all = planned c.args.plan.now in
    let o = operation_of c.tape.result.now c.in-Some.step in
    let first = first_planned (tape_of plan) (planned plan) c.first.result c.first.ensures.first c.in-Some.step c.in-Some.is ∙ ap (λ (t : List ℕ). operation_of t c.in-Some.step ∷ []) (sym c.tape.ensures) in
    λ b told t x stood. elim (c.carry_one.ensures.time.nothing_else (state start).clock t x stood) [
      | inl before ↦ c.loop-step.invariant.moments b told t x before
      | inr now ↦ broken_on_the_way all (planned plan) (state start).contents (state onto).contents (left start) (left onto) (left next) o
          c.loop-step.invariant.reached first c.in_default-carry_one.ensures.broken b told x now
    ]

pub returns-clause-done : goal.returns-clause-done
returns-clause-done g c =
    let none = none_planned (tape_of c.loop-step.plan) (planned c.loop-step.plan) c.first.result c.first.ensures.first c.in_default.is in
    all_done (planned c.args.plan.now) (planned c.loop-step.plan) _ _ (g.D.Disk.may_leave c.args.onto.now) (g.D.Disk.may_leave c.loop-step.onto) c.loop-step.invariant.reached none

pub returns-clause-images : goal.returns-clause-images
returns-clause-images g c =
    let none = none_planned (tape_of c.loop-step.plan) (planned c.loop-step.plan) c.first.result c.first.ensures.first c.in_default.is in
    all_left (planned c.args.plan.now) (planned c.loop-step.plan) (g.D.Disk.state c.args.onto.now).contents (g.D.Disk.state c.loop-step.onto).contents (g.D.Disk.may_leave c.args.onto.now) (g.D.Disk.may_leave c.loop-step.onto) c.loop-step.invariant.reached none

pub returns-clause-none_left : goal.returns-clause-none_left
returns-clause-none_left g c = none_planned (tape_of c.loop-step.plan) (planned c.loop-step.plan) c.first.result c.first.ensures.first c.in_default.is

pub returns-clause-file : goal.returns-clause-file
returns-clause-file g c =
    let none = none_planned (tape_of c.loop-step.plan) (planned c.loop-step.plan) c.first.result c.first.ensures.first c.in_default.is in
    size_none (planned c.loop-step.plan) (held_length c.loop-step.plan) (plan_state c.loop-step.plan).size none c.loop-step.plan.sized
    ∙ ap (λ (s : State). s.size) c.loop-step.invariant.same

pub returns-clause-size : goal.returns-clause-size
returns-clause-size g c =
    let none = none_planned (tape_of c.loop-step.plan) (planned c.loop-step.plan) c.first.result c.first.ensures.first c.in_default.is in
    c.loop-step.invariant.size ∙ size_none (planned c.loop-step.plan) (held_length c.loop-step.plan) (plan_state c.loop-step.plan).size none c.loop-step.plan.sized
    ∙ ap (λ (s : State). s.size) c.loop-step.invariant.same

pub returns-in_default-carry_one-clause-stops : goal.returns-in_default-carry_one-clause-stops
returns-in_default-carry_one-clause-stops g c =
    let plan = c.loop-step.plan in
    some_left (planned c.args.plan.now) (planned plan) (g.D.Disk.state c.args.onto.now).contents (g.D.Disk.state c.loop-step.onto).contents
    (g.D.Disk.may_leave c.args.onto.now) (g.D.Disk.may_leave c.loop-step.onto) (operation_of (tape_of plan) c.in-Some.step) c.loop-step.invariant.reached
    (first_planned (tape_of plan) (planned plan) c.first.result c.first.ensures.first c.in-Some.step c.in-Some.is)
