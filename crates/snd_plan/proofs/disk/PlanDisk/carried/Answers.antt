use Rattle.std.proofs.Common.{sym, ◌∙◌}
use Rattle.snd_plan.specs.Operations.{operation_of}
use Rattle.snd_plan.specs.Plans.{operations, steps_left}
use Rattle.snd_plan.proofs.Carried.{held_one, rest_shorten, rest_sized}
use Rattle.snd_plan.proofs.Noted.{first_taken}
use Rattle.snd_plan.proofs.disk.PlanDisk.carried.Goals as goal

pub invariant_of-self : goal.invariant_of-self
invariant_of-self c =
    let first = first_taken c.args.self.now.plan.tape.items (steps_left c.args.self.now.plan) c.in-Some.step (sym c.first.ensures.first ∙ c.in-Some.is) in
    let new = c.held_after-self.ensures.length c.args.self.now.plan.tape.items c.in-Some.ensures.taped in
    record {
      fits = c.args.self.now.fits;
      stands = c.held_after-self.ensures.fits;
      sized = rest_sized (operations c.args.self.now.plan) (operations c.advance.new.self) (operation_of c.args.self.now.plan.tape.items c.in-Some.step) c.args.self.now.held c.held_after-self.result c.args.self.now.size c.advance.ensures first new c.args.self.now.sized;
      shortens = rest_shorten (operations c.args.self.now.plan) (operations c.advance.new.self) (operation_of c.args.self.now.plan.tape.items c.in-Some.step) c.args.self.now.held c.held_after-self.result c.args.self.now.size c.advance.ensures first new c.args.self.now.shortens;
    }

pub returns-clause-file : goal.returns-clause-file
returns-clause-file c =
    let first = first_taken c.args.self.now.plan.tape.items (steps_left c.args.self.now.plan) c.in-Some.step (sym c.first.ensures.first ∙ c.in-Some.is) in
    let new = c.held_after-self.ensures.length c.args.self.now.plan.tape.items c.in-Some.ensures.taped in
    c.forget-2.ensures.plan.file
    ∙ held_one (operations c.args.self.now.plan) (operations c.advance.new.self) (operation_of c.args.self.now.plan.tape.items c.in-Some.step) c.args.self.now.held c.held_after-self.result c.args.self.now.size c.advance.ensures first new
