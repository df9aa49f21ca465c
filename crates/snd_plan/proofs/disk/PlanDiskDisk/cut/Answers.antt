use Rattle.std.proofs.Common.{◌≡◌, true, min, ap, ◌∙◌, arith, rules}
use Rattle.std.specs.Prelude.{nat_le}
use Rattle.snd_plan.specs.Operations.{Operation}
use Rattle.snd_plan.specs.Plans.{operations}
use Rattle.snd_plan.specs.Windows.{parts}
use Rattle.snd_plan.specs.declared.disk.PlanDisk.{PlanDisk}
use Rattle.snd_plan.proofs.Carried.{longer_plan, on_err, shorter_plan}
use Rattle.snd_plan.proofs.disk.PlanDiskDisk.cut.Goals as goal

pub invariant_of-self : goal.invariant_of-self
invariant_of-self c =
    let new : c.args.len ≡ min c.args.len c.args.self.now.size = omega (arith, c.requires) in
    let one : nat_le c.args.len c.args.self.now.size ≡ true = search rules in
    record {
      fits = omega (arith, c.requires, c.args.self.now.fits);
      stands = c.args.self.now.stands;
      sized = longer_plan (operations c.args.self.now.plan) (operations c.cut.new.self) (Operation.cut c.args.len) c.args.self.now.held c.args.self.now.size c.args.len c.in-Ok.ensures.noted c.args.self.now.sized new;
      shortens = shorter_plan (operations c.args.self.now.plan) (operations c.cut.new.self) (Operation.cut c.args.len) c.args.self.now.held c.args.self.now.size c.in-Ok.ensures.noted c.args.self.now.sized c.args.self.now.shortens one;
    }

pub returns-in-Err-clause-unnoted : goal.returns-in-Err-clause-unnoted
returns-in-Err-clause-unnoted c = on_err c.fail.result _ (record {
  plan = record {
    plan = ap (λ (d : PlanDisk). operations d.plan) c.fail.ensures.state ∙ c.in-Err.ensures.same;
    file = ap (λ (d : PlanDisk). d.held) c.fail.ensures.state;
  };
  read = record {
    read = ap (λ (d : PlanDisk). parts d.windows) c.fail.ensures.state;
    want = ap (λ (d : PlanDisk). d.wanted) c.fail.ensures.state;
  };
})
