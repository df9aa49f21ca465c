use Rattle.std.proofs.Common.{ap, refl, ◌∙◌, arith}
use Rattle.snd_plan.specs.Operations.{Operation}
use Rattle.snd_plan.specs.Plans.{operations}
use Rattle.snd_plan.specs.Windows.{parts}
use Rattle.snd_plan.specs.declared.disk.PlanDisk.{PlanDisk}
use Rattle.snd_plan.proofs.Carried.{longer_plan, on_err, shorter_plan}
use Rattle.snd_plan.proofs.disk.PlanDiskDisk.write_at.Goals as goal

pub invariant_of-self : goal.invariant_of-self
invariant_of-self c = record {
  fits = omega (arith, c.max-self.ensures, c.requires, c.args.self.now.fits);
  stands = c.args.self.now.stands;
  sized = longer_plan (operations c.args.self.now.plan) (operations c.write.new.self) (Operation.write c.args.at c.args.from.now) c.args.self.now.held c.args.self.now.size c.max-self.result c.in-Ok.ensures.noted c.args.self.now.sized c.max-self.ensures;
  shortens = shorter_plan (operations c.args.self.now.plan) (operations c.write.new.self) (Operation.write c.args.at c.args.from.now) c.args.self.now.held c.args.self.now.size c.in-Ok.ensures.noted c.args.self.now.sized c.args.self.now.shortens refl;
}

pub returns-in-Err-clause-unnoted : goal.returns-in-Err-clause-unnoted
returns-in-Err-clause-unnoted c = on_err c.fail.result _ (record {
  plan = record {
    plan = ap (λ (d : PlanDisk). operations d.plan) c.fail.ensures.state ∙ c.in-Err.ensures.same;
    file = ap (λ (d : PlanDisk). d.held) c.fail.ensures.state;
  };
  read = record {
    read = ap (λ (d : PlanDisk). parts d.windows) c.fail.ensures.state;
    want = ap (λ (d : PlanDisk). d.wanted) c.fail.ensures.state;
  };
})
