use Rattle.std.proofs.Common.{ap, ◌∙◌}
use Rattle.snd_plan.specs.Plans.{operations}
use Rattle.snd_plan.specs.Windows.{parts}
use Rattle.snd_plan.specs.declared.disk.PlanDisk.{PlanDisk}
use Rattle.snd_plan.proofs.Carried.{on_err, sync_shortens, sync_sized}
use Rattle.snd_plan.proofs.disk.PlanDiskDisk.sync.Goals as goal

pub invariant_of-self : goal.invariant_of-self
invariant_of-self c = record {
  fits = c.args.self.now.fits;
  stands = c.args.self.now.stands;
  sized = sync_sized c.sync.result (operations c.args.self.now.plan) (operations c.sync.new.self) c.args.self.now.held c.sync.ensures.noted c.sync.ensures.same ∙ c.args.self.now.sized;
  shortens = sync_shortens c.sync.result (operations c.args.self.now.plan) (operations c.sync.new.self) c.args.self.now.held c.sync.ensures.noted c.sync.ensures.same c.args.self.now.shortens;
}

pub returns-in-Err-clause-unnoted : goal.returns-in-Err-clause-unnoted
returns-in-Err-clause-unnoted c = on_err c.fail.result _ (record {
  plan = record {
    plan = ap (λ (d : PlanDisk). operations d.plan) c.fail.ensures.state ∙ c.in-Err.ensures.same;
    file = ap (λ (d : PlanDisk). d.held) c.fail.ensures.state;
  };
  read = record {
    read = ap (λ (d : PlanDisk). parts d.windows) c.fail.ensures.state;
    want = ap (λ (d : PlanDisk). d.wanted) c.fail.ensures.state;
  };
})
