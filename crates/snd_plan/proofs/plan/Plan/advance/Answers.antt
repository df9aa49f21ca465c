use Rattle.snd_plan.proofs.Noted.{one_fewer}
use Rattle.snd_plan.proofs.plan.Plan.advance.Goals as goal

pub returns-then-self-len : goal.returns-then-self-len
returns-then-self-len c = one_fewer c.args.self.now.tape.items c.args.self.now.steps.items c.args.self.now.next
