use Rattle.std.proofs.Common.{◌≡◌, ◌++◌, ◌∷◌, [], length, rules}
use Rattle.snd_plan.specs.declared.planned.Planned.TheVariants.{Write}
use Rattle.snd_plan.proofs.Carried.{on_err}
use Rattle.snd_plan.proofs.Noted.{not_noted, write_noted}
use Rattle.snd_plan.proofs.plan.Plan.write.Goals as goal

pub returns-in_err-push-clause-same : goal.returns-in_err-push-clause-same
returns-in_err-push-clause-same c =
    let longer : c.extend_from_slice.new.self.items ≡ c.args.self.now.tape.items ++ c.args.bytes.now = search rules in
    let same : c.push.new.self.items ≡ c.args.self.now.steps.items = search rules in
    on_err c.from_residual-in_err-push.result _
    (not_noted c.args.self.now.tape.items c.extend_from_slice.new.self.items c.args.bytes.now c.args.self.now.steps.items c.push.new.self.items c.args.self.now.next c.args.at c.len-from.result c.args.self.now.taped c.args.self.now.within longer same)

pub returns-clause-noted : goal.returns-clause-noted
returns-clause-noted c =
    let longer : c.extend_from_slice.new.self.items ≡ c.args.self.now.tape.items ++ c.args.bytes.now = search rules in
    let from : c.len-from.result ≡ length c.args.self.now.tape.items = search rules in
    let more : c.push.new.self.items ≡ c.args.self.now.steps.items ++ Write c.args.at c.len-from.result (length c.args.bytes.now) ∷ [] = search rules in
    write_noted c.args.self.now.tape.items c.extend_from_slice.new.self.items c.args.bytes.now c.args.self.now.steps.items c.push.new.self.items c.args.self.now.next c.args.at c.len-from.result c.args.self.now.taped c.args.self.now.within longer from more
