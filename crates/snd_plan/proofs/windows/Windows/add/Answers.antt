use Rattle.std.proofs.Common.{◌≡◌, ◌++◌, ◌∷◌, [], length, refl, rules}
use Rattle.snd_plan.specs.declared.windows.Window.{Window}
use Rattle.snd_plan.proofs.Carried.{on_err}
use Rattle.snd_plan.proofs.Noted.{no_part_added, part_added}
use Rattle.snd_plan.proofs.windows.Windows.add.Goals as goal

pub returns-in_err-push-clause-same : goal.returns-in_err-push-clause-same
returns-in_err-push-clause-same c =
    let longer : c.extend_from_slice.new.self.items ≡ c.args.self.now.bytes.items ++ c.args.bytes.now = search rules in
    let same : c.push.new.self.items ≡ c.args.self.now.list.items = search rules in
    on_err c.from_residual-in_err-push.result _
    (no_part_added c.args.self.now.bytes.items c.extend_from_slice.new.self.items c.args.bytes.now c.args.self.now.list.items c.push.new.self.items c.args.self.now.taped longer same)

pub returns-clause-added : goal.returns-clause-added
returns-clause-added c =
    let longer : c.extend_from_slice.new.self.items ≡ c.args.self.now.bytes.items ++ c.args.bytes.now = search rules in
    let from : c.len-from.result ≡ length c.args.self.now.bytes.items = search rules in
    let w : Window = record { at = c.args.at; from = c.len-from.result; len = length c.args.bytes.now } in
    let more : c.push.new.self.items ≡ c.args.self.now.list.items ++ w ∷ [] = search rules in
    part_added c.args.self.now.bytes.items c.extend_from_slice.new.self.items c.args.bytes.now c.args.self.now.list.items c.push.new.self.items c.args.self.now.taped longer w from refl more
