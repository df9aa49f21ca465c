use Rattle.std.proofs.Common.{◌∙◌, Ok, map, ap, sym, rules}
use Rattle.snd_meters.proofs.Firsts.{is_on_meter, stop_missing, stopped_missing, stop_found, stopped_found}
use Rattle.snd_meters.proofs.meters.Meters.stop.Goals as goal

pub returns-in_default-clause-answer : goal.returns-in_default-clause-answer
returns-in_default-clause-answer g c = sym (stop_missing _ c.args.kind c.args.self.now.slots.items c.in_default.ensures)

pub returns-in_default-clause-after : goal.returns-in_default-clause-after
returns-in_default-clause-after g c = sym (stopped_missing _ c.args.kind c.args.self.now.slots.items c.in_default.ensures)

pub returns-clause-answer : goal.returns-clause-answer
returns-clause-answer g c =
    let slot = c.remove-slot.result in
    let meter = (goal.Tap-dyn g (slot.tap.vtable, slot.tap.value)).meter slot.tap.value in
    ap Ok c.report.ensures
    ∙ sym (stop_found _ c.args.kind c.args.self.now.slots.items c.in-Some.at slot meter c.in-Some.ensures (search rules) (is_on_meter c.args.kind slot.is_on meter))

pub returns-clause-after : goal.returns-clause-after
returns-clause-after g c =
    ap (map _) c.remove-slot.ensures.items ∙ sym (stopped_found _ c.args.kind c.args.self.now.slots.items c.in-Some.at c.in-Some.ensures)
