use Rattle.std.proofs.Common.{◌∙◌, map, ap, rules, arith}
use Rattle.std.proofs.lemmas.List.{length-set, with_items_is}
use Rattle.snd_meters.proofs.Each.{each_more, rest_more, all_changed}
use Rattle.snd_meters.proofs.meters.Meters.feed.Goals as goal

pub loop-slot-preserved : goal.loop-slot-preserved
loop-slot-preserved g c =
    let items = c.loop-slot.slot-items in
    let old = c.args.self.now.slots.items in
    let same = c.loop-slot.invariant.same_length in
    let rest = c.loop-slot.invariant.rest in
    record {
      so_far = each_more items old c.loop-slot.slot-index c.slot-item.result c.feed.new.self (omega arith) same c.slot-item.is rest _ _ c.loop-slot.invariant.so_far (search rules);
      rest = rest_more items old c.loop-slot.slot-index c.slot-item.result c.feed.new.self (omega arith) same c.slot-item.is rest;
      same_length = length-set items c.loop-slot.slot-index c.feed.new.self ∙ same;
    }

pub returns : goal.returns
returns g c =
    let items = c.loop-slot.slot-items in
    let old = c.args.self.now.slots in
    let same = c.loop-slot.invariant.same_length in
    ap (map _) (with_items_is old items (omega (arith, same, old.ok.0)))
    ∙ all_changed _ _ items old.items c.loop-slot.slot-index (omega (arith, c.loop-slot-test.false)) same c.loop-slot.invariant.so_far
