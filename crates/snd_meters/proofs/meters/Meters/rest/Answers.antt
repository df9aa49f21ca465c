use Rattle.std.proofs.Common.{◌∙◌, map, ap, rules, arith}
use Rattle.std.proofs.lemmas.List.{length-set, with_items_is}
use Rattle.snd_meters.proofs.Each.{each_more, rest_more, all_changed}
use Rattle.snd_meters.proofs.meters.Meters.rest.Goals as goal

pub loop-each-preserved : goal.loop-each-preserved
loop-each-preserved g c =
    let items = c.loop-each.each-items in
    let old = c.args.self.now.slots.items in
    let same = c.loop-each.invariant.same_length in
    let rest = c.loop-each.invariant.rest in
    record {
      so_far = each_more items old c.loop-each.each-index c.each-item.result c.rest.new.self (omega arith) same c.each-item.is rest _ _ c.loop-each.invariant.so_far (search rules);
      rest = rest_more items old c.loop-each.each-index c.each-item.result c.rest.new.self (omega arith) same c.each-item.is rest;
      same_length = length-set items c.loop-each.each-index c.rest.new.self ∙ same;
    }

pub returns : goal.returns
returns g c =
    let items = c.loop-each.each-items in
    let old = c.args.self.now.slots in
    let same = c.loop-each.invariant.same_length in
    ap (map _) (with_items_is old items (omega (arith, same, old.ok.0)))
    ∙ all_changed _ _ items old.items c.loop-each.each-index (omega (arith, c.loop-each-test.false)) same c.loop-each.invariant.so_far
