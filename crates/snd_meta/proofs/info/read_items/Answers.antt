use Rattle.std.proofs.Common.{ap, ◌∙◌, sym, arith, option_map, length}
use Rattle.snd_meta.specs.Info.{completed, items_of}
use Rattle.snd_meta.proofs.Completing.{completed-step, completed-end, completed-cut}
use Rattle.snd_meta.proofs.Items.{item_text, item_short, after_item-shorter}
use Rattle.snd_meta.proofs.Keys.{empty_info}
use Rattle.snd_meta.proofs.info.read_items.Goals as goal

pub loop-rest-init : goal.loop-rest-init
loop-rest-init c = record {
  same = ap (λ es. option_map (completed es) (items_of c.args.items.now)) c.new-list.ensures;
  info = empty_info c.new-list.result c.new-list.ensures;
  short = c.requires;
}

pub returns-in_default-clause-bad : goal.returns-in_default-clause-bad
returns-in_default-clause-bad c =
    λ _. completed-cut c.loop-rest.list c.loop-rest.rest.now c.args.items.now (omega arith) c.in_default.ensures.cut c.loop-rest.invariant.same

pub complete-requires-clause-no_zero : goal.complete-requires-clause-no_zero
complete-requires-clause-no_zero c = item_text _ _ _ _ c.in-Some.ensures.item

pub complete-requires-clause-short : goal.complete-requires-clause-short
complete-requires-clause-short c = omega (arith, item_short _ _ _ _ c.in-Some.ensures.item)

pub loop-rest-preserved : goal.loop-rest-preserved
loop-rest-preserved c = record {
  same = completed-step c.loop-rest.list c.complete.new.self c.loop-rest.rest.now c.in-Some.item.id.now c.in-Some.item.text.now c.in-Some.later.now (omega arith)
      c.in-Some.ensures.item c.in_ok-complete.ensures.kept
      ∙ c.loop-rest.invariant.same;
  info = c.in_ok-complete.ensures.info;
  short = omega (arith, ap length c.in-Some.ensures.item.rest, after_item-shorter c.loop-rest.rest.now);
}

pub loop-rest-smaller : goal.loop-rest-smaller
loop-rest-smaller c = omega (arith, ap length c.in-Some.ensures.item.rest, after_item-shorter c.loop-rest.rest.now)

pub returns-clause-read : goal.returns-clause-read
returns-clause-read c = sym c.loop-rest.invariant.same ∙ completed-end c.loop-rest.list c.loop-rest.rest.now c.loop-rest.invariant.info.in_order c.loop-rest-test.false
