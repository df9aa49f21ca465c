use Rattle.std.proofs.Common.{◌++◌, get_or, option_map, Bor, sym, ap, ◌∙◌, arith}
use Rattle.snd_meta.specs.declared.text.Text.{Text}
use Rattle.snd_meta.specs.declared.info.InfoKey.TheVariants.{Title}
use Rattle.snd_meta.specs.Info.{table, item_bytes, info_body}
use Rattle.snd_meta.proofs.Bodies.{body_start, body_more, body_same, body_end}
use Rattle.snd_meta.proofs.Keys.{held_info}
use Rattle.snd_meta.proofs.RoundTrip.{info_again}
use Rattle.snd_meta.proofs.info.InfoList.body.Goals as goal
use Rattle.snd_meta.proofs.info.InfoList.body.Goals.{in-Some+in_ok-push_item, in_default}

pub loop-key-init : goal.loop-key-init
loop-key-init c = body_start c.args.self.now c.in_ok-body.body.items (held_info c.self.inside.texts c.args.self.now c.self.view_is).in_order c.in_ok-body.ensures.items

pub loop-key-preserved : goal.loop-key-preserved
loop-key-preserved c = elim c.match-held.branch [
  | in-Some+in_ok-push_item w ↦
      body_more table c.loop-key.key-index Title c.args.self.now w.in-Some.text.now.bytes.items c.loop-key.body.items c.match-held.body.items (omega arith)
      w.in-Some.ensures.value (ap (λ v. v.items) w.body-is ∙ w.in_ok-push_item.ensures
      ∙ ap (λ t. c.loop-key.body.items ++ item_bytes (record { key = get_or table c.loop-key.key-index Title; text = t })) w.as_slice.ensures.value)
      ∙ c.loop-key.invariant
  | in_default w ↦
      body_same table c.loop-key.key-index Title c.args.self.now c.loop-key.body.items c.match-held.body.items (omega arith)
      (ap (option_map (λ (text : Bor Text). text.now.bytes.items)) (sym w.in_default.is) ∙ c.held.ensures.value) (ap (λ v. v.items) w.body-is)
      ∙ c.loop-key.invariant
]

pub returns-clause-written : goal.returns-clause-written
returns-clause-written c = body_end table c.loop-key.key-index c.args.self.now c.loop-key.body.items (info_body c.args.self.now) (omega arith) c.loop-key.invariant

pub returns-clause-again : goal.returns-clause-again
returns-clause-again c = info_again c.args.self.now (held_info c.self.inside.texts c.args.self.now c.self.view_is)
