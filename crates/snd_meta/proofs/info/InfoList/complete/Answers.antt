use Rattle.std.proofs.Common.{sym, ◌∙◌}
use Rattle.std.proofs.lemmas.Result.{IfOk-equal}
use Rattle.snd_meta.proofs.Completing.{completed-unknown, completed-seen, completed-unseen, found_key, no_key}
use Rattle.snd_meta.proofs.Keys.{held_info}
use Rattle.snd_meta.proofs.info.InfoList.complete.Goals as goal

pub returns-in_default-clause-kept : goal.returns-in_default-clause-kept
returns-in_default-clause-kept c = sym (completed-unknown c.args.self.now (record { id = c.args.item.now.id.now; text = c.args.item.now.text.now }) (held_info c.self.inside.texts c.args.self.now c.self.view_is).in_order (no_key c.args.item.now.id.now (sym c.from_id.ensures ∙ c.in_default.is)))

pub returns-then-is_some-clause-kept : goal.returns-then-is_some-clause-kept
returns-then-is_some-clause-kept c =
    completed-seen c.args.self.now (record { id = c.args.item.now.id.now; text = c.args.item.now.text.now }) c.in-Some.key c.held.result c.held.ensures.info.in_order
    (found_key c.args.item.now.id.now c.in-Some.key (sym c.from_id.ensures ∙ c.in-Some.is)) c.held.ensures.value (sym c.if-is_some.ensures)

pub returns-clause-kept : goal.returns-clause-kept
returns-clause-kept c =
    IfOk-equal c.keep.result c.keep.new.self _ _ c.keep.ensures.kept
    (completed-unseen c.args.self.now (record { id = c.args.item.now.id.now; text = c.args.item.now.text.now }) c.in-Some.key c.held.result
    (found_key c.args.item.now.id.now c.in-Some.key (sym c.from_id.ensures ∙ c.in-Some.is)) c.held.ensures.value (sym c.if-is_some.ensures))

pub returns-in_default-clause-info : goal.returns-in_default-clause-info
returns-in_default-clause-info c = held_info c.self.inside.texts c.args.self.now c.self.view_is
