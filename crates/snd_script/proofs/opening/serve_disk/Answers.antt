use Rattle.std.proofs.Common.{rules, sym, ◌∙◌}
use Rattle.snd_session.specs.Handled.{mode_of}
use Rattle.snd_rules.specs.Script.{asked_by, written_by}
use Rattle.snd_script.specs.Tapped.{taps_of}
use Rattle.snd_script.proofs.NotOpened.{not_opened_on, opened_served}
use Rattle.snd_script.proofs.Uses.{uses_behind}
use Rattle.snd_script.proofs.opening.serve_disk.Goals as goal

pub returns-in-Err-clause-served : goal.returns-in-Err-clause-served
returns-in-Err-clause-served g c = λ name store b s told there are left.
    let served = not_opened_on g.D.Disk c.args.how.now c.in-Err.error c.not_opened.result store name b c.args.disk.now c.in-Err.back.now (g.R.Source.left c.args.script.now) c.args.run.now.lines c.not_opened.new.run.lines c.args.run.now.refused c.not_opened.new.run.refused (g.O.Sink.told c.args.out.now) (g.O.Sink.told c.not_opened.new.out) _ _ s _
    c.requires c.in-Err.ensures.reads told there c.in-Err.ensures.opened c.not_opened.ensures.answered c.not_opened.ensures.lines left (are ∙ sym c.not_opened.ensures.taps) in
    search (rules, served)

pub returns-in-Ok-clause-asked : goal.returns-in-Ok-clause-asked
returns-in-Ok-clause-asked g c = λ s left.
    let served = uses_behind _ asked_by _ _ _ s _ _ _ _ _ c.in-Ok.ensures.asked.later c.in-Ok.ensures.asked.most (c.serve_handle-served.ensures.asked s left) in
    search (rules, served)

pub returns-in-Ok-clause-written : goal.returns-in-Ok-clause-written
returns-in-Ok-clause-written g c = λ s left.
    let served = uses_behind _ written_by _ _ _ s _ _ _ _ _ c.in-Ok.ensures.written.later c.in-Ok.ensures.written.most (c.serve_handle-served.ensures.written s left) in
    search (rules, served)

pub returns-in-Ok-clause-served : goal.returns-in-Ok-clause-served
returns-in-Ok-clause-served g c = λ name store b s told there are left.
    let opened = c.in-Ok.ensures.opened b told in
    let served = opened_served c.serve_handle-served.result.0 _ c.args.how.now store name b s (mode_of c.in-Ok.handle) opened.0 (taps_of (λ b. (goal.Tap-dyn g b).meter b.1) c.args.run.now) _ _ _ opened.1 c.in-Ok.ensures.mode are
    (c.serve_handle-served.ensures.served name store opened.0 s opened.2 left) in
    search (rules, served)
