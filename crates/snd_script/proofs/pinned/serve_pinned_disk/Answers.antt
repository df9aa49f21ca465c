use Rattle.std.proofs.Common.{◌+◌, ℕ, List, [], Some, true, Ok, Err, Result, refl, sym, ◌∙◌, ap, rules, arith}
use Rattle.snd_disk.specs.State.{AtMost}
use Rattle.snd_layout.specs.declared.error.OpenError.{OpenError}
use Rattle.snd_edits.specs.Editing.{Editing}
use Rattle.snd_rules.specs.Edit.{Opening, open_edit_of}
use Rattle.snd_rules.specs.Pinned.{pinned_steps, pins}
use Rattle.snd_script.specs.PinnedRun.{opened_pinned}
use Rattle.snd_script.specs.Serving.{DiskStands, lines_left, moment_of}
use Rattle.snd_script.specs.Tapped.{taps_of}
use Rattle.snd_rules.specs.Script.{asked_by, most_in, written_in}
use Rattle.snd_script.specs.Used.{use_left}
use Rattle.std.proofs.lemmas.List.{append-nil}
use Rattle.snd_script.proofs.PinOpenings.{nothing_said, trail_came_back, trail_unopened}
use Rattle.snd_script.proofs.PinnedRuns.{not_pinned_on, pinned_served_as, used_then}
use Rattle.snd_script.proofs.pinned.serve_pinned_disk.Goals as goal

pub returns-in-Ok-clause-unread : goal.returns-in-Ok-clause-unread
returns-in-Ok-clause-unread g c = λ store name b told refusal.
    let opened = c.in-Ok.ensures.opened b told in
    c.serve_pinned_handle-stop.ensures.unread store name store.taps opened.0 opened.2 (sym (ap (λ (r : Result Editing OpenError). pins (open_edit_of store name Opening.for_pinning r)) opened.1) ∙ refusal)

pub returns-in-Ok-clause-asked : goal.returns-in-Ok-clause-asked
returns-in-Ok-clause-asked g c = λ s left.
    let used : AtMost (g.D.Disk.state c.args.disk.now).asked (16384 + use_left (most_in true asked_by) c.args.run.now.lines s) (g.D.Disk.state c.serve_pinned_handle-stop.result.1.now).asked =
    used_then 16384 0 16384 _ _ _ _ (omega arith) c.in-Ok.ensures.asked (c.serve_pinned_handle-stop.ensures.asked s left) in
    search (rules, used)

pub returns-in-Ok-clause-written : goal.returns-in-Ok-clause-written
returns-in-Ok-clause-written g c = λ s left.
    let used : AtMost (g.D.Disk.state c.args.disk.now).written (128 + use_left (written_in true) c.args.run.now.lines s) (g.D.Disk.state c.serve_pinned_handle-stop.result.1.now).written =
    used_then 0 128 128 _ _ _ _ (omega arith) c.in-Ok.ensures.written (c.serve_pinned_handle-stop.ensures.written s left) in
    search (rules, used)

pub returns-in-Ok-not_opened-clause-served : goal.returns-in-Ok-not_opened-clause-served
returns-in-Ok-not_opened-clause-served g c = λ name store b s told there are left.
    let served =
    not_pinned_on g.D.Disk store name b c.args.disk.now c.in-Err.back.now told c.in-Err.ensures.reads there _ (are ∙ sym c.not_opened.ensures.taps) c.in-Err.error (Ok c.in-Ok-not_opened.field-0)
    (g.R.Source.left c.args.script.now) c.args.run.now.lines c.not_opened.new.run.lines c.args.run.now.refused c.not_opened.new.run.refused (g.O.Sink.told c.args.out.now) (g.O.Sink.told c.not_opened.new.out) _ _ s
    c.in-Err.ensures.opened c.in-Ok-not_opened.ensures.answered in
    search (rules, served)

pub returns-in-Err-not_opened-clause-served : goal.returns-in-Err-not_opened-clause-served
returns-in-Err-not_opened-clause-served g c = λ name store b s told there are left.
    let served =
    not_pinned_on g.D.Disk store name b c.args.disk.now c.in-Err.back.now told c.in-Err.ensures.reads there _ (are ∙ sym c.not_opened.ensures.taps) c.in-Err.error (Err c.in-Err-not_opened.stop)
    (g.R.Source.left c.args.script.now) c.args.run.now.lines c.not_opened.new.run.lines c.args.run.now.refused c.not_opened.new.run.refused (g.O.Sink.told c.args.out.now) (g.O.Sink.told c.not_opened.new.out) _ _ s
    c.in-Err.ensures.opened c.in-Err-not_opened.ensures.answered in
    search (rules, served)

pub returns-in-Ok-clause-trail : goal.returns-in-Ok-clause-trail
returns-in-Ok-clause-trail g c = λ store name b e s t told stable is fit left said.
    let run = c.serve_pinned_handle-stop.ensures.trail store name e s t (c.in-Ok.ensures.rests b e told stable is fit) left said in
    (run.0, run.1, trail_came_back g.D.Disk _ _ _ c.serve_pinned_handle-stop.result.1.now _ c.in-Ok.ensures.reads.images.same_time (search rules) run.2)

pub returns-in-Ok-not_opened-clause-trail : goal.returns-in-Ok-not_opened-clause-trail
returns-in-Ok-not_opened-clause-trail g c = λ store name b e s t told stable is fit left said.
    let same = nothing_said g.D.Disk c.args.disk.now b e c.in-Err.error _ _ _ _ _ _ _ told is c.in-Err.ensures.opened c.in-Ok-not_opened.ensures.answered in (
      [],
      same ∙ said ∙ ap (λ (l : List ℕ). Some l) (sym (append-nil t)),
      trail_came_back g.D.Disk _ _ _ c.in-Err.back.now _ refl (search rules) (trail_unopened g.D.Disk g.met.D.Disk.only_now c.args.disk.now c.in-Err.back.now b e told stable is fit c.in-Err.ensures.reads
          (pinned_steps (opened_pinned store name _ e) (lines_left (moment_of g.R.Source.left g.O.Sink.told c.args.run.now c.args.script.now c.args.out.now) s))),
    )

pub returns-in-Err-not_opened-clause-trail : goal.returns-in-Err-not_opened-clause-trail
returns-in-Err-not_opened-clause-trail g c = λ store name b e s t told stable is fit left said.
    let same = nothing_said g.D.Disk c.args.disk.now b e c.in-Err.error _ _ _ _ _ _ _ told is c.in-Err.ensures.opened c.in-Err-not_opened.ensures.answered in (
      [],
      same ∙ said ∙ ap (λ (l : List ℕ). Some l) (sym (append-nil t)),
      trail_came_back g.D.Disk _ _ _ c.in-Err.back.now _ refl (search rules) (trail_unopened g.D.Disk g.met.D.Disk.only_now c.args.disk.now c.in-Err.back.now b e told stable is fit c.in-Err.ensures.reads
          (pinned_steps (opened_pinned store name _ e) (lines_left (moment_of g.R.Source.left g.O.Sink.told c.args.run.now c.args.script.now c.args.out.now) s))),
    )

pub returns-in-Ok-clause-served : goal.returns-in-Ok-clause-served
returns-in-Ok-clause-served g c = λ name store b s told there are left.
    let opened = c.in-Ok.ensures.opened b told in
    let taps = taps_of (λ b. (goal.Tap-dyn g b).meter b.1) c.args.run.now in
    let taps' = taps_of (λ b. (goal.Tap-dyn g b).meter b.1) c.serve_pinned_handle-stop.new.run in
    let m = moment_of g.R.Source.left g.O.Sink.told c.args.run.now c.args.script.now c.args.out.now in
    let m' = moment_of g.R.Source.left g.O.Sink.told c.serve_pinned_handle-stop.new.run c.serve_pinned_handle-stop.new.script c.serve_pinned_handle-stop.new.out in
    let served = pinned_served_as c.serve_pinned_handle-stop.result.0 store name b s opened.0 taps m m' (DiskStands g.D.Disk.state store name taps' c.serve_pinned_handle-stop.result.1.now) opened.1 are
    (c.serve_pinned_handle-stop.ensures.served name store opened.0 s opened.2 left) in
    search (rules, served)
