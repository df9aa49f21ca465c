use Rattle.std.proofs.Common.{ℕ, List, [], Some, ap, length, refl, subst, sym, ◌∙◌}
use Rattle.std.proofs.lemmas.List.{append-nil}
use Rattle.snd_meters.proofs.Each.{map-map}
use Rattle.snd_meters.specs.Gauge.{waiting}
use Rattle.snd_edits.specs.Safe.{IsSafe}
use Rattle.snd_rules.specs.Desk.{closed_desk, stored}
use Rattle.snd_rules.specs.Edit.{Edited}
use Rattle.snd_rules.specs.Pinned.{auto_steps, run_asks, run_puts}
use Rattle.snd_script.specs.PinnedRun.{named}
use Rattle.snd_script.specs.Served.{FaultCounts, faults_of}
use Rattle.snd_script.specs.Serving.{Moment, moment}
use Rattle.snd_script.specs.Trail.{Trail, reached}
use Rattle.snd_script.proofs.Ends.{fault_rises, script_served}
use Rattle.snd_script.proofs.PinOpenings.{auto_steps_are, trail_resting}
use Rattle.snd_script.proofs.Tails.{unwritten_from}
use Rattle.snd_script.proofs.Uses.{used_by_script}
use Rattle.snd_script.proofs.serving.serve.Goals as goal

pub returns-clause-served : goal.returns-clause-served
returns-clause-served g c = λ files s tells left.
    let m' : Moment = moment c.serve_run-stop.new.run.lines (g.R.Source.left c.serve_run-stop.new.script) c.serve_run-stop.new.run.refused (g.O.Sink.told c.serve_run-stop.new.out) in
    let old : FaultCounts = faults_of g.S.Shelf.state g.R.Source.faults g.O.Sink.faults c.args.shelf.now c.args.script.now c.args.out.now in
    let new : FaultCounts = faults_of g.S.Shelf.state g.R.Source.faults g.O.Sink.faults c.serve_run-stop.new.shelf c.serve_run-stop.new.script c.serve_run-stop.new.out in
    script_served g.S.Shelf.state c.serve_run-stop.new.shelf (stored files _) _ c.serve_run-stop.result s (g.R.Source.left c.args.script.now) (g.O.Sink.told c.args.out.now) m' old new c.serve_run-stop.ensures.counted
    (named c.args.pinned) c.new-2.result c.end_at.result c.new-2.ensures c.end_at.ensures (c.serve_run-stop.ensures.served (stored files _) s (files, tells, λ n. refl, map-map waiting _ _ ∙ sym c.in-Ok.ensures) left)

pub returns-clause-fault : goal.returns-clause-fault
returns-clause-fault g c = λ is. fault_rises c.serve_run-stop.result c.serve_run-stop.new.run.refused _ _ (sym c.end_at.ensures ∙ is) c.serve_run-stop.ensures.counted

pub returns-clause-bounds : goal.returns-clause-bounds
returns-clause-bounds g c = λ s left.
    let bounds = c.serve_run-stop.ensures.bounds s left in
    (used_by_script (run_asks (named c.args.pinned)) c.new-2.result s _ _ c.new-2.ensures bounds.0, used_by_script (run_puts (named c.args.pinned)) c.new-2.result s _ _ c.new-2.ensures bounds.1)

pub returns-clause-images : goal.returns-clause-images
returns-clause-images g c = λ f s n told left there none.
    c.serve_run-stop.ensures.images s left f n told there (unwritten_from (named c.args.pinned) c.new-2.result s n c.new-2.ensures none)

pub returns-clause-trail : goal.returns-clause-trail
returns-clause-trail g c = λ name files b e text t pins tells there only is fit left said.
    let trails = rw pins at c.serve_run-stop.ensures.trail in
    let run = trails (stored files _) b e text t tells there only is fit left said in (
      run.0,
      run.1,
      subst (λ (steps : List Edited). Trail IsSafe (g.S.Shelf.left_between c.serve_run-stop.new.shelf name) ((g.S.Shelf.state c.args.shelf.now).clock name) ((g.S.Shelf.state c.serve_run-stop.new.shelf).clock name) (reached (length run.0) e steps))
          (auto_steps_are (stored files _) _ name b text e c.new-2.result (c.in-Ok.ensures ∙ sym (map-map waiting _ _)) there is c.new-2.ensures) run.2,
    )

pub returns-in_default-clause-served : goal.returns-in_default-clause-served
returns-in_default-clause-served g c = λ files s tells left. (
  record { shelf = refl; script = refl; out = refl },
  (_, closed_desk (stored files _), record { done = []; whole = refl; last = refl; appended = λ t told. told ∙ ap (λ (l : List ℕ). Some l) (sym (append-nil t)) }, (files, tells, λ n kept. refl)),
)

pub returns-in_default-clause-trail : goal.returns-in_default-clause-trail
returns-in_default-clause-trail g c = λ name files b e text t pins tells there only is fit left said. (
  [],
  said ∙ ap (λ (l : List ℕ). Some l) (sym (append-nil t)),
  trail_resting (g.S.Shelf.left_between c.args.shelf.now name) (g.S.Shelf.may_leave c.args.shelf.now name) ((g.S.Shelf.state c.args.shelf.now).clock name) (g.met.S.Shelf.only_now c.args.shelf.now name) b e is fit only
      (auto_steps (stored files _) name text),
)
