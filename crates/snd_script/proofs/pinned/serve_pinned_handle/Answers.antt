use Rattle.std.proofs.Common.{◌≡◌, ⊎_elim, Bool, Ok, true, refl, sym, ◌∙◌, ap, subst, arith}
use Rattle.snd_disk.specs.Device.{Tells}
use Rattle.snd_edits.specs.Editing.{Editing}
use Rattle.snd_rules.specs.Desk.{Mode, closed_as, pinned, writes}
use Rattle.snd_session.specs.Handled.{FinishesAs, HandleStands, handle_disk, mode_of}
use Rattle.snd_script.specs.Serving.{DiskStands, OpenStands}
use Rattle.snd_script.proofs.MadeBlocks.{safe_updated, updated_finish}
use Rattle.snd_script.proofs.Openings.{disk_lost, disk_stands, finished_tells, stopped_failed, stopped_stands}
use Rattle.snd_script.proofs.TrailRuns.{trail_closed}
use Rattle.snd_script.proofs.pinned.serve_pinned_handle.Goals as goal

pub returns-in-Ok-clause-served : goal.returns-in-Ok-clause-served
returns-in-Ok-clause-served g c = λ name store e s stands left.
    let seals : writes (mode_of c.serve_pinned_open-stop.new.handle) ≡ true = ap writes (c.serve_pinned_open-stop.ensures.leaves.mode ∙ c.requires.updated) in
    let back = subst (λ (b : Bool). FinishesAs b g.D.Disk.state g.D.Disk.may_leave c.serve_pinned_open-stop.new.handle (Ok (c.in-Ok.field-0-0, c.in-Ok.disk))) seals c.in-Ok.ensures.back in
    let closes : (e : Editing) → HandleStands g.D.Disk.state c.serve_pinned_open-stop.new.handle e → Tells g.D.Disk.state c.in-Ok.disk.now (closed_as pinned e).bytes =
    λ e here. subst (λ (m : Mode). Tells g.D.Disk.state c.in-Ok.disk.now (closed_as m e).bytes) (c.serve_pinned_open-stop.ensures.leaves.mode ∙ c.requires.updated)
    (finished_tells g.D.Disk.state c.serve_pinned_open-stop.new.handle c.in-Ok.disk.now true g.D.Disk.may_leave (c.in-Ok.field-0-0, c.in-Ok.disk) (sym seals) back refl e here) in
    stopped_stands c.serve_pinned_open-stop.result _ _ _ _ _ (OpenStands g.D.Disk.state store name true _ c.serve_pinned_open-stop.new.handle) (DiskStands g.D.Disk.state store name _ c.in-Ok.disk.now)
    (λ lost desk. disk_stands g.D.Disk.state store name true _ c.serve_pinned_open-stop.new.handle c.in-Ok.disk.now _ c.in-Ok.ensures.taps lost desk closes) (c.serve_pinned_open-stop.ensures.served name store e s stands left)

pub returns-in-Err-clause-served : goal.returns-in-Err-clause-served
returns-in-Err-clause-served g c = λ name store e s stands left.
    stopped_failed _ _ _ _ _ (OpenStands g.D.Disk.state store name true _ c.serve_pinned_open-stop.new.handle) (DiskStands g.D.Disk.state store name _ c.in-Err.disk.now)
    (disk_lost g.D.Disk.state store name true _ c.serve_pinned_open-stop.new.handle c.in-Err.disk.now _ c.in-Err.ensures.taps) c.serve_pinned_open-stop.result (c.serve_pinned_open-stop.ensures.served name store e s stands left)

pub returns-in-Ok-clause-asked : goal.returns-in-Ok-clause-asked
returns-in-Ok-clause-asked g c = λ s left.
    let uses = c.serve_pinned_open-stop.ensures.asked s left in
    record { later = omega (arith, uses.later, c.in-Ok.ensures.asked); most = omega (arith, uses.most, c.in-Ok.ensures.asked) }

pub returns-in-Ok-clause-written : goal.returns-in-Ok-clause-written
returns-in-Ok-clause-written g c = λ s left.
    let uses = c.serve_pinned_open-stop.ensures.written s left in
    let closing = updated_finish c.serve_pinned_open-stop.new.handle (c.serve_pinned_open-stop.ensures.leaves.mode ∙ c.requires.updated) in
    record { later = omega (arith, uses.later, c.in-Ok.ensures.written.later); most = omega (arith, uses.most, c.in-Ok.ensures.written.most, closing) }

pub returns-in-Err-clause-asked : goal.returns-in-Err-clause-asked
returns-in-Err-clause-asked g c = λ s left.
    let uses = c.serve_pinned_open-stop.ensures.asked s left in
    record { later = omega (arith, uses.later, c.in-Err.ensures.asked); most = omega (arith, uses.most, c.in-Err.ensures.asked) }

pub returns-in-Err-clause-written : goal.returns-in-Err-clause-written
returns-in-Err-clause-written g c = λ s left.
    let uses = c.serve_pinned_open-stop.ensures.written s left in
    let closing = updated_finish c.serve_pinned_open-stop.new.handle (c.serve_pinned_open-stop.ensures.leaves.mode ∙ c.requires.updated) in
    record { later = omega (arith, uses.later, c.in-Err.ensures.written.later); most = omega (arith, uses.most, c.in-Err.ensures.written.most, closing) }

pub returns-in-Ok-clause-trail : goal.returns-in-Ok-clause-trail
returns-in-Ok-clause-trail g c = λ store name e s t rest left told.
    let run = c.serve_pinned_open-stop.ensures.trail store name e s t rest left told in (
      run.0,
      run.1,
      trail_closed g.D.Disk g.met.D.Disk.only_now (g.D.Disk.state (handle_disk c.args.handle)).clock c.serve_pinned_open-stop.new.handle c.in-Ok.disk.now _ run.2
          (λ e' rest'. safe_updated g.D.Disk c.serve_pinned_open-stop.new.handle _ (c.serve_pinned_open-stop.ensures.leaves.mode ∙ c.requires.updated) c.in-Ok.ensures.safe e' rest') (λ broken. absurd (broken c.in-Ok.ensures.cause.0)),
    )

pub returns-in-Err-clause-trail : goal.returns-in-Err-clause-trail
returns-in-Err-clause-trail g c = λ store name e s t rest left told.
    let run = c.serve_pinned_open-stop.ensures.trail store name e s t rest left told in (
      run.0,
      run.1,
      trail_closed g.D.Disk g.met.D.Disk.only_now (g.D.Disk.state (handle_disk c.args.handle)).clock c.serve_pinned_open-stop.new.handle c.in-Err.disk.now _ run.2
          (λ e' rest'. safe_updated g.D.Disk c.serve_pinned_open-stop.new.handle _ (c.serve_pinned_open-stop.ensures.leaves.mode ∙ c.requires.updated) c.in-Err.ensures.safe e' rest') (λ broken. ⊎_elim (λ was. was.1) (λ now. absurd (broken now.0)) c.in-Err.ensures.cause),
    )
