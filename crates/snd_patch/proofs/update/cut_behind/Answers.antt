use Rattle.std.proofs.Common.{◌≡◌, ◌∙◌, ◌≤◌, [], ◌∷◌, ℕ, ap, arith, option_map, Some, sym, take}
use Rattle.snd_disk.proofs.Public.{runs_join, same_some}
use Rattle.snd_patch.specs.Images.{IsCutting, held_cut}
use Rattle.snd_patch.specs.Sealed.{over_closing}
use Rattle.snd_container.specs.Values.{closed_end}
use Rattle.snd_patch.proofs.Behind.{cutting_from}
use Rattle.snd_patch.proofs.Moments.{leaves_by}
use Rattle.snd_patch.proofs.Running.{more_held, one_as, then_synced}
use Rattle.snd_layout.specs.Shape.{end}
use Rattle.snd_patch.proofs.Updating.{settled, updates_then}
use Rattle.snd_patch.proofs.update.cut_behind.Goals as goal

pub returns-clause-updates : goal.returns-clause-updates
returns-clause-updates g c =
    let behind : end c.args.layout.now c.args.to ≤ c.in_ok-place.place = omega (arith, c.in_ok-place.ensures.place) in
    updates_then g.D.Disk.state g.D.Disk.left_between c.args.layout.now c.args.to c.args.disk.now c.cut_to.new.disk c.settle.new.disk 8 0 8 (omega arith)
    (updates_then g.D.Disk.state g.D.Disk.left_between c.args.layout.now c.args.to c.args.disk.now c.put_closing.new.disk c.cut_to.new.disk 8 0 8 (omega arith)
    c.put_closing.ensures.updates (c.cut_to.ensures.updates c.args.layout.now c.args.to behind)) (settled g.D.Disk.state g.D.Disk.left_between c.args.layout.now c.args.to c.cut_to.new.disk c.settle.new.disk c.settle.ensures.same c.settle.ensures.time c.settle.ensures.written c.settle.ensures.asked)

pub returns-in_err-place-clause-run : goal.returns-in_err-place-clause-run
returns-in_err-place-clause-run g c = λ b told.
    more_held g.D.Disk.state g.D.Disk.may_leave g.D.Disk.left_between c.args.disk.now c.put_closing.new.disk (over_closing b c.args.layout.now c.args.to ∷ []) (take (closed_end c.args.layout.now c.args.to) (over_closing b c.args.layout.now c.args.to) ∷ [])
    (c.put_closing.ensures.run b told)

pub returns-in_err-place-clause-leaves : goal.returns-in_err-place-clause-leaves
returns-in_err-place-clause-leaves g c = λ b told stable.
    leaves_by g.D.Disk c.args.disk.now c.put_closing.new.disk (held_cut b c.args.layout.now c.args.to) (IsCutting b c.args.layout.now c.args.to)
    (λ x made. cutting_from b c.args.layout.now c.args.to (g.D.Disk.may_leave c.args.disk.now) (λ y left. same_some y b (sym (stable y left) ∙ told)) x made) (returns-in_err-place-clause-run g c b told)

pub returns-in_err-cut_to-clause-run : goal.returns-in_err-cut_to-clause-run
returns-in_err-cut_to-clause-run g c = λ b told.
    let then : (g.D.Disk.state c.put_closing.new.disk).contents ≡ Some (over_closing b c.args.layout.now c.args.to) = c.in_ok-place.ensures.contents ∙ ap (option_map (λ l. over_closing l c.args.layout.now c.args.to)) told in
    runs_join g.D.Disk.state g.D.Disk.may_leave g.D.Disk.left_between c.args.disk.now c.put_closing.new.disk c.cut_to.new.disk (over_closing b c.args.layout.now c.args.to ∷ []) (take (closed_end c.args.layout.now c.args.to) (over_closing b c.args.layout.now c.args.to) ∷ [])
    (c.put_closing.ensures.run b told)
    (one_as g.D.Disk.state g.D.Disk.may_leave g.D.Disk.left_between c.put_closing.new.disk c.cut_to.new.disk _ _ (ap (λ (place : ℕ). take place (over_closing b c.args.layout.now c.args.to)) c.in_ok-place.ensures.place)
    (c.cut_to.ensures.run (over_closing b c.args.layout.now c.args.to) then))

pub returns-in_err-cut_to-clause-leaves : goal.returns-in_err-cut_to-clause-leaves
returns-in_err-cut_to-clause-leaves g c = λ b told stable.
    leaves_by g.D.Disk c.args.disk.now c.cut_to.new.disk (held_cut b c.args.layout.now c.args.to) (IsCutting b c.args.layout.now c.args.to)
    (λ x made. cutting_from b c.args.layout.now c.args.to (g.D.Disk.may_leave c.args.disk.now) (λ y left. same_some y b (sym (stable y left) ∙ told)) x made) (returns-in_err-cut_to-clause-run g c b told)

pub returns-clause-run : goal.returns-clause-run
returns-clause-run g c = λ b told.
    let then : (g.D.Disk.state c.put_closing.new.disk).contents ≡ Some (over_closing b c.args.layout.now c.args.to) = c.in_ok-place.ensures.contents ∙ ap (option_map (λ l. over_closing l c.args.layout.now c.args.to)) told in
    then_synced g.D.Disk.state g.D.Disk.may_leave g.D.Disk.left_between c.args.disk.now c.cut_to.new.disk c.settle.new.disk (held_cut b c.args.layout.now c.args.to)
    (runs_join g.D.Disk.state g.D.Disk.may_leave g.D.Disk.left_between c.args.disk.now c.put_closing.new.disk c.cut_to.new.disk (over_closing b c.args.layout.now c.args.to ∷ []) (take (closed_end c.args.layout.now c.args.to) (over_closing b c.args.layout.now c.args.to) ∷ [])
    (c.put_closing.ensures.run b told)
    (one_as g.D.Disk.state g.D.Disk.may_leave g.D.Disk.left_between c.put_closing.new.disk c.cut_to.new.disk _ _ (ap (λ (place : ℕ). take place (over_closing b c.args.layout.now c.args.to)) c.in_ok-place.ensures.place)
    (c.cut_to.ensures.run (over_closing b c.args.layout.now c.args.to) then))) c.settle.ensures.run

pub returns-clause-leaves : goal.returns-clause-leaves
returns-clause-leaves g c = λ b told stable.
    leaves_by g.D.Disk c.args.disk.now c.settle.new.disk (held_cut b c.args.layout.now c.args.to) (IsCutting b c.args.layout.now c.args.to)
    (λ x made. cutting_from b c.args.layout.now c.args.to (g.D.Disk.may_leave c.args.disk.now) (λ y left. same_some y b (sym (stable y left) ∙ told)) x made) (returns-clause-run g c b told)
