use Rattle.std.proofs.Common.{◌≡◌, [], ◌∷◌, List, ℕ, Option, None, Some, Ok, Err, false, refl, sym, ◌∙◌, ap, subst}
use Rattle.std.specs.Prelude.{unwrap_or}
use Rattle.std.proofs.lemmas.List.{append-nil}
use Rattle.snd_disk.proofs.Public.{handed_there}
use Rattle.snd_edits.specs.Safe.{IsSafe}
use Rattle.snd_rules.specs.Desk.{closed_desk}
use Rattle.snd_rules.specs.Edit.{Edited, Opening, open_edit}
use Rattle.snd_rules.specs.Pinned.{pinned_opening, pinned_steps, pins}
use Rattle.snd_script.specs.PinnedRun.{IsPinnedStop, opened_pinned}
use Rattle.snd_script.specs.Served.{lost_at, made_next, none_lost}
use Rattle.snd_script.specs.Serving.{DiskStands, Moment, ShelfStands, lines_left, moment, moment_of}
use Rattle.snd_script.specs.Tapped.{taps_of}
use Rattle.snd_lines.specs.declared.refusal.Refusal.TheVariants.{MissingFile}
use Rattle.snd_script.specs.declared.stop.Stop.TheVariants.{File, Memory}
use Rattle.snd_script.proofs.Openings.{stopped_stands}
use Rattle.snd_script.proofs.PinOpenings.{trail_resting}
use Rattle.snd_script.proofs.PinnedRuns.{opening_refused, opening_stops}
use Rattle.snd_script.proofs.ShelfLeft.{came_back, stands_on_shelf, stayed, stayed_stands, taken_there}
use Rattle.snd_script.proofs.Trails.{trail_from, trail_of_shelf}
use Rattle.snd_script.proofs.pinned.serve_pinned.Goals as goal

pub returns-in-Ok-refuse-clause-served : goal.returns-in-Ok-refuse-clause-served
returns-in-Ok-refuse-clause-served g c = λ store s has left.
    let gone = (rw c.in-Err-Missing.field-0-is at c.in-Err-Missing.ensures.missing) refl in
    opening_refused store (g.R.Source.left c.args.script.now) (g.O.Sink.told c.args.out.now) (g.O.Sink.told c.refuse.new.out) c.args.run.now.lines c.refuse.new.self.lines c.args.run.now.refused c.refuse.new.self.refused s
    (ShelfStands g.S.Shelf.state c.take.new.self _) (Ok c.in-Ok-refuse.field-0) (pinned_opening store c.args.name.now) MissingFile
    (ap (open_edit store c.args.name.now Opening.for_pinning) (sym (has.2 c.args.name.now) ∙ gone.missing has.0 has.1)) c.in-Ok-refuse.ensures.answered
    (stayed_stands g.S.Shelf.state g.S.Shelf.may_leave g.S.Shelf.left_between c.args.name.now false c.args.shelf.now c.take.new.self c.in-Err-Missing.ensures.stays store _ _ c.refuse.ensures.taps has none_lost (λ make. absurd cc))

pub returns-in-Err-clause-served : goal.returns-in-Err-clause-served
returns-in-Err-clause-served g c = λ store s has left.
    let gone = (rw c.in-Err-Missing.field-0-is at c.in-Err-Missing.ensures.missing) refl in
    opening_refused store (g.R.Source.left c.args.script.now) (g.O.Sink.told c.args.out.now) (g.O.Sink.told c.refuse.new.out) c.args.run.now.lines c.refuse.new.self.lines c.args.run.now.refused c.refuse.new.self.refused s
    (ShelfStands g.S.Shelf.state c.take.new.self _) (Err c.in-Err.stop) (pinned_opening store c.args.name.now) MissingFile
    (ap (open_edit store c.args.name.now Opening.for_pinning) (sym (has.2 c.args.name.now) ∙ gone.missing has.0 has.1)) c.in-Err.ensures.answered
    (stayed_stands g.S.Shelf.state g.S.Shelf.may_leave g.S.Shelf.left_between c.args.name.now false c.args.shelf.now c.take.new.self c.in-Err-Missing.ensures.stays store _ _ c.refuse.ensures.taps has none_lost (λ make. absurd cc))

pub returns-in-Err-Failed-clause-served : goal.returns-in-Err-Failed-clause-served
returns-in-Err-Failed-clause-served g c = λ store s has left.
    let opened : Edited = pinned_opening store c.args.name.now in
    opening_stops store (g.R.Source.left c.args.script.now) (g.O.Sink.told c.args.out.now) (g.O.Sink.told c.args.out.now) c.args.run.now.lines c.args.run.now.lines c.args.run.now.refused c.args.run.now.refused s
    (ShelfStands g.S.Shelf.state c.take.new.self _) File opened
    (refl, stayed_stands g.S.Shelf.state g.S.Shelf.may_leave g.S.Shelf.left_between c.args.name.now false c.args.shelf.now c.take.new.self c.in-Err-Failed.ensures.stays store _ _ refl has (lost_at (closed_desk store) (opened ∷ [])) (λ make. absurd cc))

pub returns-in-Err-Memory-clause-served : goal.returns-in-Err-Memory-clause-served
returns-in-Err-Memory-clause-served g c = λ store s has left.
    let opened : Edited = pinned_opening store c.args.name.now in
    opening_stops store (g.R.Source.left c.args.script.now) (g.O.Sink.told c.args.out.now) (g.O.Sink.told c.args.out.now) c.args.run.now.lines c.args.run.now.lines c.args.run.now.refused c.args.run.now.refused s
    (ShelfStands g.S.Shelf.state c.take.new.self _) Memory opened
    (refl, stayed_stands g.S.Shelf.state g.S.Shelf.may_leave g.S.Shelf.left_between c.args.name.now false c.args.shelf.now c.take.new.self c.in-Err-Memory.ensures.stays store _ _ refl has (made_next (closed_desk store) (opened ∷ [])) (λ make. absurd cc))

pub returns-in-Err-Failed-clause-shelf : goal.returns-in-Err-Failed-clause-shelf
returns-in-Err-Failed-clause-shelf g c = stayed g.S.Shelf.state g.S.Shelf.may_leave g.S.Shelf.left_between c.args.name.now false c.args.shelf.now c.take.new.self c.in-Err-Failed.ensures.stays c.in-Err-Failed.ensures.same_images c.take.ensures.others

pub returns-in-Err-Memory-clause-shelf : goal.returns-in-Err-Memory-clause-shelf
returns-in-Err-Memory-clause-shelf g c = stayed g.S.Shelf.state g.S.Shelf.may_leave g.S.Shelf.left_between c.args.name.now false c.args.shelf.now c.take.new.self c.in-Err-Memory.ensures.stays c.in-Err-Memory.ensures.same_images c.take.ensures.others

pub returns-clause-shelf : goal.returns-clause-shelf
returns-clause-shelf g c = came_back g.S.Shelf.state g.S.Shelf.may_leave g.S.Shelf.left_between g.S.Disk.Disk.state g.S.Disk.Disk.may_leave g.S.Disk.Disk.left_between c.args.name.now false
    c.args.shelf.now c.take.new.self c.give.new.self c.in-Ok.disk c.serve_pinned_disk-stop.new.disk c.in-Ok.ensures.taken c.give.ensures.given c.serve_pinned_disk-stop.ensures.tells
    c.requires.back c.in-Ok.ensures.images c.give.ensures.images c.take.ensures.others c.give.ensures.others c.serve_pinned_disk-stop.ensures.time

pub returns-clause-served : goal.returns-clause-served
returns-clause-served g c = λ store s has left.
    let b : List ℕ = unwrap_or (has.0 c.args.name.now) [] in
    let there : store.files c.args.name.now ≡ Some b = taken_there (g.S.Shelf.state c.args.shelf.now) (g.S.Shelf.state c.take.new.self) c.args.name.now false (g.S.Disk.Disk.state c.in-Ok.disk) store.files has.0 c.in-Ok.ensures.taken has.1 has.2 refl in
    let m : Moment = moment c.args.run.now.lines (g.R.Source.left c.args.script.now) c.args.run.now.refused (g.O.Sink.told c.args.out.now) in
    let m' : Moment = moment c.serve_pinned_disk-stop.new.run.lines (g.R.Source.left c.serve_pinned_disk-stop.new.script) c.serve_pinned_disk-stop.new.run.refused (g.O.Sink.told c.serve_pinned_disk-stop.new.out) in
    stopped_stands c.serve_pinned_disk-stop.result _ _ _ m m' (DiskStands g.S.Disk.Disk.state store c.args.name.now _ c.serve_pinned_disk-stop.new.disk) (ShelfStands g.S.Shelf.state c.give.new.self _)
    (stands_on_shelf g.S.Shelf.state g.S.Shelf.may_leave g.S.Shelf.left_between g.S.Disk.Disk.state g.S.Disk.Disk.may_leave g.S.Disk.Disk.left_between c.args.name.now false
    c.args.shelf.now c.take.new.self c.give.new.self c.in-Ok.disk c.serve_pinned_disk-stop.new.disk c.in-Ok.ensures.taken c.give.ensures.given c.serve_pinned_disk-stop.ensures.tells store _ _ has)
    (subst (λ (x : Edited). IsPinnedStop c.serve_pinned_disk-stop.result x store m s m' (DiskStands g.S.Disk.Disk.state store c.args.name.now (taps_of (λ b. (goal.Tap-dyn g b).meter b.1) c.serve_pinned_disk-stop.new.run) c.serve_pinned_disk-stop.new.disk))
    (sym (ap (open_edit store c.args.name.now Opening.for_pinning) there))
    (c.serve_pinned_disk-stop.ensures.served c.args.name.now store b s (c.in-Ok.ensures.taken.contents has.0 has.1) there has.3 left))

pub returns-clause-unread : goal.returns-clause-unread
returns-clause-unread g c = λ store has refusal.
    let b : List ℕ = unwrap_or (has.0 c.args.name.now) [] in
    let there : store.files c.args.name.now ≡ Some b = taken_there (g.S.Shelf.state c.args.shelf.now) (g.S.Shelf.state c.take.new.self) c.args.name.now false (g.S.Disk.Disk.state c.in-Ok.disk) store.files has.0 c.in-Ok.ensures.taken has.1 has.2 refl in
    c.serve_pinned_disk-stop.ensures.unread store c.args.name.now b (c.in-Ok.ensures.taken.contents has.0 has.1)
    (sym (ap (λ (o : Option (List ℕ)). pins (open_edit store c.args.name.now Opening.for_pinning o)) there) ∙ refusal)

pub returns-in-Ok-refuse-clause-trail : goal.returns-in-Ok-refuse-clause-trail
returns-in-Ok-refuse-clause-trail g c = λ store b e text t told there only is fit left said.
    let gone = (rw c.in-Err-Missing.field-0-is at c.in-Err-Missing.ensures.missing) refl in
    absurd (let no : ◌≡◌ {A = Option (List ℕ)} None (Some b) = sym (gone.missing store.files told) ∙ there in cc)

pub returns-in-Err-clause-trail : goal.returns-in-Err-clause-trail
returns-in-Err-clause-trail g c = λ store b e text t told there only is fit left said.
    let gone = (rw c.in-Err-Missing.field-0-is at c.in-Err-Missing.ensures.missing) refl in
    absurd (let no : ◌≡◌ {A = Option (List ℕ)} None (Some b) = sym (gone.missing store.files told) ∙ there in cc)

pub returns-in-Err-Failed-clause-trail : goal.returns-in-Err-Failed-clause-trail
returns-in-Err-Failed-clause-trail g c = λ store b e text t told there only is fit left said.
    let kept = handed_there (store.files c.args.name.now) b _ _ _ _ _ _ there (c.in-Err-Failed.ensures.same_images store.files told) in (
      [],
      said ∙ ap (λ (l : List ℕ). Some l) (sym (append-nil t)),
      trail_from IsSafe (g.S.Shelf.left_between c.take.new.self c.args.name.now) _ _ _ _ kept.same_time
          (trail_resting (g.S.Shelf.left_between c.take.new.self c.args.name.now) (g.S.Shelf.may_leave c.take.new.self c.args.name.now) ((g.S.Shelf.state c.take.new.self).clock c.args.name.now) (g.met.S.Shelf.only_now c.take.new.self c.args.name.now)
          b e is fit (λ x was. only x (kept.now.no_more x was)) (pinned_steps (opened_pinned store c.args.name.now _ e) (lines_left (moment_of g.R.Source.left g.O.Sink.told c.args.run.now c.args.script.now c.args.out.now) text))),
    )

pub returns-in-Err-Memory-clause-trail : goal.returns-in-Err-Memory-clause-trail
returns-in-Err-Memory-clause-trail g c = λ store b e text t told there only is fit left said.
    let kept = handed_there (store.files c.args.name.now) b _ _ _ _ _ _ there (c.in-Err-Memory.ensures.same_images store.files told) in (
      [],
      said ∙ ap (λ (l : List ℕ). Some l) (sym (append-nil t)),
      trail_from IsSafe (g.S.Shelf.left_between c.take.new.self c.args.name.now) _ _ _ _ kept.same_time
          (trail_resting (g.S.Shelf.left_between c.take.new.self c.args.name.now) (g.S.Shelf.may_leave c.take.new.self c.args.name.now) ((g.S.Shelf.state c.take.new.self).clock c.args.name.now) (g.met.S.Shelf.only_now c.take.new.self c.args.name.now)
          b e is fit (λ x was. only x (kept.now.no_more x was)) (pinned_steps (opened_pinned store c.args.name.now _ e) (lines_left (moment_of g.R.Source.left g.O.Sink.told c.args.run.now c.args.script.now c.args.out.now) text))),
    )

pub returns-clause-trail : goal.returns-clause-trail
returns-clause-trail g c = λ store b e text t told there only is fit left said.
    let kept = handed_there (store.files c.args.name.now) b _ _ _ _ _ _ there (c.in-Ok.ensures.images store.files told) in
    let bytes = c.in-Ok.ensures.taken.contents store.files told ∙ ap (λ (o : Option (List ℕ)). Some (unwrap_or o [])) there in
    let run = c.serve_pinned_disk-stop.ensures.trail store c.args.name.now b e text t bytes (λ x was. bytes ∙ ap (λ (l : List ℕ). Some l) (sym (only x (kept.now.no_more x was)))) is fit left said in (
      run.0,
      run.1,
      trail_of_shelf IsSafe _ _ _ _ _ _ _ _ c.give.ensures.images (trail_from IsSafe (g.S.Disk.Disk.left_between c.serve_pinned_disk-stop.new.disk) _ _ _ _ kept.same_time run.2),
    )
