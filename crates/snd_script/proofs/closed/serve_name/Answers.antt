use Rattle.std.proofs.Common.{◌≡◌, [], refl, rules, sym}
use Rattle.std.specs.Prelude.{unwrap_or}
use Rattle.snd_script.specs.Kept.{how_writes}
use Rattle.snd_script.specs.Opened.{opens_edit}
use Rattle.snd_rules.specs.Replies.{refuses}
use Rattle.snd_script.specs.Served.{none_lost}
use Rattle.snd_script.specs.Serving.{DiskStands, ShelfStands}
use Rattle.snd_lines.specs.declared.refusal.Refusal.TheVariants.{MissingFile}
use Rattle.snd_script.proofs.ShelfLeft.{came_back, stands_on_shelf, stayed, stayed_stands, taken_there}
use Rattle.snd_script.proofs.ShelfSteps.{made_not, opened_on_shelf, opens_missing, replied_closed, take_failed, take_lacks_memory}
use Rattle.snd_script.proofs.Tails.{returned_unless, stayed_unless}
use Rattle.snd_script.proofs.closed.serve_name.Goals as goal

pub returns-in-Err-Missing-clause-shelf : goal.returns-in-Err-Missing-clause-shelf
returns-in-Err-Missing-clause-shelf g c = stayed g.S.Shelf.state g.S.Shelf.may_leave g.S.Shelf.left_between c.name_text-text.result.now c.is_making.result c.args.shelf.now c.take.new.self c.in-Err-Missing.ensures.stays c.in-Err-Missing.ensures.same_images c.take.ensures.others

pub returns-in-Err-Failed-clause-shelf : goal.returns-in-Err-Failed-clause-shelf
returns-in-Err-Failed-clause-shelf g c = stayed g.S.Shelf.state g.S.Shelf.may_leave g.S.Shelf.left_between c.name_text-text.result.now c.is_making.result c.args.shelf.now c.take.new.self c.in-Err-Failed.ensures.stays c.in-Err-Failed.ensures.same_images c.take.ensures.others

pub returns-in-Err-Memory-clause-shelf : goal.returns-in-Err-Memory-clause-shelf
returns-in-Err-Memory-clause-shelf g c = stayed g.S.Shelf.state g.S.Shelf.may_leave g.S.Shelf.left_between c.name_text-text.result.now c.is_making.result c.args.shelf.now c.take.new.self c.in-Err-Memory.ensures.stays c.in-Err-Memory.ensures.same_images c.take.ensures.others

pub returns-clause-shelf : goal.returns-clause-shelf
returns-clause-shelf g c = came_back g.S.Shelf.state g.S.Shelf.may_leave g.S.Shelf.left_between g.S.Disk.Disk.state g.S.Disk.Disk.may_leave g.S.Disk.Disk.left_between c.name_text-text.result.now c.is_making.result
    c.args.shelf.now c.take.new.self c.give.new.self c.in-Ok.disk c.serve_disk-served.new.disk c.in-Ok.ensures.taken c.give.ensures.given c.serve_disk-served.ensures.tells
    (search rules) c.in-Ok.ensures.images c.give.ensures.images c.take.ensures.others c.give.ensures.others c.serve_disk-served.ensures.time

pub returns-in-Err-Missing-clause-served : goal.returns-in-Err-Missing-clause-served
returns-in-Err-Missing-clause-served g c = λ store s has left.
    let gone = (rw c.in-Err-Missing.field-0-is at c.in-Err-Missing.ensures.missing) refl in
    replied_closed _ store _ _ _ _ _ _ _ s (opens_edit store c.args.name.now c.args.how.now) (refuses MissingFile) (ShelfStands g.S.Shelf.state c.take.new.self _)
    (opens_missing store c.name_text-text.result.now c.args.name.now c.args.how.now c.is_making.result has.0 c.name_text-text.ensures c.is_making.ensures gone.not_made has.2 (gone.missing has.0 has.1))
    c.refuse.ensures.lines left c.refuse.ensures.answered
    (stayed_stands g.S.Shelf.state g.S.Shelf.may_leave g.S.Shelf.left_between c.name_text-text.result.now c.is_making.result c.args.shelf.now c.take.new.self c.in-Err-Missing.ensures.stays store _ _ c.refuse.ensures.taps has none_lost (λ make. absurd (made_not c.is_making.result make gone.not_made)))

pub returns-in-Err-Failed-clause-served : goal.returns-in-Err-Failed-clause-served
returns-in-Err-Failed-clause-served g c = λ store s has left.
    take_failed store c.name_text-text.result.now c.args.name.now c.args.how.now c.is_making.result _ s (ShelfStands g.S.Shelf.state c.take.new.self _) c.name_text-text.ensures c.is_making.ensures c.requires.makeable
    (stayed_stands g.S.Shelf.state g.S.Shelf.may_leave g.S.Shelf.left_between c.name_text-text.result.now c.is_making.result c.args.shelf.now c.take.new.self c.in-Err-Failed.ensures.stays store _ _ refl has)

pub returns-in-Err-Memory-clause-served : goal.returns-in-Err-Memory-clause-served
returns-in-Err-Memory-clause-served g c = λ store s has left.
    take_lacks_memory store c.name_text-text.result.now c.args.name.now c.args.how.now c.is_making.result _ s (ShelfStands g.S.Shelf.state c.take.new.self _) c.name_text-text.ensures c.is_making.ensures c.requires.makeable
    (stayed_stands g.S.Shelf.state g.S.Shelf.may_leave g.S.Shelf.left_between c.name_text-text.result.now c.is_making.result c.args.shelf.now c.take.new.self c.in-Err-Memory.ensures.stays store _ _ refl has)

pub returns-clause-served : goal.returns-clause-served
returns-clause-served g c = λ store s has left.
    opened_on_shelf _ _ store c.name_text-text.result.now c.args.name.now (unwrap_or (has.0 c.name_text-text.result.now) []) s c.args.how.now c.is_making.result _ _
    (DiskStands g.S.Disk.Disk.state store c.name_text-text.result.now _ c.serve_disk-served.new.disk) (ShelfStands g.S.Shelf.state c.give.new.self _) c.name_text-text.ensures c.is_making.ensures
    (taken_there (g.S.Shelf.state c.args.shelf.now) (g.S.Shelf.state c.take.new.self) c.name_text-text.result.now c.is_making.result (g.S.Disk.Disk.state c.in-Ok.disk) store.files has.0 c.in-Ok.ensures.taken has.1 has.2)
    (stands_on_shelf g.S.Shelf.state g.S.Shelf.may_leave g.S.Shelf.left_between g.S.Disk.Disk.state g.S.Disk.Disk.may_leave g.S.Disk.Disk.left_between c.name_text-text.result.now c.is_making.result
    c.args.shelf.now c.take.new.self c.give.new.self c.in-Ok.disk c.serve_disk-served.new.disk c.in-Ok.ensures.taken c.give.ensures.given c.serve_disk-served.ensures.tells store _ _ has)
    (λ there. c.serve_disk-served.ensures.served c.name_text-text.result.now store (unwrap_or (has.0 c.name_text-text.result.now) []) s (c.in-Ok.ensures.taken.contents has.0 has.1) there has.3 left)

pub returns-in-Err-Missing-clause-images : goal.returns-in-Err-Missing-clause-images
returns-in-Err-Missing-clause-images g c = stayed_unless g.S.Shelf c.name_text-text.result.now (how_writes c.args.how.now c.args.name.now) c.args.shelf.now c.take.new.self c.in-Err-Missing.ensures.same_images c.take.ensures.others

pub returns-in-Err-Failed-clause-images : goal.returns-in-Err-Failed-clause-images
returns-in-Err-Failed-clause-images g c = stayed_unless g.S.Shelf c.name_text-text.result.now (how_writes c.args.how.now c.args.name.now) c.args.shelf.now c.take.new.self c.in-Err-Failed.ensures.same_images c.take.ensures.others

pub returns-in-Err-Memory-clause-images : goal.returns-in-Err-Memory-clause-images
returns-in-Err-Memory-clause-images g c = stayed_unless g.S.Shelf c.name_text-text.result.now (how_writes c.args.how.now c.args.name.now) c.args.shelf.now c.take.new.self c.in-Err-Memory.ensures.same_images c.take.ensures.others

pub returns-clause-images : goal.returns-clause-images
returns-clause-images g c =
    let named : c.name_text-text.result.now ≡ c.args.name.now = c.name_text-text.ensures in
    rw (sym named) (
    returned_unless g.S.Shelf g.S.Disk.Disk c.name_text-text.result.now c.args.shelf.now c.take.new.self c.give.new.self c.in-Ok.disk c.serve_disk-served.new.disk
    c.in-Ok.ensures.images c.give.ensures.images c.take.ensures.others c.give.ensures.others c.args.how.now c.serve_disk-served.ensures.reads)
