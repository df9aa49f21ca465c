use Rattle.std.proofs.Common.{◌≡◌, rules}
use Rattle.snd_disk.proofs.Public.{returned_files, returned_images, stayed_images}
use Rattle.snd_app.proofs.Looks.{counts_given, found_there, if_ok}
use Rattle.snd_app.proofs.look.look.Goals as goal

pub returns-clause-found : goal.returns-clause-found
returns-clause-found g c = if_ok c.found_on-found.result _ _ (λ found is files told. found_there _ _ files c.args.name.now _ found c.in-Ok.ensures.taken told is) c.found_on-found.ensures.found

pub returns-clause-faults : goal.returns-clause-faults
returns-clause-faults g c =
    let same : (g.S.Shelf.state c.take.new.self).faults ≡ (g.S.Shelf.state c.args.shelf.now).faults = search rules in
    counts_given c.found_on-found.result _ _ _ _ _ same c.in-Ok.ensures.taken.fresh.0 c.found_on-found.ensures.faults c.give.ensures.given.faults

pub returns-clause-files : goal.returns-clause-files
returns-clause-files g c = returned_files _ _ _ c.args.name.now _ _ c.in-Ok.ensures.taken c.found_on-found.ensures.reads.keeps.contents c.give.ensures.given

pub returns-clause-images : goal.returns-clause-images
returns-clause-images g c =
    returned_images g.S.Shelf.state g.S.Shelf.may_leave g.S.Shelf.left_between c.args.name.now g.S.Disk.Disk.state g.S.Disk.Disk.may_leave g.S.Disk.Disk.left_between
    c.args.shelf.now c.take.new.self c.give.new.self c.in-Ok.disk c.found_on-found.new.disk c.in-Ok.ensures.images c.give.ensures.images c.take.ensures.others c.give.ensures.others c.found_on-found.ensures.reads.images

pub returns-in-Err-Failed-clause-images : goal.returns-in-Err-Failed-clause-images
returns-in-Err-Failed-clause-images g c = stayed_images g.S.Shelf.state g.S.Shelf.may_leave g.S.Shelf.left_between c.args.name.now _ _ c.in-Err-Failed.ensures.same_images c.take.ensures.others

pub returns-in-Err-Memory-clause-images : goal.returns-in-Err-Memory-clause-images
returns-in-Err-Memory-clause-images g c = stayed_images g.S.Shelf.state g.S.Shelf.may_leave g.S.Shelf.left_between c.args.name.now _ _ c.in-Err-Memory.ensures.same_images c.take.ensures.others
