use Rattle.snd_inputs.proofs.Reading.{handed_back, not_handed, reads_none}
use Rattle.snd_inputs.proofs.looking.see.Goals as goal

pub returns-in-Ok-clause-reads : goal.returns-in-Ok-clause-reads
returns-in-Ok-clause-reads g c =
    handed_back g.S.Shelf g.S.Disk.Disk c.args.name.now c.args.shelf.now c.take.new.self c.give.new.self c.in-Ok.disk c.in-Ok.disk c.in-Ok.ensures.taken c.give.ensures.given
    (reads_none g.S.Disk.Disk.state g.S.Disk.Disk.may_leave g.S.Disk.Disk.left_between c.in-Ok.disk)
    c.in-Ok.ensures.images c.give.ensures.images c.take.ensures.others c.give.ensures.others c.take.ensures.bytes c.requires

pub returns-in-Err-Failed-clause-reads : goal.returns-in-Err-Failed-clause-reads
returns-in-Err-Failed-clause-reads g c = not_handed g.S.Shelf c.args.name.now _ _ c.in-Err-Failed.ensures.stays c.in-Err-Failed.ensures.same_images c.take.ensures.others c.take.ensures.bytes

pub returns-in-Err-Memory-clause-reads : goal.returns-in-Err-Memory-clause-reads
returns-in-Err-Memory-clause-reads g c = not_handed g.S.Shelf c.args.name.now _ _ c.in-Err-Memory.ensures.stays c.in-Err-Memory.ensures.same_images c.take.ensures.others c.take.ensures.bytes
