use Rattle.std.proofs.Common.{false, refl, ◌∙◌, arith}
use Rattle.snd_rules.specs.Desk.{closed_desk, open_desk, writes}
use Rattle.snd_session.specs.Handled.{mode_of}
use Rattle.snd_rules.specs.Script.{asked_by, written_by}
use Rattle.snd_script.specs.Served.{none_lost}
use Rattle.snd_script.specs.Serving.{DiskStands, OpenStands}
use Rattle.snd_script.specs.declared.stop.Stop.TheVariants.{File}
use Rattle.snd_script.proofs.MadeBlocks.{finish_writes, small_still}
use Rattle.snd_script.proofs.Openings.{closed_then, desk_closed, disk_lost, disk_stands, finished_tells, frames_open, open_failed, stopped_failed, stopped_stands}
use Rattle.snd_script.proofs.Uses.{closed_where_owed, closed_where_stopped}
use Rattle.snd_script.proofs.opening.serve_handle.Goals as goal

pub returns-in-Ok-finish-clause-served : goal.returns-in-Ok-finish-clause-served
returns-in-Ok-finish-clause-served g c = λ name store e s stands left.
    let so_far = c.in-Ok.ensures.served name store e s stands left in
    let closes = finished_tells g.D.Disk.state c.serve_opened.new.handle c.in-Ok-finish.disk.now (writes (mode_of c.serve_opened.new.handle)) g.D.Disk.may_leave (c.in-Ok-finish.frames, c.in-Ok-finish.disk) refl c.in-Ok-finish.ensures.back refl in
    closed_then _ store _ _ (closed_desk store) _ c.serve_opened.new.run.lines (g.R.Source.left c.serve_opened.new.script) c.serve_opened.new.run.refused (g.O.Sink.told c.serve_opened.new.out) (g.O.Sink.told c.reply_closed.new.out) so_far.1 so_far.0 c.in-Ok-finish.frames
    (DiskStands g.D.Disk.state store name _ c.in-Ok-finish.disk.now)
    (c.in-Ok-finish.ensures.cause.1 ∙ frames_open g.D.Disk.state store name _ c.serve_opened.new.handle so_far.0 so_far.4) c.reply_closed.ensures.answered so_far.2 so_far.3 so_far.5
    (desk_closed g.D.Disk.state store name _ c.in-Ok-finish.disk.now none_lost (open_desk store so_far.0)
    (disk_stands g.D.Disk.state store name false _ c.serve_opened.new.handle c.in-Ok-finish.disk.now _ c.in-Ok-finish.ensures.taps none_lost (open_desk store so_far.0) closes so_far.4))

pub returns-in-Err-finish-clause-served : goal.returns-in-Err-finish-clause-served
returns-in-Err-finish-clause-served g c = λ name store e s stands left.
    open_failed _ _ _ _ _ (OpenStands g.D.Disk.state store name false _ c.serve_opened.new.handle) (DiskStands g.D.Disk.state store name _ c.in-Err-finish.disk.now)
    (disk_lost g.D.Disk.state store name false _ c.serve_opened.new.handle c.in-Err-finish.disk.now _ c.in-Err-finish.ensures.taps) {T = Unit {0}} tt store (c.in-Ok.ensures.served name store e s stands left)

pub returns-in-Ok-finish-2-clause-served : goal.returns-in-Ok-finish-2-clause-served
returns-in-Ok-finish-2-clause-served g c = λ name store e s stands left.
    let closes = finished_tells g.D.Disk.state c.serve_opened.new.handle c.in-Ok-finish-2.disk.now (writes (mode_of c.serve_opened.new.handle)) g.D.Disk.may_leave (c.in-Ok-finish-2.field-0-0, c.in-Ok-finish-2.disk) refl c.in-Ok-finish-2.ensures.back refl in
    stopped_stands c.in-Err.stop _ _ _ _ _ (OpenStands g.D.Disk.state store name false _ c.serve_opened.new.handle) (DiskStands g.D.Disk.state store name _ c.in-Ok-finish-2.disk.now)
    (λ lost desk. disk_stands g.D.Disk.state store name false _ c.serve_opened.new.handle c.in-Ok-finish-2.disk.now _ c.in-Ok-finish-2.ensures.taps lost desk closes) (c.in-Err.ensures.served name store e s stands left)

pub returns-in-Err-finish-2-clause-served : goal.returns-in-Err-finish-2-clause-served
returns-in-Err-finish-2-clause-served g c = λ name store e s stands left.
    stopped_failed _ _ _ _ _ (OpenStands g.D.Disk.state store name false _ c.serve_opened.new.handle) (DiskStands g.D.Disk.state store name _ c.in-Err-finish-2.disk.now)
    (disk_lost g.D.Disk.state store name false _ c.serve_opened.new.handle c.in-Err-finish-2.disk.now _ c.in-Err-finish-2.ensures.taps) c.in-Err.stop (c.in-Err.ensures.served name store e s stands left)

pub returns-in-Ok-finish-2-clause-asked : goal.returns-in-Ok-finish-2-clause-asked
returns-in-Ok-finish-2-clause-asked g c = λ s left.
    closed_where_stopped c.in-Err.stop c.in-Err.stop asked_by _ _ s _ _ _ _ _ (c.in-Err.ensures.asked s left) (omega (arith, c.in-Ok-finish-2.ensures.asked)) (omega (arith, c.in-Ok-finish-2.ensures.asked))

pub returns-in-Err-finish-2-clause-asked : goal.returns-in-Err-finish-2-clause-asked
returns-in-Err-finish-2-clause-asked g c = λ s left.
    closed_where_stopped c.in-Err.stop File asked_by _ _ s _ _ _ _ _ (c.in-Err.ensures.asked s left) (omega (arith, c.in-Err-finish-2.ensures.asked)) (omega (arith, c.in-Err-finish-2.ensures.asked))

pub returns-in-Ok-finish-2-clause-written : goal.returns-in-Ok-finish-2-clause-written
returns-in-Ok-finish-2-clause-written g c = λ s left.
    let most = finish_writes c.serve_opened.new.handle (small_still g.D.Disk.state g.D.Disk.may_leave g.D.Disk.left_between c.args.handle c.serve_opened.new.handle c.serve_opened.ensures.leaves c.requires.small) in
    closed_where_stopped c.in-Err.stop c.in-Err.stop written_by _ _ s _ _ _ _ _ (c.in-Err.ensures.written s left) c.in-Ok-finish-2.ensures.written.later (omega (arith, c.in-Ok-finish-2.ensures.written.most, most))

pub returns-in-Err-finish-2-clause-written : goal.returns-in-Err-finish-2-clause-written
returns-in-Err-finish-2-clause-written g c = λ s left.
    let most = finish_writes c.serve_opened.new.handle (small_still g.D.Disk.state g.D.Disk.may_leave g.D.Disk.left_between c.args.handle c.serve_opened.new.handle c.serve_opened.ensures.leaves c.requires.small) in
    closed_where_stopped c.in-Err.stop File written_by _ _ s _ _ _ _ _ (c.in-Err.ensures.written s left) c.in-Err-finish-2.ensures.written.later (omega (arith, c.in-Err-finish-2.ensures.written.most, most))

pub returns-in-Ok-finish-clause-written : goal.returns-in-Ok-finish-clause-written
returns-in-Ok-finish-clause-written g c = λ s left.
    let most = finish_writes c.serve_opened.new.handle (small_still g.D.Disk.state g.D.Disk.may_leave g.D.Disk.left_between c.args.handle c.serve_opened.new.handle c.serve_opened.ensures.leaves c.requires.small) in
    closed_where_owed _ written_by _ _ s _ _ _ _ _ (c.in-Ok.ensures.written s left) c.in-Ok-finish.ensures.written.later (omega (arith, c.in-Ok-finish.ensures.written.most, most))

pub returns-in-Err-finish-clause-written : goal.returns-in-Err-finish-clause-written
returns-in-Err-finish-clause-written g c = λ s left.
    let most = finish_writes c.serve_opened.new.handle (small_still g.D.Disk.state g.D.Disk.may_leave g.D.Disk.left_between c.args.handle c.serve_opened.new.handle c.serve_opened.ensures.leaves c.requires.small) in
    closed_where_owed _ written_by _ _ s _ _ _ _ _ (c.in-Ok.ensures.written s left) c.in-Err-finish.ensures.written.later (omega (arith, c.in-Err-finish.ensures.written.most, most))
