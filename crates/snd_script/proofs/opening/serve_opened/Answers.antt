use Rattle.std.proofs.Common.{false, refl}
use Rattle.snd_rules.specs.Desk.{OpenFile, closed_desk, open_desk}
use Rattle.snd_rules.specs.Edit.{opened_edit}
use Rattle.snd_session.specs.Handled.{handle_known, mode_of}
use Rattle.snd_rules.specs.Replies.{file_line, says}
use Rattle.snd_script.specs.Served.{none_lost}
use Rattle.snd_script.specs.Serving.{Moment, OpenStands, moment, steps_left}
use Rattle.snd_script.proofs.Chains.{line_stops}
use Rattle.snd_script.proofs.Openings.{answer_stops, counted_then, file_said, said_of_shape, served_open_then, shape_stands}
use Rattle.snd_script.proofs.Stepping.{stands_open}
use Rattle.snd_script.proofs.opening.serve_opened.Goals as goal

pub returns-in-Ok-clause-served : goal.returns-in-Ok-clause-served
returns-in-Ok-clause-served g c = λ name store e s stands left.
    let file : OpenFile = record { name = name; mode = mode_of c.args.handle.now; editing = e; taps = _ } in
    let m : Moment = moment c.args.run.now.lines (g.R.Source.left c.args.script.now) c.args.run.now.refused (g.O.Sink.told c.args.out.now) in
    let m' : Moment = moment c.args.run.now.lines (g.R.Source.left c.args.script.now) c.args.run.now.refused (g.O.Sink.told c.reply_opened.new.out) in
    served_open_then _ _ _ _ _ store (closed_desk store) (open_desk store file) m m' _ _ refl
    (file_said (g.R.Source.left c.args.script.now) c.args.run.now.lines c.args.run.now.refused (g.O.Sink.told c.args.out.now) (g.O.Sink.told c.reply_opened.new.out) s store file (handle_known c.args.handle.now).shape (shape_stands g.D.Disk.state c.args.handle.now e stands) c.in-Ok.ensures.answered)
    (c.serve_open.ensures.served name store e s stands left)

pub returns-in-Err-clause-served : goal.returns-in-Err-clause-served
returns-in-Err-clause-served g c = λ name store e s stands left.
    let file : OpenFile = record { name = name; mode = mode_of c.args.handle.now; editing = e; taps = _ } in
    let m : Moment = moment c.args.run.now.lines (g.R.Source.left c.args.script.now) c.args.run.now.refused (g.O.Sink.told c.args.out.now) in
    let m' : Moment = moment c.args.run.now.lines (g.R.Source.left c.args.script.now) c.args.run.now.refused (g.O.Sink.told c.reply_opened.new.out) in
    line_stops c.in-Err.stop _ (opened_edit store file) (steps_left (open_desk store file) m s) (closed_desk store) m m' (OpenStands g.D.Disk.state store name false _ c.args.handle.now)
    (answer_stops c.in-Err.stop (opened_edit store file) (says (file_line (handle_known c.args.handle.now).shape)) (closed_desk store) false false _ _ _ (said_of_shape _ _ (shape_stands g.D.Disk.state c.args.handle.now e stands)) c.in-Err.ensures.answered
    (stands_open g.D.Disk.state store name false _ _ c.args.handle.now c.args.handle.now e none_lost refl refl stands))

pub returns-in-Ok-clause-counted : goal.returns-in-Ok-clause-counted
returns-in-Ok-clause-counted g c = counted_then _ _ _ _ (record { shelf = refl; script = refl; out = c.in-Ok.ensures.faults }) c.serve_open.ensures.counted
