use Rattle.std.proofs.Common.{List, Ok, Err, codes, refl}
use Rattle.snd_meta.specs.declared.cue.CuePoint.{CuePoint}
use Rattle.snd_file.specs.Handle.{known_of}
use Rattle.snd_edits.specs.Pieces.{first_piece}
use Rattle.snd_edits.specs.TagsHeld.{points_of}
use Rattle.snd_rules.specs.Replies.{points_text}
use Rattle.snd_rules.specs.Rules.{finds_points, piece_refusal}
use Rattle.snd_lines.specs.declared.refusal.Refusal.TheVariants.{BadCue}
use Rattle.snd_session.proofs.Decided.{asks_more, decides_piece, gathered_reply}
use Rattle.snd_session.proofs.Tells.{told}
use Rattle.snd_session.proofs.asking.say_points.Goals as goal

pub returns-in-Ok : goal.returns-in-Ok
returns-in-Ok g c =
    told g.D.Disk g.O.Sink BadCue points_text points_of (λ g. piece_refusal (first_piece (codes "cue ") g.shape)) finds_points c.say_gathered.result c.args.file.now c.args.out.now c.points.new.file c.say_gathered.new.out (Ok c.in-Ok.points)
    (record { loan = c.points.ensures.loan; answers = c.in-Ok.ensures.answers; stands = c.points.ensures.stands; faults = c.in-Ok.ensures.faults; reads = c.points.ensures.reads; asked = asks_more g.D.Disk.state _ _ (c.points.ensures.asked); decides = decides_piece (codes "cue ") BadCue finds_points (known_of c.args.file.now) (known_of c.points.new.file) (Ok c.in-Ok.points) refl c.requires c.in-Ok.ensures.left })
    (gathered_reply g.O.Sink c.points_text.result (points_text c.in-Ok.points) _ _ _ c.points_text.ensures c.say_gathered.ensures)

pub returns-in-Err : goal.returns-in-Err
returns-in-Err g c =
    told g.D.Disk g.O.Sink BadCue points_text points_of (λ g. piece_refusal (first_piece (codes "cue ") g.shape)) finds_points c.say_lack.result c.args.file.now c.args.out.now c.points.new.file c.say_lack.new.out (Err c.in-Err.error)
    (record { loan = c.points.ensures.loan; answers = c.in-Err.ensures.answers; stands = c.points.ensures.stands; faults = c.in-Err.ensures.faults; reads = c.points.ensures.reads; asked = asks_more g.D.Disk.state _ _ (c.points.ensures.asked); decides = decides_piece {T = List CuePoint} (codes "cue ") BadCue finds_points (known_of c.args.file.now) (known_of c.points.new.file) (Err c.in-Err.error) refl c.requires c.in-Err.ensures.left })
    c.say_lack.ensures
