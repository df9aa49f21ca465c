use Rattle.std.proofs.Common.{Ok, Err, codes, refl}
use Rattle.snd_meta.specs.Broadcast.{Broadcast}
use Rattle.snd_file.specs.Handle.{known_of}
use Rattle.snd_edits.specs.Pieces.{first_piece}
use Rattle.snd_edits.specs.TagsHeld.{broadcast_of}
use Rattle.snd_rules.specs.Replies.{bext_text}
use Rattle.snd_rules.specs.Rules.{finds_broadcast, piece_refusal}
use Rattle.snd_lines.specs.declared.refusal.Refusal.TheVariants.{BadBext}
use Rattle.snd_session.proofs.Decided.{asks_more, decides_piece, gathered_reply}
use Rattle.snd_session.proofs.Tells.{told}
use Rattle.snd_session.proofs.asking.say_broadcast.Goals as goal

pub returns-in-Ok : goal.returns-in-Ok
returns-in-Ok g c =
    told g.D.Disk g.O.Sink BadBext bext_text broadcast_of (λ g. piece_refusal (first_piece (codes "bext") g.shape)) finds_broadcast c.say_gathered.result c.args.file.now c.args.out.now c.broadcast.new.file c.say_gathered.new.out (Ok c.in-Ok.bext)
    (record { loan = c.broadcast.ensures.loan; answers = c.in-Ok.ensures.answers; stands = c.broadcast.ensures.stands; faults = c.in-Ok.ensures.faults; reads = c.broadcast.ensures.reads; asked = asks_more g.D.Disk.state _ _ (c.broadcast.ensures.asked); decides = decides_piece (codes "bext") BadBext finds_broadcast (known_of c.args.file.now) (known_of c.broadcast.new.file) (Ok c.in-Ok.bext) refl c.requires c.in-Ok.ensures.left })
    (gathered_reply g.O.Sink c.bext_text.result (bext_text c.in-Ok.bext) _ _ _ c.bext_text.ensures c.say_gathered.ensures)

pub returns-in-Err : goal.returns-in-Err
returns-in-Err g c =
    told g.D.Disk g.O.Sink BadBext bext_text broadcast_of (λ g. piece_refusal (first_piece (codes "bext") g.shape)) finds_broadcast c.say_lack.result c.args.file.now c.args.out.now c.broadcast.new.file c.say_lack.new.out (Err c.in-Err.error)
    (record { loan = c.broadcast.ensures.loan; answers = c.in-Err.ensures.answers; stands = c.broadcast.ensures.stands; faults = c.in-Err.ensures.faults; reads = c.broadcast.ensures.reads; asked = asks_more g.D.Disk.state _ _ (c.broadcast.ensures.asked); decides = decides_piece {T = Broadcast} (codes "bext") BadBext finds_broadcast (known_of c.args.file.now) (known_of c.broadcast.new.file) (Err c.in-Err.error) refl c.requires c.in-Err.ensures.left })
    c.say_lack.ensures
