use Rattle.std.proofs.Common.{refl, sym, ◌∙◌, ap, rules}
use Rattle.snd_layout.specs.Shape.{Shape}
use Rattle.snd_file.specs.Handle.{known_of}
use Rattle.snd_reservations.specs.States.{promoted_to}
use Rattle.snd_rules.specs.Replies.{ok_line, says}
use Rattle.snd_rules.specs.Rules.{promote_rule}
use Rattle.snd_lines.specs.declared.refusal.Refusal.TheVariants.{NoRoom, TrailingData}
use Rattle.snd_session.proofs.Followed.{carried_out, failed, refused_on}
use Rattle.snd_session.proofs.Reserving.{promote_free, promote_roomless, promote_trailing}
use Rattle.snd_session.proofs.change.promote.Goals as goal

-- the promoted file is the one from which later states come
pub returns-in-Ok : goal.returns-in-Ok
returns-in-Ok g c =
    let h = known_of c.args.file.now in
    carried_out g.D.Disk g.O.Sink promote_rule c.say_ok.result c.args.file.now c.args.out.now c.promote.new.self c.say_ok.new.out (ok_line c.in-Ok.frames)
    c.promote.ensures.loan (promote_free h.shape c.in-Ok.ensures.left.0.1) c.say_ok.ensures.sent c.say_ok.ensures.said
    (λ e here. ap (λ n. says (ok_line n)) (sym (c.in-Ok.ensures.left.1 ∙ ap (λ (s : Shape). s.frames) here.shape))) (λ none. ap (λ n. says (ok_line n)) (sym c.in-Ok.ensures.left.1)) c.in-Ok.ensures.stands
    c.in-Ok.ensures.left.2 (search rules) (search rules) (search rules) (search rules) (λ changes on. c.in-Ok.ensures.leaves)
    (λ changes on opened e rest. ((promoted_to e).bytes, c.in-Ok.ensures.rests opened e rest)) (λ changes on. absurd (cc)) (search rules) (search rules)

pub returns-in-Err-DiskFault : goal.returns-in-Err-DiskFault
returns-in-Err-DiskFault g c =
    let h = known_of c.args.file.now in
    let left = rw c.in-Err-DiskFault.field-0-is at c.in-Err-DiskFault.ensures.left in
    let leaves = rw c.in-Err-DiskFault.field-0-is at c.in-Err-DiskFault.ensures.leaves in
    failed g.D.Disk g.O.Sink promote_rule c.args.file.now c.args.out.now c.promote.new.self
    c.promote.ensures.loan (promote_free h.shape left.0.1) refl (search rules) (search rules) (search rules) (search rules) (λ on. leaves) (search rules) (search rules)

pub returns-in-Err-NoRoom : goal.returns-in-Err-NoRoom
returns-in-Err-NoRoom g c =
    let h = known_of c.args.file.now in
    let left = rw c.in-Err-NoRoom.field-0-is at c.in-Err-NoRoom.ensures.left in
    let here = rw c.in-Err-NoRoom.field-0-is at c.in-Err-NoRoom.ensures.stands in
    refused_on g.D.Disk g.O.Sink promote_rule c.refuse.result c.args.file.now c.args.out.now c.promote.new.self c.refuse.new.out NoRoom
    c.promote.ensures.loan (promote_roomless h.shape left.1) c.refuse.ensures.sent c.refuse.ensures.said left.2 here.0 here.1

pub returns-in-Err-TrailingData : goal.returns-in-Err-TrailingData
returns-in-Err-TrailingData g c =
    let h = known_of c.args.file.now in
    let left = rw c.in-Err-TrailingData.field-0-is at c.in-Err-TrailingData.ensures.left in
    let here = rw c.in-Err-TrailingData.field-0-is at c.in-Err-TrailingData.ensures.stands in
    refused_on g.D.Disk g.O.Sink promote_rule c.refuse-in-Err-TrailingData.result c.args.file.now c.args.out.now c.promote.new.self c.refuse-in-Err-TrailingData.new.out TrailingData
    c.promote.ensures.loan (promote_trailing h.shape left.1 left.2) c.refuse-in-Err-TrailingData.ensures.sent c.refuse-in-Err-TrailingData.ensures.said left.3 here.0 here.1
