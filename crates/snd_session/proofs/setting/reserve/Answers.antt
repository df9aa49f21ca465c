use Rattle.std.proofs.Common.{refl, rules}
use Rattle.snd_file.specs.Handle.{known_of}
use Rattle.snd_rules.specs.Replies.{done_line}
use Rattle.snd_rules.specs.Rules.{reserve_rule}
use Rattle.snd_lines.specs.declared.refusal.Refusal.TheVariants.{AutoOn, FramesWritten, NoRoom}
use Rattle.snd_session.proofs.Followed.{carried_out, failed, refused_on}
use Rattle.snd_session.proofs.Puts.{auto, late, off}
use Rattle.snd_session.proofs.Reserving.{reserve_free, reserve_placeless}
use Rattle.snd_session.proofs.setting.reserve.Goals as goal

-- updates are not automatic where it is carried out
pub returns-in-Ok : goal.returns-in-Ok
returns-in-Ok g c =
    let h = known_of c.args.file.now in
    let may = c.in-Ok.ensures.left.0 in
    carried_out g.D.Disk g.O.Sink reserve_rule c.say_text.result c.args.file.now c.args.out.now c.reserve.new.self c.say_text.new.out done_line
    c.reserve.ensures.loan (reserve_free h may) c.say_text.ensures.sent (search rules) (λ e here. refl) (λ none. refl) c.in-Ok.ensures.stands
    c.in-Ok.ensures.left.1 (search rules) (search rules) (search rules) (search rules)
    (λ changes on. absurd (off h.automatic may.0.by_hand on)) (λ changes on. absurd (off h.automatic may.0.by_hand on)) (λ changes on. absurd (cc)) (search rules) (search rules)

pub returns-in-Err-DiskFault : goal.returns-in-Err-DiskFault
returns-in-Err-DiskFault g c =
    let h = known_of c.args.file.now in
    let left = rw c.in-Err-DiskFault.field-0-is at c.in-Err-DiskFault.ensures.left in
    failed g.D.Disk g.O.Sink reserve_rule c.args.file.now c.args.out.now c.reserve.new.self
    c.reserve.ensures.loan (reserve_free h left.0) refl (search rules) (search rules) (search rules) (search rules)
    (λ on. absurd (off h.automatic left.0.0.by_hand on)) (search rules) (search rules)

pub returns-in-Err-FramesWritten : goal.returns-in-Err-FramesWritten
returns-in-Err-FramesWritten g c =
    let h = known_of c.args.file.now in
    let left = rw c.in-Err-FramesWritten.field-0-is at c.in-Err-FramesWritten.ensures.left in
    let here = rw c.in-Err-FramesWritten.field-0-is at c.in-Err-FramesWritten.ensures.stands in
    refused_on g.D.Disk g.O.Sink reserve_rule c.refuse.result c.args.file.now c.args.out.now c.reserve.new.self c.refuse.new.out FramesWritten
    c.reserve.ensures.loan (late h _ left.1) c.refuse.ensures.sent c.refuse.ensures.said left.2 here.0 here.1

pub returns-in-Err-AutoOn : goal.returns-in-Err-AutoOn
returns-in-Err-AutoOn g c =
    let h = known_of c.args.file.now in
    let left = rw c.in-Err-AutoOn.field-0-is at c.in-Err-AutoOn.ensures.left in
    let here = rw c.in-Err-AutoOn.field-0-is at c.in-Err-AutoOn.ensures.stands in
    refused_on g.D.Disk g.O.Sink reserve_rule c.refuse-in-Err-AutoOn.result c.args.file.now c.args.out.now c.reserve.new.self c.refuse-in-Err-AutoOn.new.out AutoOn
    c.reserve.ensures.loan (auto h _ left.1 left.2) c.refuse-in-Err-AutoOn.ensures.sent c.refuse-in-Err-AutoOn.ensures.said left.3 here.0 here.1

pub returns-in-Err-NoRoom : goal.returns-in-Err-NoRoom
returns-in-Err-NoRoom g c =
    let h = known_of c.args.file.now in
    let left = rw c.in-Err-NoRoom.field-0-is at c.in-Err-NoRoom.ensures.left in
    let here = rw c.in-Err-NoRoom.field-0-is at c.in-Err-NoRoom.ensures.stands in
    refused_on g.D.Disk g.O.Sink reserve_rule c.refuse-in-Err-NoRoom.result c.args.file.now c.args.out.now c.reserve.new.self c.refuse-in-Err-NoRoom.new.out NoRoom
    c.reserve.ensures.loan (reserve_placeless h left.0 left.1) c.refuse-in-Err-NoRoom.ensures.sent c.refuse-in-Err-NoRoom.ensures.said left.2 here.0 here.1
