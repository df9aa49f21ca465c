use Rattle.std.proofs.Common.{refl, sym, ◌∙◌, ap, rules}
use Rattle.snd_layout.specs.Shape.{Shape}
use Rattle.snd_file.specs.Handle.{known_of}
use Rattle.snd_rules.specs.Replies.{ok_line, says}
use Rattle.snd_rules.specs.Rules.{auto_rule}
use Rattle.snd_lines.specs.declared.refusal.Refusal.TheVariants.{Straddle}
use Rattle.snd_session.proofs.Followed.{carried_out, failed, refused_on}
use Rattle.snd_session.proofs.Refused.{auto_free}
use Rattle.snd_session.proofs.change.set_auto.Goals as goal

pub returns-in-Ok : goal.returns-in-Ok
returns-in-Ok g c =
    let h = known_of c.args.file.now in
    carried_out g.D.Disk g.O.Sink (auto_rule c.args.on) c.say_ok.result c.args.file.now c.args.out.now c.set_auto.new.self c.say_ok.new.out (ok_line c.in-Ok.frames)
    c.set_auto.ensures.loan (auto_free c.args.on h.shape c.in-Ok.ensures.left.1) c.say_ok.ensures.sent c.say_ok.ensures.said
    (λ e here. ap (λ n. says (ok_line n)) (sym (c.in-Ok.ensures.left.2 ∙ ap (λ (s : Shape). s.frames) here.shape))) (λ none. ap (λ n. says (ok_line n)) (sym c.in-Ok.ensures.left.2)) c.in-Ok.ensures.stands
    c.in-Ok.ensures.left.3 (search rules) (search rules) (search rules) (search rules) (λ changes on. c.in-Ok.ensures.leaves) (λ changes on opened e rest. (opened, c.in-Ok.ensures.rests opened e rest)) (λ changes on. c.in-Ok.ensures.begins on) (search rules) (search rules)

pub returns-in-Err-DiskFault : goal.returns-in-Err-DiskFault
returns-in-Err-DiskFault g c =
    let h = known_of c.args.file.now in
    let left = rw c.in-Err-DiskFault.field-0-is at c.in-Err-DiskFault.ensures.left in
    let leaves = rw c.in-Err-DiskFault.field-0-is at c.in-Err-DiskFault.ensures.leaves in
    failed g.D.Disk g.O.Sink (auto_rule c.args.on) c.args.file.now c.args.out.now c.set_auto.new.self
    c.set_auto.ensures.loan (auto_free c.args.on h.shape left.1) refl (search rules) (search rules) (search rules) (search rules) (λ on. leaves) (search rules) (search rules)

pub returns-in-Err-Straddle : goal.returns-in-Err-Straddle
returns-in-Err-Straddle g c =
    let left = rw c.in-Err-Straddle.field-0-is at c.in-Err-Straddle.ensures.left in
    let here = rw c.in-Err-Straddle.field-0-is at c.in-Err-Straddle.ensures.stands in
    refused_on g.D.Disk g.O.Sink (auto_rule c.args.on) c.refuse.result c.args.file.now c.args.out.now c.set_auto.new.self c.refuse.new.out Straddle
    c.set_auto.ensures.loan (search rules) c.refuse.ensures.sent c.refuse.ensures.said (search rules) here.0 here.1
