use Rattle.std.proofs.Common.{refl, sym, ◌∙◌, ap, rules}
use Rattle.snd_layout.specs.Shape.{Shape}
use Rattle.snd_file.specs.Handle.{known_of}
use Rattle.snd_rules.specs.Replies.{ok_line, says}
use Rattle.snd_rules.specs.Rules.{trim_rule}
use Rattle.snd_lines.specs.declared.refusal.Refusal.TheVariants.{TrailingData}
use Rattle.snd_session.proofs.Followed.{carried_out, failed, refused_on}
use Rattle.snd_session.proofs.Refused.{trim_free}
use Rattle.snd_session.proofs.change.trim.Goals as goal

pub returns-in-Ok : goal.returns-in-Ok
returns-in-Ok g c =
    let h = known_of c.args.file.now in
    let frames = c.frames-frames.result in
    carried_out g.D.Disk g.O.Sink trim_rule c.say_ok.result c.args.file.now c.args.out.now c.trim.new.self c.say_ok.new.out (ok_line frames)
    c.trim.ensures.loan (trim_free h c.in-Ok.ensures.left.0) c.say_ok.ensures.sent c.say_ok.ensures.said
    (λ e here. ap (λ n. says (ok_line n)) (sym (c.frames-frames.ensures ∙ ap (λ (s : Shape). s.frames) here.shape))) (λ none. ap (λ n. says (ok_line n)) (sym c.frames-frames.ensures)) c.in-Ok.ensures.stands
    c.in-Ok.ensures.left.1 (search rules) (search rules) (search rules) (search rules) (λ changes on. c.in-Ok.ensures.leaves) (λ changes on opened e rest. (opened, c.in-Ok.ensures.rests opened e rest)) (λ changes on. absurd (cc)) (search rules) (search rules)

pub returns-in-Err-DiskFault : goal.returns-in-Err-DiskFault
returns-in-Err-DiskFault g c =
    let h = known_of c.args.file.now in
    let left = rw c.in-Err-DiskFault.field-0-is at c.in-Err-DiskFault.ensures.left in
    let leaves = rw c.in-Err-DiskFault.field-0-is at c.in-Err-DiskFault.ensures.leaves in
    failed g.D.Disk g.O.Sink trim_rule c.args.file.now c.args.out.now c.trim.new.self
    c.trim.ensures.loan (trim_free h left.0) refl (search rules) (search rules) (search rules) (search rules) (λ on. leaves) (search rules) (search rules)

pub returns-in-Err-TrailingData : goal.returns-in-Err-TrailingData
returns-in-Err-TrailingData g c =
    let left = rw c.in-Err-TrailingData.field-0-is at c.in-Err-TrailingData.ensures.left in
    let here = rw c.in-Err-TrailingData.field-0-is at c.in-Err-TrailingData.ensures.stands in
    refused_on g.D.Disk g.O.Sink trim_rule c.refuse.result c.args.file.now c.args.out.now c.trim.new.self c.refuse.new.out TrailingData
    c.trim.ensures.loan (search rules) c.refuse.ensures.sent c.refuse.ensures.said (search rules) here.0 here.1
