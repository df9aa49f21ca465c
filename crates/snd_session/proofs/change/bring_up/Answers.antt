use Rattle.std.proofs.Common.{refl, sym, ◌∙◌, ap, rules}
use Rattle.snd_layout.specs.Shape.{Shape}
use Rattle.snd_rules.specs.Replies.{ok_line, says}
use Rattle.snd_rules.specs.Rules.{update_rule}
use Rattle.snd_session.proofs.Followed.{carried_out, failed}
use Rattle.snd_session.proofs.change.bring_up.Goals as goal

pub returns-in-Ok : goal.returns-in-Ok
returns-in-Ok g c =
    carried_out g.D.Disk g.O.Sink update_rule c.say_ok.result c.args.file.now c.args.out.now c.update_now.new.self c.say_ok.new.out (ok_line c.in-Ok.frames)
    c.update_now.ensures.loan refl c.say_ok.ensures.sent c.say_ok.ensures.said
    (λ e here. ap (λ n. says (ok_line n)) (sym (c.in-Ok.ensures.left.1 ∙ ap (λ (s : Shape). s.frames) here.shape))) (λ none. ap (λ n. says (ok_line n)) (sym c.in-Ok.ensures.left.1)) c.in-Ok.ensures.stands
    (search rules) (search rules) (search rules) (search rules) (search rules) (λ changes on. c.in-Ok.ensures.leaves) (λ changes on opened e rest. (opened, c.in-Ok.ensures.rests opened e rest)) (λ changes on. absurd (cc)) (search rules) (search rules)

pub returns-in-Err-DiskFault : goal.returns-in-Err-DiskFault
returns-in-Err-DiskFault g c =
    let leaves = rw c.in-Err-DiskFault.field-0-is at c.in-Err-DiskFault.ensures.leaves in
    failed g.D.Disk g.O.Sink update_rule c.args.file.now c.args.out.now c.update_now.new.self
    c.update_now.ensures.loan refl refl (search rules) (search rules) (search rules) (search rules) (λ on. leaves) (search rules) (search rules)
