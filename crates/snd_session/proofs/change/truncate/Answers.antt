use Rattle.std.proofs.Common.{refl, rules}
use Rattle.snd_file.specs.Handle.{known_of}
use Rattle.snd_rules.specs.Replies.{ok_line}
use Rattle.snd_rules.specs.Rules.{truncate_rule}
use Rattle.snd_lines.specs.declared.refusal.Refusal.TheVariants.{SeekRange, TrailingData}
use Rattle.snd_session.proofs.Followed.{carried_out, failed, refused_on}
use Rattle.snd_session.proofs.Refused.{truncate_free, truncate_past, truncate_trailing}
use Rattle.snd_session.proofs.change.truncate.Goals as goal

pub returns-in-Ok : goal.returns-in-Ok
returns-in-Ok g c =
    carried_out g.D.Disk g.O.Sink (truncate_rule c.args.to) c.say_ok.result c.args.file.now c.args.out.now c.truncate.new.self c.say_ok.new.out (ok_line c.args.to)
    c.truncate.ensures.loan (truncate_free c.args.to (known_of c.args.file.now) c.in-Ok.ensures.left.0) c.say_ok.ensures.sent c.say_ok.ensures.said (λ e here. refl) (λ none. refl) c.in-Ok.ensures.stands
    c.in-Ok.ensures.left.1 (search rules) (search rules) (search rules) (search rules) (λ changes on. c.in-Ok.ensures.leaves) (λ changes on opened e rest. (opened, c.in-Ok.ensures.rests opened e rest)) (λ changes on. absurd (cc)) (search rules) (search rules)

pub returns-in-Err-DiskFault : goal.returns-in-Err-DiskFault
returns-in-Err-DiskFault g c =
    let left = rw c.in-Err-DiskFault.field-0-is at c.in-Err-DiskFault.ensures.left in
    let leaves = rw c.in-Err-DiskFault.field-0-is at c.in-Err-DiskFault.ensures.leaves in
    failed g.D.Disk g.O.Sink (truncate_rule c.args.to) c.args.file.now c.args.out.now c.truncate.new.self
    c.truncate.ensures.loan (truncate_free c.args.to (known_of c.args.file.now) left.0) refl (search rules) (search rules) (search rules) (search rules) (λ on. leaves) (search rules) (search rules)

pub returns-in-Err-SeekRange : goal.returns-in-Err-SeekRange
returns-in-Err-SeekRange g c =
    let left = rw c.in-Err-SeekRange.field-0-is at c.in-Err-SeekRange.ensures.left in
    let here = rw c.in-Err-SeekRange.field-0-is at c.in-Err-SeekRange.ensures.stands in
    refused_on g.D.Disk g.O.Sink (truncate_rule c.args.to) c.refuse.result c.args.file.now c.args.out.now c.truncate.new.self c.refuse.new.out SeekRange
    c.truncate.ensures.loan (truncate_past c.args.to (known_of c.args.file.now).shape (search rules)) c.refuse.ensures.sent c.refuse.ensures.said (search rules) here.0 here.1

pub returns-in-Err-TrailingData : goal.returns-in-Err-TrailingData
returns-in-Err-TrailingData g c =
    let left = rw c.in-Err-TrailingData.field-0-is at c.in-Err-TrailingData.ensures.left in
    let here = rw c.in-Err-TrailingData.field-0-is at c.in-Err-TrailingData.ensures.stands in
    refused_on g.D.Disk g.O.Sink (truncate_rule c.args.to) c.refuse-in-Err-TrailingData.result c.args.file.now c.args.out.now c.truncate.new.self c.refuse-in-Err-TrailingData.new.out TrailingData
    c.truncate.ensures.loan (truncate_trailing c.args.to (known_of c.args.file.now).shape (search rules) (search rules)) c.refuse-in-Err-TrailingData.ensures.sent c.refuse-in-Err-TrailingData.ensures.said (search rules) here.0 here.1
