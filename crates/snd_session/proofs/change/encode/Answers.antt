use Rattle.std.proofs.Common.{ap, length, refl, sym, ⊎_elim, ◌/◌, rules}
use Rattle.snd_layout.specs.Shape.{Shape}
use Rattle.snd_file.specs.Handle.{known_of}
use Rattle.snd_rules.specs.Replies.{ok_line, says}
use Rattle.snd_rules.specs.Rules.{encode_rule}
use Rattle.snd_lines.specs.declared.refusal.Refusal.TheVariants.{ContainerFull, PartFrame, SampleRange}
use Rattle.snd_session.proofs.Followed.{carried_out, failed, refused_on}
use Rattle.snd_session.proofs.Refused.{encode_free, encode_full, encode_part, encode_range}
use Rattle.snd_rules.proofs.Public.{blocks_within}
use Rattle.snd_session.proofs.change.encode.Goals as goal

pub returns-in-Ok : goal.returns-in-Ok
returns-in-Ok g c =
    let h = known_of c.args.file.now in
    let xs = c.args.samples.now in
    carried_out g.D.Disk g.O.Sink (encode_rule xs) c.say_ok.result c.args.file.now c.args.out.now c.encode_frames.new.self c.say_ok.new.out (ok_line (length xs / h.shape.params.channels))
    c.encode_frames.ensures.loan (encode_free xs h.shape h.write_place c.in-Ok.ensures.left.1) c.say_ok.ensures.sent (search rules)
    (λ e here. ap (λ (s : Shape). says (ok_line (length xs / s.params.channels))) (sym here.shape)) (λ none. refl) c.in-Ok.ensures.stands
    c.in-Ok.ensures.left.2 (search rules) (search rules) (search rules) (search rules)
    (λ changes on. c.in-Ok.ensures.leaves (⊎_elim (λ is. is) (λ is. is) on)) (λ changes on opened e rest. (opened, c.in-Ok.ensures.rests (⊎_elim (λ is. is) (λ is. is) on) opened e rest)) (λ changes on. absurd (cc)) (search rules)
    (blocks_within _ _ _ h.automatic c.encode_frames.ensures.written)

pub returns-in-Err-DiskFault : goal.returns-in-Err-DiskFault
returns-in-Err-DiskFault g c =
    let h = known_of c.args.file.now in
    let xs = c.args.samples.now in
    let leaves = rw c.in-Err-DiskFault.field-0-is at c.in-Err-DiskFault.ensures.leaves in
    failed g.D.Disk g.O.Sink (encode_rule xs) c.args.file.now c.args.out.now c.encode_frames.new.self
    c.encode_frames.ensures.loan (encode_free xs h.shape h.write_place (search rules)) (search rules) (search rules) (search rules)
    (search rules) (search rules) (λ on. leaves (⊎_elim (λ is. is) (λ is. is) on)) (search rules)
    (blocks_within _ _ _ h.automatic c.encode_frames.ensures.written)

pub returns-in-Err-SampleRange : goal.returns-in-Err-SampleRange
returns-in-Err-SampleRange g c =
    let h = known_of c.args.file.now in
    let xs = c.args.samples.now in
    let left = rw c.in-Err-SampleRange.field-0-is at c.in-Err-SampleRange.ensures.left in
    let here = rw c.in-Err-SampleRange.field-0-is at c.in-Err-SampleRange.ensures.stands in
    refused_on g.D.Disk g.O.Sink (encode_rule xs) c.refuse-in-Err-SampleRange.result c.args.file.now c.args.out.now c.encode_frames.new.self c.refuse-in-Err-SampleRange.new.out SampleRange
    c.encode_frames.ensures.loan (encode_range xs h.shape h.write_place left.1.0 left.1.1) c.refuse-in-Err-SampleRange.ensures.sent c.refuse-in-Err-SampleRange.ensures.said left.2 here.0 here.1

pub returns-in-Err-ContainerFull : goal.returns-in-Err-ContainerFull
returns-in-Err-ContainerFull g c =
    let h = known_of c.args.file.now in
    let xs = c.args.samples.now in
    let left = rw c.in-Err-ContainerFull.field-0-is at c.in-Err-ContainerFull.ensures.left in
    let here = rw c.in-Err-ContainerFull.field-0-is at c.in-Err-ContainerFull.ensures.stands in
    refused_on g.D.Disk g.O.Sink (encode_rule xs) c.refuse-in-Err-ContainerFull.result c.args.file.now c.args.out.now c.encode_frames.new.self c.refuse-in-Err-ContainerFull.new.out ContainerFull
    c.encode_frames.ensures.loan (encode_full xs h.shape h.write_place left.1.0 left.1.1 left.1.2) c.refuse-in-Err-ContainerFull.ensures.sent c.refuse-in-Err-ContainerFull.ensures.said left.2 here.0 here.1

pub returns-in-Err-PartFrame : goal.returns-in-Err-PartFrame
returns-in-Err-PartFrame g c =
    let left = rw c.in-Err-PartFrame.field-0-is at c.in-Err-PartFrame.ensures.left in
    let here = rw c.in-Err-PartFrame.field-0-is at c.in-Err-PartFrame.ensures.stands in
    refused_on g.D.Disk g.O.Sink (encode_rule c.args.samples.now) c.refuse.result c.args.file.now c.args.out.now c.encode_frames.new.self c.refuse.new.out PartFrame
    c.encode_frames.ensures.loan (encode_part c.args.samples.now (known_of c.args.file.now).shape (known_of c.args.file.now).write_place left.1) c.refuse.ensures.sent c.refuse.ensures.said left.2 here.0 here.1
