use Rattle.std.proofs.Common.{refl, sym, ◌∙◌, subst}
use Rattle.std.specs.Prelude.{codes}
use Rattle.snd_meta.specs.Broadcast.{field_size}
use Rattle.snd_file.specs.Handle.{known_of}
use Rattle.snd_edits.specs.TagDrafts.{bext_with}
use Rattle.snd_rules.specs.Rules.{Rule, known_grounds, text_refusal}
use Rattle.snd_session.specs.Follows.{Follows}
use Rattle.snd_lines.specs.declared.refusal.Refusal.TheVariants.{BadCommand}
use Rattle.snd_session.proofs.Followed.{refused_on}
use Rattle.snd_session.proofs.Puts.{field_rule, follows_drafting, not_text, set_bext_is, text_why}
use Rattle.snd_session.proofs.setting.put_field.Goals as goal

pub returns-then-not-is_text : goal.returns-then-not-is_text
returns-then-not-is_text g c =
    let text = c.args.text.now in
    let key = c.args.key in
    let why = not_text (field_size key) text (known_grounds (known_of c.args.file.now)) (sym c.is_text.ensures ∙ c.if-not-is_text.true) in
    subst (λ (rule : Rule). Follows g.D.Disk g.O.Sink rule c.refuse.result c.args.file.now c.args.out.now c.args.file.now c.refuse.new.out) (set_bext_is key text c.requires.is_text)
    (refused_on g.D.Disk g.O.Sink (field_rule key text) c.refuse.result c.args.file.now c.args.out.now c.args.file.now c.refuse.new.out BadCommand
    refl why c.refuse.ensures.sent c.refuse.ensures.said refl (λ e here. here) refl)

pub returns : goal.returns
returns g c =
    let text = c.args.text.now in
    let key = c.args.key in
    let is = sym c.is_text.ensures ∙ c.if-not-is_text.false in
    let set = c.set_field.ensures in
    subst (λ (rule : Rule). Follows g.D.Disk g.O.Sink rule c.say_put.result c.args.file.now c.args.out.now c.set_field.new.file c.say_put.new.out) (set_bext_is key text c.requires.is_text)
    (follows_drafting g.D.Disk g.O.Sink (codes "bext") (text_refusal (field_size key) text) (bext_with key text)
    c.say_put.result c.args.file.now c.args.out.now c.set_field.new.file c.say_put.new.out c.set_field.result
    (record { loan = set.loan; left = set.left; sets = set.sets; puts = set.puts; tells = set.tells; time = set.time; faults = set.faults; written = set.written; asked = set.asked; said = c.say_put.ensures })
    (text_why (field_size key) text (known_grounds (known_of c.args.file.now)) c.set_field.result is set.too_long))
