use Rattle.std.proofs.Common.{refl, sym, ◌∙◌}
use Rattle.std.specs.Prelude.{codes}
use Rattle.snd_file.specs.Handle.{known_of}
use Rattle.snd_edits.specs.TagDrafts.{info_with}
use Rattle.snd_rules.specs.Rules.{known_grounds, set_string_rule, text_refusal}
use Rattle.snd_lines.specs.declared.refusal.Refusal.TheVariants.{BadCommand}
use Rattle.snd_session.proofs.Followed.{refused_on}
use Rattle.snd_session.proofs.Puts.{follows_drafting, not_text, text_why}
use Rattle.snd_session.proofs.setting.put_text.Goals as goal

pub returns-then-not-is_text : goal.returns-then-not-is_text
returns-then-not-is_text g c =
    let text = c.args.text.now in
    let why = not_text 1024 text (known_grounds (known_of c.args.file.now)) (sym c.is_text.ensures ∙ c.if-not-is_text.true) in
    refused_on g.D.Disk g.O.Sink (set_string_rule c.args.key text) c.refuse.result c.args.file.now c.args.out.now c.args.file.now c.refuse.new.out BadCommand
    refl why c.refuse.ensures.sent c.refuse.ensures.said refl (λ e here. here) refl

pub returns : goal.returns
returns g c =
    let text = c.args.text.now in
    let is = sym c.is_text.ensures ∙ c.if-not-is_text.false in
    let set = c.set_text.ensures in
    follows_drafting g.D.Disk g.O.Sink (codes "LIST") (text_refusal 1024 text) (info_with c.args.key text)
    c.say_put.result c.args.file.now c.args.out.now c.set_text.new.file c.say_put.new.out c.set_text.result
    (record { loan = set.loan; left = set.left; sets = set.sets; puts = set.puts; tells = set.tells; time = set.time; faults = set.faults; written = set.written; asked = set.asked; said = c.say_put.ensures })
    (text_why 1024 text (known_grounds (known_of c.args.file.now)) c.set_text.result is set.too_long)
