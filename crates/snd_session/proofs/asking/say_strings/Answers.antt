use Rattle.std.proofs.Common.{List, Ok, Err}
use Rattle.snd_meta.specs.Info.{Entry}
use Rattle.snd_file.specs.Handle.{known_of}
use Rattle.snd_edits.specs.TagsHeld.{texts_of}
use Rattle.snd_rules.specs.Replies.{texts_text}
use Rattle.snd_rules.specs.Rules.{finds_texts}
use Rattle.snd_lines.specs.declared.refusal.Refusal.TheVariants.{BadInfo}
use Rattle.snd_session.proofs.Decided.{decides_info, gathered_reply, list_refusal}
use Rattle.snd_session.proofs.Tells.{told}
use Rattle.snd_session.proofs.asking.say_strings.Goals as goal

pub returns-in-Ok : goal.returns-in-Ok
returns-in-Ok g c =
    told g.D.Disk g.O.Sink BadInfo texts_text texts_of (λ g. list_refusal g.shape) finds_texts c.say_gathered.result c.args.file.now c.args.out.now c.texts.new.file c.say_gathered.new.out (Ok c.in-Ok.list)
    (record { loan = c.texts.ensures.loan; answers = c.in-Ok.ensures.answers; stands = c.texts.ensures.stands; faults = c.in-Ok.ensures.faults; reads = c.texts.ensures.reads; asked = c.texts.ensures.asked; decides = decides_info (known_of c.args.file.now) (known_of c.texts.new.file) (Ok c.in-Ok.list) c.requires c.in-Ok.ensures.left })
    (gathered_reply g.O.Sink c.texts_text.result (texts_text c.in-Ok.list) _ _ _ c.texts_text.ensures c.say_gathered.ensures)

pub returns-in-Err : goal.returns-in-Err
returns-in-Err g c =
    told g.D.Disk g.O.Sink BadInfo texts_text texts_of (λ g. list_refusal g.shape) finds_texts c.say_lack.result c.args.file.now c.args.out.now c.texts.new.file c.say_lack.new.out (Err c.in-Err.error)
    (record { loan = c.texts.ensures.loan; answers = c.in-Err.ensures.answers; stands = c.texts.ensures.stands; faults = c.in-Err.ensures.faults; reads = c.texts.ensures.reads; asked = c.texts.ensures.asked; decides = decides_info {T = List Entry} (known_of c.args.file.now) (known_of c.texts.new.file) (Err c.in-Err.error) c.requires c.in-Err.ensures.left })
    c.say_lack.ensures
