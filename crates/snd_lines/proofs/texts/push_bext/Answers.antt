use Rattle.snd_lines.proofs.Parts.{seven_lines}
use Rattle.snd_lines.proofs.texts.push_bext.Goals as goal

pub returns : goal.returns
returns c =
    seven_lines c.args.bext.now c.bext_word.result.now c.time.result c.args.text.now.items c.push_field.new.text.items c.push_field-2.new.text.items
    c.push_field-3.new.text.items c.push_field-4.new.text.items c.push_field-5.new.text.items c.push_number_line.new.text.items c.push_field-6.new.text.items
    c.bext_word.ensures c.time.ensures c.in_ok-push_field.ensures c.in_ok-push_field-2.ensures c.in_ok-push_field-3.ensures c.in_ok-push_field-4.ensures
    c.in_ok-push_field-5.ensures c.in_ok-push_number_line.ensures c.in_ok-push_field-6.ensures
