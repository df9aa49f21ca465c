use Rattle.std.proofs.Common.{sym, ◌∙◌}
use Rattle.snd_lines.specs.Lines.{cue_line}
use Rattle.snd_lines.proofs.Parts.{one_more}
use Rattle.snd_lines.proofs.texts.push_cues.Goals as goal

pub loop-i-preserved : goal.loop-i-preserved
loop-i-preserved c =
    one_more cue_line c.args.cues.now c.loop-i.i c.unwrap.result c.loop-i.text.items c.push_cue.new.text.items (sym c.get.ensures ∙ c.unwrap.ensures) c.in_ok-push_cue.ensures
    ∙ c.loop-i.invariant
