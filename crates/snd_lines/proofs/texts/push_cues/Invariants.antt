use Rattle.std.proofs.Common.{◌≡◌, ◌++◌, drop}
use Rattle.std.specs.List.{flat_map}
use Rattle.snd_lines.specs.Lines.{cue_line}
use Rattle.snd_lines.proofs.texts.push_cues.Given as goal

abbrev pub invariant-loop-i : goal.invariant-loop-i
invariant-loop-i l = l.text.items ++ flat_map cue_line (drop l.i l.cues) ≡ l.initial.text.items ++ flat_map cue_line l.cues
