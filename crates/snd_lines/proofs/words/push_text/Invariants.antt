use Rattle.std.proofs.Common.{◌≡◌, ◌++◌, drop}
use Rattle.snd_lines.specs.Lines.{shown}
use Rattle.snd_lines.proofs.words.push_text.Given as goal

abbrev pub invariant-loop-c : goal.invariant-loop-c
invariant-loop-c l = l.text.items ++ shown (drop l.c-index l.value) ≡ l.initial.text.items ++ shown l.value
