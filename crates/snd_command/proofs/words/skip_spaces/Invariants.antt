use Rattle.std.proofs.Common.{◌≡◌, ◌+◌, drop}
use Rattle.std.specs.List.{prefix_len}
use Rattle.snd_command.specs.Words.{is_space}
use Rattle.snd_command.proofs.words.skip_spaces.Given as goal

abbrev pub invariant-loop-i : goal.invariant-loop-i
invariant-loop-i l = l.i + prefix_len is_space (drop l.i l.text) ≡ prefix_len is_space l.text
