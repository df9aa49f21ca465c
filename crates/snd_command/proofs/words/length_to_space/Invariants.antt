use Rattle.std.proofs.Common.{◌≡◌, ◌+◌, drop}
use Rattle.std.specs.List.{position_or_len}
use Rattle.snd_command.specs.Words.{is_space}
use Rattle.snd_command.proofs.words.length_to_space.Given as goal

abbrev pub invariant-loop-i : goal.invariant-loop-i
invariant-loop-i l = l.i + position_or_len is_space (drop l.i l.text) ≡ position_or_len is_space l.text
