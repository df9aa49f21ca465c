use Rattle.std.proofs.Common.{◌≡◌, drop}
use Rattle.std.specs.List.{position_from}
use Rattle.snd_sphere.specs.Lines.{is_space}
use Rattle.snd_sphere.proofs.texts.first_space.Given as goal

abbrev pub invariant-loop-i : goal.invariant-loop-i
invariant-loop-i l = position_from is_space l.i (drop l.i l.text) ≡ position_from is_space 0 l.text
