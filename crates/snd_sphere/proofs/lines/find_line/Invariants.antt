use Rattle.std.proofs.Common.{◌≡◌, ◌≤◌, drop, IfSome}
use Rattle.snd_sphere.specs.Found.{StandsBefore, only_of, part}
use Rattle.snd_sphere.specs.Lines.{are_named, before_end, lines_from, named, only}
use Rattle.snd_sphere.proofs.lines.find_line.Given as goal

abbrev pub invariant-loop-i : goal.invariant-loop-i
invariant-loop-i l = record {
  rest : only_of l.header l.line (are_named l.word (before_end (lines_from l.start (part l.header l.start l.i) (drop l.i l.header)))) ≡ only (named l.word l.header);
  within : IfSome l.line (StandsBefore 1024);
  ordered : l.start ≤ l.i;
}
