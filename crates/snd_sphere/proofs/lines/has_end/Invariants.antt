use Rattle.std.proofs.Common.{◌≡◌, ◌≤◌, drop}
use Rattle.std.specs.List.{list_any}
use Rattle.snd_sphere.specs.Found.{part}
use Rattle.snd_sphere.specs.Layout.{has_end}
use Rattle.snd_sphere.specs.Lines.{is_end, lines_from}
use Rattle.snd_sphere.proofs.lines.has_end.Given as goal

abbrev pub invariant-loop-i : goal.invariant-loop-i
invariant-loop-i l = record {
  rest : list_any is_end (lines_from l.start (part l.header l.start l.i) (drop l.i l.header)) ≡ has_end l.header;
  ordered : l.start ≤ l.i;
}
