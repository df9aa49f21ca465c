use Rattle.std.proofs.Common.{rules, arith, ap, sym, ◌∙◌}
use Rattle.std.specs.List.{list_any}
use Rattle.snd_sphere.specs.Lines.{is_end}
use Rattle.snd_sphere.proofs.Walks.{goes_on, not_end, starts}
use Rattle.snd_sphere.proofs.lines.has_end.Goals as goal
use Rattle.snd_sphere.proofs.lines.has_end.Goals.{then-header-i-eq10+else-eq, else-header-i-eq10}

pub loop-i-init : goal.loop-i-init
loop-i-init c = record { rest = ap (list_any is_end) (starts c.args.header.now); ordered = omega arith }

pub loop-i-preserved : goal.loop-i-preserved
loop-i-preserved c = elim c.if-header-i-eq10.branch [
  | then-header-i-eq10+else-eq w ↦ record {
    rest = rw w.start-is (not_end c.args.header.now c.loop-i.start c.loop-i.i c.loop-i.invariant.ordered (search rules) (search rules) (search rules) ∙ c.loop-i.invariant.rest);
    ordered = omega (arith, w.start-is);
  }
  | else-header-i-eq10 w ↦ record {
    rest = rw w.start-is (ap (list_any is_end) (sym (goes_on c.args.header.now c.loop-i.start c.loop-i.i c.loop-i.invariant.ordered (search rules) (search rules))) ∙ c.loop-i.invariant.rest);
    ordered = omega (arith, w.start-is, c.loop-i.invariant.ordered);
  }
]
