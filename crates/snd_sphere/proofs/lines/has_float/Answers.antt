use Rattle.std.proofs.Common.{rules, arith, ap, sym, List, ◌∙◌}
use Rattle.std.specs.List.{list_any}
use Rattle.snd_sphere.specs.Layout.{is_float}
use Rattle.snd_sphere.specs.Lines.{TextLine, before_end}
use Rattle.snd_sphere.proofs.Walks.{float_passed, goes_on, starts}
use Rattle.snd_sphere.proofs.lines.has_float.Goals as goal
use Rattle.snd_sphere.proofs.lines.has_float.Goals.{then-header-i-eq10+else-eq+else-starts_with, else-header-i-eq10}

pub loop-i-init : goal.loop-i-init
loop-i-init c = record { rest = ap (λ (ls : List TextLine). list_any is_float (before_end ls)) (starts c.args.header.now); ordered = omega arith }

pub loop-i-preserved : goal.loop-i-preserved
loop-i-preserved c = elim c.if-header-i-eq10.branch [
  | then-header-i-eq10+else-eq+else-starts_with w ↦ record {
    rest = rw w.start-is (float_passed c.args.header.now c.loop-i.start c.loop-i.i c.loop-i.invariant.ordered (search rules) (search rules) (search rules) (search rules) ∙ c.loop-i.invariant.rest);
    ordered = omega (arith, w.start-is);
  }
  | else-header-i-eq10 w ↦ record {
    rest = rw w.start-is (ap (λ (ls : List TextLine). list_any is_float (before_end ls)) (sym (goes_on c.args.header.now c.loop-i.start c.loop-i.i c.loop-i.invariant.ordered (search rules) (search rules))) ∙ c.loop-i.invariant.rest);
    ordered = omega (arith, w.start-is, c.loop-i.invariant.ordered);
  }
]
