use Rattle.std.proofs.Common.{rules, arith, ap, sym, List, ◌∙◌, ◌≡◌, None, Option, drop}
use Rattle.snd_sphere.specs.Found.{only_of, part}
use Rattle.snd_sphere.specs.Lines.{TextLine, are_named, before_end, lines_from, only}
use Rattle.snd_sphere.specs.declared.line.Line.{Line}
use Rattle.snd_sphere.proofs.Walks.{goes_on, name_passed, name_there, starts}
use Rattle.snd_sphere.proofs.lines.find_line.Goals as goal
use Rattle.snd_sphere.proofs.lines.find_line.Goals.{then-header-i-eq10+else-eq, then-has_name+else-is_some, else-has_name, else-header-i-eq10}

pub loop-i-init : goal.loop-i-init
loop-i-init c = record { rest = ap (λ (ls : List TextLine). only (are_named c.args.word.now (before_end ls))) (starts c.args.header.now); within = tt; ordered = omega arith }

pub loop-i-preserved : goal.loop-i-preserved
loop-i-preserved c = elim c.if-header-i-eq10.branch [
  | then-header-i-eq10+else-eq w ↦ elim w.if-has_name.branch [
    | then-has_name+else-is_some w' ↦
        let none : c.loop-i.line ≡ None = search rules in
        record {
          rest = rw (w.start-is, w.line-is, w'.line-is) (sym (ap only (name_there c.args.word.now c.args.header.now c.loop-i.start c.loop-i.i c.loop-i.invariant.ordered (search rules) (search rules) (search rules) (search rules)))
              ∙ ap (λ (o : Option Line). only_of c.args.header.now o (are_named c.args.word.now (before_end (lines_from c.loop-i.start (part c.args.header.now c.loop-i.start c.loop-i.i) (drop c.loop-i.i c.args.header.now))))) (sym none) ∙ c.loop-i.invariant.rest);
          within = rw (w.line-is, w'.line-is) (record { ordered = c.loop-i.invariant.ordered; within = omega (arith, c.requires.whole, c.loop-i-test.true) });
          ordered = omega (arith, w.start-is);
        }
    | else-has_name w' ↦ record {
      rest = rw (w.start-is, w.line-is, w'.line-is) (ap (only_of c.args.header.now c.loop-i.line) (name_passed c.args.word.now c.args.header.now c.loop-i.start c.loop-i.i c.loop-i.invariant.ordered (search rules) (search rules) (search rules) (search rules)) ∙ c.loop-i.invariant.rest);
      within = rw (w.line-is, w'.line-is) c.loop-i.invariant.within;
      ordered = omega (arith, w.start-is);
    }
  ]
  | else-header-i-eq10 w ↦ record {
    rest = rw (w.start-is, w.line-is) (ap (λ (ls : List TextLine). only_of c.args.header.now c.loop-i.line (are_named c.args.word.now (before_end ls))) (sym (goes_on c.args.header.now c.loop-i.start c.loop-i.i c.loop-i.invariant.ordered (search rules) (search rules))) ∙ c.loop-i.invariant.rest);
    within = rw w.line-is c.loop-i.invariant.within;
    ordered = omega (arith, w.start-is, c.loop-i.invariant.ordered);
  }
]
