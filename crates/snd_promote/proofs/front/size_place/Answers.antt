use Rattle.std.proofs.Common.{ap, arith}
use Rattle.snd_layout.specs.Shape.{Shape}
use Rattle.snd_promote.proofs.Faults.{early_start}
use Rattle.snd_promote.proofs.front.size_place.Goals as goal

pub overflow_sub-result : goal.overflow_sub-result
overflow_sub-result c = omega (arith, early_start c.args.layout.now c.keeps_rule.ensures c.requires, ap (λ (s : Shape). s.start) c.layout.view_is)

pub returns-clause-early : goal.returns-clause-early
returns-clause-early c = omega (arith, early_start c.args.layout.now c.keeps_rule.ensures c.requires, ap (λ (s : Shape). s.start) c.layout.view_is)
