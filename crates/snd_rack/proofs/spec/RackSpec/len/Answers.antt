use Rattle.std.proofs.Common.{length, ap, sym, ◌∙◌, arith}
use Rattle.snd_rack.specs.Spec.{item_of, parts}
use Rattle.snd_rack.proofs.Listed.{length_said, parts_some}
use Rattle.snd_rack.proofs.spec.RackSpec.len.Goals as goal

pub returns-clause-count : goal.returns-clause-count
returns-clause-count c = c.self.invariant.all ∙ sym (length_said item_of (parts 44 c.self.inside.text.now) c.self.invariant.each) ∙ ap length c.self.view_is

pub returns-clause-some : goal.returns-clause-some
returns-clause-some c = omega (arith, c.self.invariant.all, parts_some 44 c.self.inside.text.now)
