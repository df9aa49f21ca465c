use Rattle.std.proofs.Common.{refl, rules}
use Rattle.snd_w64.proofs.Shapes.{is_held, keeps_rule}
use Rattle.snd_w64.proofs.layout.layout_of.Goals as goal

pub invariant_of-result : goal.invariant_of-result
invariant_of-result c =
    keeps_rule _ c.args.parts.fact c.args.parts.sound c.held-held.result c.args.size c.args.count refl refl refl refl c.frame_count-frames.ensures c.inner_field-inner.ensures c.side_field-side.ensures c.new.ensures refl
    c.are_good.ensures c.requires.fits c.requires.fact c.requires.sound (search rules) (search rules)

pub returns-clause-held : goal.returns-clause-held
returns-clause-held c =
    is_held _ c.args.parts.sound c.held-held.result c.args.size c.args.count refl refl c.frame_count-frames.ensures c.new.ensures
    c.are_good.ensures c.requires.fits c.requires.sound (search rules)
