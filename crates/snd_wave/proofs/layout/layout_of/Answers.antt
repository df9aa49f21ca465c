use Rattle.std.proofs.Common.{refl}
use Rattle.snd_wave.proofs.Shapes.{counted_bytes, keeps_rule}
use Rattle.snd_wave.proofs.layout.layout_of.Goals as goal

pub invariant_of-result : goal.invariant_of-result
invariant_of-result c =
    keeps_rule _ c.args.parts.fact c.args.parts.sound c.args.ends.held c.args.count refl refl refl refl c.frame_count-frames.ensures c.inner_field-inner.ensures c.side_field-side.ensures
    c.are_good.ensures c.requires.fits c.requires.fact c.requires.sound c.requires.held c.requires.reserve c.requires.pieces

pub returns-clause-short : goal.returns-clause-short
returns-clause-short c = rw c.frame_count-frames.ensures (counted_bytes c.args.params c.args.ends.held c.args.count c.are_good.ensures c.requires.fits)
