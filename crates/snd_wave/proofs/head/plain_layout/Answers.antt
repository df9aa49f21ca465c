use Rattle.std.proofs.Common.{◌∙◌, ◌+◌, ap, sym}
use Rattle.snd_wave.proofs.Made.{shape_with}
use Rattle.snd_wave.proofs.PlainHeads.{plain_shape, plain_size}
use Rattle.snd_wave.proofs.head.plain_layout.Goals as goal

pub returns : goal.returns
unfolding shape_with
returns c =
    plain_shape c.args.reserve c.args.params _ c.inner_of.result c.side_of.result c.new.result c.are_good.ensures c.requires.fits
    (plain_size c.args.reserve c.args.params c.lead_size.result c.requires.reserve c.lead_size.ensures.size ∙ ap (λ k. k + c.lead_size.result) (sym c.plain_start.ensures.value))
    c.inner_of.ensures c.side_of.ensures c.new.ensures
