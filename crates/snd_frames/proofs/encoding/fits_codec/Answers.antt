use Rattle.snd_edits.proofs.Public.{fits_16_bits}
use Rattle.snd_frames.proofs.encoding.fits_codec.Goals as goal

pub returns : goal.returns
returns c =
    let both = fits_16_bits c.args.layout.now.params.codec c.args.from.now c.requires in
    (λ yes. both.0 (c.put_in_range.ensures.in_range.0 yes), λ fit. c.put_in_range.ensures.in_range.1 (both.1 fit))
