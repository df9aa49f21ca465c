use Rattle.std.proofs.Common.{◌≡◌, ◌∙◌, ◌*◌, arith}
use Rattle.snd_interleave.specs.Held.{pairs_in}
use Rattle.snd_interleave.proofs.PairNumbers.{pairs_counted}
use Rattle.snd_interleave.proofs.held.U8Held.are_counted.Goals as goal

pub returns : goal.returns
returns c = λ codec served.
    let half : pairs_in c.args._block.now ≡ c.args._count * c.args._channels = omega (arith, c.requires) in
    pairs_counted codec served.0 c.args._block.now ∙ half
