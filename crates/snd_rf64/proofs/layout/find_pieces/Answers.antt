use Rattle.std.proofs.Common.{rules}
use Rattle.snd_wave.proofs.Public.{pieces_end}
use Rattle.snd_rf64.proofs.layout.find_pieces.Goals as goal

pub returns-clause-held : goal.returns-clause-held
returns-clause-held g c =
    pieces_end c.args.size c.args.ends.outer_end c.args.front.now.chunks c.in_ok-tail.tail c.add_pieces-2.new.pieces c.requires.outer c.requires.whole c.in_ok-tail.ensures.placed (search rules)
