use Rattle.std.proofs.Common.{arith}
use Rattle.snd_racking.proofs.Turns.{piece_is}
use Rattle.snd_racking.proofs.pieces.piece_size.Goals as goal

pub returns : goal.returns
returns c =
    let is = piece_is c.args.channels c.args.after 16384 c.requires.some c.requires.some_after (omega (arith, c.requires.most_after)) in
    record { some = is.0; whole = is.1; fits = is.2 }
