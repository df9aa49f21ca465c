use Rattle.std.proofs.Common.{◌≡◌, ◌++◌, drop}
use Rattle.snd_wave.specs.Relaid.{relaid, relaid_end}
use Rattle.snd_wave.proofs.laying.lay_pieces.Given as goal

abbrev pub invariant-loop-piece : goal.invariant-loop-piece
invariant-loop-piece l =
    record {
      laid : l.into ++ relaid l.place (drop l.piece-index l.pieces) ≡ l.fn.into ++ relaid l.fn.place l.pieces;
      end : relaid_end l.place (drop l.piece-index l.pieces) ≡ relaid_end l.fn.place l.pieces;
    }
