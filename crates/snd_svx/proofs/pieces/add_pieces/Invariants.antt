use Rattle.std.proofs.Common.{◌≡◌, ◌++◌, take}
use Rattle.snd_svx.specs.Layout.{pieces_of}
use Rattle.snd_svx.proofs.pieces.add_pieces.Given as goal

abbrev pub invariant-loop-chunk : goal.invariant-loop-chunk
invariant-loop-chunk l = l.pieces ≡ l.fn.pieces ++ pieces_of l.after (take l.chunk-index l.chunks)
