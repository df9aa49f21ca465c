use Rattle.std.proofs.Common.{◌≡◌, ◌++◌, drop}
use Rattle.snd_lines.specs.Lines.{behind_each, chunk_line}
use Rattle.snd_lines.proofs.chunks.push_chunks.Given as goal

abbrev pub invariant-loop-piece : goal.invariant-loop-piece
invariant-loop-piece l =
    l.text.items ++ behind_each l.words chunk_line (drop l.piece-index l.pieces)
    ≡ l.initial.text.items ++ behind_each l.words chunk_line l.pieces
