use Rattle.std.proofs.Common.{◌≡◌, ◌∙◌, length, arith}
use Rattle.snd_chunks.proofs.Heads.{agree_whole, chunk_is, whole_length}
use Rattle.snd_chunks.proofs.head.head_at.Goals as goal

pub returns-clause-told : goal.returns-clause-told
returns-clause-told g c = λ b told.
    let size : c.args.size ≡ length b = c.requires ∙ g.met.D.Disk.size_told c.args.disk.now b told in
    chunk_is c.args.order b _ c.args.place c.chunk_of.result (whole_length 8 c.args.place _ b (c.in_ok-fill.ensures.told b told) (omega arith)) (omega arith) (agree_whole 8 c.args.place _ b (c.in_ok-fill.ensures.told b told)) c.chunk_of.ensures.id c.chunk_of.ensures.len c.chunk_of.ensures.at c.chunk_of.ensures.next
