use Rattle.std.proofs.Common.{◌≡◌, ◌∙◌, length, arith}
use Rattle.snd_w64.proofs.Heads.{chunk_is}
use Rattle.snd_w64.proofs.walk.head_at.Goals as goal

pub returns-clause-told : goal.returns-clause-told
returns-clause-told g c = λ b told.
    let size : c.args.size ≡ length b = c.requires ∙ g.met.D.Disk.size_told c.args.disk.now b told in
    chunk_is b _ c.args.place c.chunk_of.result (c.in_ok-fill.ensures.told b told) (omega arith) (omega arith) c.chunk_of.ensures.value
