use Rattle.snd_voc.proofs.Filling.{filled}
use Rattle.snd_voc.proofs.reads.read_from.Goals as goal

pub returns-in-Ok-clause-told : goal.returns-in-Ok-clause-told
returns-in-Ok-clause-told g c = λ b told.
    let size = g.met.D.Disk.size_told c.args.disk.now b told in
    filled b c.args.into.now c.read_at.new.into c.args.at c.in-Ok.field-0 c.requires.zeros (c.in-Ok.ensures.bytes.front b told) c.in-Ok.ensures.bytes.rest (rw (← size) c.in-Ok.ensures.value)
