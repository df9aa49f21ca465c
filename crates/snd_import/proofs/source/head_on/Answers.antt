use Rattle.std.proofs.Common.{◌≡◌, ◌∙◌, ℕ, List, length, take}
use Rattle.snd_import.proofs.Heads.{head_plain, read_head_is}
use Rattle.snd_import.proofs.source.head_on.Goals as goal

pub returns-in-Ok-clause-found : goal.returns-in-Ok-clause-found
returns-in-Ok-clause-found g c = λ b told.
    c.read_head.ensures.head ∙ read_head_is b (take c.in-Ok.count c.read_at.new.into) c.in-Ok.count _ (g.met.D.Disk.size_told c.args.disk.now b told) c.in-Ok.ensures.value (c.in-Ok.ensures.bytes.front b told)

pub returns-in-Ok-clause-fixed : goal.returns-in-Ok-clause-fixed
returns-in-Ok-clause-fixed g c = head_plain (take c.in-Ok.count c.read_at.new.into) c.read_head.result c.read_head.ensures.head
