use Rattle.std.proofs.Common.{◌≡◌, ◌+◌, ◌-◌, ◌++◌, length, replicate, take, drop, rules}
use Rattle.snd_disk.proofs.Lemmas.{over_lengthened}
use Rattle.snd_memory.proofs.memory.put_over.Goals as goal

pub returns-clause-ok : goal.returns-clause-ok
returns-clause-ok c =
    let longer : c.lengthen.new.bytes.items ≡ c.args.bytes.now.items ++ replicate (c.args.at + length c.args.from.now - length c.args.bytes.now.items) 0 = search rules in
    let put : c.copy_to.new.bytes ≡ take c.args.at c.lengthen.new.bytes.items ++ c.args.from.now ++ drop (c.args.at + length c.args.from.now) c.lengthen.new.bytes.items = search rules in
    over_lengthened c.args.bytes.now.items c.lengthen.new.bytes.items c.copy_to.new.bytes c.args.from.now c.args.at c.lengthen.new.bytes.len longer put (search rules)
