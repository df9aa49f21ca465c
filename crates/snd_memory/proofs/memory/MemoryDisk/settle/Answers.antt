use Rattle.std.proofs.Common.{is_ok}
use Rattle.snd_memory.proofs.AfterCall.{kept_sync}
use Rattle.snd_memory.proofs.memory.MemoryDisk.settle.Goals as goal

pub invariant_of-self : goal.invariant_of-self
invariant_of-self c = record { kept = kept_sync c.args.self.now.first.items c.args.self.now.bytes.items c.args.self.now.past.items c.push.new.self.items c.args.end (is_ok c.push.result) c.args.self.now.kept c.push.ensures.items }
