use Rattle.std.proofs.Common.{rules}
use Rattle.snd_memory.specs.declared.call.Call.TheVariants.{Write}
use Rattle.snd_memory.specs.declared.call.End.TheVariants.{Done}
use Rattle.snd_memory.proofs.AfterCall.{kept_push}
use Rattle.snd_memory.proofs.memory.MemoryDisk.write.Goals as goal

pub invariant_of-self-2 : goal.invariant_of-self-2
invariant_of-self-2 c = record { kept = kept_push c.args.self.now.first.items c.args.self.now.bytes.items _ c.args.self.now.past.items c.push.new.self.items (record { call = Write c.args.at c.args.copy; end = Done }) c.args.self.now.kept (search rules) (search rules) }
