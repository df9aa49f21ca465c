use Rattle.std.proofs.Common.{subst}
use Rattle.snd_memory.specs.Memory.{Notes, MayNote}
use Rattle.snd_memory.specs.declared.call.Call.TheVariants.{Write}
use Rattle.snd_memory.specs.declared.call.End.TheVariants.{Done}
use Rattle.snd_memory.specs.declared.call.Made.{Made}
use Rattle.snd_memory.specs.declared.memory.MemoryDisk.{MemoryDisk}
use Rattle.snd_memory.proofs.AfterCall.{mixes_write, all_write, passes_may, on_ok}
use Rattle.snd_memory.proofs.steady.SteadyDiskDisk.write_at.Goals as goal

pub returns-clause-images : goal.returns-clause-images
returns-clause-images c =
    let made : Made = record { call = Write c.args.at c.in_ok-copy.copy; end = Done } in
    mixes_write _ c.write.new.self c.args.at c.in_ok-copy.copy Done c.args.from.now c.in_ok-copy.ensures.copied
    (subst (λ (d : MemoryDisk). MayNote d c.write.new.self made) c.begin_write.ensures.state c.write.ensures.noted)

pub returns-clause-all_images : goal.returns-clause-all_images
returns-clause-all_images c =
    let made : Made = record { call = Write c.args.at c.in_ok-copy.copy; end = Done } in
    on_ok c.write.result _ _ (λ notes. all_write _ c.write.new.self c.args.at c.in_ok-copy.copy Done c.args.from.now c.in_ok-copy.ensures.copied
    (subst (λ (d : MemoryDisk). Notes d c.write.new.self made) c.begin_write.ensures.state notes)) c.write.ensures.ok

pub returns-clause-time : goal.returns-clause-time
returns-clause-time c =
    let made : Made = record { call = Write c.args.at c.in_ok-copy.copy; end = Done } in
    passes_may _ c.write.new.self made (subst (λ (d : MemoryDisk). MayNote d c.write.new.self made) c.begin_write.ensures.state c.write.ensures.noted)
