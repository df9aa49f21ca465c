use Rattle.std.proofs.Common.{subst, ⊎_elim, inl, inr}
use Rattle.snd_memory.specs.Memory.{Notes, MayNote}
use Rattle.snd_memory.specs.declared.call.Call.TheVariants.{Write}
use Rattle.snd_memory.specs.declared.call.End.TheVariants.{Done, Broken}
use Rattle.snd_memory.specs.declared.call.Made.{Made}
use Rattle.snd_memory.specs.declared.memory.MemoryDisk.{MemoryDisk}
use Rattle.snd_memory.proofs.AfterCall.{mixes_write, all_write, passes_may, between_write, held_write, on_err, on_ok}
use Rattle.snd_memory.proofs.memory.MemoryDiskDisk.write_at.Goals as goal

pub returns-in-None-clause-images : goal.returns-in-None-clause-images
returns-in-None-clause-images c =
    let made : Made = record { call = Write c.args.at c.in_ok-copy.copy; end = Done } in
    let noted = subst (λ (d : MemoryDisk). MayNote d c.write.new.self made) c.failure.ensures c.write.ensures.noted in
    mixes_write _ c.write.new.self c.args.at c.in_ok-copy.copy Done c.args.from.now c.in_ok-copy.ensures.copied
    (subst (λ (d : MemoryDisk). MayNote (record d { calls = c.failure.new.self.calls }) c.write.new.self made) c.begin_write.ensures.state noted)

pub returns-in-None-clause-all_images : goal.returns-in-None-clause-all_images
returns-in-None-clause-all_images c =
    let made : Made = record { call = Write c.args.at c.in_ok-copy.copy; end = Done } in
    on_ok c.write.result _ _ (λ notes. all_write _ c.write.new.self c.args.at c.in_ok-copy.copy Done c.args.from.now c.in_ok-copy.ensures.copied
    (subst (λ (d : MemoryDisk). Notes (record d { calls = c.failure.new.self.calls }) c.write.new.self made) c.begin_write.ensures.state
    (subst (λ (d : MemoryDisk). Notes d c.write.new.self made) c.failure.ensures notes))) c.write.ensures.ok

pub returns-in-None-clause-time : goal.returns-in-None-clause-time
returns-in-None-clause-time c =
    let made : Made = record { call = Write c.args.at c.in_ok-copy.copy; end = Done } in
    let noted = subst (λ (d : MemoryDisk). MayNote d c.write.new.self made) c.failure.ensures c.write.ensures.noted in
    passes_may _ c.write.new.self made
    (subst (λ (d : MemoryDisk). MayNote (record d { calls = c.failure.new.self.calls }) c.write.new.self made) c.begin_write.ensures.state noted)

pub returns-in-Ok-clause-broken : goal.returns-in-Ok-clause-broken
returns-in-Ok-clause-broken c =
    let made : Made = record { call = Write c.args.at c.in_ok-copy.copy; end = Broken c.in-Some.sectors } in
    let noted = subst (λ (d : MemoryDisk). MayNote d c.break_off.new.self made) c.failure.ensures c.break_off.ensures.noted in
    let found = between_write _ c.break_off.new.self c.in-Some.sectors c.args.at c.in_ok-copy.copy c.args.from.now c.in_ok-copy.ensures.copied
    (subst (λ (d : MemoryDisk). MayNote (record d { calls = c.failure.new.self.calls }) c.break_off.new.self made) c.begin_write.ensures.state noted) in
    on_err c.break_off.result _ (record { size = found.size; contents = found.contents; told = found.told; name = found.name })

pub returns-in-Ok-clause-images : goal.returns-in-Ok-clause-images
returns-in-Ok-clause-images c =
    let made : Made = record { call = Write c.args.at c.in_ok-copy.copy; end = Broken c.in-Some.sectors } in
    let noted = subst (λ (d : MemoryDisk). MayNote d c.break_off.new.self made) c.failure.ensures c.break_off.ensures.noted in
    mixes_write _ c.break_off.new.self c.args.at c.in_ok-copy.copy (Broken c.in-Some.sectors) c.args.from.now c.in_ok-copy.ensures.copied
    (subst (λ (d : MemoryDisk). MayNote (record d { calls = c.failure.new.self.calls }) c.break_off.new.self made) c.begin_write.ensures.state noted)

pub returns-in-Ok-clause-all_or_none : goal.returns-in-Ok-clause-all_or_none
returns-in-Ok-clause-all_or_none c =
    let made : Made = record { call = Write c.args.at c.in_ok-copy.copy; end = Broken c.in-Some.sectors } in
    let noted = subst (λ (d : MemoryDisk). MayNote d c.break_off.new.self made) c.failure.ensures c.break_off.ensures.noted in
    on_err c.break_off.result _ (⊎_elim inl
    (λ same. inr (record { keeps = record { size = same.keeps.size; contents = same.keeps.contents; name = same.keeps.name }; images = same.images }))
    (held_write _ c.break_off.new.self (Broken c.in-Some.sectors) c.args.at c.in_ok-copy.copy c.args.from.now c.in_ok-copy.ensures.copied
    (subst (λ (d : MemoryDisk). MayNote (record d { calls = c.failure.new.self.calls }) c.break_off.new.self made) c.begin_write.ensures.state noted)))

pub returns-in-Ok-clause-time : goal.returns-in-Ok-clause-time
returns-in-Ok-clause-time c =
    let made : Made = record { call = Write c.args.at c.in_ok-copy.copy; end = Broken c.in-Some.sectors } in
    let noted = subst (λ (d : MemoryDisk). MayNote d c.break_off.new.self made) c.failure.ensures c.break_off.ensures.noted in
    passes_may _ c.break_off.new.self made
    (subst (λ (d : MemoryDisk). MayNote (record d { calls = c.failure.new.self.calls }) c.break_off.new.self made) c.begin_write.ensures.state noted)
