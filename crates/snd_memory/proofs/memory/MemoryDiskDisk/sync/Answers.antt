use Rattle.std.proofs.Common.{◌≡◌, Some, inl, subst, ap, ◌∙◌}
use Rattle.snd_memory.specs.Memory.{Notes, MayNote}
use Rattle.snd_memory.specs.declared.call.Call.TheVariants.{Sync}
use Rattle.snd_memory.specs.declared.call.End.TheVariants.{Done, Broken}
use Rattle.snd_memory.specs.declared.call.Made.{Made}
use Rattle.snd_memory.specs.declared.memory.MemoryDisk.{MemoryDisk}
use Rattle.snd_memory.proofs.AfterCall.{only_settled, same_unsettled, passes_may, on_err, on_ok}
use Rattle.snd_memory.proofs.memory.MemoryDiskDisk.sync.Goals as goal

pub returns-in-None-clause-done : goal.returns-in-None-clause-done
returns-in-None-clause-done c =
    let made : Made = record { call = Sync; end = Done } in
    on_ok c.settle.result _ _ (λ notes x left. ap (λ b. Some b) notes.bytes ∙ only_settled _ c.settle.new.self notes x left) c.settle.ensures.ok

pub returns-in-None-clause-time : goal.returns-in-None-clause-time
returns-in-None-clause-time c =
    let made : Made = record { call = Sync; end = Done } in
    passes_may _ c.settle.new.self made (subst (λ (d : MemoryDisk). MayNote d c.settle.new.self made) c.failure.ensures c.settle.ensures.noted)

-- a fault that was counted since changes nothing of it
since : (old mid new : MemoryDisk) (c : Made) → new ≡ record mid { faults = new.faults } → Notes old mid c → Notes old new c
since old mid new c is notes = record {
  first = ap (λ d. d.first.items) is ∙ notes.first;
  past = ap (λ d. d.past.items) is ∙ notes.past;
  bytes = ap (λ d. d.bytes.items) is ∙ notes.bytes;
  name = ap (λ d. d.name) is ∙ notes.name;
  written = ap (λ d. d.written) is ∙ notes.written;
  asked = ap (λ d. d.asked) is ∙ notes.asked;
}

pub returns-in-Ok-clause-images : goal.returns-in-Ok-clause-images
returns-in-Ok-clause-images c =
    let made : Made = record { call = Sync; end = Broken c.in-Some.sectors } in
    let notes = since c.failure.new.self c.settle-in-Some.new.self c.fail.new.self made c.fail.ensures.state c.in-Ok.ensures.ok in
    on_err c.fail.result _ (same_unsettled _ c.fail.new.self c.in-Some.sectors (subst (λ (d : MemoryDisk). Notes d c.fail.new.self made) c.failure.ensures notes))

pub returns-in-Ok-clause-time : goal.returns-in-Ok-clause-time
returns-in-Ok-clause-time c =
    let made : Made = record { call = Sync; end = Broken c.in-Some.sectors } in
    let notes = since c.failure.new.self c.settle-in-Some.new.self c.fail.new.self made c.fail.ensures.state c.in-Ok.ensures.ok in
    passes_may _ c.fail.new.self made (inl (subst (λ (d : MemoryDisk). Notes d c.fail.new.self made) c.failure.ensures notes))
