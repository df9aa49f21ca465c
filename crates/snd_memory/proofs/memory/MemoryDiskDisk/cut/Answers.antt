use Rattle.std.proofs.Common.{subst, ⊎_elim, inl, inr}
use Rattle.snd_memory.specs.Memory.{Notes, MayNote}
use Rattle.snd_memory.specs.declared.call.Call.TheVariants.{Cut}
use Rattle.snd_memory.specs.declared.call.End.TheVariants.{Done, Broken}
use Rattle.snd_memory.specs.declared.call.Made.{Made}
use Rattle.snd_memory.specs.declared.memory.MemoryDisk.{MemoryDisk}
use Rattle.snd_memory.proofs.AfterCall.{mixes_cut, all_cut, passes_may, between_cut, held_cut, on_err, on_ok}
use Rattle.snd_memory.proofs.memory.MemoryDiskDisk.cut.Goals as goal

pub returns-in-None-clause-images : goal.returns-in-None-clause-images
returns-in-None-clause-images c =
    let made : Made = record { call = Cut c.args.len; end = Done } in
    mixes_cut _ c.shorten.new.self c.args.len Done (subst (λ (d : MemoryDisk). MayNote d c.shorten.new.self made) c.failure.ensures c.shorten.ensures.noted)

pub returns-in-None-clause-all_images : goal.returns-in-None-clause-all_images
returns-in-None-clause-all_images c =
    let made : Made = record { call = Cut c.args.len; end = Done } in
    on_ok c.shorten.result _ _ (λ notes. all_cut _ c.shorten.new.self c.args.len Done (subst (λ (d : MemoryDisk). Notes d c.shorten.new.self made) c.failure.ensures notes)) c.shorten.ensures.ok

pub returns-in-None-clause-time : goal.returns-in-None-clause-time
returns-in-None-clause-time c =
    let made : Made = record { call = Cut c.args.len; end = Done } in
    passes_may _ c.shorten.new.self made (subst (λ (d : MemoryDisk). MayNote d c.shorten.new.self made) c.failure.ensures c.shorten.ensures.noted)

pub returns-in-Ok-clause-broken : goal.returns-in-Ok-clause-broken
returns-in-Ok-clause-broken c =
    let made : Made = record { call = Cut c.args.len; end = Broken c.in-Some.sectors } in
    on_err c.break_off.result _ (between_cut _ c.break_off.new.self c.in-Some.sectors c.args.len c.requires (subst (λ (d : MemoryDisk). MayNote d c.break_off.new.self made) c.failure.ensures c.break_off.ensures.noted))

pub returns-in-Ok-clause-images : goal.returns-in-Ok-clause-images
returns-in-Ok-clause-images c =
    let made : Made = record { call = Cut c.args.len; end = Broken c.in-Some.sectors } in
    mixes_cut _ c.break_off.new.self c.args.len (Broken c.in-Some.sectors) (subst (λ (d : MemoryDisk). MayNote d c.break_off.new.self made) c.failure.ensures c.break_off.ensures.noted)

pub returns-in-Ok-clause-time : goal.returns-in-Ok-clause-time
returns-in-Ok-clause-time c =
    let made : Made = record { call = Cut c.args.len; end = Broken c.in-Some.sectors } in
    passes_may _ c.break_off.new.self made (subst (λ (d : MemoryDisk). MayNote d c.break_off.new.self made) c.failure.ensures c.break_off.ensures.noted)

pub returns-in-Ok-clause-all_or_none : goal.returns-in-Ok-clause-all_or_none
returns-in-Ok-clause-all_or_none c =
    let made : Made = record { call = Cut c.args.len; end = Broken c.in-Some.sectors } in
    on_err c.break_off.result _ (⊎_elim inl
    (λ same. inr (record { keeps = record { size = same.keeps.size; contents = same.keeps.contents; name = same.keeps.name }; images = same.images }))
    (held_cut _ c.break_off.new.self (Broken c.in-Some.sectors) c.args.len (subst (λ (d : MemoryDisk). MayNote d c.break_off.new.self made) c.failure.ensures c.break_off.ensures.noted)))
