use Rattle.std.proofs.Common.{◌≡◌, inl, inr, ℕ, Vec, arith, rules}
use Rattle.std.specs.declared.alloc.Global.{Global}
use Rattle.snd_memory.specs.Listed.{IsDoubled, with_sector_of}
use Rattle.snd_memory.proofs.ListedBytes.{all_added, contains_read}
use Rattle.snd_memory.proofs.images.doubled.Goals as goal

pub loop-x-preserved : goal.loop-x-preserved
loop-x-preserved c =
    let is_in = contains_read c.args.all.now c.loop-x.x-index c.x-item.result (omega arith) c.x-item.is in
    let copied : c.in_ok-to_vec.field-0.items ≡ c.x-item.result.items = search rules in
    let changed : c.in_ok-with_sector.field-0.items ≡ with_sector_of c.x-item.result.items c.args.z.now c.args.sector = search rules in
    let once = all_added (λ (v : Vec ℕ Global). IsDoubled c.args.all.now c.args.z.now c.args.sector v.items) c.loop-x.made.items c.add.new.all.items c.in_ok-to_vec.field-0 c.in_ok-add.ensures c.loop-x.invariant (c.x-item.result, is_in, inl copied) in
    all_added (λ (v : Vec ℕ Global). IsDoubled c.args.all.now c.args.z.now c.args.sector v.items) c.add.new.all.items c.add-in-loop-x.new.all.items c.in_ok-with_sector.field-0 c.in_ok-add-2.ensures once (c.x-item.result, is_in, inr changed)
