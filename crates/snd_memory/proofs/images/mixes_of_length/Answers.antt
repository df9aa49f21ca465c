use Rattle.std.proofs.Common.{ℕ, List, Vec, sym, subst}
use Rattle.std.specs.List.{All}
use Rattle.std.specs.declared.alloc.Global.{Global}
use Rattle.std.proofs.lemmas.List.Elements.{All-weaker}
use Rattle.snd_memory.specs.Listed.{IsDoubled, IsMixOfLen}
use Rattle.snd_memory.proofs.ListedBytes.{mix_doubled}
use Rattle.snd_memory.proofs.images.mixes_of_length.Goals as goal

pub loop-sector-preserved : goal.loop-sector-preserved
loop-sector-preserved c =
    let each = subst (λ (l : List (Vec ℕ Global)). All (λ v. IsMixOfLen c.args.y.now c.args.z.now c.args.len v.items) l) (sym c.deref.ensures.value) c.loop-sector.invariant in
    All-weaker (λ (v : Vec ℕ Global). IsDoubled c.deref.result.now c.args.z.now c.loop-sector.sector v.items) (λ (v : Vec ℕ Global). IsMixOfLen c.args.y.now c.args.z.now c.args.len v.items)
    (λ v is. mix_doubled c.args.y.now c.args.z.now c.args.len c.deref.result.now c.loop-sector.sector each v.items is) c.in_ok-all.all.items c.in_ok-all.ensures
