use Rattle.std.proofs.Common.{◌⊎◌, ⊎_elim, ℕ, List, Vec, sym, subst, arith}
use Rattle.std.specs.List.{All}
use Rattle.std.specs.declared.alloc.Global.{Global}
use Rattle.std.proofs.lemmas.List.Elements.{All-weaker}
use Rattle.snd_disk.specs.Bytes.{Mix}
use Rattle.snd_memory.specs.Listed.{IsOneOf, IsMixedFrom}
use Rattle.snd_memory.proofs.ListedBytes.{holds_of_one, contains_read}
use Rattle.snd_memory.proofs.images.mixes_of_each.Goals as goal

pub loop-y-preserved : goal.loop-y-preserved
loop-y-preserved c =
    let mixed = subst (λ (y : List ℕ). All (λ v. Mix y c.args.z.now v.items) c.in_ok-more.more.items) c.deref.ensures.value c.in_ok-more.ensures in
    let is_in = contains_read c.args.all.now c.loop-y.y-index c.y-item.result (omega arith) c.y-item.is in
    All-weaker (λ (v : Vec ℕ Global). IsOneOf c.loop-y.made.items v.items ⊎ IsOneOf c.deref-in-loop-y.result.now v.items) (λ (v : Vec ℕ Global). IsMixedFrom c.args.all.now c.args.z.now v.items)
    (λ v h. ⊎_elim (holds_of_one (IsMixedFrom c.args.all.now c.args.z.now) c.loop-y.made.items c.loop-y.invariant v.items)
    (λ one. let mix = holds_of_one (Mix c.y-item.result.items c.args.z.now) c.deref-in-loop-y.result.now (subst (λ (l : List (Vec ℕ Global)). All (λ w. Mix c.y-item.result.items c.args.z.now w.items) l) (sym c.deref-in-loop-y.ensures.value) mixed) v.items one in (c.y-item.result, is_in, mix)) h)
    c.add_each.new.all.items c.in_ok-add_each.ensures
