use Rattle.std.proofs.Common.{◌≡◌, ◌⊎◌, inl, inr, ℕ, List, Vec, sym, subst, arith, rules}
use Rattle.std.specs.declared.alloc.Global.{Global}
use Rattle.snd_memory.specs.Listed.{IsOneOf}
use Rattle.snd_memory.proofs.ListedBytes.{all_added, one_of_itself, one_of_read}
use Rattle.snd_memory.proofs.images.add_each.Goals as goal

pub loop-x-init : goal.loop-x-init
loop-x-init c = λ k d lt. inl (one_of_itself c.args.all.now.items k d lt)

pub loop-x-preserved : goal.loop-x-preserved
loop-x-preserved c =
    let copied : c.in_ok-to_vec.field-0.items ≡ c.x-item.result.items = search rules in
    all_added (λ (v : Vec ℕ Global). IsOneOf c.args.all.now.items v.items ⊎ IsOneOf c.args.more.now v.items) c.loop-x.all.items c.add.new.all.items c.in_ok-to_vec.field-0 c.in_ok-add.ensures c.loop-x.invariant
    (inr (subst (λ (l : List ℕ). IsOneOf c.args.more.now l) (sym copied) (one_of_read c.args.more.now c.loop-x.x-index c.x-item.result (omega arith) c.x-item.is)))
