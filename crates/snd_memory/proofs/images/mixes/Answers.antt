use Rattle.std.proofs.Common.{◌⊎◌, ⊎_elim, ℕ, List, Vec, length, sym, subst}
use Rattle.std.specs.List.{All}
use Rattle.std.specs.declared.alloc.Global.{Global}
use Rattle.std.proofs.lemmas.List.Elements.{All-weaker}
use Rattle.snd_disk.specs.Bytes.{Mix}
use Rattle.snd_memory.specs.Listed.{IsOneOf, IsMixOfLen}
use Rattle.snd_memory.proofs.ListedBytes.{mix_first_length, mix_second_length, holds_of_one}
use Rattle.snd_memory.proofs.images.mixes.Goals as goal

pub returns-then-y-z : goal.returns-then-y-z
returns-then-y-z c =
    All-weaker (λ (v : Vec ℕ Global). IsMixOfLen c.args.y.now c.args.z.now (length c.args.y.now) v.items) (λ (v : Vec ℕ Global). Mix c.args.y.now c.args.z.now v.items)
    (λ v is. mix_first_length c.args.y.now c.args.z.now v.items is) c.in_ok-all.all.items c.in_ok-all.ensures

pub returns : goal.returns
returns c =
    let short = All-weaker (λ (v : Vec ℕ Global). IsMixOfLen c.args.y.now c.args.z.now (length c.args.y.now) v.items) (λ (v : Vec ℕ Global). Mix c.args.y.now c.args.z.now v.items)
    (λ v is. mix_first_length c.args.y.now c.args.z.now v.items is) c.in_ok-all.all.items c.in_ok-all.ensures in
    let long = All-weaker (λ (v : Vec ℕ Global). IsMixOfLen c.args.y.now c.args.z.now (length c.args.z.now) v.items) (λ (v : Vec ℕ Global). Mix c.args.y.now c.args.z.now v.items)
    (λ v is. mix_second_length c.args.y.now c.args.z.now v.items is) c.in_ok-longer.longer.items c.in_ok-longer.ensures in
    All-weaker (λ (v : Vec ℕ Global). IsOneOf c.in_ok-all.all.items v.items ⊎ IsOneOf c.deref.result.now v.items) (λ (v : Vec ℕ Global). Mix c.args.y.now c.args.z.now v.items)
    (λ v h. ⊎_elim (holds_of_one (Mix c.args.y.now c.args.z.now) c.in_ok-all.all.items short v.items) (holds_of_one (Mix c.args.y.now c.args.z.now) c.deref.result.now (subst (λ (l : List (Vec ℕ Global)). All (λ w. Mix c.args.y.now c.args.z.now w.items) l) (sym c.deref.ensures.value) long) v.items) h)
    c.add_each.new.all.items c.in_ok-add_each.ensures
