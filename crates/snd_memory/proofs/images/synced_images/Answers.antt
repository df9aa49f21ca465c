use Rattle.std.proofs.Common.{◌⊎◌, ⊎_elim, ℕ, List, Vec, subst}
use Rattle.std.specs.declared.alloc.Global.{Global}
use Rattle.std.proofs.lemmas.List.Elements.{All-weaker}
use Rattle.snd_memory.specs.Listed.{IsOneOf}
use Rattle.snd_memory.proofs.ListedBytes.{none_of_none}
use Rattle.snd_memory.proofs.images.synced_images.Goals as goal

pub returns-in_ok-add_each-in-Broken : goal.returns-in_ok-add_each-in-Broken
returns-in_ok-add_each-in-Broken c =
    rw c.in-Broken.is (All-weaker (λ (v : Vec ℕ Global). IsOneOf c.new-after.result.items v.items ⊎ IsOneOf c.args.all.now v.items) (λ (v : Vec ℕ Global). IsOneOf c.args.all.now v.items)
    (λ v h. ⊎_elim (λ old. absurd (none_of_none v.items (subst (λ (l : List (Vec ℕ Global)). IsOneOf l v.items) c.new-after.ensures.items old))) (λ new. new) h) c.add_each.new.all.items c.in_ok-add_each-in-Broken.ensures)
