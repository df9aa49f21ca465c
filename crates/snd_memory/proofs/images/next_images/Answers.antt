use Rattle.std.proofs.Common.{◌≡◌, ℕ, List, Vec, subst, ◌∙◌}
use Rattle.std.specs.List.{All}
use Rattle.std.specs.declared.alloc.Global.{Global}
use Rattle.std.proofs.lemmas.List.Elements.{All-weaker}
use Rattle.snd_memory.specs.Listed.{IsMixedFrom, IsNextImage, meant_by}
use Rattle.snd_memory.proofs.ListedBytes.{changed_image, if_ok}
use Rattle.snd_memory.proofs.images.next_images.Goals as goal

pub returns : goal.returns
returns c =
    let same : c.deref.result.now ≡ meant_by c.args.made.now.call c.args.b.now = c.deref.ensures.value ∙ c.in_ok-meant.ensures in
    if_ok c.mixes_of_each.result _ _ (λ v each. All-weaker (λ (x : Vec ℕ Global). IsMixedFrom c.args.all.now (meant_by c.args.made.now.call c.args.b.now) x.items) (λ (x : Vec ℕ Global). IsNextImage c.args.all.now c.args.made.now c.args.b.now x.items)
    (λ x mixed. changed_image c.args.made.now.call c.args.made.now.end c.args.b.now c.args.all.now c.in_default.not-Sync x.items mixed) v.items (subst (λ (l : List ℕ). All (λ x. IsMixedFrom c.args.all.now l x.items) v.items) same each)) c.mixes_of_each.ensures
