use Rattle.std.proofs.Common.{◌≡◌, ◌⊎◌, ⊎_elim, ◌≤◌, ℕ, ◌+◌, List, Vec, take, length, ◌++◌, ◌∷◌, [], sym, ap, subst, ◌∙◌, arith, rules}
use Rattle.std.specs.List.{All}
use Rattle.std.specs.declared.alloc.Global.{Global}
use Rattle.std.proofs.lemmas.List.Elements.{All-weaker}
use Rattle.std.proofs.lemmas.List.{take_more}
use Rattle.snd_memory.specs.Past.{contents_by, image_of, image_between}
use Rattle.snd_memory.specs.Listed.{IsOneOf, IsNextImage}
use Rattle.snd_memory.specs.declared.call.Made.{Made}
use Rattle.snd_memory.proofs.AfterCall.{kept_push}
use Rattle.snd_memory.proofs.ListedBytes.{next_image, holds_of_one}
use Rattle.snd_memory.proofs.images.images_of.Goals as goal

pub loop-k-preserved : goal.loop-k-preserved
loop-k-preserved c =
    let longer : take (c.loop-k.k + 1) c.args.past.now ≡ take c.loop-k.k c.args.past.now ++ c.index-past-k.result ∷ [] =
    take_more c.args.past.now c.loop-k.k c.index-past-k.result (omega arith) ∙ ap (λ (m : Made). take c.loop-k.k c.args.past.now ++ m ∷ []) (sym c.index-past-k.is) in
    let stands : c.deref-in-loop-k-2.result.now ≡ contents_by (take c.loop-k.k c.args.past.now) c.args.first.now = c.deref-in-loop-k-2.ensures.value ∙ c.loop-k.invariant.contents in
    let each = subst (λ (l : List (Vec ℕ Global)). All (λ v. image_of c.args.first.now (take c.loop-k.k c.args.past.now) v.items) l) (sym c.deref.ensures.value) c.loop-k.invariant.images in
    let each' = subst (λ (l : List (Vec ℕ Global)). All (λ v. image_of c.args.first.now (take c.loop-k.k c.args.past.now) v.items) l) (sym c.deref-in-loop-k.ensures.value) c.loop-k.invariant.images in
    record {
      contents = kept_push c.args.first.now c.loop-k.bytes.items c.in_ok-bytes-2.bytes.items (take c.loop-k.k c.args.past.now) (take (c.loop-k.k + 1) c.args.past.now) c.index-past-k.result c.loop-k.invariant.contents longer (search rules);
      images = All-weaker (λ (v : Vec ℕ Global). IsNextImage c.deref-in-loop-k.result.now c.index-past-k.result c.deref-in-loop-k-2.result.now v.items) (λ (v : Vec ℕ Global). image_of c.args.first.now (take (c.loop-k.k + 1) c.args.past.now) v.items)
          (λ v next. subst (λ (l : List Made). image_of c.args.first.now l v.items) (sym longer) (next_image c.args.first.now (take c.loop-k.k c.args.past.now) c.index-past-k.result c.deref-in-loop-k-2.result.now c.deref-in-loop-k.result.now stands each' v.items next)) c.in_ok-images.images.items c.in_ok-images.ensures;
      listed = All-weaker (λ (v : Vec ℕ Global). IsOneOf c.loop-k.listed.items v.items ⊎ ((c.args.from ≤ c.loop-k.k) × (c.loop-k.k ≤ c.args.to) × IsOneOf c.deref.result.now v.items)) (λ (v : Vec ℕ Global). image_between c.args.first.now c.args.past.now c.args.from c.args.to v.items)
          (λ v h. ⊎_elim (holds_of_one (image_between c.args.first.now c.args.past.now c.args.from c.args.to) c.loop-k.listed.items c.loop-k.invariant.listed v.items)
          (λ new. (c.loop-k.k, new.0, new.1, omega arith, holds_of_one (image_of c.args.first.now (take c.loop-k.k c.args.past.now)) c.deref.result.now each v.items new.2)) h) c.add_where.new.all.items c.in_ok-add_where.ensures;
    }

pub returns : goal.returns
returns c =
    let each = subst (λ (l : List (Vec ℕ Global)). All (λ v. image_of c.args.first.now (take c.loop-k.k c.args.past.now) v.items) l) (sym c.deref-2.ensures.value) c.loop-k.invariant.images in
    All-weaker (λ (v : Vec ℕ Global). IsOneOf c.loop-k.listed.items v.items ⊎ ((c.args.from ≤ length c.args.past.now) × (length c.args.past.now ≤ c.args.to) × IsOneOf c.deref-2.result.now v.items)) (λ (v : Vec ℕ Global). image_between c.args.first.now c.args.past.now c.args.from c.args.to v.items)
    (λ v h. ⊎_elim (holds_of_one (image_between c.args.first.now c.args.past.now c.args.from c.args.to) c.loop-k.listed.items c.loop-k.invariant.listed v.items)
    (λ new. (c.loop-k.k, omega (arith, new.0), omega (arith, new.1), omega arith, holds_of_one (image_of c.args.first.now (take c.loop-k.k c.args.past.now)) c.deref-2.result.now each v.items new.2)) h) c.add_where-2.new.all.items c.in_ok-add_where-2.ensures
