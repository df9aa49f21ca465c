use Rattle.std.proofs.Common.{◌⊎◌, inl, inr, ⊎_elim, ◌≤◌, ℕ, Vec, arith}
use Rattle.std.specs.declared.alloc.Global.{Global}
use Rattle.std.proofs.lemmas.List.Elements.{All-weaker}
use Rattle.snd_memory.specs.Listed.{IsOneOf}
use Rattle.snd_memory.proofs.ListedBytes.{one_of_itself}
use Rattle.snd_memory.proofs.AfterCall.{on_ok}
use Rattle.snd_memory.proofs.images.add_where.Goals as goal

pub returns-then-k-to : goal.returns-then-k-to
returns-then-k-to c =
    on_ok c.add_each.result _ _ (All-weaker (λ (v : Vec ℕ Global). IsOneOf c.args.all.now.items v.items ⊎ IsOneOf c.args.more.now v.items) (λ (v : Vec ℕ Global). IsOneOf c.args.all.now.items v.items ⊎ ((c.args.from ≤ c.args.k) × (c.args.k ≤ c.args.to) × IsOneOf c.args.more.now v.items))
    (λ v h. ⊎_elim (λ old. inl old) (λ new. inr (omega arith, omega arith, new)) h) c.add_each.new.all.items) c.add_each.ensures

pub returns : goal.returns
returns c = λ k d lt. inl (one_of_itself c.args.all.now.items k d lt)
