use Rattle.std.proofs.Common.{ℕ, List, IfOk, subst}
use Rattle.std.specs.List.{All}
use Rattle.snd_memory.specs.Past.{image_between}
use Rattle.snd_memory.specs.Memory.{past_calls}
use Rattle.snd_memory.specs.declared.call.Made.{Made}
use Rattle.snd_memory.proofs.images.images_between.Goals as goal

pub returns : goal.returns
returns c =
    subst (λ (f : List ℕ). IfOk c.images_of.result (λ v. All (λ x. image_between f (past_calls c.args.disk.now) c.args.from c.args.to x.items) v.items)) c.first.ensures
    (subst (λ (p : List Made). IfOk c.images_of.result (λ v. All (λ x. image_between c.first.result.now p c.args.from c.args.to x.items) v.items)) c.past.ensures c.images_of.ensures)
