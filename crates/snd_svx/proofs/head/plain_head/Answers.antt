use Rattle.std.proofs.Common.{List, ℕ, ◌∙◌, ap, sym}
use Rattle.std.specs.Prelude.{codes, ◌++◌}
use Rattle.snd_layout.specs.Params.{Parameters}
use Rattle.snd_svx.proofs.PlainHeads.{head_put}
use Rattle.snd_svx.proofs.head.plain_head.Goals as goal

pub returns : goal.returns
returns c =
    head_put c.args.params.now c.params.inside.rate c.put_all.new.into.items c.put_number.new.into.items c.put_all-2.new.into.items c.put_number-2.new.into.items c.put_all-3.new.into.items c.put_short.new.into.items c.put_all-4.new.into.items c.put_all-5.new.into.items c.put_number-3.new.into.items
    c.are_good.ensures c.requires (sym (ap (λ (p : Parameters). p.rate) c.params.view_is))
    (c.put_all.ensures.items ∙ ap (λ (l : List ℕ). l ++ codes "FORM") c.new-head.ensures) c.put_number.ensures.items c.put_all-2.ensures.items c.put_number-2.ensures.items c.put_all-3.ensures.items c.put_short.ensures.items c.put_all-4.ensures.items c.put_all-5.ensures.items c.put_number-3.ensures.items
