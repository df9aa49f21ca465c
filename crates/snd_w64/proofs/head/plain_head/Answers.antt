use Rattle.std.proofs.Common.{List, ℕ, ◌∙◌, ap}
use Rattle.std.specs.Prelude.{codes, ◌++◌}
use Rattle.snd_w64.proofs.PutHeads.{whole_put}
use Rattle.snd_w64.proofs.head.plain_head.Goals as goal

pub returns : goal.returns
returns c =
    whole_put c.args.params.now c.start_of.result c.as_slice.result.now c.put_all.new.into.items c.put_all-2.new.into.items c.put_long.new.into.items c.put_all-3.new.into.items c.put_all-4.new.into.items c.put_chunk.new.into.items c.put_fact.new.into.items c.put_head.new.into.items
    c.start_of.ensures.value (c.as_slice.ensures.value ∙ c.put_fmt.ensures)
    (c.put_all.ensures.items ∙ ap (λ (l : List ℕ). l ++ codes "riff") c.new-head.ensures) c.put_all-2.ensures.items c.put_long.ensures.items c.put_all-3.ensures.items c.put_all-4.ensures.items c.put_chunk.ensures.items c.put_fact.ensures.items c.put_head.ensures.items
