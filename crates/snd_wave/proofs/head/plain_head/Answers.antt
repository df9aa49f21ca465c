use Rattle.std.proofs.Common.{List, ℕ, ◌∙◌, ap, refl}
use Rattle.std.specs.Prelude.{codes, ◌++◌}
use Rattle.snd_wave.proofs.PlainHeads.{head_put}
use Rattle.snd_wave.proofs.head.plain_head.Goals as goal

pub returns : goal.returns
returns c =
    head_put c.args.reserve c.args.params.now c.are_good.ensures c.requires.fits c.requires.reserve c.plain_start.result c.lead_size.result c.as_slice.result.now (codes "fmt ")
    c.put_all.new.into.items c.put_number.new.into.items c.put_all-2.new.into.items c.put_lead.new.into.items c.put_chunk.new.into.items c.put_fact.new.into.items c.put_all-3.new.into.items c.put_number-2.new.into.items
    c.plain_start.ensures.value c.lead_size.ensures.size (c.as_slice.ensures.value ∙ c.put_fmt.ensures) refl
    (c.put_all.ensures.items ∙ ap (λ (l : List ℕ). l ++ codes "RIFF") c.new-head.ensures) c.put_number.ensures.items c.put_all-2.ensures.items c.put_lead.ensures.items c.put_chunk.ensures.items c.put_fact.ensures.items c.put_all-3.ensures.items c.put_number-2.ensures.items
