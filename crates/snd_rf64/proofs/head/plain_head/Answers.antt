use Rattle.std.proofs.Common.{◌∙◌}
use Rattle.snd_rf64.proofs.NewFiles.{head_put}
use Rattle.snd_rf64.proofs.head.plain_head.Goals as goal

pub returns : goal.returns
returns c =
    head_put c.args.params.now c.plain_start.result c.as_slice.result.now c.top-head.result.items c.put_chunk.new.into.items c.put_all.new.into.items c.put_number.new.into.items c.requires c.plain_start.ensures.value
    (c.as_slice.ensures.value ∙ c.put_fmt.ensures) c.top-head.ensures.items c.put_chunk.ensures.items c.put_all.ensures.items c.put_number.ensures.items
