use Rattle.std.proofs.Common.{ap, sym}
use Rattle.snd_layout.specs.Shape.{Shape}
use Rattle.snd_au.proofs.Joined.{value_put}
use Rattle.snd_au.proofs.values.inner_bytes.Goals as goal

pub returns : goal.returns
returns c =
    value_put c.args.layout.now c.args.frames c.layout.inside.kind c.order_of.result c.data_bytes-bytes.result c.new-value.result.items c.put_number.new.into.items (sym (ap (λ (s : Shape). s.kind) c.layout.view_is)) c.order_of.ensures
    c.data_bytes-bytes.ensures c.new-value.ensures c.put_number.ensures.items
