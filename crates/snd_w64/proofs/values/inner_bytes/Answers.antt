use Rattle.std.proofs.Common.{ap, sym}
use Rattle.snd_layout.specs.Shape.{Shape}
use Rattle.snd_w64.proofs.Sizes.{inner_joined, inner_plain}
use Rattle.snd_w64.proofs.values.inner_bytes.Goals as goal

pub returns-then-layout-ne-JOINED_SIZE : goal.returns-then-layout-ne-JOINED_SIZE
returns-then-layout-ne-JOINED_SIZE c = inner_plain c.args.layout.now c.args.frames c.layout.inside.inner.size c.bytes_in-size.result c.number_bytes.result.items (sym (ap (λ (s : Shape). s.inner.size) c.layout.view_is)) c.if-layout-ne-JOINED_SIZE.true c.number_bytes.ensures c.bytes_in-size.ensures.value

pub returns : goal.returns
returns c =
    inner_joined c.args.layout.now c.args.frames c.layout.inside.inner.size c.bytes_in-size.result c.number_bytes-value.result.items c.put_all.new.into.items c.put_all-2.new.into.items c.put_long.new.into.items (sym (ap (λ (s : Shape). s.inner.size) c.layout.view_is)) c.if-layout-ne-JOINED_SIZE.false
    c.number_bytes-value.ensures c.put_all.ensures.items c.put_all-2.ensures.items c.put_long.ensures.items c.bytes_in-size.ensures.value
