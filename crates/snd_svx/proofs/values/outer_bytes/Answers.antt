use Rattle.std.proofs.Common.{ap, sym}
use Rattle.snd_layout.specs.Shape.{Shape}
use Rattle.snd_svx.proofs.Sizes.{outer_is}
use Rattle.snd_svx.proofs.values.outer_bytes.Goals as goal

pub returns : goal.returns
returns c =
    outer_is c.args.layout.now c.args.frames c.layout.inside.start c.bytes_in-bytes.result c.form_size.result c.number_bytes.result.items (sym (ap (λ (s : Shape). s.start) c.layout.view_is)) c.bytes_in-bytes.ensures c.form_size.ensures c.number_bytes.ensures
