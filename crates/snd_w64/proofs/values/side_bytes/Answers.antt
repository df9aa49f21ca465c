use Rattle.std.proofs.Common.{ap, sym}
use Rattle.snd_layout.specs.Shape.{Shape}
use Rattle.snd_w64.proofs.Sizes.{no_side, side_there}
use Rattle.snd_w64.proofs.values.side_bytes.Goals as goal

pub returns-in-Some : goal.returns-in-Some
returns-in-Some c = side_there c.args.layout.now c.args.frames c.in-Some.field-0 c.layout.inside.side c.number_bytes.result.items (sym (ap (λ (s : Shape). s.side) c.layout.view_is)) c.in-Some.is c.number_bytes.ensures

pub returns-in-None : goal.returns-in-None
returns-in-None c = no_side c.args.layout.now c.args.frames c.layout.inside.side c.new.result.items (sym (ap (λ (s : Shape). s.side) c.layout.view_is)) c.in-None.is c.new.ensures
