use Rattle.std.proofs.Common.{map}
use Rattle.snd_rack.proofs.Widths.{as_found}
use Rattle.snd_rack.proofs.boxes.keep_width.Goals as goal

pub returns : goal.returns
returns g c = as_found (map (λ b. ((goal.Stage-dyn g (b.vtable, b.value)).stage b.value).kind) c.args.stages.now) c.find.result c.is_none.result c.find.ensures c.is_none.ensures
