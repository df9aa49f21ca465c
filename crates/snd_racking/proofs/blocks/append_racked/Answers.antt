use Rattle.std.proofs.Common.{arith}
use Rattle.snd_rack.specs.Stage.{kind_of}
use Rattle.snd_racking.proofs.Racks.{enough}
use Rattle.snd_racking.proofs.blocks.append_racked.Goals as goal

pub slice_bounds-used-end : goal.slice_bounds-used-end
slice_bounds-used-end g c =
    let few = enough (λ b. ((goal.Stage-dyn g (b.vtable, b.value)).stage b.value).kind) kind_of c.args.stages.now c.args.rack.now c.requires.kinds in
    omega (arith, c.len.ensures.count, few)
