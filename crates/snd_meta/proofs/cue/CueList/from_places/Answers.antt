use Rattle.std.proofs.Common.{arith}
use Rattle.snd_meta.proofs.Points.{named_info}
use Rattle.snd_meta.proofs.cue.CueList.from_places.Goals as goal

pub invariant_of-result : goal.invariant_of-result
invariant_of-result c =
    named_info c.args.places.now c.loop-i.points.items c.loop-i.i (omega arith) c.requires (λ k. omega (arith, c.type_inv.places k)) c.loop-i.invariant
