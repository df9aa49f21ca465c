use Rattle.std.proofs.Common.{◌+◌, ◌-◌, ap, arith, length}
use Rattle.std.proofs.lemmas.List.{length-drop, take_rest}
use Rattle.snd_meta.proofs.Points.{points_step, points_end, read_info}
use Rattle.snd_meta.proofs.cue.points_at.Goals as goal

pub loop-preserved : goal.loop-preserved
loop-preserved c = record {
  so_far = points_step c.loop.points.items c.push.new.self.items _ (c.args.count - c.loop.counter) (c.args.count - (c.loop.counter + 1)) c.u32_at.result c.u32_at-in-loop.result
      c.loop.rest.now _ (omega arith) (take_rest c.loop.rest.now 24) c.u32_at.ensures c.u32_at-in-loop.ensures c.in_ok-push.ensures.items c.loop.invariant.so_far;
  room = omega (arith, ap length (take_rest c.loop.rest.now 24), length-drop 24 c.loop.rest.now);
}

pub returns-clause-info : goal.returns-clause-info
returns-clause-info c =
    read_info c.args.count c.args.bytes.now c.loop.points.items c.requires.few (λ k. omega (arith, c.type_inv.bytes k))
    (points_end c.loop.points.items _ (c.args.count - c.loop.counter) c.loop.rest.now (omega arith) c.loop.invariant.so_far)
