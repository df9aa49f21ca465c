use Rattle.std.proofs.Common.{rules}
use Rattle.snd_w64.proofs.PutHeads.{zero_put}
use Rattle.snd_w64.proofs.put.put_zeros.Goals as goal

pub loop-i-preserved : goal.loop-i-preserved
loop-i-preserved g c = record {
  so_far = zero_put _ _ _ c.loop-i._i c.loop-i.invariant.so_far c.push.ensures.items;
  len = search rules;
}
