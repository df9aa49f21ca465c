use Rattle.std.proofs.Common.{rules, ◌<◌, sym, subst, ℕ}
use Rattle.snd_deinterleave.proofs.ChannelLists.{picked_more}
use Rattle.snd_deinterleave.proofs.channel.pick.Goals as goal

pub loop-j-preserved : goal.loop-j-preserved
loop-j-preserved c = picked_more c.args.channels c.args.which c.loop-j.j c.args.block.now c.loop-j.into _ (subst (λ (n : ℕ). c.loop-j.j < n) (sym c.loop-j.auto.into) c.loop-j-test.true) (search rules) c.loop-j.invariant
