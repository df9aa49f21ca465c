use Rattle.std.proofs.Common.{refl, arith}
use Rattle.snd_recode.proofs.Loops.{four_put}
use Rattle.snd_recode.proofs.wider.widen_to_32.Goals as goal

pub loop-i-preserved : goal.loop-i-preserved
loop-i-preserved c =
    four_put c.args.bytes.now c.loop-i.into _ _ c.loop-i.i _ refl c.requires.whole (omega (arith, c.requires.room, c.loop-i.auto.into)) (omega (arith, c.loop-i-test.true))
    c.four_bytes.ensures c.put_four.ensures c.loop-i.invariant
