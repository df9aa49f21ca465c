use Rattle.std.proofs.Common.{◌+◌, ◌-◌, ◌*◌, ◌/◌, ◌<◌, length, refl, arith}
use Rattle.snd_recode.proofs.Loops.{put_beyond, three_put}
use Rattle.snd_recode.proofs.wider.widen_fives.Goals as goal

pub loop-i-preserved : goal.loop-i-preserved
loop-i-preserved c =
    let bytes = c.args.bytes.now in
    let i = c.loop-i.i in
    let whole = c.requires.whole in
    let lt : i < (length bytes - 1) / 10 = omega (arith, c.loop-i-test.true, c.saturating_sub-i-end.ensures) in
    let one = three_put bytes c.loop-i.into _ _ (5 * i) (5 * i + 1) refl whole (omega (arith, c.requires.room, c.loop-i.auto.into)) (omega (arith, lt)) c.three_bytes-first.ensures c.put_three.ensures c.loop-i.invariant in
    let two = three_put bytes _ _ _ (5 * i + 1) (5 * i + 2) (omega arith) whole (omega (arith, c.requires.room, c.put_three.auto.into)) (omega (arith, lt)) c.three_bytes-second.ensures c.put_three-in-loop-i.ensures one in
    let three = three_put bytes _ _ _ (5 * i + 2) (5 * i + 3) (omega arith) whole (omega (arith, c.requires.room, c.put_three-in-loop-i.auto.into)) (omega (arith, lt)) c.three_bytes-third.ensures c.put_three-in-loop-i-2.ensures two in
    let four = three_put bytes _ _ _ (5 * i + 3) (5 * i + 4) (omega arith) whole (omega (arith, c.requires.room, c.put_three-in-loop-i-2.auto.into)) (omega (arith, lt)) c.three_bytes-fourth.ensures c.put_three-in-loop-i-3.ensures three in
    let five = three_put bytes _ _ _ (5 * i + 4) (5 * (i + 1)) (omega arith) whole (omega (arith, c.requires.room, c.put_three-in-loop-i-3.auto.into)) (omega (arith, lt)) c.three_bytes-last.ensures c.put_three-in-loop-i-4.ensures four in
    put_beyond bytes _ (5 * (i + 1)) (15 * i + 15) 0 (omega arith) five
