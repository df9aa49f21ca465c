use Rattle.std.proofs.Common.{◌+◌, ◌*◌, ◌/◌, ◌<◌, length, refl, arith}
use Rattle.snd_recode.proofs.Loops.{four_put}
use Rattle.snd_recode.proofs.wider.widen_fours.Goals as goal

pub loop-i-preserved : goal.loop-i-preserved
loop-i-preserved c =
    let bytes = c.args.bytes.now in
    let i = c.loop-i.i in
    let whole = c.requires.whole in
    let lt : i < length bytes / 8 = c.loop-i-test.true in
    let one = four_put bytes c.loop-i.into _ _ (4 * i) (4 * i + 1) refl whole (omega (arith, c.requires.room, c.loop-i.auto.into)) (omega (arith, lt)) c.four_bytes-first.ensures c.put_four.ensures c.loop-i.invariant in
    let two = four_put bytes _ _ _ (4 * i + 1) (4 * i + 2) (omega arith) whole (omega (arith, c.requires.room, c.put_four.auto.into)) (omega (arith, lt)) c.four_bytes-second.ensures c.put_four-in-loop-i.ensures one in
    let three = four_put bytes _ _ _ (4 * i + 2) (4 * i + 3) (omega arith) whole (omega (arith, c.requires.room, c.put_four-in-loop-i.auto.into)) (omega (arith, lt)) c.four_bytes-third.ensures c.put_four-in-loop-i-2.ensures two in
    four_put bytes _ _ _ (4 * i + 3) (4 * (i + 1)) (omega arith) whole (omega (arith, c.requires.room, c.put_four-in-loop-i-2.auto.into)) (omega (arith, lt)) c.four_bytes-last.ensures c.put_four-in-loop-i-3.ensures three
