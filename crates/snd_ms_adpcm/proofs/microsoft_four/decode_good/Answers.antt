use Rattle.std.proofs.Common.{rules, ◌≡◌, refl, ◌-◌, ◌<◌, drop, length, to_z, of_z, w32, arith}
use Rattle.snd_ima_adpcm.specs.Frames.{high_half_first}
use Rattle.snd_ms_adpcm.proofs.Four.{done, more}
use Rattle.snd_ms_adpcm.proofs.microsoft_four.decode_good.Goals as goal

pub loop-n-preserved : goal.loop-n-preserved
loop-n-preserved c =
    let n = c.loop-n.n in
    let inv = c.loop-n.invariant in
    let lt : n < length c.args.blocks.first.now - 14 = search rules in
    let a_left : to_z w32 (of_z w32 c.after-a.result.left.newer) ≡ c.after-a.result.left.newer = search rules in
    let a_right : to_z w32 (of_z w32 c.after-a.result.right.newer) ≡ c.after-a.result.right.newer = search rules in
    let b_left : to_z w32 (of_z w32 c.after-b.result.left.newer) ≡ c.after-b.result.left.newer = search rules in
    let b_right : to_z w32 (of_z w32 c.after-b.result.right.newer) ≡ c.after-b.result.right.newer = search rules in
    let c_left : to_z w32 (of_z w32 c.after-c.result.left.newer) ≡ c.after-c.result.left.newer = search rules in
    let c_right : to_z w32 (of_z w32 c.after-c.result.right.newer) ≡ c.after-c.result.right.newer = search rules in
    let d_left : to_z w32 (of_z w32 c.after-d.result.left.newer) ≡ c.after-d.result.left.newer = search rules in
    let d_right : to_z w32 (of_z w32 c.after-d.result.right.newer) ≡ c.after-d.result.right.newer = search rules in
    record {
      first = more n c.args.blocks.first.now c.loop-n.a.left c.loop-n.a.right c.after-a.result.left c.after-a.result.right c.loop-n.one _ _ _ lt refl c.after-a.ensures.left c.after-a.ensures.right a_left a_right inv.first;
      second = more n c.args.blocks.second.now c.loop-n.b.left c.loop-n.b.right c.after-b.result.left c.after-b.result.right c.loop-n.two _ _ _ (omega (arith, lt, c.requires.alike.second)) refl c.after-b.ensures.left c.after-b.ensures.right b_left b_right inv.second;
      third = more n c.args.blocks.third.now c.loop-n.c.left c.loop-n.c.right c.after-c.result.left c.after-c.result.right c.loop-n.three _ _ _ (omega (arith, lt, c.requires.alike.third)) refl c.after-c.ensures.left c.after-c.ensures.right c_left c_right inv.third;
      fourth = more n c.args.blocks.fourth.now c.loop-n.d.left c.loop-n.d.right c.after-d.result.left c.after-d.result.right c.loop-n.four _ _ _ (omega (arith, lt, c.requires.alike.fourth)) refl c.after-d.ensures.left c.after-d.ensures.right d_left d_right inv.fourth;
    }

pub returns-clause-one : goal.returns-clause-one
returns-clause-one c = done c.loop-n.n c.args.blocks.first.now (high_half_first (drop 14 c.args.blocks.first.now)) c.of_heads-a.result.left c.of_heads-a.result.right c.loop-n.a.left c.loop-n.a.right c.loop-n.one (omega (arith, c.loop-n-test.false)) c.requires.good.first c.of_heads-a.ensures c.loop-n.invariant.first

pub returns-clause-two : goal.returns-clause-two
returns-clause-two c = done c.loop-n.n c.args.blocks.second.now (high_half_first (drop 14 c.args.blocks.second.now)) c.of_heads-b.result.left c.of_heads-b.result.right c.loop-n.b.left c.loop-n.b.right c.loop-n.two (omega (arith, c.loop-n-test.false, c.requires.alike.second)) c.requires.good.second c.of_heads-b.ensures c.loop-n.invariant.second

pub returns-clause-three : goal.returns-clause-three
returns-clause-three c = done c.loop-n.n c.args.blocks.third.now (high_half_first (drop 14 c.args.blocks.third.now)) c.of_heads-c.result.left c.of_heads-c.result.right c.loop-n.c.left c.loop-n.c.right c.loop-n.three (omega (arith, c.loop-n-test.false, c.requires.alike.third)) c.requires.good.third c.of_heads-c.ensures c.loop-n.invariant.third

pub returns-clause-four : goal.returns-clause-four
returns-clause-four c = done c.loop-n.n c.args.blocks.fourth.now (high_half_first (drop 14 c.args.blocks.fourth.now)) c.of_heads-d.result.left c.of_heads-d.result.right c.loop-n.d.left c.loop-n.d.right c.loop-n.four (omega (arith, c.loop-n-test.false, c.requires.alike.fourth)) c.requires.good.fourth c.of_heads-d.ensures c.loop-n.invariant.fourth
