use Rattle.std.proofs.Common.{◌≡◌, ◌+◌, ◌-◌, ◌*◌, ◌/◌, ◌<◌, length, get_or, pos, w32, to_z, of_z, lit<, arith, rules}
use Rattle.snd_ms_adpcm.proofs.LaneCodes.{all_coded, one_more}
use Rattle.snd_ms_adpcm.proofs.microsoft_four_writer.encode_beside.Goals as goal

pub loop-n-preserved : goal.loop-n-preserved
loop-n-preserved c =
    let n = c.loop-n.n in
    let s = c.args.samples in
    let l = c.loop-n.lanes in
    let m = c.take_samples-codes.new.lanes in
    let codes = c.take_samples-codes.result in
    let takes = c.take_samples-codes.ensures.takes in
    let inv = c.loop-n.invariant in
    let lt : n < length s.first.now / 2 - 2 = search rules in
    let first_left : to_z w32 (of_z w32 (get_or s.first.now (2 * n + 4) (pos 0))) ≡ get_or s.first.now (2 * n + 4) (pos 0) = search rules in
    let first_right : to_z w32 (of_z w32 (get_or s.first.now (2 * n + 5) (pos 0))) ≡ get_or s.first.now (2 * n + 5) (pos 0) = search rules in
    let second_left : to_z w32 (of_z w32 (get_or s.second.now (2 * n + 4) (pos 0))) ≡ get_or s.second.now (2 * n + 4) (pos 0) = search rules in
    let second_right : to_z w32 (of_z w32 (get_or s.second.now (2 * n + 5) (pos 0))) ≡ get_or s.second.now (2 * n + 5) (pos 0) = search rules in
    let third_left : to_z w32 (of_z w32 (get_or s.third.now (2 * n + 4) (pos 0))) ≡ get_or s.third.now (2 * n + 4) (pos 0) = search rules in
    let third_right : to_z w32 (of_z w32 (get_or s.third.now (2 * n + 5) (pos 0))) ≡ get_or s.third.now (2 * n + 5) (pos 0) = search rules in
    let fourth_left : to_z w32 (of_z w32 (get_or s.fourth.now (2 * n + 4) (pos 0))) ≡ get_or s.fourth.now (2 * n + 4) (pos 0) = search rules in
    let fourth_right : to_z w32 (of_z w32 (get_or s.fourth.now (2 * n + 5) (pos 0))) ≡ get_or s.fourth.now (2 * n + 5) (pos 0) = search rules in
    record {
      ready = c.take_samples-codes.ensures.ready;
      first =
          one_more l m 0 1 (lit< tt) (lit< tt) n s.first.now _ codes c.loop-n.one c.byte_of.result lt first_left first_right takes c.byte_of.ensures inv.first;
      second =
          one_more l m 2 3 (lit< tt) (lit< tt) n s.second.now _ codes c.loop-n.two c.byte_of-in-loop-n.result (omega (arith, lt, c.requires.second.size)) second_left second_right takes c.byte_of-in-loop-n.ensures inv.second;
      third =
          one_more l m 4 5 (lit< tt) (lit< tt) n s.third.now _ codes c.loop-n.three c.byte_of-in-loop-n-2.result (omega (arith, lt, c.requires.third.size)) third_left third_right takes c.byte_of-in-loop-n-2.ensures inv.third;
      fourth =
          one_more l m 6 7 (lit< tt) (lit< tt) n s.fourth.now _ codes c.loop-n.four c.byte_of-in-loop-n-3.result (omega (arith, lt, c.requires.fourth.size)) fourth_left fourth_right takes c.byte_of-in-loop-n-3.ensures inv.fourth;
    }

pub returns-clause-one : goal.returns-clause-one
returns-clause-one c =
    all_coded c.loop-n.n c.args.samples.first.now c.loop-n.lanes 0 1 c.loop-n.one (omega (arith, c.loop-n-test.false)) c.requires.first.least c.requires.first.even c.loop-n.invariant.first

pub returns-clause-two : goal.returns-clause-two
returns-clause-two c =
    all_coded c.loop-n.n c.args.samples.second.now c.loop-n.lanes 2 3 c.loop-n.two (omega (arith, c.loop-n-test.false, c.requires.second.size)) c.requires.second.least c.requires.second.even c.loop-n.invariant.second

pub returns-clause-three : goal.returns-clause-three
returns-clause-three c =
    all_coded c.loop-n.n c.args.samples.third.now c.loop-n.lanes 4 5 c.loop-n.three (omega (arith, c.loop-n-test.false, c.requires.third.size)) c.requires.third.least c.requires.third.even c.loop-n.invariant.third

pub returns-clause-four : goal.returns-clause-four
returns-clause-four c =
    all_coded c.loop-n.n c.args.samples.fourth.now c.loop-n.lanes 6 7 c.loop-n.four (omega (arith, c.loop-n-test.false, c.requires.fourth.size)) c.requires.fourth.least c.requires.fourth.even c.loop-n.invariant.fourth
