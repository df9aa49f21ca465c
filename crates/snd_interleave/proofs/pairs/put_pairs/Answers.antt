use Rattle.std.proofs.Common.{◌∙◌, refl, length, ◌+◌, ◌*◌, arith}
use Rattle.std.proofs.lemmas.List.{length-set}
use Rattle.snd_interleave.proofs.PairBytes.{other_pairs_more, pair_within, put_pair_more}
use Rattle.snd_interleave.proofs.pairs.put_pairs.Goals as goal

pub bounds-block-at : goal.bounds-block-at
bounds-block-at c =
    omega (arith, pair_within c.args.channels (length c.args.pairs.now) c.loop-i.i c.args.which c.loop-i-test.true c.requires.within, c.requires.size, c.loop-i.auto.block)

pub bounds-block-at-in-loop-i : goal.bounds-block-at-in-loop-i
bounds-block-at-in-loop-i c =
    omega (arith, pair_within c.args.channels (length c.args.pairs.now) c.loop-i.i c.args.which c.loop-i-test.true c.requires.within, c.requires.size, c.loop-i.auto.block, length-set c.loop-i.block (2 * (c.loop-i.i * c.args.channels + c.args.which)))

pub loop-i-preserved : goal.loop-i-preserved
loop-i-preserved c =
    let now = c.loop-i.invariant in
    let pairs = c.args.pairs.now in
    record {
      put = put_pair_more c.args.channels c.args.which c.loop-i.i pairs c.loop-i.block _ _ c.requires.within (c.loop-i.auto.block ∙ c.requires.size) c.loop-i-test.true refl refl now.put;
      others = other_pairs_more c.args.channels c.args.which c.loop-i.i pairs c.loop-i.block _ _ c.requires.within c.args.block.now _ now.others;
    }
