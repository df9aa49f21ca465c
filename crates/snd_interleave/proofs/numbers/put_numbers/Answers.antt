use Rattle.std.proofs.Common.{rules, ◌∙◌, length}
use Rattle.snd_interleave.proofs.Frames.{others_more, put_more}
use Rattle.snd_interleave.proofs.numbers.put_numbers.Goals as goal

pub loop-i-preserved : goal.loop-i-preserved
loop-i-preserved c =
    let now = c.loop-i.invariant in
    let i = c.loop-i.i in
    let n = c.args.channels in
    let w = c.args.which in
    let numbers = c.args.numbers.now in
    let size = c.loop-i.auto.block ∙ c.requires.size in
    record {
      put = put_more n w i numbers c.loop-i.block _ c.requires.within size c.loop-i-test.true (search rules) now.put;
      others = others_more n w i numbers c.loop-i.block _ c.requires.within size c.loop-i-test.true c.args.block.now (length numbers) now.others;
    }
