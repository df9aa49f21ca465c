use Rattle.std.proofs.Common.{rules, ◌≡◌, ◌∙◌, ◌+◌, ◌*◌, ◌<◌, ◌≤◌, length, arith}
use Rattle.snd_disk.specs.Device.{Tells}
use Rattle.snd_disk.proofs.Public.{only_reads_then}
use Rattle.snd_layout.specs.Blocks.{block_align, block_frames}
use Rattle.snd_layout.specs.Shape.{end}
use Rattle.snd_blocks.proofs.Checked.{all_good, bad_block, good_block}
use Rattle.snd_blocks.proofs.Places.{counted_block}
use Rattle.snd_blocks.proofs.check.check_blocks.Goals as goal

pub returns-in_err-check_block-clause-bad : goal.returns-in_err-check_block-clause-bad
returns-in_err-check_block-clause-bad g c = λ is b told.
    let s = c.args.layout.now in
    let fits : end s s.frames ≤ length b = omega (arith, c.requires.held, g.met.D.Disk.size_told c.args.disk.now b told) in
    let here : Tells g.D.Disk.state c.loop-number.disk b = c.loop-number.invariant.reads.keeps.contents ∙ told in
    let counted : c.loop-number.number * block_frames s.params.codec < s.frames = counted_block c.loop-number.number (block_frames s.params.codec) s.frames c.keeps_blocks.ensures.some_frames (omega (arith, c.loop-number-test.true, c.block_count-number-end.ensures)) in
    bad_block b s c.keeps_blocks.ensures fits c.loop-number.number counted (search (rules, c.in_err-check_block.ensures.bad))

pub loop-number-preserved : goal.loop-number-preserved
loop-number-preserved g c =
    let s = c.args.layout.now in
    let align = block_align s.params.channels s.params.codec in
    let more : (c.loop-number.number + 1) * align ≡ c.loop-number.number * align + align = omega arith in
    let counted : c.loop-number.number * block_frames s.params.codec < s.frames = counted_block c.loop-number.number (block_frames s.params.codec) s.frames c.keeps_blocks.ensures.some_frames (omega (arith, c.loop-number-test.true, c.block_count-number-end.ensures)) in
    record {
      good = λ b told.
          let fits : end s s.frames ≤ length b = omega (arith, c.requires.held, g.met.D.Disk.size_told c.args.disk.now b told) in
          let here : Tells g.D.Disk.state c.loop-number.disk b = c.loop-number.invariant.reads.keeps.contents ∙ told in
          good_block b s c.keeps_blocks.ensures fits c.loop-number.number (c.in_ok-check_block.ensures.good b here) counted (c.loop-number.invariant.good b told);
      calm = search rules;
      reads = only_reads_then _ _ _ _ _ _ _ _ _ c.loop-number.invariant.reads c.check_block.ensures.reads;
      asked = record {
        later = omega (arith, c.loop-number.invariant.asked.later, c.check_block.ensures.asked.later);
        most = omega (arith, more, c.loop-number.invariant.asked.most, c.check_block.ensures.asked.most);
      };
    }

pub returns-clause-good : goal.returns-clause-good
returns-clause-good g c = λ b told.
    let s = c.args.layout.now in
    let fits : end s s.frames ≤ length b = omega (arith, c.requires.held, g.met.D.Disk.size_told c.args.disk.now b told) in
    all_good b s c.keeps_blocks.ensures fits c.loop-number.number (omega (arith, c.loop-number-test.false, c.block_count-number-end.ensures)) (c.loop-number.invariant.good b told)
