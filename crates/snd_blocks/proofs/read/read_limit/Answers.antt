use Rattle.std.proofs.Common.{rules, ◌≡◌, subst, ◌+◌, ◌-◌, ◌/◌, ◌≤◌, ℕ, arith}
use Rattle.std.proofs.Math.Nat.{div-mul-le_self}
use Rattle.snd_layout.specs.Blocks.{block_frames}
use Rattle.snd_blocks.proofs.Places.{block_is_counted, blocks_between, counted_block}
use Rattle.snd_blocks.proofs.read.read_limit.Goals as goal

pub returns-then-not-is_fourfold-clause-most : goal.returns-then-not-is_fourfold-clause-most
returns-then-not-is_fourfold-clause-most c =
    let per = block_frames c.args.layout.now.params.codec in
    omega (arith, c.requires.from, blocks_between per c.args.place c.args.count c.last_block.result c.keeps_blocks.ensures.some_frames c.requires.some (omega (arith, c.last_block.ensures)))

pub returns-clause-wanted : goal.returns-clause-wanted
returns-clause-wanted c =
    let s = c.args.layout.now in
    let per = block_frames s.params.codec in
    let last = (c.args.place + c.args.count - 1) / per in
    let size : per ≡ c.from.result = search rules in
    let between : last + 1 - c.args.place / per ≤ c.args.count / per + 2 = blocks_between per c.args.place c.args.count (last + 1) c.keeps_blocks.ensures.some_frames c.requires.some (omega arith) in
    let reached : last + 1 - c.args.place / per ≤ c.args.count / c.from.result + 2 = subst (λ (m : ℕ). last + 1 - c.args.place / per ≤ c.args.count / m + 2) size between in
    let counted : last + 1 ≤ (s.frames + per - 1) / per =
    block_is_counted last per s.frames c.keeps_blocks.ensures.some_frames (omega (arith, div-mul-le_self (c.args.place + c.args.count - 1) per, c.requires.some, c.requires.within)) in
    omega (arith, reached, counted, c.block_count.ensures, c.requires.from)

pub returns-clause-counted : goal.returns-clause-counted
returns-clause-counted c =
    let s = c.args.layout.now in
    let per = block_frames s.params.codec in
    let last = (c.args.place + c.args.count - 1) / per in
    let counted : last + 1 ≤ (s.frames + per - 1) / per =
    block_is_counted last per s.frames c.keeps_blocks.ensures.some_frames (omega (arith, div-mul-le_self (c.args.place + c.args.count - 1) per, c.requires.some, c.requires.within)) in
    counted_block _ per s.frames c.keeps_blocks.ensures.some_frames (omega (arith, counted, c.block_count.ensures, c.requires.until))
