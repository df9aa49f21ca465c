use Rattle.std.proofs.Common.{ℕ, ◌+◌, ◌-◌, ◌*◌, subst, drop, take, arith}
use Rattle.snd_container.specs.Fixed.{samples_bytes}
use Rattle.snd_block_writer.specs.Puts.{LeavesPartly}
use Rattle.snd_frames.proofs.PartlyPut.{part_partly}
use Rattle.snd_frames.proofs.writes.write_next.Goals as goal

pub returns-in_err-write_block-clause-partly : goal.returns-in_err-write_block-clause-partly
returns-in_err-write_block-clause-partly g c =
    let done = c.args.done in
    let n = done + c.min-count.result - done in
    part_partly g.D.Disk c.args.form c.args.at c.args.from.now done n c.args.disk.now c.write_block.new.disk (omega (arith, c.min-count.ensures, c.requires.some))
    (subst (λ (m : ℕ). LeavesPartly g.D.Disk (c.args.at + m * done) (samples_bytes c.args.form (take n (drop done c.args.from.now))) c.args.disk.now c.write_block.new.disk) c.bytes-width.ensures c.write_block.ensures.partly)

pub returns-clause-partly : goal.returns-clause-partly
returns-clause-partly g c =
    let done = c.args.done in
    let n = done + c.min-count.result - done in
    part_partly g.D.Disk c.args.form c.args.at c.args.from.now done n c.args.disk.now c.write_block.new.disk (omega (arith, c.min-count.ensures, c.requires.some))
    (subst (λ (m : ℕ). LeavesPartly g.D.Disk (c.args.at + m * done) (samples_bytes c.args.form (take n (drop done c.args.from.now))) c.args.disk.now c.write_block.new.disk) c.bytes-width.ensures c.write_block.ensures.partly)
