use Rattle.std.proofs.Common.{◌*◌, ◌/◌, ◌≤◌, length, arith}
use Rattle.std.proofs.Math.Nat.{div-mul-le_self}
use Rattle.snd_rack.proofs.Widths.{kept_fit}
use Rattle.snd_rack.proofs.passing.pass_in_place.Goals as goal

pub pass_block-requires-clause-room : goal.pass_block-requires-clause-room
pass_block-requires-clause-room g c =
    let xs = c.args.block.now.items in
    let size : length xs ≤ 16384 = omega (arith, c.len.ensures.value, c.len.ensures.fits) in
    let fits : length xs / c.args.channels * c.args.channels ≤ 16384 = omega (arith, div-mul-le_self (length xs) c.args.channels, size) in
    kept_fit (λ b. (goal.Stage-dyn g (b.vtable, b.value)).stage b.value) c.args.stages.now c.args.channels (length xs / c.args.channels) c.requires.keep c.requires.kinds fits
