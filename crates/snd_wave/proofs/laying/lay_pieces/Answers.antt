use Rattle.std.proofs.Common.{◌<◌, [], false, length, arith}
use Rattle.snd_wave.proofs.Relaying.{step_fits}
use Rattle.snd_wave.proofs.laying.lay_pieces.Goals as goal

pub overflow_add-place : goal.overflow_add-place
overflow_add-place c =
    let inside : c.loop-piece.piece-index < length c.args.pieces.now = omega (arith, c.loop-piece-test.true) in
    omega (arith, step_fits c.loop-piece.place c.loop-piece.piece-index c.args.pieces.now (record { id = record { 0 = [] }; at = 0; len = 0; after = false }) inside, c.loop-piece.invariant.end, c.requires)

pub overflow_add-place-in-loop-piece : goal.overflow_add-place-in-loop-piece
overflow_add-place-in-loop-piece c =
    let inside : c.loop-piece.piece-index < length c.args.pieces.now = omega (arith, c.loop-piece-test.true) in
    omega (arith, step_fits c.loop-piece.place c.loop-piece.piece-index c.args.pieces.now (record { id = record { 0 = [] }; at = 0; len = 0; after = false }) inside, c.loop-piece.invariant.end, c.requires)
