use Rattle.std.proofs.Common.{◌+◌, ◌*◌, ◌/◌, length, arith}
use Rattle.snd_g711.specs.Alaw.{alaw_value}
use Rattle.snd_recode.proofs.Loops.{piece_all, piece_step}
use Rattle.snd_recode.proofs.alaw.alaw_as_linear.Goals as goal

pub loop-i-preserved : goal.loop-i-preserved
loop-i-preserved c =
    piece_step alaw_value c.args.bytes.now c.loop-i.into c.put_piece.new.into (128 * c.loop-i.i) (128 * (c.loop-i.i + 1)) _
    (omega arith) (omega arith) (omega arith) (omega arith) c.put_piece.ensures c.loop-i.invariant

pub returns : goal.returns
returns c =
    piece_all alaw_value c.args.bytes.now c.loop-i.into c.put_piece-2.new.into (128 * (length c.args.bytes.now / 128)) (128 * c.loop-i.i)
    (omega (arith, c.loop-i-test.false, c.loop-i.auto.i-end)) c.put_piece-2.ensures c.loop-i.invariant
