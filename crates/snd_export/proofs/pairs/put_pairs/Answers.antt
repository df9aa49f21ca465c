use Rattle.std.proofs.Common.{rules, ◌≡◌, ◌∙◌, ◌+◌, ◌*◌, ◌<◌, ℕ, ℤ, pos, [], ◌∷◌, ap, get_or, length, of_z, to_z, arith}
use Rattle.std.specs.Int.{w16}
use Rattle.snd_ima_adpcm.specs.Frames.{bytes_high_half_first}
use Rattle.snd_vox.specs.Vox.{vox_codes, vox_state_written}
use Rattle.snd_export.proofs.Codes.{pair_is, put_more}
use Rattle.snd_export.proofs.pairs.put_pairs.Goals as goal

pub loop-i-preserved : goal.loop-i-preserved
loop-i-preserved c =
    let pairs : length c.args.numbers.now ≡ 2 * length c.loop-i.into = omega (arith, c.requires.pairs, c.loop-i.auto.into) in
    let within : c.loop-i.i < length c.loop-i.into = omega (arith, c.loop-i-test.true, c.loop-i.auto.i-end, c.loop-i.auto.into) in
    let first : to_z w16 (of_z w16 c.narrow-first.result) ≡ get_or c.args.numbers.now (2 * c.loop-i.i) (pos 0) = search rules in
    let second : to_z w16 (of_z w16 c.narrow-second.result) ≡ get_or c.args.numbers.now (2 * c.loop-i.i + 1) (pos 0) = search rules in
    let two = pair_is c.args.numbers.now c.loop-i.i (to_z w16 (of_z w16 c.narrow-first.result)) (to_z w16 (of_z w16 c.narrow-second.result)) first second in
    put_more c.args.writer.now c.loop-i.writer c.put.new.self c.args.numbers.now c.loop-i.into c.loop-i.i c.put.result pairs within
    (c.put.ensures.byte ∙ ap (λ l. bytes_high_half_first (vox_codes c.loop-i.writer l)) two) (c.put.ensures.state ∙ ap (vox_state_written c.loop-i.writer) two) c.loop-i.invariant
