use Rattle.std.proofs.Common.{◌≡◌, pos, ◌*ℤ◌, to_z, of_z, w64, arith}
use Rattle.std.proofs.lemmas.Int.{ints}
use Rattle.snd_pcm.specs.Width.{floor_div}
use Rattle.snd_rack.proofs.Scaled.{part_fits, product_fits, quotient_is}
use Rattle.snd_rack.proofs.samples.risen.Goals as goal

pub overflow_mul-product : goal.overflow_mul-product
overflow_mul-product c =
    let x_is : to_z w64 (of_z w64 c.from.result) ≡ c.args.x = omega (arith, ints) in
    let i_is : to_z w64 (of_z w64 c.from-2.result) ≡ pos c.args.i = omega (arith, ints) in
    product_fits c.args.x c.args.i _ _ (omega (arith, ints)) (omega (arith, ints)) x_is i_is

pub overflow_cast-result : goal.overflow_cast-result
overflow_cast-result c =
    let x_is : to_z w64 (of_z w64 c.from.result) ≡ c.args.x = omega (arith, ints) in
    let i_is : to_z w64 (of_z w64 c.from-2.result) ≡ pos c.args.i = omega (arith, ints) in
    let n_is : to_z w64 (of_z w64 c.from-3.result) ≡ pos c.args.count = omega (arith, ints) in
    let quotient : c.div_euclid.result ≡ floor_div (c.args.x *ℤ pos c.args.i) c.args.count =
    quotient_is c.args.x c.args.i _ _ (omega (arith, ints)) (omega (arith, ints)) x_is i_is _ c.args.count c.div_euclid.result n_is c.div_euclid.ensures in
    let part = part_fits c.args.x c.args.i c.args.count c.requires (omega (arith, ints), omega (arith, ints)) in
    omega (arith, ints, quotient, part.0, part.1)

pub returns : goal.returns
returns c =
    let x_is : to_z w64 (of_z w64 c.from.result) ≡ c.args.x = omega (arith, ints) in
    let i_is : to_z w64 (of_z w64 c.from-2.result) ≡ pos c.args.i = omega (arith, ints) in
    let n_is : to_z w64 (of_z w64 c.from-3.result) ≡ pos c.args.count = omega (arith, ints) in
    let quotient : c.div_euclid.result ≡ floor_div (c.args.x *ℤ pos c.args.i) c.args.count =
    quotient_is c.args.x c.args.i _ _ (omega (arith, ints)) (omega (arith, ints)) x_is i_is _ c.args.count c.div_euclid.result n_is c.div_euclid.ensures in
    let part = part_fits c.args.x c.args.i c.args.count c.requires (omega (arith, ints), omega (arith, ints)) in
    omega (arith, ints, quotient, part.0, part.1)
