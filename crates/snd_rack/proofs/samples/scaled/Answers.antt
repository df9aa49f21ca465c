use Rattle.std.proofs.Common.{rules, ◌≡◌, pos, ◌*ℤ◌, to_z, of_z, w32, w64, arith}
use Rattle.std.proofs.lemmas.Int.{ints}
use Rattle.snd_pcm.specs.Width.{floor_div}
use Rattle.snd_rack.proofs.Scaled.{product_fits, quotient_is}
use Rattle.snd_rack.proofs.samples.scaled.Goals as goal

pub overflow_mul-product : goal.overflow_mul-product
overflow_mul-product c =
    let x_is : to_z w64 (of_z w64 c.from.result) ≡ c.args.x = omega (arith, ints) in
    let a_is : to_z w64 (of_z w64 c.from-2.result) ≡ pos c.args.a = omega (arith, ints) in
    product_fits c.args.x c.args.a _ _ (omega (arith, ints)) (omega (arith, ints)) x_is a_is

pub returns : goal.returns
returns c =
    let x_is : to_z w64 (of_z w64 c.from.result) ≡ c.args.x = omega (arith, ints) in
    let a_is : to_z w64 (of_z w64 c.from-2.result) ≡ pos c.args.a = omega (arith, ints) in
    let b_is : to_z w64 (of_z w64 c.from-3.result) ≡ pos c.args.b = omega (arith, ints) in
    let quotient : c.div_euclid.result ≡ floor_div (c.args.x *ℤ pos c.args.a) c.args.b =
    quotient_is c.args.x c.args.a _ _ (omega (arith, ints)) (omega (arith, ints)) x_is a_is _ c.args.b c.div_euclid.result b_is c.div_euclid.ensures in
    let whole : to_z w64 (of_z w64 c.div_euclid.result) ≡ c.div_euclid.result = omega (arith, ints) in
    let low : to_z w32 (of_z w32 c.args.low) ≡ c.args.low = search rules in
    let high : to_z w32 (of_z w32 c.args.high) ≡ c.args.high = search rules in
    let made : to_z w32 (of_z w32 c.clamp.result) ≡ c.clamp.result = search rules in
    cc (c.clamp.ensures, quotient, whole, low, high, made)
