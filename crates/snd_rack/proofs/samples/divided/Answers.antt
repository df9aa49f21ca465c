use Rattle.std.proofs.Common.{rules, ◌≡◌, pos, ◌*ℤ◌, to_z, of_z, w32, arith}
use Rattle.std.proofs.lemmas.Int.{ints}
use Rattle.snd_pcm.specs.Width.{floor_div}
use Rattle.snd_rack.proofs.Scaled.{short_product_fits, short_quotient}
use Rattle.snd_rack.proofs.samples.divided.Goals as goal

pub overflow_mul-product : goal.overflow_mul-product
overflow_mul-product c =
    let a_is : to_z w32 (of_z w32 c.from.result) ≡ pos c.args.a = omega (arith, ints) in
    short_product_fits c.args.x c.args.a _ _ (omega (arith, ints)) (omega (arith, ints)) (omega (arith, ints)) a_is

pub returns : goal.returns
returns c =
    let a_is : to_z w32 (of_z w32 c.from.result) ≡ pos c.args.a = omega (arith, ints) in
    let b_is : to_z w32 (of_z w32 c.from-2.result) ≡ pos c.args.b = omega (arith, ints) in
    let x_is : to_z w32 (of_z w32 c.args.x) ≡ c.args.x = search rules in
    let quotient : c.div_euclid.result ≡ floor_div (c.args.x *ℤ pos c.args.a) c.args.b =
    short_quotient c.args.x c.args.a _ _ (omega (arith, ints)) (omega (arith, ints)) x_is a_is _ c.args.b c.div_euclid.result b_is c.div_euclid.ensures in
    let whole : to_z w32 (of_z w32 c.div_euclid.result) ≡ c.div_euclid.result = search rules in
    let low : to_z w32 (of_z w32 c.args.low) ≡ c.args.low = search rules in
    let high : to_z w32 (of_z w32 c.args.high) ≡ c.args.high = search rules in
    let made : to_z w32 (of_z w32 c.clamp_short.result) ≡ c.clamp_short.result = search rules in
    cc (c.clamp_short.ensures, quotient, whole, low, high, made)
