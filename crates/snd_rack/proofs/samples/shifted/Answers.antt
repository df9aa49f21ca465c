use Rattle.std.proofs.Common.{rules, ◌≡◌, ◌∙◌, ◌^◌, ap, pos, ◌*ℤ◌, to_z, of_z, w32, arith}
use Rattle.std.proofs.lemmas.Int.{ints}
use Rattle.snd_pcm.specs.Width.{floor_div}
use Rattle.snd_rack.proofs.Scaled.{short_product, short_product_fits}
use Rattle.snd_rack.proofs.samples.shifted.Goals as goal

pub overflow_mul-product : goal.overflow_mul-product
overflow_mul-product c =
    let a_is : to_z w32 (of_z w32 c.from.result) ≡ pos c.args.a = omega (arith, ints) in
    short_product_fits c.args.x c.args.a _ _ (omega (arith, ints)) (omega (arith, ints)) (omega (arith, ints)) a_is

pub returns : goal.returns
returns c =
    let a_is : to_z w32 (of_z w32 c.from.result) ≡ pos c.args.a = omega (arith, ints) in
    let x_is : to_z w32 (of_z w32 c.args.x) ≡ c.args.x = search rules in
    let quotient : c.halved.result ≡ floor_div (c.args.x *ℤ pos c.args.a) (2 ^ c.args.shift) =
    c.halved.ensures ∙ ap (λ z. floor_div z (2 ^ c.args.shift)) (short_product c.args.x c.args.a _ _ (omega (arith, ints)) (omega (arith, ints)) x_is a_is) in
    let whole : to_z w32 (of_z w32 c.halved.result) ≡ c.halved.result = search rules in
    let low : to_z w32 (of_z w32 c.args.low) ≡ c.args.low = search rules in
    let high : to_z w32 (of_z w32 c.args.high) ≡ c.args.high = search rules in
    let made : to_z w32 (of_z w32 c.clamp_short.result) ≡ c.clamp_short.result = search rules in
    cc (c.clamp_short.ensures, quotient, whole, low, high, made)
