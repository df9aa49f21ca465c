use Rattle.std.proofs.Common.{◌≡◌, ◌+◌, ◌*◌, ◌-◌, ◌+ℤ◌, ◌-ℤ◌, ◌*ℤ◌, pos, unsigned_abs, arith, rules, ap, ◌∙◌, w32, to_z, of_z}
use Rattle.std.proofs.lemmas.Int.{ints}
use Rattle.snd_ms_adpcm.specs.Microsoft.{signed_code}
use Rattle.snd_ms_adpcm.proofs.Quotients.{Steps, took, code_of_steps, rest_of_steps}
use Rattle.snd_ms_adpcm.proofs.microsoft_writer.code_in.Goals as goal

pub take_part-below_1-requires-clause-least : goal.take_part-below_1-requires-clause-least
take_part-below_1-requires-clause-least c = omega (arith, ints)

pub take_part-below_1-requires-clause-most : goal.take_part-below_1-requires-clause-most
take_part-below_1-requires-clause-most c = omega (arith, ints)

pub returns-clause-least : goal.returns-clause-least
returns-clause-least c = omega (arith, ints)

pub returns-clause-most : goal.returns-clause-most
returns-clause-most c = omega (arith, ints)

pub returns-clause-code : goal.returns-clause-code
returns-clause-code c =
    let d = unsigned_abs c.args.delta in
    let a = c.take_part-below_8 in
    let b = c.take_part-below_4 in
    let e = c.take_part-below_2 in
    let f = c.take_part-below_1 in
    let steps : Steps (c.args.way +ℤ pos (8 * d)) a.result.1 b.result.1 e.result.1 f.result.1 d a.result.0 b.result.0 e.result.0 f.result.0 = record {
      eight = took _ _ _ _ _ _ (omega (arith, ints)) (omega (arith, ints)) a.ensures.fits a.ensures.rest a.ensures.misses a.ensures.same;
      four = took _ _ _ _ _ _ (omega (arith, ints)) (omega (arith, ints)) b.ensures.fits b.ensures.rest b.ensures.misses b.ensures.same;
      two = took _ _ _ _ _ _ (omega (arith, ints)) (omega (arith, ints)) e.ensures.fits e.ensures.rest e.ensures.misses e.ensures.same;
      one = took _ _ _ _ _ _ (omega (arith, ints)) (omega (arith, ints)) f.ensures.fits f.ensures.rest f.ensures.misses f.ensures.same;
    } in
    code_of_steps c.args.way _ _ _ _ d _ _ _ _ (omega (arith, ints)) a.ensures.bound b.ensures.bound e.ensures.bound f.ensures.bound steps

pub returns-clause-rest : goal.returns-clause-rest
returns-clause-rest c =
    let d = unsigned_abs c.args.delta in
    let a = c.take_part-below_8 in
    let b = c.take_part-below_4 in
    let e = c.take_part-below_2 in
    let f = c.take_part-below_1 in
    let steps : Steps (c.args.way +ℤ pos (8 * d)) a.result.1 b.result.1 e.result.1 f.result.1 d a.result.0 b.result.0 e.result.0 f.result.0 = record {
      eight = took _ _ _ _ _ _ (omega (arith, ints)) (omega (arith, ints)) a.ensures.fits a.ensures.rest a.ensures.misses a.ensures.same;
      four = took _ _ _ _ _ _ (omega (arith, ints)) (omega (arith, ints)) b.ensures.fits b.ensures.rest b.ensures.misses b.ensures.same;
      two = took _ _ _ _ _ _ (omega (arith, ints)) (omega (arith, ints)) e.ensures.fits e.ensures.rest e.ensures.misses e.ensures.same;
      one = took _ _ _ _ _ _ (omega (arith, ints)) (omega (arith, ints)) f.ensures.fits f.ensures.rest f.ensures.misses f.ensures.same;
    } in
    let code = 8 * a.result.0 + (7 - (4 * b.result.0 + 2 * e.result.0 + f.result.0)) in
    let delta_is : pos d ≡ c.args.delta = omega (arith, ints) in
    let rest : c.args.way -ℤ f.result.1 ≡ signed_code code *ℤ pos d =
    rest_of_steps c.args.way _ _ _ _ d _ _ _ _ a.ensures.bound b.ensures.bound e.ensures.bound f.ensures.bound steps in
    let kept : to_z w32 (of_z w32 f.result.1) ≡ f.result.1 = search rules in
    rw kept (rest ∙ ap (λ z. signed_code code *ℤ z) delta_is)
