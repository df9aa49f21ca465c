use Rattle.std.proofs.Common.{◌≡◌, ◌+ℤ◌, ◌-ℤ◌, ◌*ℤ◌, pos, negsuc, w32, to_z, of_z, rules, arith, ap, ◌∙◌}
use Rattle.std.proofs.lemmas.Int.{ints}
use Rattle.snd_ima_adpcm.specs.Frames.{clamp, floor_div}
use Rattle.snd_ms_adpcm.specs.Microsoft.{signed_code}
use Rattle.snd_ms_adpcm.proofs.Quotients.{code_to, sample_to}
use Rattle.snd_ms_adpcm.proofs.microsoft_writer.code_and_sample.Goals as goal

pub overflow_sub-above-2 : goal.overflow_sub-above-2
overflow_sub-above-2 c = omega (arith, ints)

pub returns-clause-code : goal.returns-clause-code
returns-clause-code c =
    let foretold = c.args.foretold in
    let delta = c.args.delta in
    let above = c.half_above-above.result in
    let way = to_z w32 (of_z w32 (to_z w32 (of_z w32 above) -ℤ to_z w32 (of_z w32 foretold))) in
    let same : to_z w32 (of_z w32 delta) ≡ delta = omega (arith, ints) in
    let way_is : way ≡ above -ℤ foretold = omega (arith, ints) in
    let above_is : above ≡ c.args.sample +ℤ floor_div delta 2 = search rules in
    code_to foretold c.args.sample delta above way (to_z w32 (of_z w32 delta)) c.code_in-code.result.0 c.code_in-code.ensures.code (omega (arith, ints)) same above_is way_is

pub returns-clause-sample : goal.returns-clause-sample
returns-clause-sample c =
    let foretold = c.args.foretold in
    let delta = c.args.delta in
    let above = c.half_above-above.result in
    let rest = c.code_in-code.result.1 in
    let number = signed_code c.code_in-code.result.0 in
    let way = to_z w32 (of_z w32 (to_z w32 (of_z w32 above) -ℤ to_z w32 (of_z w32 foretold))) in
    let same : to_z w32 (of_z w32 delta) ≡ delta = omega (arith, ints) in
    let way_is : way ≡ above -ℤ foretold = omega (arith, ints) in
    let before : to_z w32 (of_z w32 (to_z w32 (of_z w32 above) -ℤ to_z w32 (of_z w32 rest))) ≡ above -ℤ rest = omega (arith, ints) in
    let sample : above -ℤ rest ≡ foretold +ℤ number *ℤ delta = sample_to foretold delta above way (to_z w32 (of_z w32 delta)) rest number c.code_in-code.ensures.rest same way_is in
    let kept : to_z w32 (of_z w32 c.clamped_16.result) ≡ c.clamped_16.result = search rules in
    kept ∙ c.clamped_16.ensures.value ∙ ap (λ z. clamp (negsuc 32767) (pos 32767) z) (before ∙ sample)
