use Rattle.std.proofs.Common.{◌≡◌, ◌/◌, max, arith, ap}
use Rattle.std.proofs.lemmas.Int.{ints}
use Rattle.snd_ms_adpcm.specs.Microsoft.{ms_delta_for, ms_start_error, ms_number_for}
use Rattle.snd_ms_adpcm.proofs.microsoft_writer.start_of.Goals as goal

pub returns-clause-delta : goal.returns-clause-delta
unfolding ms_delta_for
returns-clause-delta c =
    let twelfth : c.choose-choice.result.sum / 12 ≡ ms_start_error c.args.samples.now (ms_number_for c.args.samples.now) / 12 = ap (λ n. n / 12) c.choose-choice.ensures.sum in
    let value : c.max.result ≡ max 16 (ms_start_error c.args.samples.now (ms_number_for c.args.samples.now) / 12) = omega arith in
    omega (arith, ints)
