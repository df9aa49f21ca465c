use Rattle.std.proofs.Common.{◌-ℤ◌, arith, rules, FitsSigned, w32}
use Rattle.std.proofs.lemmas.Int.{to_z-of_z}
use Rattle.snd_ms_adpcm.specs.Microsoft.{ms_error}
use Rattle.snd_ms_adpcm.proofs.microsoft_writer.error_of.Goals as goal

pub returns-clause-value : goal.returns-clause-value
unfolding ms_error
returns-clause-value c =
    let fits : FitsSigned w32 (c.args.sample -ℤ c.clamp.result) = search rules in
    grind (arith, to_z-of_z)
