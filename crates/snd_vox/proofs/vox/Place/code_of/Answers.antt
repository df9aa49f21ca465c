use Rattle.std.proofs.Common.{◌-ℤ◌, arith, rules, FitsSigned, w32}
use Rattle.std.proofs.lemmas.Int.{to_z-of_z}
use Rattle.snd_vox.specs.Vox.{vox_code}
use Rattle.snd_vox.proofs.vox.Place.code_of.Goals as goal

pub returns-clause-value : goal.returns-clause-value
unfolding vox_code
returns-clause-value c =
    let fits : FitsSigned w32 (c.target_of.result -ℤ c.args.self.predictor) = search rules in
    grind (arith, to_z-of_z)
