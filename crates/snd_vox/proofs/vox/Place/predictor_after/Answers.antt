use Rattle.std.proofs.Common.{◌≡◌, ◌+ℤ◌, pos, negsuc, arith}
use Rattle.std.proofs.lemmas.Int.{to_z-of_z}
use Rattle.snd_ima_adpcm.specs.Frames.{clamp}
use Rattle.snd_ima_adpcm.specs.Step.{change}
use Rattle.snd_vox.specs.Vox.{vox_predictor}
use Rattle.snd_vox.proofs.Steps.{predictor_is}
use Rattle.snd_vox.proofs.vox.Place.predictor_after.Goals as goal

pub returns-clause-value : goal.returns-clause-value
returns-clause-value c =
    let is : vox_predictor c.args.self.predictor c.args.self.index c.args.code ≡ clamp (negsuc 2047) (pos 2047) (c.args.self.predictor +ℤ change c.args.self.index c.args.code) =
    predictor_is c.args.self.predictor c.args.self.index c.args.code in
    grind (arith, to_z-of_z)
