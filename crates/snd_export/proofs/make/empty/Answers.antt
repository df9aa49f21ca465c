use Rattle.std.proofs.Common.{◌∙◌, ap, refl, take}
use Rattle.std.specs.Prelude.{option_map}
use Rattle.snd_export.proofs.make.empty.Goals as goal

pub returns-in-Ok-clause-emptied : goal.returns-in-Ok-clause-emptied
returns-in-Ok-clause-emptied g c =
    let done = c.in-Ok.ensures.done in
    record {
      size = done.size;
      told = λ x told. done.contents ∙ ap (option_map (take 0)) told;
    }
