use Rattle.std.proofs.Common.{subst, refl, [], ◌*◌, rules}
use Rattle.std.proofs.lemmas.Result.{on_ok_weaker}
use Rattle.snd_layout.specs.declared.kind.Kind.TheVariants.{Wave}
use Rattle.snd_layout.specs.Params.{Parameters}
use Rattle.snd_output.specs.Made.{IsMaking}
use Rattle.snd_generate.proofs.Calling.{told_by}
use Rattle.snd_generate.specs.Edited.{params}
use Rattle.snd_generate.specs.Numbers.{numbers_from}
use Rattle.snd_generate.proofs.making.make.Goals as goal

pub returns-in-Ok-finish-clause-made : goal.returns-in-Ok-finish-clause-made
returns-in-Ok-finish-clause-made g c =
    on_ok_weaker c.write_numbers-written.result
    (λ lengthens. λ b tells.
    let begun = c.in-Ok.ensures.begun b tells in
    let making = subst (λ (p : Parameters). IsMaking Wave p [] [] begun.0) c.params.ensures begun.2 in
    let longer = lengthens [] begun.0 begun.1 making in
    let whole = c.in-Ok-finish.ensures.made Wave params [] (numbers_from (2 * c.args.generation.now.frames) c.args.generation.now.seed) longer.0 longer.1 longer.2 in
    told_by g.E.Disk.state c.in-Ok-finish.back.now _ _ _ (search rules) refl whole)
    c.write_numbers-written.ensures.lengthens
