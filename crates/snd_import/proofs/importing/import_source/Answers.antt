use Rattle.std.proofs.Common.{◌≡◌, ◌∙◌, ap, refl, sym, true, false, Ok, Err, rules}
use Rattle.snd_inputs.proofs.Public.{refused_as}
use Rattle.snd_inputs.specs.Rooms.{is_full}
use Rattle.snd_lines.specs.declared.refusal.Refusal.TheVariants.{ContainerFull, Open}
use Rattle.snd_import.proofs.Doing.{full_is, output_made}
use Rattle.snd_import.proofs.Heads.{made_params}
use Rattle.snd_import.specs.Import.{made_in, params_for}
use Rattle.snd_import.proofs.importing.import_source.Goals as goal

pub returns-in-Err-clause-done : goal.returns-in-Err-clause-done
returns-in-Err-clause-done g c = λ files b told tells.
    let kind = c.args.kind in
    let s = c.args.source.now in
    let output = c.args.importation.now.output.now in
    let unfit : params_for kind s.params ≡ Err c.in-Err.why = search rules in
    refused_as g.S.Shelf.state c.args.shelf.now files output (Open c.in-Err.why) (made_in output kind s b (params_for kind s.params)) (files, told, λ n. refl) (ap (made_in output kind s b) unfit)

pub returns-then-is_full-clause-done : goal.returns-then-is_full-clause-done
returns-then-is_full-clause-done g c = λ files b told tells.
    let kind = c.args.kind in
    let s = c.args.source.now in
    let p = c.in-Ok.params in
    let output = c.args.importation.now.output.now in
    let fit : params_for kind s.params ≡ Ok p = search rules in
    let full : is_full kind p s.frames ≡ true = search rules in
    refused_as g.S.Shelf.state c.args.shelf.now files output ContainerFull (made_in output kind s b (params_for kind s.params)) (files, told, λ n. refl)
    (full_is g.S.Shelf.state c.args.shelf.now output kind s b files p fit full)

pub make_under-requires-clause-alike : goal.make_under-requires-clause-alike
make_under-requires-clause-alike g c =
    let s = c.args.source.now in
    let fit : params_for c.args.kind s.params ≡ Ok c.in-Ok.params = search rules in
    (made_params c.args.kind s.params c.in-Ok.params c.requires.held.source.fixed fit).0

pub make_under-requires-clause-fixed : goal.make_under-requires-clause-fixed
make_under-requires-clause-fixed g c =
    let s = c.args.source.now in
    let fit : params_for c.args.kind s.params ≡ Ok c.in-Ok.params = search rules in
    (made_params c.args.kind s.params c.in-Ok.params c.requires.held.source.fixed fit).1

pub returns-in-Ok-make_under-clause-done : goal.returns-in-Ok-make_under-clause-done
returns-in-Ok-make_under-clause-done g c = λ files b told tells.
    let kind = c.args.kind in
    let s = c.args.source.now in
    let p = c.in-Ok.params in
    let fit : params_for kind s.params ≡ Ok p = search rules in
    let room : is_full kind p s.frames ≡ false = search rules in
    output_made g.S.Shelf.state c.make_under.new.shelf c.args.importation.now.output.now kind s b files p fit room (c.in-Ok-make_under.ensures.made files b told tells)
