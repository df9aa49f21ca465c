use Rattle.std.proofs.Common.{◌≡◌, ◌∙◌, refl, sym, true, false}
use Rattle.std.proofs.lemmas.Result.{IfOk-weaker}
use Rattle.snd_edits.specs.Editing.{first_editing}
use Rattle.snd_inputs.proofs.Public.{done_same, refused_as}
use Rattle.snd_export.specs.Export.{exported_file, exported_good, has_too_many, is_too_long}
use Rattle.snd_export.proofs.Doing.{file_good, file_long, file_many}
use Rattle.snd_export.proofs.exporting.export_laid.Goals as goal

pub returns-then-has_too_many-clause-done : goal.returns-then-has_too_many-clause-done
returns-then-has_too_many-clause-done g c = λ files b told tells.
    let x = c.args.exportation.now in
    let e = first_editing b c.args.layout.now in
    let many : has_too_many x.form e.shape ≡ true = sym c.has_too_many.ensures ∙ c.if-has_too_many.true in
    refused_as g.S.Shelf.state c.args.shelf.now files x.input.now _ (exported_file x.form x.input.now x.output.now e) (files, told, λ n. refl) (file_many x.form x.input.now x.output.now e many)

pub returns-then-is_too_long-clause-done : goal.returns-then-is_too_long-clause-done
returns-then-is_too_long-clause-done g c = λ files b told tells.
    let x = c.args.exportation.now in
    let e = first_editing b c.args.layout.now in
    let few : has_too_many x.form e.shape ≡ false = sym c.has_too_many.ensures ∙ c.if-has_too_many.false in
    let long : is_too_long x.form e.shape ≡ true = sym c.is_too_long.ensures ∙ c.if-is_too_long.true in
    refused_as g.S.Shelf.state c.args.shelf.now files x.output.now _ (exported_file x.form x.input.now x.output.now e) (files, told, λ n. refl) (file_long x.form x.input.now x.output.now e few long)

pub returns-clause-done : goal.returns-clause-done
returns-clause-done g c =
    IfOk-weaker c.export_good.result _ _
    (λ answer done files b told tells.
    let x = c.args.exportation.now in
    let e = first_editing b c.args.layout.now in
    let few : has_too_many x.form e.shape ≡ false = sym c.has_too_many.ensures ∙ c.if-has_too_many.false in
    let short : is_too_long x.form e.shape ≡ false = sym c.is_too_long.ensures ∙ c.if-is_too_long.false in
    done_same g.S.Shelf.state c.export_good.new.shelf files answer (exported_good x.form x.input.now x.output.now e) (exported_file x.form x.input.now x.output.now e) (file_good x.form x.input.now x.output.now e few short) (done files b told tells))
    c.export_good.ensures.done
