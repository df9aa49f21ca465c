use Rattle.std.proofs.Common.{rules, ◌≡◌, ◌∙◌, refl, sym, true, false}
use Rattle.snd_disk.proofs.Public.{only_reads_then}
use Rattle.snd_disk.specs.Device.{Tells}
use Rattle.snd_edits.specs.Editing.{first_editing}
use Rattle.snd_inputs.proofs.Public.{refused_as}
use Rattle.snd_inputs.specs.Inputs.{is_bad}
use Rattle.snd_output.proofs.Public.{changed_err, unchanged_as}
use Rattle.snd_export.specs.Export.{exported_good}
use Rattle.snd_export.proofs.Doing.{good_bad, output_made}
use Rattle.snd_export.proofs.exporting.export_good.Goals as goal

pub returns-then-bad-clause-done : goal.returns-then-bad-clause-done
returns-then-bad-clause-done g c = λ files b told tells.
    let x = c.args.exportation.now in
    let e = first_editing b c.args.layout.now in
    let bad : is_bad e ≡ true = sym (c.in_ok-bad.ensures.found b tells) ∙ c.if-bad.true in
    refused_as g.S.Shelf.state c.args.shelf.now files x.input.now _ (exported_good x.form x.input.now x.output.now e) (files, told, λ n. refl) (good_bad x.form x.input.now x.output.now e bad)

pub returns-in-Ok-clause-done : goal.returns-in-Ok-clause-done
returns-in-Ok-clause-done g c = λ files b told tells.
    let x = c.args.exportation.now in
    let e = first_editing b c.args.layout.now in
    let good : is_bad e ≡ false = sym (c.in_ok-bad.ensures.found b tells) ∙ c.if-bad.false in
    output_made x.form x.input.now x.output.now e g.S.Shelf.state c.make_under.new.shelf files c.frames_of-frames.result good c.frames_of-frames.ensures
    (c.in-Ok.ensures.made files b told (c.is_bad.ensures.reads.keeps.contents ∙ tells))

pub returns-in_err-bad-clause-changed : goal.returns-in_err-bad-clause-changed
returns-in_err-bad-clause-changed g c = unchanged_as _ c.in_err-bad.field-0.0 c.from_residual.result (search rules) c.in_err-bad.ensures.unchanged

pub returns-in-Err-clause-changed : goal.returns-in-Err-clause-changed
returns-in-Err-clause-changed g c =
    changed_err _ _ c.in-Err.stop
    (λ bad b tells.
    let still : Tells g.D.Disk.state c.is_bad.new.from b = c.is_bad.ensures.reads.keeps.contents ∙ tells in
    let no : true ≡ false = sym (bad b still) ∙ sym (c.in_ok-bad.ensures.found b tells) ∙ c.if-bad.false in
    absurd (cc))
    c.in-Err.ensures.changed

pub returns-in-Ok-clause-reads : goal.returns-in-Ok-clause-reads
returns-in-Ok-clause-reads g c = only_reads_then _ _ _ _ _ _ _ _ _ c.is_bad.ensures.reads c.make_under.ensures.reads

pub returns-in-Err-clause-reads : goal.returns-in-Err-clause-reads
returns-in-Err-clause-reads g c = only_reads_then _ _ _ _ _ _ _ _ _ c.is_bad.ensures.reads c.make_under.ensures.reads
