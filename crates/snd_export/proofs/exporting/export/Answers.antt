use Rattle.std.proofs.Common.{◌≡◌, false, Ok, refl, rules, subst}
use Rattle.std.proofs.lemmas.Result.{IfOk-weaker}
use Rattle.std.specs.Str.{bytes_eq}
use Rattle.snd_inputs.proofs.Public.{does_so, done_same, held_counts, held_done, held_one, reads_changes, refused_as, still_in}
use Rattle.snd_inputs.specs.Opening.{IsOpen, OpensInput}
use Rattle.snd_edits.specs.Editing.{first_editing}
use Rattle.snd_output.proofs.Public.{if_changed, unchanged_as}
use Rattle.snd_tools.proofs.Public.{apart_back}
use Rattle.snd_export.specs.Export.{exported, exported_file}
use Rattle.snd_export.proofs.Asking.{asks_held}
use Rattle.snd_export.proofs.Doing.{exported_as, exported_refused, makes_file}
use Rattle.snd_export.proofs.exporting.export.Goals as goal

pub returns-in_err-input-clause-changes : goal.returns-in_err-input-clause-changes
returns-in_err-input-clause-changes g c = reads_changes g.S.Shelf c.args.exportation.now.output.now _ _ c.in_err-input.ensures.opened.reads

pub returns-in_err-input-clause-changed : goal.returns-in_err-input-clause-changed
returns-in_err-input-clause-changed g c = unchanged_as _ c.in_err-input.field-0.0 c.from_residual.result (search rules) c.in_err-input.ensures.unchanged

pub returns-in-Err-clause-done : goal.returns-in-Err-clause-done
returns-in-Err-clause-done g c = λ files told.
    let form = c.args.exportation.now.form in
    let input = c.args.exportation.now.input.now in
    let output = c.args.exportation.now.output.now in
    let apart : bytes_eq input output ≡ false = search rules in
    let looks = subst (λ r. OpensInput g.S.Shelf g.S.Disk.Disk input c.args.shelf.now c.open_input.new.shelf (Ok r)) c.in-Err.is c.in_ok-input.ensures.opened in
    refused_as g.S.Shelf.state c.open_input.new.shelf files input c.in-Err.why (exported form input output files) (looks.0.reads.files files told)
    (exported_refused form input output files apart c.in-Err.why (looks.1 files told))

pub returns-in-Err-clause-changes : goal.returns-in-Err-clause-changes
returns-in-Err-clause-changes g c =
    let looks = subst (λ r. OpensInput g.S.Shelf g.S.Disk.Disk c.args.exportation.now.input.now c.args.shelf.now c.open_input.new.shelf (Ok r)) c.in-Err.is c.in_ok-input.ensures.opened in
    reads_changes g.S.Shelf c.args.exportation.now.output.now _ _ looks.0.reads

pub export_laid-answer-requires-clause-is_in : goal.export_laid-answer-requires-clause-is_in
export_laid-answer-requires-clause-is_in g c =
    let input = c.args.exportation.now.input.now in
    let output = c.args.exportation.now.output.now in
    let apart : bytes_eq input output ≡ false = search rules in
    let opens : IsOpen g.S.Shelf g.S.Disk.Disk input c.args.shelf.now c.open_input.new.shelf c.in-Ok.input =
    subst (λ r. OpensInput g.S.Shelf g.S.Disk.Disk input c.args.shelf.now c.open_input.new.shelf (Ok r)) c.in-Ok.is c.in_ok-input.ensures.opened in
    still_in g.S.Shelf g.S.Disk.Disk c.args.shelf.now c.open_input.new.shelf c.in-Ok.input input opens output (apart_back input output apart) (c.requires.back output)

pub returns-clause-done : goal.returns-clause-done
returns-clause-done g c =
    let form = c.args.exportation.now.form in
    let input = c.args.exportation.now.input.now in
    let output = c.args.exportation.now.output.now in
    let apart : bytes_eq input output ≡ false = search rules in
    let opens : IsOpen g.S.Shelf g.S.Disk.Disk input c.args.shelf.now c.open_input.new.shelf c.in-Ok.input =
    subst (λ r. OpensInput g.S.Shelf g.S.Disk.Disk input c.args.shelf.now c.open_input.new.shelf (Ok r)) c.in-Ok.is c.in_ok-input.ensures.opened in
    does_so g.S.Shelf.state (exported form input output) c.args.shelf.now c.give.new.self c.export_laid-answer.result
    (IfOk-weaker c.export_laid-answer.result _ _
    (λ answer done files told.
    let found = opens.opened files told in
    let out = opens.out.takes.files files told in
    let e = first_editing found.0 c.in-Ok.input.layout in
    let todo = exported_file form input output e in
    let d = done out.0 found.0 out.1 found.3.bytes in
    done_same g.S.Shelf.state c.give.new.self files answer todo (exported form input output files) (exported_as form input output files apart found.0 c.in-Ok.input.layout found.1 found.2) (
      d.0,
      held_done g.S.Shelf g.S.Disk.Disk c.args.shelf.now c.open_input.new.shelf c.export_laid-answer.new.shelf c.give.new.self c.in-Ok.input _ _ _ input opens refl refl c.export_laid-answer.ensures.reads c.give.ensures.given output apart
          todo files told (makes_file form input output e) d.1,
    ))
    c.export_laid-answer.ensures.done)

pub returns-clause-changes : goal.returns-clause-changes
returns-clause-changes g c =
    let input = c.args.exportation.now.input.now in
    let output = c.args.exportation.now.output.now in
    let apart : bytes_eq input output ≡ false = search rules in
    let opens : IsOpen g.S.Shelf g.S.Disk.Disk input c.args.shelf.now c.open_input.new.shelf c.in-Ok.input =
    subst (λ r. OpensInput g.S.Shelf g.S.Disk.Disk input c.args.shelf.now c.open_input.new.shelf (Ok r)) c.in-Ok.is c.in_ok-input.ensures.opened in
    held_one g.S.Shelf g.S.Disk.Disk c.args.shelf.now c.open_input.new.shelf c.export_laid-answer.new.shelf c.give.new.self c.in-Ok.input _ _ _ input opens refl refl c.export_laid-answer.ensures.reads c.give.ensures.given output apart
    c.give.ensures.images c.give.ensures.others c.export_laid-answer.ensures.changes (c.requires.back input)

pub returns-clause-faults : goal.returns-clause-faults
returns-clause-faults g c =
    let input = c.args.exportation.now.input.now in
    let opens : IsOpen g.S.Shelf g.S.Disk.Disk input c.args.shelf.now c.open_input.new.shelf c.in-Ok.input =
    subst (λ r. OpensInput g.S.Shelf g.S.Disk.Disk input c.args.shelf.now c.open_input.new.shelf (Ok r)) c.in-Ok.is c.in_ok-input.ensures.opened in
    held_counts g.S.Shelf g.S.Disk.Disk c.args.shelf.now c.open_input.new.shelf c.export_laid-answer.new.shelf c.give.new.self c.in-Ok.input _ _ _ input opens refl refl c.export_laid-answer.ensures.reads c.give.ensures.given
    c.export_laid-answer.result c.in_ok-input.ensures.faults c.export_laid-answer.ensures.faults

pub returns-clause-changed : goal.returns-clause-changed
returns-clause-changed g c =
    let input = c.args.exportation.now.input.now in
    let opens : IsOpen g.S.Shelf g.S.Disk.Disk input c.args.shelf.now c.open_input.new.shelf c.in-Ok.input =
    subst (λ r. OpensInput g.S.Shelf g.S.Disk.Disk input c.args.shelf.now c.open_input.new.shelf (Ok r)) c.in-Ok.is c.in_ok-input.ensures.opened in
    if_changed _ _ c.export_laid-answer.result (λ never files told. let found = opens.opened files told in never found.0 found.3.bytes) c.export_laid-answer.ensures.changed

pub returns-clause-asked : goal.returns-clause-asked
returns-clause-asked g c =
    let input = c.args.exportation.now.input.now in
    let opens : IsOpen g.S.Shelf g.S.Disk.Disk input c.args.shelf.now c.open_input.new.shelf c.in-Ok.input =
    subst (λ r. OpensInput g.S.Shelf g.S.Disk.Disk input c.args.shelf.now c.open_input.new.shelf (Ok r)) c.in-Ok.is c.in_ok-input.ensures.opened in
    asks_held g.S.Shelf g.S.Disk.Disk c.args.shelf.now c.open_input.new.shelf c.export_laid-answer.new.shelf c.give.new.self c.in-Ok.input _ _ _ input opens refl refl c.give.ensures.given
    c.export_laid-answer.ensures.unasked (g.met.S.Disk.Disk.size_told c.in-Ok.input.disk) c.export_laid-answer.ensures.asked
