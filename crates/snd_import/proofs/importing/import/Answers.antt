use Rattle.std.proofs.Common.{◌≡◌, ◌∙◌, Bool, cond, true, false, List, [], ℕ, Ok, Option, Some, None, ap, refl, rules, subst}
use Rattle.std.proofs.lemmas.Result.{IfOk-weaker}
use Rattle.std.specs.Prelude.{unwrap_or}
use Rattle.std.specs.Str.{bytes_eq}
use Rattle.snd_disk.specs.Device.{Tells}
use Rattle.snd_inputs.proofs.Public.{does_so, done_same, reads_changes, refused_as}
use Rattle.snd_inputs.specs.Opening.{IsHandedOut}
use Rattle.snd_lines.specs.declared.refusal.Refusal.TheVariants.{MissingFile}
use Rattle.snd_tools.proofs.Public.{apart_back, counts_back, held_changes, held_files}
use Rattle.snd_words.specs.Suffix.{kind_by_suffix}
use Rattle.snd_import.specs.Import.{done_with, imported, made_from, source_in}
use Rattle.snd_import.specs.Making.{TakesInput}
use Rattle.snd_import.proofs.Doing.{asked_none, asked_there, counts_same, imported_from, imported_is, makes_from}
use Rattle.snd_import.proofs.importing.import.Goals as goal

pub returns-in_err-disk-clause-changes : goal.returns-in_err-disk-clause-changes
returns-in_err-disk-clause-changes g c = reads_changes g.S.Shelf c.args.importation.now.output.now _ _ c.in_err-disk.ensures.taken

pub returns-in_err-disk-clause-asked : goal.returns-in_err-disk-clause-asked
returns-in_err-disk-clause-asked g c = λ files told. asked_none (files c.args.importation.now.input.now) _ _ c.take_input.ensures.bytes.asked

pub returns-in-None-clause-done : goal.returns-in-None-clause-done
returns-in-None-clause-done g c = λ files told.
    let form = c.args.importation.now.form in
    let input = c.args.importation.now.input.now in
    let output = c.args.importation.now.output.now in
    let kind = c.in-Some.kind in
    let apart : bytes_eq input output ≡ false = search rules in
    let suffix : kind_by_suffix output ≡ Some kind = search rules in
    let looks = subst (λ r. TakesInput g.S.Shelf g.S.Disk.Disk input c.args.shelf.now c.take_input.new.shelf (Ok r)) c.in-None.is c.in_ok-disk.ensures.taken in
    refused_as g.S.Shelf.state c.take_input.new.shelf files input MissingFile (imported form input output files) (looks.0.files files told)
    (imported_is form input output files kind apart suffix ∙ ap (done_with form input output kind) (looks.1 files told))

pub returns-in-None-clause-changes : goal.returns-in-None-clause-changes
returns-in-None-clause-changes g c =
    let looks = subst (λ r. TakesInput g.S.Shelf g.S.Disk.Disk c.args.importation.now.input.now c.args.shelf.now c.take_input.new.shelf (Ok r)) c.in-None.is c.in_ok-disk.ensures.taken in
    reads_changes g.S.Shelf c.args.importation.now.output.now _ _ looks.0

pub returns-in-None-clause-asked : goal.returns-in-None-clause-asked
returns-in-None-clause-asked g c = λ files told. asked_none (files c.args.importation.now.input.now) _ _ c.take_input.ensures.bytes.asked

pub import_file-answer-requires-clause-is_in : goal.import_file-answer-requires-clause-is_in
import_file-answer-requires-clause-is_in g c =
    let input = c.args.importation.now.input.now in
    let output = c.args.importation.now.output.now in
    let apart : bytes_eq input output ≡ false = search rules in
    let out : IsHandedOut g.S.Shelf g.S.Disk.Disk input false c.args.shelf.now c.take_input.new.shelf c.in-Some-2.disk =
    subst (λ r. TakesInput g.S.Shelf g.S.Disk.Disk input c.args.shelf.now c.take_input.new.shelf (Ok r)) c.in-Some-2.is c.in_ok-disk.ensures.taken in
    out.takes.out output ∙ ap (λ (t : Bool). cond t true ((g.S.Shelf.state c.args.shelf.now).out output)) (apart_back input output apart) ∙ c.requires.back output

pub returns-clause-done : goal.returns-clause-done
returns-clause-done g c =
    let form = c.args.importation.now.form in
    let input = c.args.importation.now.input.now in
    let output = c.args.importation.now.output.now in
    let kind = c.in-Some.kind in
    let apart : bytes_eq input output ≡ false = search rules in
    let suffix : kind_by_suffix output ≡ Some kind = search rules in
    let out : IsHandedOut g.S.Shelf g.S.Disk.Disk input false c.args.shelf.now c.take_input.new.shelf c.in-Some-2.disk =
    subst (λ r. TakesInput g.S.Shelf g.S.Disk.Disk input c.args.shelf.now c.take_input.new.shelf (Ok r)) c.in-Some-2.is c.in_ok-disk.ensures.taken in
    does_so g.S.Shelf.state (imported form input output) c.args.shelf.now c.give.new.self c.import_file-answer.result
    (IfOk-weaker c.import_file-answer.result _ _
    (λ answer done files told.
    let there = out.takes.there files told refl in
    let rest = out.takes.files files told in
    let tells : Tells g.S.Disk.Disk.state c.in-Some-2.disk there.0 = out.takes.contents files told ∙ ap (λ (o : Option (List ℕ)). Some (unwrap_or o [])) there.1 in
    let todo = made_from input output kind there.0 (source_in form there.0) in
    let d = done rest.0 there.0 rest.1 tells in
    done_same g.S.Shelf.state c.give.new.self files answer todo (imported form input output files) (imported_from form input output files kind apart suffix there.0 there.1) (
      d.0,
      held_files g.S.Shelf g.S.Disk.Disk c.args.shelf.now c.take_input.new.shelf c.import_file-answer.new.shelf c.give.new.self c.in-Some-2.disk c.import_file-answer.new.from input output out.takes c.import_file-answer.ensures.reads.keeps.contents
          c.give.ensures.given apart todo files told (makes_from input output kind there.0 (source_in form there.0)) d.1,
    ))
    c.import_file-answer.ensures.done)

pub returns-clause-changes : goal.returns-clause-changes
returns-clause-changes g c =
    let input = c.args.importation.now.input.now in
    let output = c.args.importation.now.output.now in
    let apart : bytes_eq input output ≡ false = search rules in
    let out : IsHandedOut g.S.Shelf g.S.Disk.Disk input false c.args.shelf.now c.take_input.new.shelf c.in-Some-2.disk =
    subst (λ r. TakesInput g.S.Shelf g.S.Disk.Disk input c.args.shelf.now c.take_input.new.shelf (Ok r)) c.in-Some-2.is c.in_ok-disk.ensures.taken in
    held_changes g.S.Shelf g.S.Disk.Disk c.args.shelf.now c.take_input.new.shelf c.import_file-answer.new.shelf c.give.new.self c.in-Some-2.disk c.import_file-answer.new.from input output out.takes c.import_file-answer.ensures.reads.keeps.contents
    c.give.ensures.given apart out.images c.give.ensures.images out.others c.give.ensures.others c.import_file-answer.ensures.reads.images c.import_file-answer.ensures.changes (c.requires.back input)

pub returns-clause-faults : goal.returns-clause-faults
returns-clause-faults g c =
    let input = c.args.importation.now.input.now in
    let out : IsHandedOut g.S.Shelf g.S.Disk.Disk input false c.args.shelf.now c.take_input.new.shelf c.in-Some-2.disk =
    subst (λ r. TakesInput g.S.Shelf g.S.Disk.Disk input c.args.shelf.now c.take_input.new.shelf (Ok r)) c.in-Some-2.is c.in_ok-disk.ensures.taken in
    counts_back (g.S.Shelf.state c.args.shelf.now).faults (g.S.Shelf.state c.take_input.new.shelf).faults (g.S.Disk.Disk.state c.in-Some-2.disk).faults (g.S.Disk.Disk.state c.import_file-answer.new.from).faults (g.S.Shelf.state c.give.new.self).faults
    c.in_ok-disk.ensures.faults out.takes.fresh.0 c.import_file-answer.result (g.S.Shelf.state c.import_file-answer.new.shelf).faults (counts_same c.import_file-answer.result _ _ _ _ c.import_file-answer.ensures.faults) c.give.ensures.given.faults

pub returns-clause-asked : goal.returns-clause-asked
returns-clause-asked g c = λ files told.
    let input = c.args.importation.now.input.now in
    let out : IsHandedOut g.S.Shelf g.S.Disk.Disk input false c.args.shelf.now c.take_input.new.shelf c.in-Some-2.disk =
    subst (λ r. TakesInput g.S.Shelf g.S.Disk.Disk input c.args.shelf.now c.take_input.new.shelf (Ok r)) c.in-Some-2.is c.in_ok-disk.ensures.taken in
    let there = out.takes.there files told refl in
    let tells : Tells g.S.Disk.Disk.state c.in-Some-2.disk there.0 = out.takes.contents files told ∙ ap (λ (o : Option (List ℕ)). Some (unwrap_or o [])) there.1 in
    asked_there (files input) there.0 (g.S.Disk.Disk.state c.in-Some-2.disk).size _ (g.S.Shelf.state c.take_input.new.shelf).asked _ (g.S.Disk.Disk.state c.in-Some-2.disk).asked (g.S.Disk.Disk.state c.import_file-answer.new.from).asked _ there.1
    (g.met.S.Disk.Disk.size_told c.in-Some-2.disk there.0 tells) out.bytes.asked c.import_file-answer.ensures.unasked out.takes.fresh.2 c.import_file-answer.ensures.asked c.give.ensures.given.asked
