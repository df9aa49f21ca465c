use Rattle.std.proofs.Common.{◌≡◌, ◌∙◌, ◌++◌, ◌∷◌, [], ℕ, List, None, Some, Ok, arith, get_or, rules, ap, refl, subst, sym}
use Rattle.snd_inputs.proofs.Public.{asks_looks, both_then, changes_after, does_so, done_same, reads_changes, same_inputs}
use Rattle.snd_inputs.specs.Inputs.{inputs_in}
use Rattle.snd_inputs.specs.Looking.{seen_by}
use Rattle.snd_lines.specs.declared.refusal.Refusal.TheVariants.{SameName}
use Rattle.snd_output.proofs.Public.{if_changed, unchanged_err}
use Rattle.snd_tools.specs.Done.{Done, Said, files_after, said_of}
use Rattle.snd_tools.specs.Shelves.{HasFiles}
use Rattle.snd_words.specs.Repeats.{first_repeated}
use Rattle.snd_concat.specs.Concat.{concatenated, done_if_apart, done_like, done_with}
use Rattle.std.proofs.lemmas.Result.{IfOk-weaker}
use Rattle.snd_concat.proofs.Doing.{done_over, seen_sound}
use Rattle.snd_concat.proofs.Repeats.{apart_from, repeated_within}
use Rattle.snd_concat.proofs.concatenating.concat.Goals as goal

pub returns-in-Some-clause-done : goal.returns-in-Some-clause-done
returns-in-Some-clause-done g c = λ files told.
    let inputs = c.args.concatenation.now.inputs in
    let output = c.args.concatenation.now.output.now in
    let is : first_repeated (inputs ++ output ∷ []) ≡ Some c.in-Some.at = search rules in
    let name : c.name_at.result.now ≡ get_or (inputs ++ output ∷ []) c.in-Some.at [] = c.name_at.ensures (repeated_within inputs output c.in-Some.at is) in
    subst (λ (d : Done). (Said.refused c.name_at.result.now SameName ≡ said_of d) × HasFiles g.S.Shelf.state c.args.shelf.now (files_after d files)) (sym (ap (done_if_apart inputs output files) is))
    (ap (λ (n : List ℕ). Said.refused n SameName) name, (files, told, λ n. refl))

pub concat_laid-requires-clause-apart : goal.concat_laid-requires-clause-apart
concat_laid-requires-clause-apart g c =
    let inputs = c.args.concatenation.now.inputs in
    let output = c.args.concatenation.now.output.now in
    let none : first_repeated (inputs ++ output ∷ []) ≡ None = search rules in
    apart_from inputs output none

pub returns-in-Ok-Sound-clause-done : goal.returns-in-Ok-Sound-clause-done
returns-in-Ok-Sound-clause-done g c =
    let inputs = c.args.concatenation.now.inputs in
    let output = c.args.concatenation.now.output.now in
    let none : first_repeated (inputs ++ output ∷ []) ≡ None = search rules in
    let items : c.in-Ok-Sound.layouts.items ≡ c.deref.result.now = search rules in
    does_so g.S.Shelf.state (concatenated inputs output) c.args.shelf.now c.concat_laid.new.shelf c.concat_laid.result
    (IfOk-weaker c.concat_laid.result _ _
    (λ answer done files told.
    let read = c.look_all.ensures.reads.files files told in
    let shown : seen_by c.in-Ok-Sound.field-0 ≡ Ok c.in-Ok-Sound.layouts.items = search rules in
    let seen = seen_sound (inputs_in files inputs) c.in-Ok-Sound.layouts.items (sym shown ∙ c.in-Ok-Sound.ensures.seen files told) in
    let opened : inputs_in read.0 inputs ≡ Ok seen.0 = same_inputs files read.0 inputs (λ k d lt. read.2 (get_or inputs k d)) ∙ seen.1 in
    let todo : concatenated inputs output files ≡ done_like inputs output seen.0 = ap (done_if_apart inputs output files) none ∙ ap (done_with inputs output) seen.1 in
    done_same g.S.Shelf.state c.concat_laid.new.shelf files answer (done_like inputs output seen.0) (concatenated inputs output files) todo
    (done_over g.S.Shelf.state c.concat_laid.new.shelf answer (done_like inputs output seen.0) files read.0 read.2 (done read.0 seen.0 read.1 opened (seen.2 ∙ items))))
    c.concat_laid.ensures.done)

pub returns-in-Ok-Sound-clause-changes : goal.returns-in-Ok-Sound-clause-changes
returns-in-Ok-Sound-clause-changes g c = changes_after g.S.Shelf c.args.concatenation.now.output.now _ _ _ c.look_all.ensures.reads c.concat_laid.ensures.changes

pub returns-in-Ok-Refused-clause-changes : goal.returns-in-Ok-Refused-clause-changes
returns-in-Ok-Refused-clause-changes g c = reads_changes g.S.Shelf c.args.concatenation.now.output.now _ _ c.look_all.ensures.reads

pub returns-in-Err-clause-changes : goal.returns-in-Err-clause-changes
returns-in-Err-clause-changes g c = reads_changes g.S.Shelf c.args.concatenation.now.output.now _ _ c.look_all.ensures.reads

pub returns-in-Ok-Sound-clause-changed : goal.returns-in-Ok-Sound-clause-changed
returns-in-Ok-Sound-clause-changed g c =
    if_changed _ _ c.concat_laid.result
    (λ never files told.
    let inputs = c.args.concatenation.now.inputs in
    let read = c.look_all.ensures.reads.files files told in
    let shown : seen_by c.in-Ok-Sound.field-0 ≡ Ok c.in-Ok-Sound.layouts.items = search rules in
    let seen = seen_sound (inputs_in files inputs) c.in-Ok-Sound.layouts.items (sym shown ∙ c.in-Ok-Sound.ensures.seen files told) in
    let opened : inputs_in read.0 inputs ≡ Ok seen.0 = same_inputs files read.0 inputs (λ k d lt. read.2 (get_or inputs k d)) ∙ seen.1 in
    never read.0 seen.0 read.1 opened)
    c.concat_laid.ensures.changed

pub returns-in-Err-clause-changed : goal.returns-in-Err-clause-changed
returns-in-Err-clause-changed g c = unchanged_err _ c.in-Err.stop c.in-Err.ensures.unchanged

pub returns-in-Ok-Sound-clause-asked : goal.returns-in-Ok-Sound-clause-asked
returns-in-Ok-Sound-clause-asked g c =
    let inputs = c.args.concatenation.now.inputs in
    both_then g.S.Shelf.state 0 16384 2 32768 inputs c.args.shelf.now c.look_all.new.shelf c.concat_laid.new.shelf c.look_all.ensures.reads.files
    (asks_looks g.S.Shelf.state 0 16384 inputs c.args.shelf.now c.look_all.new.shelf (omega arith) c.look_all.ensures.asked) c.concat_laid.ensures.asked
