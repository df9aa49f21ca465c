use Rattle.std.proofs.Common.{rules, ◌≡◌, ◌∙◌, ap, subst, refl, [], ◌∷◌, Ok, Err, None, Some, length, get_or, arith}
use Rattle.std.proofs.lemmas.Result.{IfOk-weaker}
use Rattle.snd_disk.proofs.Public.{only_reads_then}
use Rattle.snd_edits.specs.Editing.{first_editing}
use Rattle.snd_inputs.proofs.Public.{asks_looks, asks_none, held_counts, read_as, still_in}
use Rattle.snd_inputs.proofs.Reading.{reads_itself}
use Rattle.snd_inputs.specs.Inputs.{input_in}
use Rattle.snd_inputs.specs.Opening.{IsOpen, OpensInput}
use Rattle.snd_lines.specs.declared.refusal.Refusal.TheVariants.{SameName}
use Rattle.snd_output.proofs.Public.{if_changed, unchanged_as}
use Rattle.snd_deinterleave.specs.Deinterleave.{deinterleaved, done_counted, first_same}
use Rattle.snd_deinterleave.specs.Outputs.{files_after}
use Rattle.snd_deinterleave.proofs.Counting.{asks_split}
use Rattle.snd_deinterleave.proofs.Leaving.{held_among, held_puts, reads_among}
use Rattle.snd_deinterleave.proofs.Repeating.{all_apart, input_apart, named_at, names_apart, not_among, same_within}
use Rattle.snd_deinterleave.proofs.Splitting.{after_beside, after_same, all_refused, all_same, apart_done, does_all, makes_counted, repeated_done}
use Rattle.snd_deinterleave.proofs.deinterleaving.deinterleave.Goals as goal

-- ---- a name stands twice

pub returns-in-Some-clause-done : goal.returns-in-Some-clause-done
returns-in-Some-clause-done g c = λ files told.
    let input = c.args.input in
    let outputs = c.args.outputs.now in
    let at = c.in-Some.at in
    let found : first_same input.now outputs ≡ Some at = search rules in
    let is : c.unwrap_or-name.result.now ≡ get_or outputs at [] =
    ap (λ x. x.now) c.unwrap_or-name.ensures ∙ named_at (λ x. x.now) c.get.result input outputs at c.get.ensures (same_within input.now outputs at found) in
    all_refused g.S.Shelf.state c.args.shelf.now files c.unwrap_or-name.result.now SameName (deinterleaved input.now outputs files) (files, told, λ n. refl)
    (repeated_done input.now outputs files at c.unwrap_or-name.result.now found is)

pub returns-in-Some-clause-changes : goal.returns-in-Some-clause-changes
returns-in-Some-clause-changes g c = reads_among g.S.Shelf c.args.outputs.now c.args.shelf.now c.args.shelf.now (reads_itself g.S.Shelf c.args.shelf.now)

pub returns-in-Some-clause-asked : goal.returns-in-Some-clause-asked
returns-in-Some-clause-asked g c = asks_none g.S.Shelf.state (length c.args.outputs.now) 16384 (c.args.input.now ∷ []) c.args.shelf.now c.args.shelf.now refl

-- ---- the input is not opened

pub returns-in_err-opened-clause-changes : goal.returns-in_err-opened-clause-changes
returns-in_err-opened-clause-changes g c = reads_among g.S.Shelf c.args.outputs.now _ _ c.in_err-opened.ensures.opened.reads

pub returns-in_err-opened-clause-changed : goal.returns-in_err-opened-clause-changed
returns-in_err-opened-clause-changed g c = unchanged_as _ c.in_err-opened.field-0.0 c.from_residual.result (search rules) c.in_err-opened.ensures.unchanged

pub returns-in_err-opened-clause-asked : goal.returns-in_err-opened-clause-asked
returns-in_err-opened-clause-asked g c =
    asks_looks g.S.Shelf.state (length c.args.outputs.now) 16384 (c.args.input.now ∷ []) c.args.shelf.now c.open_input.new.shelf (omega arith) c.in_err-opened.ensures.opened.asked

pub returns-in-Err-clause-done : goal.returns-in-Err-clause-done
returns-in-Err-clause-done g c = λ files told.
    let input = c.args.input.now in
    let outputs = c.args.outputs.now in
    let none : first_same input outputs ≡ None = search rules in
    let looks = subst (λ r. OpensInput g.S.Shelf g.S.Disk.Disk input c.args.shelf.now c.open_input.new.shelf (Ok r)) c.in-Err.is c.in_ok-opened.ensures.opened in
    all_refused g.S.Shelf.state c.open_input.new.shelf files input c.in-Err.why (deinterleaved input outputs files) (looks.0.reads.files files told)
    (apart_done input outputs files (Err c.in-Err.why) none (looks.1 files told))

pub returns-in-Err-clause-changes : goal.returns-in-Err-clause-changes
returns-in-Err-clause-changes g c =
    let looks = subst (λ r. OpensInput g.S.Shelf g.S.Disk.Disk c.args.input.now c.args.shelf.now c.open_input.new.shelf (Ok r)) c.in-Err.is c.in_ok-opened.ensures.opened in
    reads_among g.S.Shelf c.args.outputs.now _ _ looks.0.reads

pub returns-in-Err-clause-asked : goal.returns-in-Err-clause-asked
returns-in-Err-clause-asked g c =
    let looks = subst (λ r. OpensInput g.S.Shelf g.S.Disk.Disk c.args.input.now c.args.shelf.now c.open_input.new.shelf (Ok r)) c.in-Err.is c.in_ok-opened.ensures.opened in
    asks_looks g.S.Shelf.state (length c.args.outputs.now) 16384 (c.args.input.now ∷ []) c.args.shelf.now c.open_input.new.shelf (omega arith) looks.0.asked

-- ---- it is open

pub split_laid-answer-requires-clause-apart : goal.split_laid-answer-requires-clause-apart
split_laid-answer-requires-clause-apart g c =
    let none : first_same c.args.input.now c.args.outputs.now ≡ None = search rules in
    names_apart c.args.input.now c.args.outputs.now (all_apart c.args.input.now c.args.outputs.now none)

pub split_laid-answer-requires-clause-all_in : goal.split_laid-answer-requires-clause-all_in
split_laid-answer-requires-clause-all_in g c = λ n among.
    let input = c.args.input.now in
    let outputs = c.args.outputs.now in
    let none : first_same input outputs ≡ None = search rules in
    let opens : IsOpen g.S.Shelf g.S.Disk.Disk input c.args.shelf.now c.open_input.new.shelf c.in-Ok.opened =
    subst (λ r. OpensInput g.S.Shelf g.S.Disk.Disk input c.args.shelf.now c.open_input.new.shelf (Ok r)) c.in-Ok.is c.in_ok-opened.ensures.opened in
    still_in g.S.Shelf g.S.Disk.Disk c.args.shelf.now c.open_input.new.shelf c.in-Ok.opened input opens n
    (not_among outputs input n (input_apart input outputs (all_apart input outputs none)) among) (c.requires.back n)

pub give-requires-clause-out : goal.give-requires-clause-out
give-requires-clause-out g c =
    let opens : IsOpen g.S.Shelf g.S.Disk.Disk c.args.input.now c.args.shelf.now c.open_input.new.shelf c.in-Ok.opened =
    subst (λ r. OpensInput g.S.Shelf g.S.Disk.Disk c.args.input.now c.args.shelf.now c.open_input.new.shelf (Ok r)) c.in-Ok.is c.in_ok-opened.ensures.opened in
    c.split_laid-answer.ensures.changes.back c.args.input.now ∙ opens.out.taken

pub give-requires-clause-named : goal.give-requires-clause-named
give-requires-clause-named g c =
    let opens : IsOpen g.S.Shelf g.S.Disk.Disk c.args.input.now c.args.shelf.now c.open_input.new.shelf c.in-Ok.opened =
    subst (λ r. OpensInput g.S.Shelf g.S.Disk.Disk c.args.input.now c.args.shelf.now c.open_input.new.shelf (Ok r)) c.in-Ok.is c.in_ok-opened.ensures.opened in
    c.split_laid-answer.ensures.reads.keeps.name ∙ opens.named

pub returns-clause-done : goal.returns-clause-done
returns-clause-done g c =
    let input = c.args.input.now in
    let outputs = c.args.outputs.now in
    let x = c.in-Ok.opened in
    let one = c.split_laid-answer in
    let none : first_same input outputs ≡ None = search rules in
    let opens : IsOpen g.S.Shelf g.S.Disk.Disk input c.args.shelf.now c.open_input.new.shelf x =
    subst (λ r. OpensInput g.S.Shelf g.S.Disk.Disk input c.args.shelf.now c.open_input.new.shelf (Ok r)) c.in-Ok.is c.in_ok-opened.ensures.opened in
    does_all g.S.Shelf.state (deinterleaved input outputs) c.args.shelf.now c.give.new.self one.result
    (IfOk-weaker one.result _ _
    (λ answer done files told.
    let found = opens.opened files told in
    let e = first_editing found.0 x.layout in
    let out = opens.out.takes.files files told in
    let todo = done_counted input outputs e in
    let d = done out.0 found.0 out.1 found.3.bytes in
    let is : deinterleaved input outputs files ≡ todo = apart_done input outputs files (Ok e) none (ap input_in found.1 ∙ read_as found.0 x.layout found.2) in
    all_same g.S.Shelf.state c.give.new.self files answer todo (deinterleaved input outputs files) is (
      d.0,
      held_puts g.S.Shelf g.S.Disk.Disk outputs c.args.shelf.now c.open_input.new.shelf one.new.shelf c.give.new.self opens.handed one.new.disk input opens.out.takes
          (one.ensures.reads.keeps.contents ∙ opens.reads.keeps.contents) c.give.ensures.given (files_after todo) files told (after_same todo)
          (after_beside outputs todo files input (makes_counted input outputs e) (input_apart input outputs (all_apart input outputs none))) d.1,
    ))
    one.ensures.done)

pub returns-clause-changes : goal.returns-clause-changes
returns-clause-changes g c =
    let input = c.args.input.now in
    let outputs = c.args.outputs.now in
    let one = c.split_laid-answer in
    let opens : IsOpen g.S.Shelf g.S.Disk.Disk input c.args.shelf.now c.open_input.new.shelf c.in-Ok.opened =
    subst (λ r. OpensInput g.S.Shelf g.S.Disk.Disk input c.args.shelf.now c.open_input.new.shelf (Ok r)) c.in-Ok.is c.in_ok-opened.ensures.opened in
    held_among g.S.Shelf g.S.Disk.Disk outputs c.args.shelf.now c.open_input.new.shelf one.new.shelf c.give.new.self opens.handed one.new.disk input opens.out.takes
    (one.ensures.reads.keeps.contents ∙ opens.reads.keeps.contents) c.give.ensures.given opens.out.images c.give.ensures.images opens.out.others c.give.ensures.others
    (only_reads_then _ _ _ _ _ _ _ _ _ opens.reads one.ensures.reads).images one.ensures.changes (c.requires.back input)

pub returns-clause-faults : goal.returns-clause-faults
returns-clause-faults g c =
    let input = c.args.input.now in
    let one = c.split_laid-answer in
    let x = c.in-Ok.opened in
    let opens : IsOpen g.S.Shelf g.S.Disk.Disk input c.args.shelf.now c.open_input.new.shelf x =
    subst (λ r. OpensInput g.S.Shelf g.S.Disk.Disk input c.args.shelf.now c.open_input.new.shelf (Ok r)) c.in-Ok.is c.in_ok-opened.ensures.opened in
    held_counts g.S.Shelf g.S.Disk.Disk c.args.shelf.now c.open_input.new.shelf one.new.shelf c.give.new.self x x.disk one.new.disk one.new.disk input opens refl refl one.ensures.reads c.give.ensures.given
    one.result c.in_ok-opened.ensures.faults one.ensures.faults

pub returns-clause-changed : goal.returns-clause-changed
returns-clause-changed g c =
    let opens : IsOpen g.S.Shelf g.S.Disk.Disk c.args.input.now c.args.shelf.now c.open_input.new.shelf c.in-Ok.opened =
    subst (λ r. OpensInput g.S.Shelf g.S.Disk.Disk c.args.input.now c.args.shelf.now c.open_input.new.shelf (Ok r)) c.in-Ok.is c.in_ok-opened.ensures.opened in
    if_changed _ _ c.split_laid-answer.result (λ never files told. let found = opens.opened files told in never found.0 found.3.bytes) c.split_laid-answer.ensures.changed

pub returns-clause-asked : goal.returns-clause-asked
returns-clause-asked g c =
    let input = c.args.input.now in
    let one = c.split_laid-answer in
    let x = c.in-Ok.opened in
    let opens : IsOpen g.S.Shelf g.S.Disk.Disk input c.args.shelf.now c.open_input.new.shelf x =
    subst (λ r. OpensInput g.S.Shelf g.S.Disk.Disk input c.args.shelf.now c.open_input.new.shelf (Ok r)) c.in-Ok.is c.in_ok-opened.ensures.opened in
    asks_split g.S.Shelf g.S.Disk.Disk c.args.shelf.now c.open_input.new.shelf one.new.shelf c.give.new.self x one.new.disk input (length c.args.outputs.now) opens c.give.ensures.given one.ensures.unasked
    (g.met.S.Disk.Disk.size_told x.disk) one.ensures.asked
