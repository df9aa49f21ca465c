use Rattle.std.proofs.Common.{◌≡◌, ◌+◌, ◌∙◌, Result, Ok, Err, ap, refl, rules, subst, sym}
use Rattle.std.specs.Prelude.{IsOk}
use Rattle.std.proofs.lemmas.Result.{IfOk-weaker}
use Rattle.snd_inputs.proofs.Public.{asks_whole, held_beside, only_read, opened_same, read_as}
use Rattle.snd_inputs.specs.Inputs.{input_in, is_bad}
use Rattle.snd_inputs.specs.Opening.{IsOpen, OpensInput}
use Rattle.snd_lines.specs.declared.refusal.Refusal.{Refusal}
use Rattle.snd_edits.specs.Editing.{Editing, first_editing}
use Rattle.snd_file.specs.Handle.{codec_of, known_of}
use Rattle.snd_output.proofs.Public.{if_changed, unchanged_as}
use Rattle.snd_output.specs.Appended.{Gains}
use Rattle.snd_concat.specs.Appending.{Follows}
use Rattle.snd_concat.specs.Concat.{numbers_for}
use Rattle.snd_concat.proofs.append.append_input.Goals as goal

pub returns-in_err-input-clause-reads : goal.returns-in_err-input-clause-reads
returns-in_err-input-clause-reads g c = c.in_err-input.ensures.opened.reads

pub returns-in-Err-clause-appended : goal.returns-in-Err-clause-appended
returns-in-Err-clause-appended g c = λ files e told is follows.
    absurd (
    let looks = subst (λ r. OpensInput g.S.Shelf g.S.Disk.Disk c.args.name.now c.args.shelf.now c.open_input.new.shelf (Ok r)) c.in-Err.is c.in_ok-input.ensures.opened in
    let no : ◌≡◌ {A = Result Editing Refusal} (Err c.in-Err.why) (Ok e) = sym (looks.1 files told) ∙ is in
    cc)

pub returns-in-Err-clause-reads : goal.returns-in-Err-clause-reads
returns-in-Err-clause-reads g c =
    let looks = subst (λ r. OpensInput g.S.Shelf g.S.Disk.Disk c.args.name.now c.args.shelf.now c.open_input.new.shelf (Ok r)) c.in-Err.is c.in_ok-input.ensures.opened in
    looks.0.reads

pub returns-clause-appended : goal.returns-clause-appended
returns-clause-appended g c =
    let opens : IsOpen g.S.Shelf g.S.Disk.Disk c.args.name.now c.args.shelf.now c.open_input.new.shelf c.in-Ok.input =
    subst (λ r. OpensInput g.S.Shelf g.S.Disk.Disk c.args.name.now c.args.shelf.now c.open_input.new.shelf (Ok r)) c.in-Ok.is c.in_ok-input.ensures.opened in
    let to = c.args.to.now in
    let to' = c.append_laid-appended.new.to in
    let layout = c.in-Ok.input.layout in
    IfOk-weaker c.append_laid-appended.result _ _
    (λ done appended files e told is follows.
    let found = opens.opened files told in
    let same : first_editing found.0 layout ≡ e =
    opened_same (input_in (files c.args.name.now)) (first_editing found.0 layout) e (ap input_in found.1 ∙ read_as found.0 layout found.2) is in
    let first : Follows layout (known_of to) = subst (λ (x : Editing). Follows x.shape (known_of to)) (sym same) follows in
    subst (λ (x : Editing). IsOk done × ((known_of to').write_place ≡ (known_of to).write_place + x.shape.frames) × Gains g.E.Disk.state (numbers_for (codec_of to) x) to to') same
    (appended found.0 found.3.bytes first))
    c.append_laid-appended.ensures.appended

pub returns-clause-faults : goal.returns-clause-faults
returns-clause-faults g c =
    let opens : IsOpen g.S.Shelf g.S.Disk.Disk c.args.name.now c.args.shelf.now c.open_input.new.shelf c.in-Ok.input =
    subst (λ r. OpensInput g.S.Shelf g.S.Disk.Disk c.args.name.now c.args.shelf.now c.open_input.new.shelf (Ok r)) c.in-Ok.is c.in_ok-input.ensures.opened in
    held_beside g.S.Shelf g.S.Disk.Disk c.args.shelf.now c.open_input.new.shelf c.give.new.self c.in-Ok.input _ _ _ c.args.name.now opens refl refl c.append_laid-appended.ensures.reads c.give.ensures.given
    c.append_laid-appended.result _ _ c.in_ok-input.ensures.faults c.append_laid-appended.ensures.faults

pub returns-clause-reads : goal.returns-clause-reads
returns-clause-reads g c =
    let opens : IsOpen g.S.Shelf g.S.Disk.Disk c.args.name.now c.args.shelf.now c.open_input.new.shelf c.in-Ok.input =
    subst (λ r. OpensInput g.S.Shelf g.S.Disk.Disk c.args.name.now c.args.shelf.now c.open_input.new.shelf (Ok r)) c.in-Ok.is c.in_ok-input.ensures.opened in
    only_read g.S.Shelf g.S.Disk.Disk c.args.shelf.now c.open_input.new.shelf c.give.new.self c.in-Ok.input _ _ _ c.args.name.now opens refl refl c.append_laid-appended.ensures.reads c.give.ensures.given
    c.give.ensures.images c.give.ensures.others c.requires.is_in

pub returns-clause-asked : goal.returns-clause-asked
returns-clause-asked g c =
    let opens : IsOpen g.S.Shelf g.S.Disk.Disk c.args.name.now c.args.shelf.now c.open_input.new.shelf c.in-Ok.input =
    subst (λ r. OpensInput g.S.Shelf g.S.Disk.Disk c.args.name.now c.args.shelf.now c.open_input.new.shelf (Ok r)) c.in-Ok.is c.in_ok-input.ensures.opened in
    asks_whole g.S.Shelf g.S.Disk.Disk c.args.shelf.now c.open_input.new.shelf c.give.new.self c.in-Ok.input _ _ _ c.args.name.now opens refl refl c.give.ensures.given
    _ refl (g.met.S.Disk.Disk.size_told c.in-Ok.input.disk) c.append_laid-appended.ensures.asked

pub returns-in_err-input-clause-changed : goal.returns-in_err-input-clause-changed
returns-in_err-input-clause-changed g c = unchanged_as _ c.in_err-input.field-0.0 c.from_residual.result (search rules) c.in_err-input.ensures.unchanged

pub returns-clause-changed : goal.returns-clause-changed
returns-clause-changed g c =
    let opens : IsOpen g.S.Shelf g.S.Disk.Disk c.args.name.now c.args.shelf.now c.open_input.new.shelf c.in-Ok.input =
    subst (λ r. OpensInput g.S.Shelf g.S.Disk.Disk c.args.name.now c.args.shelf.now c.open_input.new.shelf (Ok r)) c.in-Ok.is c.in_ok-input.ensures.opened in
    let layout = c.in-Ok.input.layout in
    if_changed _ _ c.append_laid-appended.result
    (λ bad files e told is.
    let found = opens.opened files told in
    let same : first_editing found.0 layout ≡ e =
    opened_same (input_in (files c.args.name.now)) (first_editing found.0 layout) e (ap input_in found.1 ∙ read_as found.0 layout found.2) is in
    ap is_bad (sym same) ∙ bad found.0 found.3.bytes)
    c.append_laid-appended.ensures.changed
