use Rattle.std.proofs.Common.{◌≡◌, ◌∙◌, Result, Ok, Err, ap, refl, subst, sym}
use Rattle.std.proofs.lemmas.Result.{IfOk-weaker}
use Rattle.snd_lines.specs.declared.refusal.Refusal.{Refusal}
use Rattle.snd_edits.specs.Editing.{Editing, first_editing}
use Rattle.snd_inputs.proofs.Asking.{asks_checked}
use Rattle.snd_inputs.proofs.Held.{held_counts_alone, only_read}
use Rattle.snd_inputs.proofs.Lists.{opened_same}
use Rattle.snd_inputs.proofs.Seen.{read_as}
use Rattle.snd_inputs.specs.Inputs.{input_in, is_bad}
use Rattle.snd_inputs.specs.Opening.{IsOpen, OpensInput}
use Rattle.snd_inputs.proofs.checking.check_input.Goals as goal

pub returns-in_err-input-clause-reads : goal.returns-in_err-input-clause-reads
returns-in_err-input-clause-reads g c = c.in_err-input.ensures.opened.reads

pub returns-in-Err-clause-found : goal.returns-in-Err-clause-found
returns-in-Err-clause-found g c = λ files told e is.
    absurd (
    let looks = subst (λ r. OpensInput g.S.Shelf g.S.Disk.Disk c.args.name.now c.args.shelf.now c.open_input.new.shelf (Ok r)) c.in-Err.is c.in_ok-input.ensures.opened in
    let no : ◌≡◌ {A = Result Editing Refusal} (Err c.in-Err.field-0) (Ok e) = sym (looks.1 files told) ∙ is in
    cc)

pub returns-in-Err-clause-reads : goal.returns-in-Err-clause-reads
returns-in-Err-clause-reads g c =
    let looks = subst (λ r. OpensInput g.S.Shelf g.S.Disk.Disk c.args.name.now c.args.shelf.now c.open_input.new.shelf (Ok r)) c.in-Err.is c.in_ok-input.ensures.opened in
    looks.0.reads

pub returns-clause-found : goal.returns-clause-found
returns-clause-found g c =
    let opens : IsOpen g.S.Shelf g.S.Disk.Disk c.args.name.now c.args.shelf.now c.open_input.new.shelf c.in-Ok.input =
    subst (λ r. OpensInput g.S.Shelf g.S.Disk.Disk c.args.name.now c.args.shelf.now c.open_input.new.shelf (Ok r)) c.in-Ok.is c.in_ok-input.ensures.opened in
    let layout = c.in-Ok.input.layout in
    IfOk-weaker c.check_laid-bad.result _ _
    (λ bad found files told e is.
    let there = opens.opened files told in
    let same : first_editing there.0 layout ≡ e = opened_same (input_in (files c.args.name.now)) (first_editing there.0 layout) e (ap input_in there.1 ∙ read_as there.0 layout there.2) is in
    found there.0 there.3.bytes ∙ ap is_bad same)
    c.check_laid-bad.ensures.found

pub returns-clause-faults : goal.returns-clause-faults
returns-clause-faults g c =
    let opens : IsOpen g.S.Shelf g.S.Disk.Disk c.args.name.now c.args.shelf.now c.open_input.new.shelf c.in-Ok.input =
    subst (λ r. OpensInput g.S.Shelf g.S.Disk.Disk c.args.name.now c.args.shelf.now c.open_input.new.shelf (Ok r)) c.in-Ok.is c.in_ok-input.ensures.opened in
    held_counts_alone g.S.Shelf g.S.Disk.Disk c.args.shelf.now c.open_input.new.shelf c.give.new.self c.in-Ok.input _ _ _ c.args.name.now opens refl refl c.check_laid-bad.ensures.reads c.give.ensures.given
    c.check_laid-bad.result c.in_ok-input.ensures.faults c.check_laid-bad.ensures.faults

pub returns-clause-reads : goal.returns-clause-reads
returns-clause-reads g c =
    let opens : IsOpen g.S.Shelf g.S.Disk.Disk c.args.name.now c.args.shelf.now c.open_input.new.shelf c.in-Ok.input =
    subst (λ r. OpensInput g.S.Shelf g.S.Disk.Disk c.args.name.now c.args.shelf.now c.open_input.new.shelf (Ok r)) c.in-Ok.is c.in_ok-input.ensures.opened in
    only_read g.S.Shelf g.S.Disk.Disk c.args.shelf.now c.open_input.new.shelf c.give.new.self c.in-Ok.input _ _ _ c.args.name.now opens refl refl c.check_laid-bad.ensures.reads c.give.ensures.given
    c.give.ensures.images c.give.ensures.others c.requires

pub returns-clause-asked : goal.returns-clause-asked
returns-clause-asked g c =
    let opens : IsOpen g.S.Shelf g.S.Disk.Disk c.args.name.now c.args.shelf.now c.open_input.new.shelf c.in-Ok.input =
    subst (λ r. OpensInput g.S.Shelf g.S.Disk.Disk c.args.name.now c.args.shelf.now c.open_input.new.shelf (Ok r)) c.in-Ok.is c.in_ok-input.ensures.opened in
    asks_checked g.S.Shelf g.S.Disk.Disk c.args.shelf.now c.open_input.new.shelf c.give.new.self c.in-Ok.input _ _ _ c.args.name.now opens refl refl c.give.ensures.given
    (g.met.S.Disk.Disk.size_told c.in-Ok.input.disk) c.check_laid-bad.ensures.asked
