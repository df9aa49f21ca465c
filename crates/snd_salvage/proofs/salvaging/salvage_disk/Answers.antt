use Rattle.std.proofs.Common.{◌≡◌, ◌∙◌, ◌≤◌, ℕ, ap, sym, refl, subst, rules}
use Rattle.std.proofs.lemmas.Result.{IfOk-weaker}
use Rattle.snd_blocks.specs.Sound.{frames_in}
use Rattle.snd_inputs.proofs.Public.{done_same, refused_as}
use Rattle.snd_layout.specs.Shape.{Shape}
use Rattle.snd_layout.specs.declared.refusal.OpenRefusal.{OpenRefusal}
use Rattle.snd_lines.specs.declared.refusal.Refusal.TheVariants.{Open}
use Rattle.snd_output.specs.Widths.{joined}
use Rattle.snd_search.specs.Sought.{counted, sought_in}
use Rattle.snd_tools.specs.Done.{Done}
use Rattle.snd_salvage.specs.Salvage.{made_from, made_with}
use Rattle.snd_salvage.proofs.Doing.{asked_found, made_found}
use Rattle.snd_salvage.proofs.salvaging.salvage_disk.Goals as goal

pub returns-in-Ok-clause-done : goal.returns-in-Ok-clause-done
returns-in-Ok-clause-done g c =
    let input = c.args.salvaging.now.input.now in
    let output = c.args.salvaging.now.output.now in
    let h : Shape = c.in-Ok.layout in
    let channels : c.layout.inside.params.channels ≡ h.params.channels = search rules in
    let some : 1 ≤ h.params.channels = subst (λ (n : ℕ). 1 ≤ n) channels c.are_good.ensures.some_channel in
    IfOk-weaker c.salvage_laid.result _ _
    (λ answer done files b told tells.
    done_same g.S.Shelf.state c.salvage_laid.new.shelf files answer (made_with output h.params h.frames (joined (frames_in b h))) (made_from input output (sought_in (counted b)))
    (made_found input output b h c.in-Ok.ensures.is_fixed some (c.in-Ok.ensures.opened b tells)) (done files b told (c.find_sound.ensures.reads.keeps.contents ∙ tells)))
    c.salvage_laid.ensures.done

pub returns-in-Ok-clause-asked : goal.returns-in-Ok-clause-asked
returns-in-Ok-clause-asked g c =
    asked_found c.in-Ok.layout (g.D.Disk.state c.args.disk.now).size _ _ _ c.in-Ok.ensures.is_fixed c.in-Ok.ensures.held c.in-Ok.ensures.asked c.salvage_laid.ensures.asked

pub returns-in-Err-Refused-clause-done : goal.returns-in-Err-Refused-clause-done
returns-in-Err-Refused-clause-done g c = λ files b told tells.
    let input = c.args.salvaging.now.input.now in
    let output = c.args.salvaging.now.output.now in
    refused_as g.S.Shelf.state c.args.shelf.now files input _ (made_from input output (sought_in (counted b))) (files, told, λ n. refl)
    (ap (made_from input output) (c.in-Err-Refused.ensures.opened c.in-Err-Refused.why b c.in-Err-Refused.field-0-is tells)
    ∙ ap (λ (why : OpenRefusal). Done.refuses input (Open why)) (sym c.in-Err-Refused.why-is))
