use Rattle.std.proofs.Common.{◌≡◌, ◌∙◌, ℕ, Ok, Err, IfOk, Result, ap, refl, sym, subst, arith}
use Rattle.std.proofs.lemmas.Result.{IfOk-weaker}
use Rattle.snd_disk.proofs.Public.{only_reads_then}
use Rattle.snd_disk.specs.Device.{Tells}
use Rattle.snd_inputs.proofs.Public.{done_same, refused_as}
use Rattle.snd_layout.specs.declared.refusal.OpenRefusal.{OpenRefusal}
use Rattle.snd_lines.specs.declared.refusal.Refusal.TheVariants.{Open}
use Rattle.snd_import.specs.Import.{made_from, made_in, params_for, source_in}
use Rattle.snd_import.specs.Source.{IsHeld}
use Rattle.snd_import.specs.declared.source.Source.{Source}
use Rattle.snd_import.proofs.importing.import_file.Goals as goal

pub returns-in-Ok-clause-done : goal.returns-in-Ok-clause-done
returns-in-Ok-clause-done g c =
    let it = c.args.importation.now in
    let kind = c.args.kind in
    let s = c.in-Ok.source in
    IfOk-weaker c.import_source.result _ _
    (λ answer done files b told tells.
    let found : source_in it.form b ≡ Ok s = sym (c.in_ok-source.ensures.found b tells) ∙ c.in-Ok.is in
    let still : Tells g.D.Disk.state c.source_on.new.disk b = c.source_on.ensures.reads.keeps.contents ∙ tells in
    done_same g.S.Shelf.state c.import_source.new.shelf files answer (made_in it.output.now kind s b (params_for kind s.params)) (made_from it.input.now it.output.now kind b (source_in it.form b))
    (ap (made_from it.input.now it.output.now kind b) found) (done files b told still))
    c.import_source.ensures.done
