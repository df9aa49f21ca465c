use Rattle.std.proofs.lemmas.Result.{IfOk-weaker}
use Rattle.snd_edits.specs.Editing.{first_editing}
use Rattle.snd_inputs.proofs.Reading.{reads_itself}
use Rattle.snd_output.proofs.Public.{if_changed}
use Rattle.snd_deinterleave.proofs.Leaving.{reads_among}
use Rattle.snd_deinterleave.proofs.deinterleaving.split_laid.Goals as goal

pub returns-in-Err-clause-changes : goal.returns-in-Err-clause-changes
returns-in-Err-clause-changes g c = reads_among g.S.Shelf c.args.outputs.now c.args.shelf.now c.args.shelf.now (reads_itself g.S.Shelf c.args.shelf.now)

pub returns-clause-done : goal.returns-clause-done
returns-clause-done g c =
    IfOk-weaker c.split_file-answer.result _ _
    (λ answer done files b told tells. done files (first_editing b c.args.layout) told (c.in-Ok.ensures.stands b tells))
    c.split_file-answer.ensures.done

pub returns-clause-changed : goal.returns-clause-changed
returns-clause-changed g c =
    if_changed _ _ c.split_file-answer.result (λ never b tells. never (first_editing b c.args.layout) (c.in-Ok.ensures.stands b tells)) c.split_file-answer.ensures.changed
