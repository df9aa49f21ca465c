use Rattle.std.proofs.lemmas.Result.{IfOk-weaker}
use Rattle.snd_edits.specs.Editing.{first_editing}
use Rattle.snd_output.proofs.Public.{if_changed}
use Rattle.snd_convert.proofs.converting.convert_laid.Goals as goal

pub returns-clause-done : goal.returns-clause-done
returns-clause-done g c =
    IfOk-weaker c.convert_file-answer.result _ _
    (λ answer done files b told tells. done files (first_editing b c.args.layout) told (c.in-Ok.ensures.stands b tells))
    c.convert_file-answer.ensures.done

pub returns-clause-changed : goal.returns-clause-changed
returns-clause-changed g c =
    if_changed _ _ c.convert_file-answer.result (λ never b tells. never (first_editing b c.args.layout) (c.in-Ok.ensures.stands b tells)) c.convert_file-answer.ensures.changed
