use Rattle.std.proofs.Common.{refl}
use Rattle.std.proofs.lemmas.Result.{IfOk-weaker}
use Rattle.snd_edits.specs.Editing.{first_editing}
use Rattle.snd_output.proofs.Public.{if_changed}
use Rattle.snd_concat.proofs.append.append_laid.Goals as goal

pub returns-clause-appended : goal.returns-clause-appended
returns-clause-appended g c =
    IfOk-weaker c.append_file-appended.result _ _
    (λ done appended b tells follows. appended (first_editing b c.args.layout) (c.in-Ok.ensures.stands b tells) refl follows)
    c.append_file-appended.ensures.appended

pub returns-clause-changed : goal.returns-clause-changed
returns-clause-changed g c =
    if_changed _ _ c.append_file-appended.result (λ bad b tells. bad (first_editing b c.args.layout) (c.in-Ok.ensures.stands b tells)) c.append_file-appended.ensures.changed
