use Rattle.std.proofs.lemmas.Result.{IfOk-weaker}
use Rattle.snd_edits.specs.Editing.{first_editing}
use Rattle.snd_salvage.proofs.salvaging.salvage_laid.Goals as goal

pub returns-clause-done : goal.returns-clause-done
returns-clause-done g c =
    IfOk-weaker c.salvage_file-answer.result _ _
    (λ answer done files b told tells. done files (first_editing b c.args.layout) told (c.in-Ok.ensures.stands b tells))
    c.salvage_file-answer.ensures.done
