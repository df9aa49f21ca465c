use Rattle.std.proofs.lemmas.Result.{IfOk-weaker}
use Rattle.snd_edits.specs.Editing.{first_editing}
use Rattle.snd_inputs.proofs.checking.check_laid.Goals as goal

pub returns-clause-found : goal.returns-clause-found
returns-clause-found g c =
    IfOk-weaker c.has_bad_block-bad.result _ _ (λ bad found b tells. found (first_editing b c.args.layout) (c.in-Ok.ensures.stands b tells)) c.has_bad_block-bad.ensures.found
