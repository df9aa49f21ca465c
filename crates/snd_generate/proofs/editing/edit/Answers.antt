use Rattle.std.proofs.Common.{sym, true, rules}
use Rattle.std.proofs.lemmas.Result.{on_ok_weaker}
use Rattle.snd_generate.proofs.Calling.{told_by}
use Rattle.snd_generate.proofs.Opened.{opened_holds}
use Rattle.snd_generate.proofs.States.{sealed_bytes}
use Rattle.snd_generate.proofs.editing.edit.Goals as goal

pub returns-in-Ok-close-clause-edited : goal.returns-in-Ok-close-clause-edited
returns-in-Ok-close-clause-edited g c =
    on_ok_weaker c.edit_file-edited.result
    (λ becomes. λ xs are tells.
    let opened = c.in-Ok.ensures.opened _ tells in
    let then = becomes xs opened.0 opened.2 (opened_holds c.args.frames xs are opened.0 opened.1) in
    let back = c.in-Ok-close.ensures.back then.0 then.1 in
    told_by g.E.Disk.state c.in-Ok-close.back.now _ _ _ (search rules) (sym (sealed_bytes true _ _ then.0 then.2)) back)
    c.edit_file-edited.ensures.becomes
