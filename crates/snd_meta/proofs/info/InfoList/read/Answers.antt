use Rattle.std.proofs.Common.{◌≡◌, Some, IfOk, arith}
use Rattle.std.proofs.lemmas.Grind.{common_steps}
use Rattle.snd_meta.specs.Info.{info_of}
use Rattle.snd_meta.proofs.RoundTrip.{info_kept}
use Rattle.snd_meta.proofs.info.InfoList.read.Goals as goal

pub returns-clause-again : goal.returns-clause-again
unfolding info_of
returns-clause-again c =
    let read : IfOk c.read_items.result (λ list. info_of c.args.body.now ≡ Some list) = grind (arith, common_steps) in
    info_kept c.read_items.result c.args.body.now read c.read_items.ensures.info
