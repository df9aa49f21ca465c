use Rattle.std.proofs.Common.{rules}
use Rattle.snd_convert.specs.Convert.{chunks_for, file_made, numbers_for}
use Rattle.snd_convert.specs.Planning.{items_of, planned_by}
use Rattle.snd_inputs.proofs.Public.{told_as}
use Rattle.snd_output.proofs.Public.{fault_only}
use Rattle.std.proofs.lemmas.Result.{on_ok_weaker}
use Rattle.snd_convert.proofs.make.make_in.Goals as goal

pub returns-in-Ok-finish-clause-made : goal.returns-in-Ok-finish-clause-made
returns-in-Ok-finish-clause-made g c =
    on_ok_weaker c.fill-filled.result
    (λ fills b r tells stands.
    let plan = planned_by c.args.plan.now in
    let items = items_of c.args.rack.now in
    let begun = c.in-Ok.ensures.begun b tells in
    let full = fills r begun.0 stands begun.3 begun.1 in
    told_as g.E.Disk.state c.in-Ok-finish.back.now _ (file_made items plan r) (search rules) (c.in-Ok-finish.ensures.made plan.kind plan.params (chunks_for plan r) (numbers_for items plan r) full.0 full.1 full.2))
    c.fill-filled.ensures.fills

pub returns-in-Err-finish-clause-changed : goal.returns-in-Err-finish-clause-changed
returns-in-Err-finish-clause-changed g c = fault_only _ c.in-Err-finish.stop c.in-Err-finish.ensures.cause.0
