use Rattle.std.proofs.Common.{[], rules}
use Rattle.std.proofs.lemmas.Result.{on_ok_weaker}
use Rattle.snd_file.specs.Handle.{known_of}
use Rattle.snd_inputs.proofs.Public.{told_as}
use Rattle.snd_output.proofs.Public.{fault_only}
use Rattle.snd_deinterleave.proofs.MakeFilling.{may_put}
use Rattle.snd_deinterleave.specs.Deinterleave.{channel_of, file_of}
use Rattle.snd_deinterleave.proofs.make.make_in.Goals as goal

pub fill-filled-requires-clause-may : goal.fill-filled-requires-clause-may
fill-filled-requires-clause-may g c =
    may_put c.args.kind c.args.params c.args.which (known_of c.args.from.now) (known_of c.in-Ok.to) c.are_good.ensures c.requires.unread c.requires.within c.requires.split c.in-Ok.ensures.fresh c.in-Ok.ensures.shape
    c.numbers_of.ensures.frames

pub returns-in-Ok-finish-clause-made : goal.returns-in-Ok-finish-clause-made
returns-in-Ok-finish-clause-made g c =
    on_ok_weaker c.fill-filled.result
    (λ fills b e tells stands.
    let kind = c.args.kind in
    let p = c.args.params in
    let begun = c.in-Ok.ensures.begun b tells in
    let full = fills kind p [] [] e begun.0 stands begun.1 begun.2 in
    told_as g.E.Disk.state c.in-Ok-finish.back.now _ (file_of kind p e c.args.which) (search rules) (c.in-Ok-finish.ensures.made kind p [] (channel_of c.args.which e.frames) full.0 full.1 full.2))
    c.fill-filled.ensures.fills

pub returns-in-Err-finish-clause-changed : goal.returns-in-Err-finish-clause-changed
returns-in-Err-finish-clause-changed g c = fault_only _ c.in-Err-finish.stop c.in-Err-finish.ensures.cause.0
