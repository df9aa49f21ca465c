use Rattle.std.proofs.Common.{◌∙◌, [], ◌++◌, ap, rules}
use Rattle.snd_output.proofs.Public.{fault_only, unchanged_err}
use Rattle.snd_file.specs.Handle.{codec_of, known_of}
use Rattle.snd_tools.specs.Done.{Said}
use Rattle.snd_concat.specs.Concat.{all_frames, all_numbers, shapes_of}
use Rattle.snd_concat.specs.Making.{bytes_made}
use Rattle.std.proofs.lemmas.Result.{IfOk-weaker}
use Rattle.snd_concat.proofs.Making.{all_follow, at_end, counted, same_bytes, told_as}
use Rattle.snd_concat.proofs.make.make_in.Goals as goal

pub append_all-appended-requires-clause-at_end : goal.append_all-appended-requires-clause-at_end
append_all-appended-requires-clause-at_end g c = at_end c.args.kind c.args.params (known_of c.in-Ok.to) c.are_good.ensures c.requires.fits c.in-Ok.ensures.fresh c.in-Ok.ensures.shape

pub returns-in-Ok-finish-clause-made : goal.returns-in-Ok-finish-clause-made
returns-in-Ok-finish-clause-made g c =
    IfOk-weaker c.append_all-appended.result _ _
    (λ answer appended files es b told tells all may.
    let kind = c.args.kind in
    let p = c.args.params in
    let k = known_of c.in-Ok.to in
    let good = c.are_good.ensures in
    let fits = c.requires.fits in
    let fresh = c.in-Ok.ensures.fresh in
    let shape = c.in-Ok.ensures.shape in
    let begun = c.in-Ok.ensures.begun b tells in
    let done = appended files es told all (all_follow kind p k good fits fresh shape (shapes_of es) may) in
    let longer = done.1 kind p [] [] begun.0 begun.1 begun.2 in
    let whole = c.in-Ok-finish.ensures.made kind p [] ([] ++ all_numbers (codec_of c.in-Ok.to) es) longer.0 longer.1 longer.2 in (
      done.0 ∙ ap Said.made (counted kind p k good fits fresh shape (all_frames (shapes_of es))),
      told_as g.E.Disk.state c.in-Ok-finish.back.now _ _ (bytes_made kind p es) (search rules) (same_bytes kind p k good fits fresh shape es) whole,
    ))
    c.append_all-appended.ensures.appended

pub returns-in-Err-clause-changed : goal.returns-in-Err-clause-changed
returns-in-Err-clause-changed g c = unchanged_err _ c.in-Err.stop c.in-Err.ensures.unchanged

pub returns-in-Err-finish-clause-changed : goal.returns-in-Err-finish-clause-changed
returns-in-Err-finish-clause-changed g c = fault_only _ c.in-Err-finish.stop c.in-Err-finish.ensures.cause.0
