use Rattle.std.proofs.Common.{rules, true}
use Rattle.std.proofs.lemmas.Result.{on_ok_weaker}
use Rattle.snd_inputs.proofs.Public.{still_told}
use Rattle.snd_output.proofs.Public.{unchanged_as}
use Rattle.snd_tools.proofs.Public.{given_changes, given_files}
use Rattle.snd_export.proofs.Counts.{memory_only}
use Rattle.snd_export.proofs.make.make_under.Goals as goal

pub returns-clause-made : goal.returns-clause-made
returns-clause-made g c =
    let out = c.in_ok-disk.ensures.out in
    on_ok_weaker c.make-made.result
    (λ makes files b told tells.
    given_files g.S.Shelf g.S.Disk.Disk c.args.shelf.now c.take_output.new.shelf c.give.new.self c.in_ok-disk.disk c.make-made.new.to c.args.name.now true out.takes c.give.ensures.given files _ told
    (makes b _ tells (out.takes.contents files told))) c.make-made.ensures.made

pub returns-clause-changes : goal.returns-clause-changes
returns-clause-changes g c =
    let out = c.in_ok-disk.ensures.out in
    given_changes g.S.Shelf g.S.Disk.Disk c.args.shelf.now c.take_output.new.shelf c.give.new.self c.in_ok-disk.disk c.make-made.new.to c.args.name.now true out.takes c.give.ensures.given
    out.images c.give.ensures.images out.others c.give.ensures.others c.requires.is_in (λ b told. still_told _ _ b c.make-made.ensures.tells told) c.make-made.ensures.time

pub returns-in_err-disk-clause-changed : goal.returns-in_err-disk-clause-changed
returns-in_err-disk-clause-changed g c = unchanged_as _ c.in_err-disk.field-0.0 c.from_residual-in_err-disk.result (search rules) c.in_err-disk.ensures.unchanged

pub returns-in_err-cache-clause-changed : goal.returns-in_err-cache-clause-changed
returns-in_err-cache-clause-changed g c = memory_only _ c.in_err-cache.field-0.0 c.from_residual.result (search rules) c.in_err-cache.ensures.only
