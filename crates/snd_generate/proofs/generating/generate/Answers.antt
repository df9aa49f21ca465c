use Rattle.std.proofs.Common.{true}
use Rattle.std.proofs.lemmas.Result.{IfOk-weaker}
use Rattle.snd_inputs.proofs.Public.{still_told}
use Rattle.snd_tools.proofs.Public.{given_changes, given_files}
use Rattle.snd_generate.proofs.Calling.{generates_by}
use Rattle.snd_generate.proofs.generating.generate.Goals as goal

pub returns-clause-done : goal.returns-clause-done
returns-clause-done g c =
    generates_by g.S.Shelf.state c.args.generation.now c.args.shelf.now c.give.new.self c.generate_on-summary.result
    (IfOk-weaker c.generate_on-summary.result _ _
    (λ summary done. λ files told.
    let made = done _ (c.in_ok-disk.ensures.out.takes.contents files told) in (
      made.0,
      given_files g.S.Shelf g.S.Disk.Disk c.args.shelf.now c.take_output.new.shelf c.give.new.self c.in_ok-disk.disk c.generate_on-summary.new.disk c.args.generation.now.name.now true c.in_ok-disk.ensures.out.takes c.give.ensures.given files _ told made.1,
    ))
    c.generate_on-summary.ensures.done)

pub returns-clause-changes : goal.returns-clause-changes
returns-clause-changes g c =
    let name = c.args.generation.now.name.now in
    given_changes g.S.Shelf g.S.Disk.Disk c.args.shelf.now c.take_output.new.shelf c.give.new.self c.in_ok-disk.disk c.generate_on-summary.new.disk name true c.in_ok-disk.ensures.out.takes c.give.ensures.given
    c.in_ok-disk.ensures.out.images c.give.ensures.images c.in_ok-disk.ensures.out.others c.give.ensures.others (c.requires.back name) (λ b told. still_told _ _ b c.generate_on-summary.ensures.tells told) c.generate_on-summary.ensures.time
