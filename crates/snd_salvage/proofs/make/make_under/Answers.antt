use Rattle.std.proofs.Common.{true}
use Rattle.std.proofs.lemmas.Result.{on_ok_weaker}
use Rattle.snd_inputs.proofs.Public.{still_told}
use Rattle.snd_tools.proofs.Public.{given_changes, given_files}
use Rattle.snd_salvage.proofs.make.make_under.Goals as goal

pub returns-clause-made : goal.returns-clause-made
returns-clause-made g c =
    let out = c.in_ok-disk.ensures.out in
    on_ok_weaker c.make-made.result
    (λ makes files e told stands.
    given_files g.S.Shelf g.S.Disk.Disk c.args.shelf.now c.take_output.new.shelf c.give.new.self c.in_ok-disk.disk c.make-made.new.disk c.args.output.now true out.takes c.give.ensures.given files _ told
    (makes _ e (out.takes.contents files told) stands)) c.make-made.ensures.made

pub returns-clause-changes : goal.returns-clause-changes
returns-clause-changes g c =
    let out = c.in_ok-disk.ensures.out in
    given_changes g.S.Shelf g.S.Disk.Disk c.args.shelf.now c.take_output.new.shelf c.give.new.self c.in_ok-disk.disk c.make-made.new.disk c.args.output.now true out.takes c.give.ensures.given
    out.images c.give.ensures.images out.others c.give.ensures.others c.requires.is_in (λ b told. still_told _ _ b c.make-made.ensures.tells told) c.make-made.ensures.time
