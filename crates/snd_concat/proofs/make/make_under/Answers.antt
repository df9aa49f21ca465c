use Rattle.std.proofs.Common.{◌≡◌, ◌∙◌, true, None, Ok, get_or, rules}
use Rattle.snd_output.proofs.Public.{if_changed, unchanged_as}
use Rattle.snd_inputs.proofs.Public.{asks_beside, between_changes, between_files, same_inputs, still_told}
use Rattle.snd_inputs.specs.Inputs.{inputs_in}
use Rattle.snd_tools.proofs.Public.{put_beside}
use Rattle.snd_concat.specs.Making.{bytes_made}
use Rattle.std.proofs.lemmas.Result.{IfOk-weaker}
use Rattle.snd_concat.proofs.make.make_under.Goals as goal

pub returns-clause-made : goal.returns-clause-made
returns-clause-made g c =
    IfOk-weaker c.make_apart-made.result _ _
    (λ answer made files es told all may.
    let names = c.args.names.now in
    let output = c.args.output.now in
    let out = c.in_ok-disk.ensures.out.takes.files files told in
    let opened : inputs_in out.0 names ≡ Ok es =
    same_inputs files out.0 names (λ k d lt. out.2 (get_or names k d) ∙ put_beside files output (get_or names k d) None (c.requires.apart k d lt)) ∙ all in
    let done = made out.0 es _ out.1 (c.in_ok-disk.ensures.out.takes.contents files told) opened may in (
      done.0,
      between_files g.S.Shelf g.S.Disk.Disk c.args.shelf.now c.take_output.new.shelf c.make_apart-made.new.shelf c.give.new.self c.in_ok-disk.disk c.make_apart-made.new.disk output true c.in_ok-disk.ensures.out.takes c.make_apart-made.ensures.reads c.give.ensures.given
          files (bytes_made c.args.kind c.args.params es) told done.1,
    ))
    c.make_apart-made.ensures.made

pub returns-in_err-disk-clause-changed : goal.returns-in_err-disk-clause-changed
returns-in_err-disk-clause-changed g c = unchanged_as _ c.in_err-disk.field-0.0 c.from_residual.result (search rules) c.in_err-disk.ensures.unchanged

pub returns-clause-changed : goal.returns-clause-changed
returns-clause-changed g c =
    if_changed _ _ c.make_apart-made.result
    (λ never files es told all good.
    let names = c.args.names.now in
    let output = c.args.output.now in
    let out = c.in_ok-disk.ensures.out.takes.files files told in
    let opened : inputs_in out.0 names ≡ Ok es =
    same_inputs files out.0 names (λ k d lt. out.2 (get_or names k d) ∙ put_beside files output (get_or names k d) None (c.requires.apart k d lt)) ∙ all in
    never out.0 es out.1 opened good)
    c.make_apart-made.ensures.changed

pub returns-clause-changes : goal.returns-clause-changes
returns-clause-changes g c =
    between_changes g.S.Shelf g.S.Disk.Disk c.args.shelf.now c.take_output.new.shelf c.make_apart-made.new.shelf c.give.new.self c.in_ok-disk.disk c.make_apart-made.new.disk c.args.output.now true c.in_ok-disk.ensures.out.takes c.make_apart-made.ensures.reads
    c.give.ensures.given c.in_ok-disk.ensures.out.images c.give.ensures.images c.in_ok-disk.ensures.out.others c.give.ensures.others (c.requires.back c.args.output.now) (λ b told. still_told _ _ b c.make_apart-made.ensures.tells told) c.make_apart-made.ensures.time

pub returns-clause-asked : goal.returns-clause-asked
returns-clause-asked g c =
    let out = c.in_ok-disk.ensures.out in
    asks_beside g.S.Shelf.state 1 16384 c.args.names.now c.args.output.now c.args.shelf.now c.take_output.new.shelf c.make_apart-made.new.shelf c.give.new.self _ out.takes.files out.bytes.asked c.make_apart-made.ensures.asked
    (c.make_apart-made.ensures.unasked ∙ out.takes.fresh.2) c.give.ensures.given.asked
