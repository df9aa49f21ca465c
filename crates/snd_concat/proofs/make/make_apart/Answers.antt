use Rattle.std.proofs.Common.{◌≡◌, ◌∙◌, Ok, get_or, rules}
use Rattle.snd_output.proofs.Public.{if_changed, unchanged_as}
use Rattle.snd_inputs.proofs.Public.{asks_none, both_then, reads_then, same_inputs}
use Rattle.snd_inputs.specs.Inputs.{inputs_in}
use Rattle.std.proofs.lemmas.Result.{IfOk-weaker}
use Rattle.snd_concat.proofs.make.make_apart.Goals as goal

pub make-requires-clause-are_in : goal.make-requires-clause-are_in
make-requires-clause-are_in g c = λ k d lt. c.see_apart.ensures.reads.back (get_or c.args.names.now k d) ∙ c.requires.are_in k d lt

pub returns-clause-made : goal.returns-clause-made
returns-clause-made g c =
    IfOk-weaker c.make.result _ _
    (λ answer made files es b told tells all may.
    let names = c.args.names.now in
    let seen = c.see_apart.ensures.reads.files files told in
    let opened : inputs_in seen.0 names ≡ Ok es = same_inputs files seen.0 names (λ k d lt. seen.2 (get_or names k d)) ∙ all in
    made seen.0 es b seen.1 tells opened may)
    c.make.ensures.made

pub returns-clause-reads : goal.returns-clause-reads
returns-clause-reads g c = reads_then g.S.Shelf _ _ _ c.see_apart.ensures.reads c.make.ensures.reads

pub returns-in_err-see_apart-clause-changed : goal.returns-in_err-see_apart-clause-changed
returns-in_err-see_apart-clause-changed g c = unchanged_as _ c.in_err-see_apart.field-0.0 c.from_residual.result (search rules) c.in_err-see_apart.ensures.unchanged

pub returns-in_err-see_apart-clause-asked : goal.returns-in_err-see_apart-clause-asked
returns-in_err-see_apart-clause-asked g c = asks_none g.S.Shelf.state 1 16384 c.args.names.now _ _ c.see_apart.ensures.unasked

pub returns-clause-changed : goal.returns-clause-changed
returns-clause-changed g c =
    if_changed _ _ c.make.result
    (λ never files es told all good.
    let names = c.args.names.now in
    let seen = c.see_apart.ensures.reads.files files told in
    let opened : inputs_in seen.0 names ≡ Ok es = same_inputs files seen.0 names (λ k d lt. seen.2 (get_or names k d)) ∙ all in
    never seen.0 es seen.1 opened good)
    c.make.ensures.changed

pub returns-clause-asked : goal.returns-clause-asked
returns-clause-asked g c =
    both_then g.S.Shelf.state 0 0 1 16384 c.args.names.now c.args.shelf.now c.see_apart.new.shelf c.make.new.shelf c.see_apart.ensures.reads.files
    (asks_none g.S.Shelf.state 0 0 c.args.names.now c.args.shelf.now c.see_apart.new.shelf c.see_apart.ensures.unasked) c.make.ensures.asked
