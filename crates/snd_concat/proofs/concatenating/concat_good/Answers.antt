use Rattle.std.proofs.Common.{◌≡◌, ◌∙◌, ℕ, ◌<◌, List, [], None, Some, Ok, length, get_or, rules, arith, ap, sym}
use Rattle.std.proofs.lemmas.Result.{IfOk-weaker}
use Rattle.snd_inputs.proofs.Public.{both_then, changes_after, done_same, each_less, length-inputs, reads_changes, refused_as, same_inputs}
use Rattle.snd_inputs.specs.Inputs.{first_bad, inputs_in}
use Rattle.snd_lines.specs.declared.refusal.Refusal.TheVariants.{BadBlock}
use Rattle.snd_output.proofs.Public.{if_changed, unchanged_as}
use Rattle.snd_tools.specs.Done.{Done}
use Rattle.snd_concat.specs.Concat.{all_frames, made_if_good, shapes_of}
use Rattle.snd_concat.specs.Making.{bytes_made}
use Rattle.snd_concat.proofs.Doing.{bad_within, done_over, named}
use Rattle.snd_concat.proofs.concatenating.concat_good.Goals as goal

pub returns-in_err-bad-clause-changes : goal.returns-in_err-bad-clause-changes
returns-in_err-bad-clause-changes g c = reads_changes g.S.Shelf c.args.concatenation.now.output.now _ _ c.first_bad.ensures.reads

pub returns-in_err-bad-clause-changed : goal.returns-in_err-bad-clause-changed
returns-in_err-bad-clause-changed g c = unchanged_as _ c.in_err-bad.field-0.0 c.from_residual.result (search rules) c.in_err-bad.ensures.unchanged

pub returns-in_err-bad-clause-asked : goal.returns-in_err-bad-clause-asked
returns-in_err-bad-clause-asked g c = each_less g.S.Shelf.state 1 16384 2 32768 c.args.concatenation.now.inputs _ _ (omega arith) (omega arith) c.first_bad.ensures.asked

pub returns-in-Some-clause-done : goal.returns-in-Some-clause-done
returns-in-Some-clause-done g c = λ files es told all may.
    let inputs = c.args.concatenation.now.inputs in
    let output = c.args.concatenation.now.output.now in
    let kind = c.args.kind in
    let p = c.args.params in
    let at = c.in-Some.at in
    let found : Some at ≡ first_bad es = sym c.in-Some.is ∙ c.in_ok-bad.ensures.found files told es all in
    let within : at < length inputs = omega (arith, bad_within es at found, length-inputs files inputs es all) in
    let name : c.name_at-name.result.now ≡ get_or inputs at [] = c.name_at-name.ensures (omega (arith, within)) ∙ named inputs output at within in
    let todo : made_if_good inputs output kind p es (first_bad es) ≡ Done.refuses c.name_at-name.result.now BadBlock =
    ap (made_if_good inputs output kind p es) (sym found) ∙ ap (λ (n : List ℕ). Done.refuses n BadBlock) (sym name) in
    refused_as g.S.Shelf.state c.first_bad.new.shelf files c.name_at-name.result.now BadBlock (made_if_good inputs output kind p es (first_bad es)) (c.first_bad.ensures.reads.files files told) todo

pub returns-in-Some-clause-changes : goal.returns-in-Some-clause-changes
returns-in-Some-clause-changes g c = reads_changes g.S.Shelf c.args.concatenation.now.output.now _ _ c.first_bad.ensures.reads

pub returns-in-Some-clause-asked : goal.returns-in-Some-clause-asked
returns-in-Some-clause-asked g c = each_less g.S.Shelf.state 1 16384 2 32768 c.args.concatenation.now.inputs _ _ (omega arith) (omega arith) c.first_bad.ensures.asked

pub make_under-requires-clause-back : goal.make_under-requires-clause-back
make_under-requires-clause-back g c = λ n. c.first_bad.ensures.reads.back n ∙ c.requires.back n

pub returns-in-None-clause-done : goal.returns-in-None-clause-done
returns-in-None-clause-done g c =
    IfOk-weaker c.make_under.result _ _
    (λ answer made files es told all may.
    let inputs = c.args.concatenation.now.inputs in
    let output = c.args.concatenation.now.output.now in
    let kind = c.args.kind in
    let p = c.args.params in
    let read = c.first_bad.ensures.reads.files files told in
    let opened : inputs_in read.0 inputs ≡ Ok es = same_inputs files read.0 inputs (λ k d lt. read.2 (get_or inputs k d)) ∙ all in
    let found : None ≡ first_bad es = sym c.in-None.is ∙ c.in_ok-bad.ensures.found files told es all in
    let whole = Done.makes output (bytes_made kind p es) (all_frames (shapes_of es)) in
    done_same g.S.Shelf.state c.make_under.new.shelf files answer whole (made_if_good inputs output kind p es (first_bad es)) (ap (made_if_good inputs output kind p es) (sym found))
    (done_over g.S.Shelf.state c.make_under.new.shelf answer whole files read.0 read.2 (made read.0 es read.1 opened may)))
    c.make_under.ensures.made

pub returns-in-None-clause-changes : goal.returns-in-None-clause-changes
returns-in-None-clause-changes g c = changes_after g.S.Shelf c.args.concatenation.now.output.now _ _ _ c.first_bad.ensures.reads c.make_under.ensures.changes

pub returns-in-None-clause-changed : goal.returns-in-None-clause-changed
returns-in-None-clause-changed g c =
    if_changed _ _ c.make_under.result
    (λ never files es told all.
    let inputs = c.args.concatenation.now.inputs in
    let read = c.first_bad.ensures.reads.files files told in
    let opened : inputs_in read.0 inputs ≡ Ok es = same_inputs files read.0 inputs (λ k d lt. read.2 (get_or inputs k d)) ∙ all in
    let found : None ≡ first_bad es = sym c.in-None.is ∙ c.in_ok-bad.ensures.found files told es all in
    never read.0 es read.1 opened (sym found))
    c.make_under.ensures.changed

pub returns-in-None-clause-asked : goal.returns-in-None-clause-asked
returns-in-None-clause-asked g c =
    both_then g.S.Shelf.state 1 16384 1 16384 c.args.concatenation.now.inputs c.args.shelf.now c.first_bad.new.shelf c.make_under.new.shelf c.first_bad.ensures.reads.files c.first_bad.ensures.asked c.make_under.ensures.asked
