use Rattle.std.proofs.Common.{rules, ◌≡◌, ◌∙◌, ap, refl, sym, subst, ℕ, [], ◌∷◌, ◌++◌, None, Some, drop, get_or, length}
use Rattle.std.specs.Vec.{vec_len}
use Rattle.snd_lines.specs.declared.refusal.Refusal.TheVariants.{SameName}
use Rattle.snd_words.specs.Repeats.{first_repeated}
use Rattle.snd_interleave.specs.Channels.{HoldAll}
use Rattle.snd_interleave.specs.Interleave.{interleaved}
use Rattle.snd_interleave.specs.Opening.{done_rest}
use Rattle.snd_output.proofs.Public.{if_changed}
use Rattle.snd_interleave.proofs.Inputs.{hold_none}
use Rattle.snd_inputs.proofs.Public.{asks_none, does_so, done_same}
use Rattle.snd_inputs.specs.Asking.{AsksForEach}
use Rattle.snd_interleave.proofs.Joining.{refused_as}
use Rattle.snd_interleave.proofs.Lists.{named_at}
use Rattle.snd_interleave.proofs.Opened.{apart_from_none, none_open, repeated, repeated_within}
use Rattle.std.proofs.lemmas.Result.{IfOk-weaker}
use Rattle.snd_interleave.proofs.interleaving.interleave.Goals as goal

pub returns-in-Some-clause-done : goal.returns-in-Some-clause-done
returns-in-Some-clause-done g c = λ files told.
    let names = c.args.interleaving.now.inputs in
    let output = c.args.interleaving.now.output in
    let at = c.in-Some.at in
    let found : first_repeated (names ++ output.now ∷ []) ≡ Some at = search rules in
    let is : c.unwrap_or-name.result.now ≡ get_or (names ++ output.now ∷ []) at [] =
    ap (λ x. x.now) c.unwrap_or-name.ensures ∙ named_at (λ x. x.now) c.get.result output names at c.get.ensures (repeated_within names output.now at found) in
    refused_as g.S.Shelf.state c.args.shelf.now files c.unwrap_or-name.result.now SameName (interleaved names output.now files) told (repeated names output.now files at c.unwrap_or-name.result.now found is)

pub open_rest-answer-requires-clause-apart : goal.open_rest-answer-requires-clause-apart
open_rest-answer-requires-clause-apart g c =
    let none : first_repeated (c.args.interleaving.now.inputs ++ c.args.interleaving.now.output.now ∷ []) ≡ None = search rules in
    apart_from_none c.args.interleaving.now.inputs c.args.interleaving.now.output.now none

pub returns-clause-done : goal.returns-clause-done
returns-clause-done g c =
    let names = c.args.interleaving.now.inputs in
    let output = c.args.interleaving.now.output.now in
    let none : first_repeated (names ++ output ∷ []) ≡ None = search rules in
    let hold : HoldAll g.S.Disk.Disk.state c.new-inputs.result.items [] = subst (λ l. HoldAll g.S.Disk.Disk.state l []) (sym c.new-inputs.ensures.items) (hold_none g.S.Disk.Disk.state) in
    does_so g.S.Shelf.state (interleaved names output) c.args.shelf.now c.open_rest-answer.new.shelf c.open_rest-answer.result
    (IfOk-weaker c.open_rest-answer.result _ _
    (λ answer done files told.
    done_same g.S.Shelf.state c.open_rest-answer.new.shelf files answer (done_rest names output files []) (interleaved names output files) (none_open names output files none) (done files [] told hold))
    c.open_rest-answer.ensures.done)

pub returns-in-Some-clause-asked : goal.returns-in-Some-clause-asked
returns-in-Some-clause-asked g c = asks_none g.S.Shelf.state 1 16384 c.args.interleaving.now.inputs c.args.shelf.now c.args.shelf.now refl

pub returns-clause-asked : goal.returns-clause-asked
returns-clause-asked g c =
    let names = c.args.interleaving.now.inputs in
    let none : vec_len c.new-inputs.result ≡ 0 = c.new-inputs.result.ok.0 ∙ ap length c.new-inputs.ensures.items in
    subst (λ (n : ℕ). AsksForEach 1 16384 g.S.Shelf.state (drop n names) c.args.shelf.now c.open_rest-answer.new.shelf) none c.open_rest-answer.ensures.asked_rest

pub returns-clause-changed : goal.returns-clause-changed
returns-clause-changed g c =
    let hold : HoldAll g.S.Disk.Disk.state c.new-inputs.result.items [] = subst (λ l. HoldAll g.S.Disk.Disk.state l []) (sym c.new-inputs.ensures.items) (hold_none g.S.Disk.Disk.state) in
    if_changed _ _ c.open_rest-answer.result (λ never files told. never files [] told hold) c.open_rest-answer.ensures.changed
