use Rattle.std.proofs.Common.{rules, ◌≡◌, ◌∙◌, None, Some, Ok, Err, sym, ap}
use Rattle.snd_au.proofs.Opens.{data_held, gives, placed, refused_params, refused_place}
use Rattle.snd_au.specs.Layout.{params_in, place_refusal}
use Rattle.snd_au.proofs.layout.layout_of.Goals as goal

pub returns-in-Some-clause-refused : goal.returns-in-Some-clause-refused
returns-in-Some-clause-refused c =
    let is : place_refusal c.args.size c.args.numbers.offset ≡ Some c.in-Some.refusal = search rules in
    refused_place c.args.order c.args.size c.args.numbers c.in-Some.refusal is

pub returns-in_err-params-clause-refused : goal.returns-in_err-params-clause-refused
returns-in_err-params-clause-refused c =
    let place : place_refusal c.args.size c.args.numbers.offset ≡ None = search rules in
    let params : params_in c.args.order c.args.numbers ≡ Err c.in_err-params.field-0.0 = search rules in
    refused_params c.args.order c.args.size c.args.numbers c.in_err-params.field-0.0 c.from_residual.result (search rules) place params

pub returns-clause-value : goal.returns-clause-value
returns-clause-value c =
    let place : place_refusal c.args.size c.args.numbers.offset ≡ None = search rules in
    let params : params_in c.args.order c.args.numbers ≡ Ok c.in_ok-params.params = search rules in
    gives c.args.order c.args.size c.args.numbers c.in_ok-params.params (placed c.args.size c.args.numbers.offset place) params ∙ ap (λ s. Ok s) (sym c.layout_with.ensures)

pub returns-clause-held : goal.returns-clause-held
returns-clause-held c =
    let place : place_refusal c.args.size c.args.numbers.offset ≡ None = search rules in
    let params : params_in c.args.order c.args.numbers ≡ Ok c.in_ok-params.params = search rules in
    rw c.layout_with.ensures (data_held c.args.order c.args.size c.args.numbers c.in_ok-params.params (placed c.args.size c.args.numbers.offset place) params)
