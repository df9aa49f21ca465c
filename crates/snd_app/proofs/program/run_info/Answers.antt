use Rattle.std.proofs.Common.{◌≡◌, ◌∙◌, ap, refl, rules, []}
use Rattle.snd_app.specs.Outcome.{found_in, info, text_of}
use Rattle.snd_app.proofs.Outcomes.{described_is, is_put_err, is_put_out, put_calm, refused_is, with_files}
use Rattle.snd_app.proofs.program.run_info.Goals as goal

pub returns-then-is_refused-clause-outcome : goal.returns-then-is_refused-clause-outcome
returns-then-is_refused-clause-outcome g c = λ files script told.
    let text : c.deref.result.now ≡ text_of c.args.name.now c.in-Ok.found = search rules in
    with_files c.put_text.result _ _ _ _ (info c.args.name.now (found_in (files c.args.name.now))) _ (c.in-Ok.ensures.files files told)
    (is_put_err c.put_text.result _ _ _ _ (info c.args.name.now (found_in (files c.args.name.now))) 1 c.deref.result.now
    (ap (λ t. record { out = []; err = t; status = 1 }) text ∙ refused_is c.args.name.now c.in-Ok.found (search rules) ∙ ap (info c.args.name.now) (c.in-Ok.ensures.found files told))
    c.in-Ok.ensures.faults refl refl refl c.put_text.ensures)

pub returns-clause-outcome : goal.returns-clause-outcome
returns-clause-outcome g c = λ files script told.
    let text : c.deref-else-is_refused.result.now ≡ text_of c.args.name.now c.in-Ok.found = search rules in
    with_files c.put_text-else-is_refused.result _ _ _ _ (info c.args.name.now (found_in (files c.args.name.now))) _ (c.in-Ok.ensures.files files told)
    (is_put_out c.put_text-else-is_refused.result _ _ _ _ (info c.args.name.now (found_in (files c.args.name.now))) c.deref-else-is_refused.result.now
    (ap (λ t. record { out = t; err = []; status = 0 }) text ∙ described_is c.args.name.now c.in-Ok.found (search rules) ∙ ap (info c.args.name.now) (c.in-Ok.ensures.found files told))
    c.in-Ok.ensures.faults refl refl refl c.put_text-else-is_refused.ensures)

pub returns-then-is_refused-clause-calm : goal.returns-then-is_refused-clause-calm
returns-then-is_refused-clause-calm g c = λ calm script. record {
  shelf = c.in-Ok.ensures.faults;
  script = refl;
  out = refl;
  err = put_calm c.put_text.result _ _ _ _ _ c.put_text.ensures calm;
}

pub returns-clause-calm : goal.returns-clause-calm
returns-clause-calm g c = λ calm script. record {
  shelf = c.in-Ok.ensures.faults;
  script = refl;
  out = put_calm c.put_text-else-is_refused.result _ _ _ _ _ c.put_text-else-is_refused.ensures calm;
  err = refl;
}
