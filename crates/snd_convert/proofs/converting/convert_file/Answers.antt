use Rattle.std.proofs.Common.{◌≡◌, ◌∙◌, ap, map, rules, sym}
use Rattle.snd_layout.specs.Params.{Parameters}
use Rattle.snd_layout.specs.Shape.{Shape}
use Rattle.snd_convert.specs.Convert.{behind_rack, done_behind, done_by_plan, made_of}
use Rattle.snd_convert.specs.Plan.{planned}
use Rattle.snd_convert.specs.Planning.{asked_of, planned_by}
use Rattle.snd_inputs.proofs.Public.{done_same}
use Rattle.std.proofs.lemmas.Result.{IfOk-weaker}
use Rattle.snd_convert.proofs.converting.convert_file.Goals as goal

pub returns-in-Ok-plan_with-clause-done : goal.returns-in-Ok-plan_with-clause-done
returns-in-Ok-plan_with-clause-done g c =
    IfOk-weaker c.convert_as.result _ _
    (λ answer done files e told stands.
    let asked = asked_of c.args.conversion.now in
    let kinds = map (λ b. ((goal.Stage-dyn g (b.vtable, b.value)).stage b.value).kind) c.args.stages.now in
    let plan = planned_by c.in-Ok-plan_with.plan in
    let same : e.shape.params ≡ c.params-params.result = sym (c.params-params.ensures ∙ ap (λ (h : Shape). h.params) stands.shape) in
    let count : c.params-params.result.channels ≡ c.params.inside.channels = search rules in
    let behind = ap (behind_rack kinds asked.rack) (ap (λ (p : Parameters). p.channels) same ∙ count) ∙ sym c.in-Ok.ensures.value in
    let is = ap (planned asked c.args.kind c.in-Ok.channels) same ∙ sym c.in-Ok-plan_with.ensures.value in
    done_same g.S.Shelf.state c.convert_as.new.shelf files answer (made_of asked plan e) (done_behind asked c.args.kind e (behind_rack kinds asked.rack e.shape.params.channels))
    (ap (done_behind asked c.args.kind e) behind ∙ ap (done_by_plan asked e) is) (done files e told stands))
    c.convert_as.ensures.done
