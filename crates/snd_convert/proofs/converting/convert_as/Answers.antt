use Rattle.std.proofs.Common.{◌≡◌, ◌∙◌, Bool, cond, false, ap, sym}
use Rattle.std.proofs.lemmas.Result.{IfOk-weaker}
use Rattle.snd_inputs.proofs.Public.{done_same}
use Rattle.snd_lines.specs.declared.refusal.Refusal.TheVariants.{ContainerFull}
use Rattle.snd_tools.specs.Done.{Done}
use Rattle.snd_convert.specs.Convert.{is_full, made_if_good, made_of}
use Rattle.snd_convert.specs.Planning.{asked_of, planned_by}
use Rattle.snd_convert.proofs.converting.convert_as.Goals as goal

pub returns-clause-done : goal.returns-clause-done
returns-clause-done g c =
    IfOk-weaker c.convert_good.result _ _
    (λ answer done files e told stands.
    let asked = asked_of c.args.conversion.now in
    let plan = planned_by c.args.plan.now in
    let room : is_full plan e ≡ false = sym (c.is_full.ensures.told e stands) ∙ c.if-is_full.false in
    done_same g.S.Shelf.state c.convert_good.new.shelf files answer (made_if_good asked plan e) (made_of asked plan e)
    (ap (λ (t : Bool). cond t (Done.refuses asked.output ContainerFull) (made_if_good asked plan e)) room) (done files e told stands))
    c.convert_good.ensures.done
