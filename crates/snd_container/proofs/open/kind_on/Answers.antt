use Rattle.std.proofs.Common.{rules, ap, sym, ◌∙◌, ◌≡◌, Ok, Err}
use Rattle.snd_container.specs.Recognised.{recognised}
use Rattle.snd_container.proofs.Fronts.{front_of}
use Rattle.snd_container.proofs.OfKinds.{refusal_found}
use Rattle.snd_container.proofs.open.kind_on.Goals as goal

pub returns-clause-found : goal.returns-clause-found
returns-clause-found g c = λ b told.
    let is : Ok c.in_ok-recognise.field-0 ≡ c.recognise.result = search rules in
    sym (is ∙ c.recognise.ensures ∙ ap recognised (front_of 40 b c.in-Ok.count (g.D.Disk.state c.args.disk.now).size c.read_at.new.into c.in-Ok.ensures.value (g.met.D.Disk.size_told c.args.disk.now b told) (c.in-Ok.ensures.bytes.front b told)))

pub returns-in_err-recognise-clause-found : goal.returns-in_err-recognise-clause-found
returns-in_err-recognise-clause-found g c =
    refusal_found g.D.Disk.state c.args.disk.now c.in_err-recognise.field-0.0 c.from_residual.result (search rules) (λ b told.
    let is : Err c.in_err-recognise.field-0.0 ≡ c.recognise.result = search rules in
    sym (is ∙ c.recognise.ensures ∙ ap recognised (front_of 40 b c.in-Ok.count (g.D.Disk.state c.args.disk.now).size c.read_at.new.into c.in-Ok.ensures.value (g.met.D.Disk.size_told c.args.disk.now b told) (c.in-Ok.ensures.bytes.front b told))))
