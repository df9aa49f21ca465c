use Rattle.std.proofs.Common.{◌≡◌, ◌∙◌, ap, sym, refl, true, false, rules}
use Rattle.snd_disk.proofs.Public.{only_reads_then}
use Rattle.snd_inputs.specs.Inputs.{is_bad}
use Rattle.snd_layout.specs.Shape.{Shape}
use Rattle.snd_output.proofs.Public.{changed_err, unchanged_as}
use Rattle.snd_convert.specs.Planning.{asked_of, planned_by}
use Rattle.snd_convert.proofs.Doing.{bad_refused, output_made}
use Rattle.snd_convert.proofs.converting.convert_good.Goals as goal

pub returns-then-bad-clause-done : goal.returns-then-bad-clause-done
returns-then-bad-clause-done g c = λ files e told stands.
    bad_refused g.S.Shelf.state c.args.shelf.now (asked_of c.args.conversion.now) files (planned_by c.args.plan.now) e (sym (c.in_ok-bad.ensures.found e stands) ∙ c.if-bad.true) (files, told, λ n. refl)

pub returns-in-Ok-clause-done : goal.returns-in-Ok-clause-done
returns-in-Ok-clause-done g c =
    λ files e told stands.
    let plan = planned_by c.args.plan.now in
    let same : c.frames-frames.result ≡ e.shape.frames = c.frames-frames.ensures ∙ ap (λ (h : Shape). h.frames) stands.shape in
    let good : is_bad e ≡ false = sym (c.in_ok-bad.ensures.found e stands) ∙ c.if-bad.false in
    output_made g.S.Shelf.state c.make_under.new.shelf (asked_of c.args.conversion.now) files plan e c.frames-frames.result good same
    (c.in-Ok.ensures.made files e told (c.in_ok-bad.ensures.stands e stands))

pub returns-in_err-bad-clause-changed : goal.returns-in_err-bad-clause-changed
returns-in_err-bad-clause-changed g c = unchanged_as _ c.in_err-bad.field-0.0 c.from_residual.result (search rules) c.in_err-bad.ensures.unchanged

pub returns-in-Err-clause-changed : goal.returns-in-Err-clause-changed
returns-in-Err-clause-changed g c =
    changed_err _ _ c.in-Err.stop
    (λ bad e stands.
    let no : true ≡ false = sym (bad e (c.in_ok-bad.ensures.stands e stands)) ∙ sym (c.in_ok-bad.ensures.found e stands) ∙ c.if-bad.false in
    absurd (cc))
    c.in-Err.ensures.changed

pub returns-in-Ok-clause-reads : goal.returns-in-Ok-clause-reads
returns-in-Ok-clause-reads g c = only_reads_then _ _ _ _ _ _ _ _ _ c.has_bad_block.ensures.reads c.make_under.ensures.reads

pub returns-in-Err-clause-reads : goal.returns-in-Err-clause-reads
returns-in-Err-clause-reads g c = only_reads_then _ _ _ _ _ _ _ _ _ c.has_bad_block.ensures.reads c.make_under.ensures.reads
