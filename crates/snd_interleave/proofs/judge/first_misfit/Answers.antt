use Rattle.std.proofs.Common.{rules, ◌≡◌, ◌∙◌, ap, sym, ◌+◌, None, Some, Option, drop, slice_get}
use Rattle.snd_lines.specs.declared.refusal.Refusal.{Refusal}
use Rattle.snd_interleave.specs.Channels.{layouts_of}
use Rattle.snd_interleave.specs.Interleave.{first_misfit, misfit, misfit_or}
use Rattle.snd_interleave.proofs.Judging.{misfit_next}
use Rattle.snd_interleave.proofs.judge.first_misfit.Goals as goal

pub returns-in-Some : goal.returns-in-Some
returns-in-Some g c =
    let at = c.loop-at.at in
    let x = c.index-inputs-at.result in
    let there : slice_get c.args.names.now at ≡ Some c.in_ok-name.name.now = search rules in
    let why : misfit c.args.first x.layout.params ≡ Some c.in-Some.why = search rules in
    sym (misfit_next c.args.first c.args.names.now c.args.inputs.now at c.in_ok-name.name.now x there c.loop-at-test.true c.index-inputs-at.is
    ∙ ap (λ (o : Option Refusal). misfit_or c.in_ok-name.name.now o (first_misfit c.args.first (drop (at + 1) c.args.names.now) (layouts_of (drop (at + 1) c.args.inputs.now)))) why)
    ∙ c.loop-at.invariant

pub loop-at-preserved : goal.loop-at-preserved
loop-at-preserved g c =
    let at = c.loop-at.at in
    let x = c.index-inputs-at.result in
    let there : slice_get c.args.names.now at ≡ Some c.in_ok-name.name.now = search rules in
    let none : misfit c.args.first x.layout.params ≡ None = search rules in
    sym (misfit_next c.args.first c.args.names.now c.args.inputs.now at c.in_ok-name.name.now x there c.loop-at-test.true c.index-inputs-at.is
    ∙ ap (λ (o : Option Refusal). misfit_or c.in_ok-name.name.now o (first_misfit c.args.first (drop (at + 1) c.args.names.now) (layouts_of (drop (at + 1) c.args.inputs.now)))) none)
    ∙ c.loop-at.invariant
