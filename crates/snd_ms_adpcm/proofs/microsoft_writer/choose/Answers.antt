use Rattle.std.proofs.Common.{◌≡◌, arith, ap, ◌∙◌}
use Rattle.snd_ms_adpcm.specs.Microsoft.{ms_start_error, least_number, ms_number_for}
use Rattle.snd_ms_adpcm.proofs.MsWritten.{least_number-zero, choice_step}
use Rattle.snd_ms_adpcm.proofs.microsoft_writer.choose.Goals as goal

pub loop-n-init : goal.loop-n-init
loop-n-init c = rw least_number-zero (record { number = c.of-best.ensures.number; sum = c.of-best.ensures.sum })

pub loop-n-preserved : goal.loop-n-preserved
loop-n-preserved c =
    let step = choice_step (ms_start_error c.args.samples.now) c.loop-n.n _ _ _ _ _ _ c.loop-n.invariant.number c.loop-n.invariant.sum c.of.ensures.number c.of.ensures.sum c.or_less-best.ensures.number c.or_less-best.ensures.sum in
    record { number = step.0; sum = step.1 }

pub returns-clause-number : goal.returns-clause-number
unfolding ms_number_for
returns-clause-number c = let six : c.loop-n.n ≡ 6 = omega arith in c.loop-n.invariant.number ∙ ap (least_number (ms_start_error c.args.samples.now)) six

pub returns-clause-sum : goal.returns-clause-sum
unfolding ms_number_for
returns-clause-sum c = let six : c.loop-n.n ≡ 6 = omega arith in c.loop-n.invariant.sum ∙ ap (λ n. ms_start_error c.args.samples.now (least_number (ms_start_error c.args.samples.now) n)) six
