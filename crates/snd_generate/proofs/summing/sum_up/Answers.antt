use Rattle.std.proofs.Common.{◌∙◌, ap}
use Rattle.std.proofs.lemmas.Result.{IfOk-weaker}
use Rattle.snd_generate.specs.Edited.{file_of}
use Rattle.snd_generate.specs.Steps.{summed}
use Rattle.snd_generate.proofs.Opened.{opened_frames}
use Rattle.snd_generate.proofs.Sums.{sum_of_numbers}
use Rattle.snd_generate.proofs.summing.sum_up.Goals as goal

pub returns-in-Ok-close-clause-sums : goal.returns-in-Ok-close-clause-sums
returns-in-Ok-close-clause-sums g c =
    IfOk-weaker c.sum_frames-summary.result _ _
    (λ summary sums. λ n xs are tells.
    let opened = c.in-Ok.ensures.opened (file_of xs) tells in
    let frames = opened_frames n xs are opened.0 opened.1 in
    sums opened.0 opened.2 frames.1 ∙ ap summed frames.0 ∙ sum_of_numbers n xs are)
    c.sum_frames-summary.ensures.sums
