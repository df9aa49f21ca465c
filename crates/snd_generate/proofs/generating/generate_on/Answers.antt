use Rattle.std.proofs.Common.{◌∙◌, ◌*◌}
use Rattle.std.proofs.lemmas.Result.{IfOk-weaker}
use Rattle.snd_generate.specs.Edited.{edited, frames_kept}
use Rattle.snd_generate.specs.Numbers.{numbers_from}
use Rattle.snd_generate.proofs.Edits.{edited_numbers, generated_numbers}
use Rattle.snd_generate.proofs.generating.generate_on.Goals as goal

pub returns-clause-done : goal.returns-clause-done
returns-clause-done g c =
    IfOk-weaker c.sum_up.result _ _
    (λ summary sums. λ b tells.
    let n = c.args.generation.now.frames in
    let xs = numbers_from (2 * n) c.args.generation.now.seed in
    let are = generated_numbers n c.args.generation.now.seed c.requires.asked.some c.requires.asked.most in
    let then = c.in_ok-edit.ensures.edited xs are (c.in_ok-make.ensures.made b tells) in
    (sums (frames_kept n) (edited n xs) (edited_numbers n xs are) then, c.sum_up.ensures.reads.keeps.contents ∙ then))
    c.sum_up.ensures.sums
