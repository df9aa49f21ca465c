use Rattle.std.proofs.Common.{◌≡◌, ◌∙◌, ap, ◌+ℤ◌, ◌*ℤ◌, pos, negsuc, w32, to_z, of_z, rules}
use Rattle.snd_ima_adpcm.specs.Frames.{clamp, floor_div}
use Rattle.snd_ms_adpcm.specs.Microsoft.{adaptation, ms_code, ms_delta, ms_prediction, ms_sample, signed_code}
use Rattle.snd_ms_adpcm.proofs.microsoft_four_writer.coded.Goals as goal

pub returns-clause-code : goal.returns-clause-code
unfolding ms_code
returns-clause-code c = search rules

pub returns-clause-newer : goal.returns-clause-newer
unfolding ms_sample
returns-clause-newer c =
    let a = c.args in
    let code = c.code_and_sample-code.result.0 in
    let is : to_z w32 (of_z w32 c.code_and_sample-code.result.1) ≡ clamp (negsuc 32767) (pos 32767) (ms_prediction a.newer_by a.older_by a.newer a.older +ℤ signed_code code *ℤ a.delta) = search rules in
    is ∙ ap (λ k. ms_sample a.newer_by a.older_by a.newer a.older a.delta k) (returns-clause-code c)

pub returns-clause-delta : goal.returns-clause-delta
unfolding ms_delta
returns-clause-delta c =
    let a = c.args in
    let is : to_z w32 (of_z w32 c.scaled.result) ≡ clamp (pos 16) (pos 1048576) (floor_div (a.delta *ℤ adaptation c.code_and_sample-code.result.0) 256) = search rules in
    is ∙ ap (λ k. ms_delta a.delta k) (returns-clause-code c)
