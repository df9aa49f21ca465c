use Rattle.std.proofs.Common.{◌≡◌, ◌+ℤ◌, ◌*ℤ◌, pos, negsuc, w32, to_z, of_z, rules, ap, ◌∙◌}
use Rattle.snd_ima_adpcm.specs.Frames.{clamp}
use Rattle.snd_ms_adpcm.specs.Microsoft.{ms_code, ms_sample, ms_delta, ms_prediction, signed_code}
use Rattle.snd_ms_adpcm.specs.States.{ms_sample_at}
use Rattle.snd_ms_adpcm.proofs.microsoft_writer.encode.Goals as goal

pub returns-clause-code : goal.returns-clause-code
unfolding ms_code
returns-clause-code c = search rules

pub returns-clause-newer : goal.returns-clause-newer
unfolding ms_sample
returns-clause-newer c =
    let s = c.args.state in
    let code = c.code_and_sample-code.result.0 in
    let is : to_z w32 (of_z w32 c.code_and_sample-code.result.1) ≡ clamp (negsuc 32767) (pos 32767) (ms_prediction s.newer_by s.older_by s.newer s.older +ℤ signed_code code *ℤ s.delta) = search rules in
    is ∙ ap (λ k. ms_sample_at s k) (returns-clause-code c)

pub returns-clause-delta : goal.returns-clause-delta
returns-clause-delta c =
    let s = c.args.state in
    let is : to_z w32 (of_z w32 c.delta_after-delta.result) ≡ ms_delta s.delta c.code_and_sample-code.result.0 = search rules in
    is ∙ ap (λ k. ms_delta s.delta k) (returns-clause-code c)
