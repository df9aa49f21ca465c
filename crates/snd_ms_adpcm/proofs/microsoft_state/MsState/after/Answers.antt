use Rattle.std.proofs.Common.{◌≡◌, ◌∙◌, ap, pos, negsuc, ◌+ℤ◌, ◌*ℤ◌, w32, to_z, of_z, rules}
use Rattle.snd_ima_adpcm.specs.Frames.{clamp}
use Rattle.snd_ms_adpcm.specs.Microsoft.{ms_sample, ms_prediction}
use Rattle.snd_ms_adpcm.proofs.microsoft_state.MsState.after.Goals as goal

pub returns-clause-newer : goal.returns-clause-newer
unfolding ms_sample
returns-clause-newer c =
    let s = c.args.self in
    let is : to_z w32 (of_z w32 c.sample_of-newer.result) ≡ clamp (negsuc 32767) (pos 32767) (ms_prediction s.newer_by s.older_by s.newer s.older +ℤ c.signed-deltas.result *ℤ s.delta) = search rules in
    is ∙ ap (λ k. clamp (negsuc 32767) (pos 32767) (ms_prediction s.newer_by s.older_by s.newer s.older +ℤ k *ℤ s.delta)) c.signed-deltas.ensures.value
