use Rattle.std.proofs.Common.{◌≡◌, ◌++◌, drop, rules, ap, ◌∙◌}
use Rattle.snd_ms_adpcm.specs.States.{ms_heads, ms_runs}
use Rattle.snd_ms_adpcm.proofs.microsoft_writer.encode_stereo.Goals as goal

pub returns : goal.returns
returns c =
    let h = c.of-heads.result in
    let heads : c.try_extend_from_slice.new.self.items ≡ ms_heads h.left_number h.right_number h.left h.right = search rules in
    let rest : c.split_at.result.1.now ≡ drop 4 c.args.samples.now = search rules in
    c.encode_frames.ensures ∙ ap (λ bytes. bytes ++ ms_runs h.left h.right c.split_at.result.1.now) heads
    ∙ ap (λ frames. ms_heads h.left_number h.right_number h.left h.right ++ ms_runs h.left h.right frames) rest ∙ c.of-heads.ensures
