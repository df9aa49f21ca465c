use Rattle.std.proofs.Common.{◌++◌, take, drop, refl, ◌∙◌}
use Rattle.std.proofs.lemmas.List.Elements.{All-same, All-take}
use Rattle.snd_ima_adpcm.specs.Frames.{Is16Bit, firsts, seconds}
use Rattle.snd_ms_adpcm.specs.States.{ms_heads, ms_runs}
use Rattle.snd_ms_adpcm.proofs.MsWritten.{Starts, starts_whole, stereo_block}
use Rattle.snd_ima_adpcm.proofs.Public.{All-firsts, All-seconds}
use Rattle.snd_ms_adpcm.proofs.microsoft_writer.Heads.of.Goals as goal

pub start_of-left_number-requires-clause-range : goal.start_of-left_number-requires-clause-range
start_of-left_number-requires-clause-range c =
    All-same Is16Bit c.as_slice.result.now (take 5 (firsts c.args.samples.now)) (c.as_slice.ensures.value ∙ c.first_frames-left_front.ensures.left)
    (All-take Is16Bit 5 (firsts c.args.samples.now) (All-firsts Is16Bit c.args.samples.now c.requires.range))

pub start_of-right_number-requires-clause-range : goal.start_of-right_number-requires-clause-range
start_of-right_number-requires-clause-range c =
    All-same Is16Bit c.as_slice-2.result.now (take 5 (seconds c.args.samples.now)) (c.as_slice-2.ensures.value ∙ c.first_frames-left_front.ensures.right)
    (All-take Is16Bit 5 (seconds c.args.samples.now) (All-seconds Is16Bit c.args.samples.now c.requires.range))

pub returns : goal.returns
returns c =
    let samples = c.args.samples.now in
    let m = c.start_of-left_number.result.0 in
    let n = c.start_of-right_number.result.0 in
    let l = c.start_of-left_number.result.1 in
    let r = c.start_of-right_number.result.1 in
    let left : Starts c.as_slice.result.now m l =
    let e = c.start_of-left_number.ensures in record { number_is = e.number; newer_by = e.newer_by; older_by = e.older_by; newer = e.newer; older = e.older; delta = e.delta } in
    let right : Starts c.as_slice-2.result.now n r =
    let e = c.start_of-right_number.ensures in record { number_is = e.number; newer_by = e.newer_by; older_by = e.older_by; newer = e.newer; older = e.older; delta = e.delta } in
    let rest = drop 4 samples in
    stereo_block samples rest m n l r (ms_heads m n l r ++ ms_runs l r rest)
    (starts_whole (firsts samples) _ m l (c.as_slice.ensures.value ∙ c.first_frames-left_front.ensures.left) left)
    (starts_whole (seconds samples) _ n r (c.as_slice-2.ensures.value ∙ c.first_frames-left_front.ensures.right) right)
    refl refl
