use Rattle.std.proofs.Common.{rules, ◌≡◌, ◌∙◌, ap, true, false}
use Rattle.snd_blocks.proofs.Public.{frames_are_in_blocks}
use Rattle.snd_blocks.specs.Frames.{has_bad}
use Rattle.snd_layout.specs.Blocks.{is_adpcm}
use Rattle.snd_edits.proofs.Public.{good_frames, if_ok}
use Rattle.snd_frames.proofs.frames.check_any.Goals as goal

pub returns-then-not-is_adpcm-clause-good : goal.returns-then-not-is_adpcm-clause-good
returns-then-not-is_adpcm-clause-good g c = λ b told.
    let none : is_adpcm c.args.layout.now.params.codec ≡ false = search rules in
    good_frames b c.args.layout.now none c.keeps_rules.ensures.params.some_channel

pub returns-clause-good : goal.returns-clause-good
returns-clause-good g c =
    let blocks : is_adpcm c.args.layout.now.params.codec ≡ true = search rules in
    if_ok c.check_blocks.result c.check_blocks.ensures.good (λ v good b told. ap has_bad (frames_are_in_blocks b c.args.layout.now blocks) ∙ good b told)

pub returns-clause-bad : goal.returns-clause-bad
returns-clause-bad g c = λ is b told.
    let blocks : is_adpcm c.args.layout.now.params.codec ≡ true = search rules in
    ap has_bad (frames_are_in_blocks b c.args.layout.now blocks) ∙ c.check_blocks.ensures.bad is b told
