use Rattle.std.proofs.Common.{rules, ◌≡◌, sym, false}
use Rattle.snd_layout.specs.Blocks.{is_adpcm}
use Rattle.snd_edits.proofs.Public.{good_frames}
use Rattle.snd_export.proofs.exporting.is_bad.Goals as goal

pub returns-then-not-is_adpcm-clause-found : goal.returns-then-not-is_adpcm-clause-found
returns-then-not-is_adpcm-clause-found g c = λ b told.
    let h = c.args.layout.now in
    let plain : is_adpcm h.params.codec ≡ false = search rules in
    sym (good_frames b h plain c.keeps_rules.ensures.params.some_channel)
