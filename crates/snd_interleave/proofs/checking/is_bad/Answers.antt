use Rattle.std.proofs.Common.{rules, ◌≡◌, ◌∙◌, ap, sym, false}
use Rattle.snd_layout.specs.Blocks.{is_adpcm}
use Rattle.snd_edits.proofs.Public.{good_frames}
use Rattle.snd_inputs.specs.Inputs.{is_bad}
use Rattle.snd_interleave.proofs.checking.is_bad.Goals as goal

pub returns-then-not-is_adpcm-clause-found : goal.returns-then-not-is_adpcm-clause-found
returns-then-not-is_adpcm-clause-found g c = λ e holds.
    let h = c.args.input.now.layout in
    let plain : is_adpcm h.params.codec ≡ false = search rules in
    sym (ap is_bad holds.opened ∙ good_frames e.bytes h plain c.args.input.now.good.some_channel)
