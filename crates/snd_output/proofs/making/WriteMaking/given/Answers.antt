use Rattle.std.proofs.Common.{◌∙◌, sym, refl}
use Rattle.snd_file.specs.Handle.{known_of}
use Rattle.snd_edits.proofs.Public.{not_adpcm}
use Rattle.snd_output.proofs.making.WriteMaking.given.Goals as goal

pub returns : goal.returns
returns g c = c.frames.ensures ∙ sym (c.requires.behind (not_adpcm (known_of c.args.to.now).shape.params.codec (c.args.to.now.linear refl)))
