use Rattle.snd_output.proofs.MadeSounds.{made_has_sound}
use Rattle.snd_output.proofs.laws.made_files_have_sound.Goals as goal

pub returns : goal.returns
returns c = made_has_sound
