use Rattle.snd_edits.proofs.EncodedFiles.{automatic_stays, encoded_frames, encoded_sound, encoded_stays}
use Rattle.snd_edits.proofs.MadeFiles.{made_is_encoded}
use Rattle.snd_edits.proofs.laws.encoded_files_read_back.Goals as goal

pub returns-clause-made : goal.returns-clause-made
returns-clause-made c = made_is_encoded

pub returns-clause-given : goal.returns-clause-given
returns-clause-given c = encoded_stays

pub returns-clause-sealed : goal.returns-clause-sealed
returns-clause-sealed c = automatic_stays

pub returns-clause-frames : goal.returns-clause-frames
returns-clause-frames c = encoded_frames

pub returns-clause-sound : goal.returns-clause-sound
returns-clause-sound c = encoded_sound
