use Rattle.snd_edits.proofs.EditedFiles.{opened_holds_frames, updated_is_edited}
use Rattle.snd_edits.proofs.MadeFiles.{made_is_edited}
use Rattle.snd_edits.proofs.laws.opened_files_are_edited.Goals as goal

pub returns-clause-read : goal.returns-clause-read
returns-clause-read c = opened_holds_frames

pub returns-clause-updated : goal.returns-clause-updated
returns-clause-updated c = updated_is_edited

pub returns-clause-made : goal.returns-clause-made
returns-clause-made c = made_is_edited
