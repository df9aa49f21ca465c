use Rattle.snd_edits.proofs.SafeWrites.{grown_safe, written_safe}
use Rattle.snd_edits.proofs.laws.writing_is_safe.Goals as goal

pub returns-clause-written : goal.returns-clause-written
returns-clause-written c = λ file e xs x ed fit may sized part. written_safe file e ed fit xs may sized x part

pub returns-clause-grown : goal.returns-clause-grown
returns-clause-grown c = λ file e xs x ed fit may free sized growing. grown_safe file e ed fit xs may free sized x growing
