use Rattle.snd_patch.proofs.Slices.{front_reads, new_field_reads, old_field_reads}
use Rattle.snd_patch.proofs.laws.places_are_read.Goals as goal

pub returns-clause-new : goal.returns-clause-new
returns-clause-new c = new_field_reads

pub returns-clause-old : goal.returns-clause-old
returns-clause-old c = old_field_reads

pub returns-clause-front : goal.returns-clause-front
returns-clause-front c = front_reads
