use Rattle.snd_pcm.proofs.RoundTrips.{samples_of_parts}
use Rattle.snd_pcm.proofs.laws.samples_stand_side_by_side.Goals as goal

pub returns-clause-parts : goal.returns-clause-parts
returns-clause-parts c = samples_of_parts
