use Rattle.snd_pcm.proofs.RoundTrips.{samples_are_in_range}
use Rattle.snd_pcm.proofs.laws.read_samples_are_written_back.Goals as goal

pub returns-clause-in_range : goal.returns-clause-in_range
returns-clause-in_range c = samples_are_in_range
