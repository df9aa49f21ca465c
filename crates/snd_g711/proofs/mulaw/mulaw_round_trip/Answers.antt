use Rattle.snd_g711.proofs.MulawLemmas.{round_trip, keeps_decoded}
use Rattle.snd_g711.proofs.mulaw.mulaw_round_trip.Goals as goal

pub returns-clause-bytes : goal.returns-clause-bytes
returns-clause-bytes c = round_trip

pub returns-clause-values : goal.returns-clause-values
returns-clause-values c = keeps_decoded
