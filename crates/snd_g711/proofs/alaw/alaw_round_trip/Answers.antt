use Rattle.snd_g711.proofs.AlawLemmas.{round_trip}
use Rattle.snd_g711.proofs.alaw.alaw_round_trip.Goals as goal

pub returns : goal.returns
returns c = round_trip
