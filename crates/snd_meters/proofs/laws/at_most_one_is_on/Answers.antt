use Rattle.snd_meters.proofs.Ones.{start_keeps_one, stop_keeps_one, feed_keeps_one, none_after_rest}
use Rattle.snd_meters.proofs.laws.at_most_one_is_on.Goals as goal

pub returns-clause-start : goal.returns-clause-start
returns-clause-start c = start_keeps_one

pub returns-clause-stop : goal.returns-clause-stop
returns-clause-stop c = stop_keeps_one

pub returns-clause-feed : goal.returns-clause-feed
returns-clause-feed c = feed_keeps_one

pub returns-clause-rest : goal.returns-clause-rest
returns-clause-rest c = none_after_rest
