use Rattle.snd_patch.proofs.Behind.{closes_from_to, cuts_from_to}
use Rattle.snd_patch.proofs.Images.{counts_from_to, grows_from_to, shrinks_from_to}
use Rattle.snd_patch.proofs.laws.updates_start_and_end.Goals as goal

pub returns-clause-grows : goal.returns-clause-grows
returns-clause-grows c = grows_from_to

pub returns-clause-shrinks : goal.returns-clause-shrinks
returns-clause-shrinks c = shrinks_from_to

pub returns-clause-counts : goal.returns-clause-counts
returns-clause-counts c = counts_from_to

pub returns-clause-closes : goal.returns-clause-closes
returns-clause-closes c = closes_from_to

pub returns-clause-cuts : goal.returns-clause-cuts
returns-clause-cuts c = cuts_from_to
