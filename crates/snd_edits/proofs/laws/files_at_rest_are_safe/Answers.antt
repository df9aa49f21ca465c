use Rattle.snd_edits.proofs.SafeImages.{at_rest, from_after, safe_across, wider}
use Rattle.snd_edits.proofs.laws.files_at_rest_are_safe.Goals as goal

pub returns-clause-rest : goal.returns-clause-rest
returns-clause-rest c = at_rest

pub returns-clause-before : goal.returns-clause-before
returns-clause-before c = wider

pub returns-clause-after : goal.returns-clause-after
returns-clause-after c = from_after

pub returns-clause-across : goal.returns-clause-across
returns-clause-across c = safe_across
