use Rattle.snd_edits.proofs.SafeCuts.{cut_safe}
use Rattle.snd_edits.proofs.SafeRests.{trimmed_safe}
use Rattle.snd_edits.proofs.SafeSeals.{sealed_safe, tail_safe}
use Rattle.snd_edits.proofs.laws.cutting_is_safe.Goals as goal

pub returns-clause-cut : goal.returns-clause-cut
returns-clause-cut c = λ file e to x ed fit fewer free either. cut_safe file e ed fit free x to fewer either

pub returns-clause-sealed : goal.returns-clause-sealed
returns-clause-sealed c = λ file e e' x of fit free either. sealed_safe file e of fit free x e' either

pub returns-clause-tail : goal.returns-clause-tail
returns-clause-tail c = λ file e e' x of fit free sized cutting. tail_safe file e of fit free x e' sized cutting

pub returns-clause-trimmed : goal.returns-clause-trimmed
returns-clause-trimmed c = trimmed_safe
