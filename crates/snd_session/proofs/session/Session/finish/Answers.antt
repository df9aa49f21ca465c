use Rattle.std.proofs.Common.{refl, sym}
use Rattle.snd_edits.specs.Safe.{IsSafe}
use Rattle.snd_file.proofs.Public.{leaves_same, unchanged}
use Rattle.snd_session.proofs.session.Session.finish.Goals as goal

pub returns-in-R-clause-safe : goal.returns-in-R-clause-safe
returns-in-R-clause-safe g c = rw c.in-R.is (λ e rest.
    leaves_same g.D.Disk _ _ _ (IsSafe e e) (sym (c.close_file.ensures.closes.same refl)) (unchanged g.D.Disk rest.0 c.in-R.file e rest.1 g.met.D.Disk.only_now e))

pub returns-in-W-clause-safe : goal.returns-in-W-clause-safe
returns-in-W-clause-safe g c = rw c.in-W.is (λ e rest. c.close_file-in-W.ensures.closes.leaves refl rest.0 e rest.1)

pub returns-in-B-clause-safe : goal.returns-in-B-clause-safe
returns-in-B-clause-safe g c = rw c.in-B.is (λ e rest. c.close_file-in-B.ensures.closes.leaves refl rest.0 e rest.1)

pub returns-in-U-clause-safe : goal.returns-in-U-clause-safe
returns-in-U-clause-safe g c = rw c.in-U.is (λ e rest. c.close_file-in-U.ensures.closes.leaves refl rest.0 e rest.1)
