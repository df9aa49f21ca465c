use Rattle.std.proofs.Common.{subst, sym}
use Rattle.snd_script.specs.Opened.{OpensToRest, RefusesOpen, opening_by}
use Rattle.snd_session.specs.declared.handle.Handle.TheVariants.{U}
use Rattle.snd_script.specs.declared.open.OpenAs.{OpenAs}
use Rattle.snd_script.proofs.RefusedOpening.{refused_reading}
use Rattle.snd_script.proofs.open.open_disk.Goals as goal

pub returns-in-Err-clause-opened : goal.returns-in-Err-clause-opened
returns-in-Err-clause-opened g c =
    subst (λ (how : OpenAs). RefusesOpen g.D.Disk.state (opening_by how) c.args.disk.now c.in-Err.error.0) (sym c.in-Read.is)
    (refused_reading g.D.Disk.state c.args.disk.now _ _ c.in-Err.error.0 c.in-Err.ensures.faults c.in-Err.ensures.opened)

pub returns-in-Ok-open_update-clause-rests : goal.returns-in-Ok-open_update-clause-rests
returns-in-Ok-open_update-clause-rests g c =
    subst (λ (how : OpenAs). OpensToRest g.D.Disk how c.args.disk.now (U c.in-Ok-open_update.file)) (sym c.in-Update.is)
    (λ b e tells stable is fit. (b, c.in-Ok-open_update.ensures.rests b e tells stable is fit))
