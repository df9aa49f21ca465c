use Rattle.snd_edits.proofs.Public.{is_fixed}
use Rattle.snd_output.proofs.Begun.{begun_counts, begun_is_making, begun_unchanged}
use Rattle.snd_output.proofs.making.WriteMaking.begin.Goals as goal

pub create-requires : goal.create-requires
create-requires g c = record { linear = is_fixed c.args.params.codec c.requires.codec }

pub returns-in-Ok-clause-begun : goal.returns-in-Ok-clause-begun
returns-in-Ok-clause-begun g c = λ b told.
    let made = c.in-Ok.ensures.made b told in
    (made.0, made.2, begun_is_making c.args.kind c.args.params made.0 c.are_good.ensures made.1, made.1)

pub returns-in-Err-clause-faults : goal.returns-in-Err-clause-faults
returns-in-Err-clause-faults g c = begun_counts c.args.kind c.args.params c.requires.fits _ _ c.in-Err.error c.stop_of.result c.stop_of.ensures c.in-Err.ensures.made c.in-Err.ensures.faults

pub returns-in-Err-clause-unchanged : goal.returns-in-Err-clause-unchanged
returns-in-Err-clause-unchanged g c = begun_unchanged c.in-Err.error c.stop_of.result c.stop_of.ensures
