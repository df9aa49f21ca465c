use Rattle.snd_edits.specs.Edits.{sealed_to}
use Rattle.snd_edits.proofs.Public.{sealed_rest, state_stays}
use Rattle.snd_file.proofs.KeptChunks.{stay_sealed}
use Rattle.snd_file.proofs.LeftSafe.{keeps_of, rests_in, unchanged}
use Rattle.snd_file.proofs.handle.File.update_now.Goals as goal

pub returns-in-Some-clause-leaves : goal.returns-in-Some-clause-leaves
returns-in-Some-clause-leaves g c = λ opened e rest. unchanged g.D.Disk opened c.args.self.now e rest g.met.D.Disk.only_now e

pub returns-in_err-seal_file-clause-leaves : goal.returns-in_err-seal_file-clause-leaves
returns-in_err-seal_file-clause-leaves g c = λ opened e rest. c.seal_file.ensures.leaves opened e _ rest

pub returns-clause-leaves : goal.returns-clause-leaves
returns-clause-leaves g c = λ opened e rest. c.seal_file.ensures.leaves opened e (sealed_to e) rest

pub returns-clause-rests : goal.returns-clause-rests
returns-clause-rests g c = λ opened e rest.
    rests_in g.D.Disk opened c.seal_file.new.self (sealed_to e) (state_stays g.M.Mode.ENCODES opened e e.automatic rest.state)
    (sealed_rest opened e (keeps_of g.M.Mode.ENCODES opened e rest.state) rest.fit.bytes rest.fit.whole) (c.in_ok-seal_file.ensures.stands e rest.stands) c.in_ok-seal_file.ensures.stable

pub returns-clause-chunks : goal.returns-clause-chunks
returns-clause-chunks g c = stay_sealed g.D.Disk c.args.self.now c.seal_file.new.self c.in_ok-seal_file.ensures.stands
