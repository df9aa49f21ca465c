use Rattle.std.proofs.Common.{rules, ◌≡◌, subst, ℕ, true, false, None}
use Rattle.snd_edits.proofs.Public.{some_writer}
use Rattle.snd_layout.specs.Shape.{Shape}
use Rattle.snd_edits.specs.Closing.{closed_to}
use Rattle.snd_frames.specs.UnderWay.{LeavesAllIn}
use Rattle.snd_file.proofs.Closed.{closed_by_hand, closed_whole, closes_by, ok_done}
use Rattle.snd_file.proofs.EncodedRest.{closing_is_safe}
use Rattle.snd_file.proofs.KeptChunks.{given_back}
use Rattle.snd_file.proofs.LeftSafe.{sealing_is_safe, unchanged}
use Rattle.snd_file.proofs.handle.File.close.Goals as goal

pub returns-in-Some-clause-leaves : goal.returns-in-Some-clause-leaves
returns-in-Some-clause-leaves g c = λ writes opened e rest. unchanged g.D.Disk opened c.args.self e rest g.met.D.Disk.only_now (closed_to g.M.Mode.ENCODES e)

pub returns-clause-leaves : goal.returns-clause-leaves
returns-clause-leaves g c = λ writes opened e rest. sealing_is_safe g.D.Disk opened c.args.self e rest c.seal.new.disk c.seal.ensures.leaves (closed_to g.M.Mode.ENCODES e) c.seal.ensures.still

pub returns-in-Ok-clause-leaves : goal.returns-in-Ok-clause-leaves
returns-in-Ok-clause-leaves g c = λ writes opened e rest. sealing_is_safe g.D.Disk opened c.args.self e rest c.seal.new.disk c.seal.ensures.leaves (closed_to g.M.Mode.ENCODES e) c.seal.ensures.still

pub returns-in-Ok-clause-chunks : goal.returns-in-Ok-clause-chunks
returns-in-Ok-clause-chunks g c = λ writes.
    let by_hand : g.M.Mode.ENCODES ≡ false = search rules in
    given_back g.D.Disk c.args.self c.seal.new.disk (closed_by_hand g.D.Disk.state c.args.self c.seal.new.disk by_hand (λ e stands. search rules))

pub returns-in-Err-clause-leaves : goal.returns-in-Err-clause-leaves
returns-in-Err-clause-leaves g c = λ writes opened e rest.
    let file = c.args.self in
    let encodes : g.M.Mode.ENCODES ≡ true = search rules in
    let w = some_writer g.M.Mode.ENCODES file.writer file.encodes encodes in
    let here = subst (λ (s : Shape). LeavesAllIn g.D.Disk s file.write_place file.writer file.disk.now c.seal_writer.new.disk) rest.stands.shape c.seal_writer.ensures.leaves in
    closing_is_safe g.D.Disk opened file e encodes rest w.0 w.1 c.seal_writer.new.disk (subst (λ (n : ℕ). LeavesAllIn g.D.Disk e.shape n file.writer file.disk.now c.seal_writer.new.disk) rest.stands.write_place here)

pub returns-then-is_some-clause-leaves : goal.returns-then-is_some-clause-leaves
returns-then-is_some-clause-leaves g c = λ writes opened e rest.
    let file = c.args.self in
    let encodes : g.M.Mode.ENCODES ≡ true = search rules in
    let w = some_writer g.M.Mode.ENCODES file.writer file.encodes encodes in
    let here = subst (λ (s : Shape). LeavesAllIn g.D.Disk s file.write_place file.writer file.disk.now c.seal_writer.new.disk) rest.stands.shape c.seal_writer.ensures.leaves in
    closing_is_safe g.D.Disk opened file e encodes rest w.0 w.1 c.seal_writer.new.disk (subst (λ (n : ℕ). LeavesAllIn g.D.Disk e.shape n file.writer file.disk.now c.seal_writer.new.disk) rest.stands.write_place here)

pub returns-then-is_some-clause-back : goal.returns-then-is_some-clause-back
returns-then-is_some-clause-back g c =
    let file = c.args.self in
    let encodes : g.M.Mode.ENCODES ≡ true = search rules in
    let working : file.broken ≡ None = search rules in
    let writes : g.M.Mode.WRITES ≡ true = search rules in
    let w = some_writer g.M.Mode.ENCODES file.writer file.encodes encodes in
    let done = ok_done c.seal_writer.result _ c.in_default-seal_writer.not-Err c.seal_writer.ensures.contents in
    closes_by g.M.Mode.WRITES g.D.Disk.state file _ writes
    (closed_whole g.D.Disk.state file c.seal_writer.new.disk w.0 encodes w.1 (g.met.D.Disk.size_told file.disk.now) (file.stands working) (done w.0 w.1))
