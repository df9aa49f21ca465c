use Rattle.std.proofs.Common.{rules, ◌≡◌, subst, true}
use Rattle.snd_layout.specs.Shape.{Shape}
use Rattle.snd_edits.specs.Edits.{automatic_to, sealed_to}
use Rattle.snd_edits.specs.Safe.{IsSafe}
use Rattle.snd_edits.specs.WriteCalls.{is_whole_field}
use Rattle.snd_file.proofs.Encoded.{stands_automatic}
use Rattle.snd_edits.proofs.Public.{automatic_rest, state_stays}
use Rattle.snd_file.proofs.KeptChunks.{stay_set}
use Rattle.snd_file.proofs.LeftSafe.{keeps_of, leaves_same, rests_in, unchanged}
use Rattle.snd_file.proofs.handle.File.set_auto.Goals as goal

pub returns-in-Some-clause-leaves : goal.returns-in-Some-clause-leaves
returns-in-Some-clause-leaves g c = λ opened e rest. unchanged g.D.Disk opened c.args.self.now e rest g.met.D.Disk.only_now e

pub returns-in_err-seal_file-clause-leaves : goal.returns-in_err-seal_file-clause-leaves
returns-in_err-seal_file-clause-leaves g c = λ opened e rest. c.seal_file.ensures.leaves opened e _ rest

pub returns-clause-leaves : goal.returns-clause-leaves
returns-clause-leaves g c = λ opened e rest.
    let then = automatic_to c.args.on e in
    leaves_same g.D.Disk _ _ _ (IsSafe e then) (search rules) (c.seal_file.ensures.leaves opened e then rest)

pub returns-clause-stands : goal.returns-clause-stands
returns-clause-stands g c = λ e stands.
    stands_automatic g.D.Disk.state c.seal_file.new.self _ c.args.on (sealed_to e) (search rules) (search rules) (search rules) (c.in_ok-seal_file.ensures.stands e stands)

pub returns-clause-stable : goal.returns-clause-stable
returns-clause-stable g c = search rules

pub returns-clause-rests : goal.returns-clause-rests
returns-clause-rests g c = λ opened e rest.
    let on = c.args.on in
    rests_in g.D.Disk opened _ (automatic_to on e) (state_stays g.M.Mode.ENCODES opened e on rest.state)
    (automatic_rest opened e on (keeps_of g.M.Mode.ENCODES opened e rest.state) rest.fit.bytes rest.fit.whole) (returns-clause-stands g c e rest.stands) (returns-clause-stable g c)

pub returns-clause-begins : goal.returns-clause-begins
returns-clause-begins g c = λ is opened e state bytes stands.
    let on = c.args.on in
    let whole : is_whole_field c.args.self.now.layout ≡ true = search rules in
    rests_in g.D.Disk opened _ (automatic_to on e) (state_stays g.M.Mode.ENCODES opened e on state)
    (automatic_rest opened e on (keeps_of g.M.Mode.ENCODES opened e state) bytes (subst (λ (s : Shape). is_whole_field s ≡ true) stands.shape whole)) (returns-clause-stands g c e stands) (returns-clause-stable g c)

pub returns-clause-chunks : goal.returns-clause-chunks
returns-clause-chunks g c = stay_set g.D.Disk c.args.self.now _ c.args.on (returns-clause-stands g c)
