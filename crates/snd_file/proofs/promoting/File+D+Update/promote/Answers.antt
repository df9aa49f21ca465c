use Rattle.std.proofs.Common.{rules, ◌≡◌, false, true, refl}
use Rattle.std.specs.Prelude.{is_some}
use Rattle.snd_file.proofs.LeftSafe.{unchanged, where_failed}
use Rattle.snd_file.proofs.Turned.{same_front, stay_turned, turned_at_rest}
use Rattle.snd_reservations.specs.States.{promoted_to}
use Rattle.snd_file.proofs.promoting.«File+D+Update».promote.Goals as goal

pub turn-requires-clause-may : goal.turn-requires-clause-may
turn-requires-clause-may g c =
    let reserved : is_some c.args.self.now.layout.reserve ≡ true = search rules in
    let free : c.args.self.now.layout.trailing ≡ false = search rules in
    record { reserved = reserved; free = free }

pub returns-in-Some-clause-leaves : goal.returns-in-Some-clause-leaves
returns-in-Some-clause-leaves g c = λ opened e rest. unchanged g.D.Disk opened c.args.self.now e rest g.met.D.Disk.only_now e

pub returns-in-Some-clause-beside : goal.returns-in-Some-clause-beside
returns-in-Some-clause-beside g c = same_front g.D.Disk.state c.args.self.now.layout c.args.self.now.layout.frames c.args.self.now.disk.now

pub returns-then-is_none-clause-leaves : goal.returns-then-is_none-clause-leaves
returns-then-is_none-clause-leaves g c = λ opened e rest. unchanged g.D.Disk opened c.args.self.now e rest g.met.D.Disk.only_now e

pub returns-then-self-clause-leaves : goal.returns-then-self-clause-leaves
returns-then-self-clause-leaves g c = λ opened e rest. unchanged g.D.Disk opened c.args.self.now e rest g.met.D.Disk.only_now e

pub returns-clause-rests : goal.returns-clause-rests
returns-clause-rests g c = λ opened e rest.
    let reserved : is_some c.args.self.now.layout.reserve ≡ true = search rules in
    let free : c.args.self.now.layout.trailing ≡ false = search rules in
    turned_at_rest g.D.Disk opened c.args.self.now e rest refl (record { reserved = reserved; free = free }) c.turn.new.self (c.in_ok-turn.ensures.stands e rest.stands) c.in_ok-turn.ensures.stable

pub returns-clause-chunks : goal.returns-clause-chunks
returns-clause-chunks g c =
    let reserved : is_some c.args.self.now.layout.reserve ≡ true = search rules in
    let free : c.args.self.now.layout.trailing ≡ false = search rules in
    stay_turned g.D.Disk c.args.self.now c.turn.new.self (record { reserved = reserved; free = free }) c.in_ok-turn.ensures.stands

pub returns-clause-leaves : goal.returns-clause-leaves
returns-clause-leaves g c = λ opened e rest. c.turn.ensures.leaves opened e rest

pub returns-in_err-turn-clause-leaves : goal.returns-in_err-turn-clause-leaves
returns-in_err-turn-clause-leaves g c = λ opened e rest. where_failed g.D.Disk _ _ e _ promoted_to (search rules) (c.turn.ensures.leaves opened e rest)
