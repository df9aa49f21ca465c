use Rattle.std.proofs.Common.{◌≡◌, inl, ◌∙◌, false, rules, arith, refl}
use Rattle.std.proofs.lemmas.Result.{err_from_is_err_and}
use Rattle.snd_command.specs.Said.{said_of}
use Rattle.snd_rules.specs.Desk.{OpenFile, open_desk, open_as}
use Rattle.snd_session.specs.Handled.{mode_of}
use Rattle.snd_rules.specs.Rules.{is_close}
use Rattle.snd_rules.specs.Script.{asked_by}
use Rattle.snd_script.specs.Serving.{OpenStands}
use Rattle.snd_script.specs.Tapped.{taps_of}
use Rattle.snd_script.proofs.OpenChains.{refused_stops, step_served, step_stops}
use Rattle.snd_script.proofs.PinnedMoves.{automatic_of, carried_behind, moves_as, moves_refused}
use Rattle.snd_rules.proofs.Public.{most_within, written_within}
use Rattle.snd_script.proofs.StaysOpen.{held_edit, kept_edit}
use Rattle.snd_script.proofs.Stepping.{stands_open}
use Rattle.snd_script.proofs.opened.open_command.Goals as goal

pub returns-in_err-refuse-clause-answered : goal.returns-in_err-refuse-clause-answered
returns-in_err-refuse-clause-answered g c =
    let p = err_from_is_err_and c.from_residual.result c.from_residual.ensures.1 in
    rw (p.1, p.2) (λ name store e stands.
    let file : OpenFile = record { name = name; mode = open_as c.args.stays (mode_of c.args.handle.now); editing = e; taps = taps_of (λ b. (goal.Tap-dyn g b).meter b.1) c.args.run.now } in
    refused_stops _ _ c.in-Some.refusal (open_desk store file) c.args.run.now.refused c.refuse.new.self.refused _ _ _
    (held_edit store name (mode_of c.args.handle.now) (taps_of (λ b. (goal.Tap-dyn g b).meter b.1) c.args.run.now) (said_of c.args.said) e c.args.stays c.in-Some.refusal c.in-Some.ensures.0 (c.in-Some.ensures.1 (taps_of (λ b. (goal.Tap-dyn g b).meter b.1) c.args.run.now))) c.in_err-refuse.ensures.answered
    (stands_open g.D.Disk.state store name c.args.stays _ _ c.args.handle.now c.args.handle.now e _ refl c.refuse.ensures.taps stands))

pub returns-in_err-step-clause-answered : goal.returns-in_err-step-clause-answered
returns-in_err-step-clause-answered g c =
    let p = err_from_is_err_and c.from_residual-in_err-step.result c.from_residual-in_err-step.ensures.1 in
    rw (p.1, p.2) (λ name store e stands.
    let file : OpenFile = record { name = name; mode = open_as c.args.stays (mode_of c.args.handle.now); editing = e; taps = taps_of (λ b. (goal.Tap-dyn g b).meter b.1) c.args.run.now } in
    let remains : is_close (said_of c.args.said) ≡ false = search rules in
    step_stops store file (said_of c.args.said) _ c.args.run.now.refused c.step.new.self.refused _ _ _
    (kept_edit store name (mode_of c.args.handle.now) (taps_of (λ b. (goal.Tap-dyn g b).meter b.1) c.args.run.now) (said_of c.args.said) e c.args.stays c.requires.updated c.in_default.ensures remains)
    _ (c.in_err-step.ensures.answered name c.args.stays store e stands))

pub returns-clause-answered : goal.returns-clause-answered
returns-clause-answered g c = λ name store e stands.
    let file : OpenFile = record { name = name; mode = open_as c.args.stays (mode_of c.args.handle.now); editing = e; taps = taps_of (λ b. (goal.Tap-dyn g b).meter b.1) c.args.run.now } in
    let remains : is_close (said_of c.args.said) ≡ false = search rules in
    step_served store file (said_of c.args.said) _ _ _ _ _ (OpenStands g.D.Disk.state store name c.args.stays _ c.step.new.handle)
    (kept_edit store name (mode_of c.args.handle.now) (taps_of (λ b. (goal.Tap-dyn g b).meter b.1) c.args.run.now) (said_of c.args.said) e c.args.stays c.requires.updated c.in_default.ensures remains)
    _ (c.in_ok-step.ensures.answered name c.args.stays store e stands)

pub returns-in_err-step-clause-asked : goal.returns-in_err-step-clause-asked
returns-in_err-step-clause-asked g c =
    let p = err_from_is_err_and c.from_residual-in_err-step.result c.from_residual-in_err-step.ensures.1 in
    rw (p.1, p.2) (record {
      later = c.step.ensures.asked.later;
      within = omega (arith, c.step.ensures.asked.most, most_within c.args.stays (mode_of c.args.handle.now) asked_by (said_of c.args.said) c.requires.updated c.in_default.ensures);
    })

pub returns-in_err-step-clause-written : goal.returns-in_err-step-clause-written
returns-in_err-step-clause-written g c =
    let p = err_from_is_err_and c.from_residual-in_err-step.result c.from_residual-in_err-step.ensures.1 in
    rw (p.1, p.2) (record {
      later = c.step.ensures.written.later;
      within = omega (arith, c.step.ensures.written.most, written_within c.args.stays (mode_of c.args.handle.now) (said_of c.args.said) c.requires.updated c.in_default.ensures);
    })

pub returns-clause-asked : goal.returns-clause-asked
returns-clause-asked g c = record {
  later = c.step.ensures.asked.later;
  within = omega (arith, c.step.ensures.asked.most, most_within c.args.stays (mode_of c.args.handle.now) asked_by (said_of c.args.said) c.requires.updated c.in_default.ensures);
}

pub returns-clause-written : goal.returns-clause-written
returns-clause-written g c = record {
  later = c.step.ensures.written.later;
  within = omega (arith, c.step.ensures.written.most, written_within c.args.stays (mode_of c.args.handle.now) (said_of c.args.said) c.requires.updated c.in_default.ensures);
}

pub returns-in_err-refuse-clause-moves : goal.returns-in_err-refuse-clause-moves
returns-in_err-refuse-clause-moves g c = λ pins e on rest.
    moves_refused g.D.Disk g.met.D.Disk.only_now _ e (taps_of (λ b. (goal.Tap-dyn g b).meter b.1) c.args.run.now) (said_of c.args.said) c.in-Some.refusal c.args.handle.now (c.in-Some.ensures.1 (taps_of (λ b. (goal.Tap-dyn g b).meter b.1) c.args.run.now)) rest

pub returns-in-Some-clause-moves : goal.returns-in-Some-clause-moves
returns-in-Some-clause-moves g c = λ pins e on rest.
    moves_refused g.D.Disk g.met.D.Disk.only_now _ e (taps_of (λ b. (goal.Tap-dyn g b).meter b.1) c.args.run.now) (said_of c.args.said) c.in-Some.refusal c.args.handle.now (c.in-Some.ensures.1 (taps_of (λ b. (goal.Tap-dyn g b).meter b.1) c.args.run.now)) rest

pub returns-in_err-step-clause-moves : goal.returns-in_err-step-clause-moves
returns-in_err-step-clause-moves g c =
    let p = err_from_is_err_and c.from_residual-in_err-step.result c.from_residual-in_err-step.ensures.1 in
    rw (p.1, p.2) (λ pins e on rest.
    let moves = c.in_err-step.ensures.moves (inl (automatic_of g.D.Disk c.args.handle.now e rest ∙ on)) e rest in
    moves_as g.D.Disk _ e _ _ c.args.handle.now c.step.new.handle (carried_behind (mode_of c.args.handle.now) (taps_of (λ b. (goal.Tap-dyn g b).meter b.1) c.args.run.now) (said_of c.args.said) e (c.requires.updated pins) (c.in_default.ensures pins))
    (record { leaves = moves.leaves; rests = moves.rests; params = moves.params }))

pub returns-clause-moves : goal.returns-clause-moves
returns-clause-moves g c = λ pins e on rest.
    let moves = c.in_ok-step.ensures.moves (inl (automatic_of g.D.Disk c.args.handle.now e rest ∙ on)) e rest in
    moves_as g.D.Disk _ e _ _ c.args.handle.now c.step.new.handle (carried_behind (mode_of c.args.handle.now) (taps_of (λ b. (goal.Tap-dyn g b).meter b.1) c.args.run.now) (said_of c.args.said) e (c.requires.updated pins) (c.in_default.ensures pins))
    (record { leaves = moves.leaves; rests = moves.rests; params = moves.params })
