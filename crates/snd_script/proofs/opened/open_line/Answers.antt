use Rattle.std.proofs.Common.{◌≡◌, refl, ap, sym, ◌∙◌, None, Ok, Some, rules, subst}
use Rattle.std.proofs.lemmas.Result.{err_from_is_err_and}
use Rattle.snd_command.specs.Line.{command_of}
use Rattle.snd_command.specs.Said.{said_of}
use Rattle.snd_rules.specs.Desk.{OpenFile, open_desk, open_as}
use Rattle.snd_rules.specs.Edit.{Edited, line_edit}
use Rattle.snd_session.specs.Handled.{mode_of}
use Rattle.snd_script.specs.Serving.{IsLineServed, OpenStands}
use Rattle.snd_script.specs.Tapped.{taps_of}
use Rattle.snd_script.specs.Trail.{pinned_file, state_behind}
use Rattle.snd_script.proofs.OpenChains.{refused_stops}
use Rattle.snd_script.proofs.PinnedMoves.{moves_as, moves_none, said_behind}
use Rattle.snd_script.proofs.Stepping.{stands_open}
use Rattle.snd_script.proofs.opened.open_line.Goals as goal

pub returns-in_err-refuse-in-Err-clause-answered : goal.returns-in_err-refuse-in-Err-clause-answered
returns-in_err-refuse-in-Err-clause-answered g c =
    let p = err_from_is_err_and c.from_residual.result c.from_residual.ensures.1 in
    rw (p.1, p.2) (λ name store e stands.
    let desk = open_desk store (record { name = name; mode = open_as c.args.stays (mode_of c.args.handle.now); editing = e; taps = taps_of (λ b. (goal.Tap-dyn g b).meter b.1) c.args.run.now }) in
    refused_stops _ _ c.line_refusal.result desk c.args.run.now.refused c.refuse.new.self.refused _ _ _ (ap (line_edit desk) (sym c.in-Err.ensures) ∙ c.line_refusal.ensures desk) c.in_err-refuse-in-Err.ensures.answered
    (stands_open g.D.Disk.state store name c.args.stays _ _ c.args.handle.now c.args.handle.now e _ refl c.refuse.ensures.taps stands))

pub returns-in-Ok-None-clause-moves : goal.returns-in-Ok-None-clause-moves
returns-in-Ok-None-clause-moves g c = λ pins store name e on rest.
    let command = command_of c.args.line.now in
    let none : command ≡ Ok None = search rules in
    moves_as g.D.Disk _ e e _ c.args.handle.now c.args.handle.now (sym (ap (λ x. state_behind e (line_edit (open_desk store (pinned_file name (taps_of (λ b. (goal.Tap-dyn g b).meter b.1) c.args.run.now) e)) x)) none))
    (moves_none g.D.Disk g.met.D.Disk.only_now _ e c.args.handle.now rest)

pub returns-in-Ok-Some-clause-moves : goal.returns-in-Ok-Some-clause-moves
returns-in-Ok-Some-clause-moves g c = λ pins store name e on rest.
    let command = command_of c.args.line.now in
    let said : command ≡ Ok (Some (said_of c.in-Ok-Some.said)) = search rules in
    moves_as g.D.Disk _ e _ _ c.args.handle.now c.open_command.new.handle
    (sym (ap (λ x. state_behind e (line_edit (open_desk store (pinned_file name (taps_of (λ b. (goal.Tap-dyn g b).meter b.1) c.args.run.now) e)) x)) said ∙ said_behind store name (taps_of (λ b. (goal.Tap-dyn g b).meter b.1) c.args.run.now) e (said_of c.in-Ok-Some.said)))
    (c.open_command.ensures.moves pins e on rest)

pub returns-in_err-refuse-in-Err-clause-moves : goal.returns-in_err-refuse-in-Err-clause-moves
returns-in_err-refuse-in-Err-clause-moves g c = λ pins store name e on rest.
    let desk = open_desk store (pinned_file name (taps_of (λ b. (goal.Tap-dyn g b).meter b.1) c.args.run.now) e) in
    moves_as g.D.Disk _ e e _ c.args.handle.now c.args.handle.now (sym (ap (state_behind e) (ap (line_edit desk) (sym c.in-Err.ensures) ∙ c.line_refusal.ensures desk)))
    (moves_none g.D.Disk g.met.D.Disk.only_now _ e c.args.handle.now rest)

pub returns-in_ok-refuse-in-Err-clause-moves : goal.returns-in_ok-refuse-in-Err-clause-moves
returns-in_ok-refuse-in-Err-clause-moves g c = λ pins store name e on rest.
    let desk = open_desk store (pinned_file name (taps_of (λ b. (goal.Tap-dyn g b).meter b.1) c.args.run.now) e) in
    moves_as g.D.Disk _ e e _ c.args.handle.now c.args.handle.now (sym (ap (state_behind e) (ap (line_edit desk) (sym c.in-Err.ensures) ∙ c.line_refusal.ensures desk)))
    (moves_none g.D.Disk g.met.D.Disk.only_now _ e c.args.handle.now rest)

pub returns-in-Ok-Some-clause-answered : goal.returns-in-Ok-Some-clause-answered
returns-in-Ok-Some-clause-answered g c = λ name store e stands.
    let file : OpenFile = record { name = name; mode = open_as c.args.stays (mode_of c.args.handle.now); editing = e; taps = taps_of (λ b. (goal.Tap-dyn g b).meter b.1) c.args.run.now } in
    let said : command_of c.args.line.now ≡ Ok (Some (said_of c.in-Ok-Some.said)) = search rules in
    subst (λ (x : Edited). IsLineServed c.open_command.result x store file c.args.run.now.refused c.open_command.new.run.refused (g.O.Sink.told c.args.out.now) (g.O.Sink.told c.open_command.new.out)
    (OpenStands g.D.Disk.state store name c.args.stays (taps_of (λ b. (goal.Tap-dyn g b).meter b.1) c.open_command.new.run) c.open_command.new.handle))
    (sym (ap (line_edit (open_desk store file)) said)) (c.open_command.ensures.answered name store e stands)
