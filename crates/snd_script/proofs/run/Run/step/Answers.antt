use Rattle.std.proofs.Common.{[], ◌∷◌}
use Rattle.snd_command.specs.Said.{said_of}
use Rattle.snd_rules.specs.Edit.{keep_open}
use Rattle.snd_session.specs.Handled.{handle_known, handle_params, mode_of, rule_for}
use Rattle.snd_rules.specs.Desk.{open_as}
use Rattle.snd_script.specs.Tapped.{taps_of}
use Rattle.snd_rules.proofs.Public.{more, uses_most, broken_after, whole_after}
use Rattle.snd_script.proofs.Openings.{taps_come}
use Rattle.snd_script.proofs.Stepping.{or_no_refusal, or_refusal, stands_lost, stands_open}
use Rattle.snd_script.proofs.run.Run.step.Goals as goal

pub returns-in-Ok-Ok-clause-answered : goal.returns-in-Ok-Ok-clause-answered
returns-in-Ok-Ok-clause-answered g c = λ name stays store e stands.
    let said = rw c.in-Ok-Ok.field-0-is at c.in-Ok-Ok.ensures.steps.said e stands in (
      or_no_refusal _ _ said.0,
      said.1,
      stands_open g.D.Disk.state store name stays _ _ c.args.handle.now c.carry_out.new.handle _ _ c.carry_out.ensures.steps.leaves.mode
          (taps_come g.D.Disk.state c.args.handle.now (rule_for (taps_of (λ b. (goal.Tap-dyn g b).meter b.1) c.args.self.now) c.args.handle.now (said_of c.args.said)) e _ _ stands c.in-Ok-Ok.ensures.taps) (c.in-Ok-Ok.ensures.steps.stands e stands),
    )

pub returns-in-Ok-Refused-clause-answered : goal.returns-in-Ok-Refused-clause-answered
returns-in-Ok-Refused-clause-answered g c = λ name stays store e stands.
    let said = rw c.in-Ok-Refused.field-0-is at c.in-Ok-Refused.ensures.steps.said e stands in (
      or_refusal _ _ _ said.0,
      said.1,
      stands_open g.D.Disk.state store name stays _ _ c.args.handle.now c.carry_out.new.handle _ _ c.carry_out.ensures.steps.leaves.mode
          (taps_come g.D.Disk.state c.args.handle.now (rule_for (taps_of (λ b. (goal.Tap-dyn g b).meter b.1) c.args.self.now) c.args.handle.now (said_of c.args.said)) e _ _ stands c.in-Ok-Refused.ensures.taps) (c.in-Ok-Refused.ensures.steps.stands e stands),
    )

pub returns-in-Err-Out-clause-answered : goal.returns-in-Err-Out-clause-answered
returns-in-Err-Out-clause-answered g c = λ name stays store e stands.
    let said = rw c.in-Err-Out.field-0-is at c.in-Err-Out.ensures.steps.said e stands in (
      said,
      stands_open g.D.Disk.state store name stays _ _ c.args.handle.now c.carry_out.new.handle _ _ c.carry_out.ensures.steps.leaves.mode
          (taps_come g.D.Disk.state c.args.handle.now (rule_for (taps_of (λ b. (goal.Tap-dyn g b).meter b.1) c.args.self.now) c.args.handle.now (said_of c.args.said)) e _ _ stands (rw c.in-Err-Out.field-0-is at c.in-Err-Out.ensures.taps)) (rw c.in-Err-Out.field-0-is at c.in-Err-Out.ensures.steps.stands e stands),
    )

pub returns-in-Err-Disk-clause-answered : goal.returns-in-Err-Disk-clause-answered
returns-in-Err-Disk-clause-answered g c = λ name stays store e stands. (
  rw c.in-Err-Disk.field-0-is at c.in-Err-Disk.ensures.steps.silent,
  stands_lost g.D.Disk.state store name stays _ _ c.args.handle.now c.carry_out.new.handle e
      (keep_open store (record { name = name; mode = open_as stays (mode_of c.args.handle.now); editing = e; taps = (taps_of (λ b. (goal.Tap-dyn g b).meter b.1) c.args.self.now) }) (rule_for (taps_of (λ b. (goal.Tap-dyn g b).meter b.1) c.args.self.now) c.args.handle.now (said_of c.args.said)) ∷ []) c.carry_out.ensures.steps.leaves.mode (rw c.in-Err-Disk.field-0-is at c.in-Err-Disk.ensures.taps),
)

pub returns-in-Err-Memory-clause-answered : goal.returns-in-Err-Memory-clause-answered
returns-in-Err-Memory-clause-answered g c = λ name stays store e stands. (
  rw c.in-Err-Memory.field-0-is at c.in-Err-Memory.ensures.steps.silent,
  stands_open g.D.Disk.state store name stays _ _ c.args.handle.now c.carry_out.new.handle _ _ c.carry_out.ensures.steps.leaves.mode
      (rw c.in-Err-Memory.field-0-is at c.in-Err-Memory.ensures.taps) (rw c.in-Err-Memory.field-0-is at c.in-Err-Memory.ensures.steps.stands e stands),
)

pub returns-in-Ok-Ok-clause-whole : goal.returns-in-Ok-Ok-clause-whole
returns-in-Ok-Ok-clause-whole g c = whole_after (mode_of c.args.handle.now) (taps_of (λ b. (goal.Tap-dyn g b).meter b.1) c.args.self.now) (said_of c.args.said) (handle_known c.args.handle.now) _ _ c.requires.whole c.in-Ok-Ok.ensures.steps.knows

pub returns-in-Ok-Refused-clause-whole : goal.returns-in-Ok-Refused-clause-whole
returns-in-Ok-Refused-clause-whole g c = whole_after (mode_of c.args.handle.now) (taps_of (λ b. (goal.Tap-dyn g b).meter b.1) c.args.self.now) (said_of c.args.said) (handle_known c.args.handle.now) _ _ c.requires.whole c.in-Ok-Refused.ensures.steps.knows

pub returns-in-Err-Out-clause-whole : goal.returns-in-Err-Out-clause-whole
returns-in-Err-Out-clause-whole g c =
    let knows = rw c.in-Err-Out.field-0-is at c.in-Err-Out.ensures.steps.knows in
    whole_after (mode_of c.args.handle.now) (taps_of (λ b. (goal.Tap-dyn g b).meter b.1) c.args.self.now) (said_of c.args.said) (handle_known c.args.handle.now) _ knows.0 c.requires.whole knows.1

pub returns-in-Err-Disk-clause-whole : goal.returns-in-Err-Disk-clause-whole
returns-in-Err-Disk-clause-whole g c =
    let knows = rw c.in-Err-Disk.field-0-is at c.in-Err-Disk.ensures.steps.knows in
    broken_after _ knows.0 (handle_known c.args.handle.now) _ knows.1

pub returns-in-Ok-Ok-clause-moves : goal.returns-in-Ok-Ok-clause-moves
returns-in-Ok-Ok-clause-moves g c = λ on e rest. record { leaves = c.carry_out.ensures.steps.safe on e rest; rests = c.in-Ok-Ok.ensures.steps.rests on e rest; params = c.carry_out.ensures.steps.leaves.params }

pub returns-in-Ok-Refused-clause-moves : goal.returns-in-Ok-Refused-clause-moves
returns-in-Ok-Refused-clause-moves g c = λ on e rest. record { leaves = c.carry_out.ensures.steps.safe on e rest; rests = c.in-Ok-Refused.ensures.steps.rests on e rest; params = c.carry_out.ensures.steps.leaves.params }

pub returns-in-Err-Out-clause-moves : goal.returns-in-Err-Out-clause-moves
returns-in-Err-Out-clause-moves g c = λ on e rest.
    let rests = rw c.in-Err-Out.field-0-is at c.in-Err-Out.ensures.steps.rests in
    record { leaves = c.carry_out.ensures.steps.safe on e rest; rests = rests on e rest; params = c.carry_out.ensures.steps.leaves.params }

pub returns-in-Err-Disk-clause-moves : goal.returns-in-Err-Disk-clause-moves
returns-in-Err-Disk-clause-moves g c = λ on e rest. record { leaves = c.carry_out.ensures.steps.safe on e rest; rests = tt; params = c.carry_out.ensures.steps.leaves.params }

pub returns-in-Err-Memory-clause-moves : goal.returns-in-Err-Memory-clause-moves
returns-in-Err-Memory-clause-moves g c = λ on e rest.
    let rests = rw c.in-Err-Memory.field-0-is at c.in-Err-Memory.ensures.steps.rests in
    record { leaves = c.carry_out.ensures.steps.safe on e rest; rests = rests on e rest; params = c.carry_out.ensures.steps.leaves.params }

pub returns-in-Ok-Ok-clause-asked : goal.returns-in-Ok-Ok-clause-asked
returns-in-Ok-Ok-clause-asked g c = more _ _ _ _ (uses_most (mode_of c.args.handle.now) (taps_of (λ b. (goal.Tap-dyn g b).meter b.1) c.args.self.now) (said_of c.args.said) (handle_params c.args.handle.now) c.requires.small).asks c.carry_out.ensures.steps.asked

pub returns-in-Ok-Ok-clause-written : goal.returns-in-Ok-Ok-clause-written
returns-in-Ok-Ok-clause-written g c = more _ _ _ _ (uses_most (mode_of c.args.handle.now) (taps_of (λ b. (goal.Tap-dyn g b).meter b.1) c.args.self.now) (said_of c.args.said) (handle_params c.args.handle.now) c.requires.small).writes c.carry_out.ensures.steps.written

pub returns-in-Ok-Refused-clause-asked : goal.returns-in-Ok-Refused-clause-asked
returns-in-Ok-Refused-clause-asked g c = more _ _ _ _ (uses_most (mode_of c.args.handle.now) (taps_of (λ b. (goal.Tap-dyn g b).meter b.1) c.args.self.now) (said_of c.args.said) (handle_params c.args.handle.now) c.requires.small).asks c.carry_out.ensures.steps.asked

pub returns-in-Ok-Refused-clause-written : goal.returns-in-Ok-Refused-clause-written
returns-in-Ok-Refused-clause-written g c = more _ _ _ _ (uses_most (mode_of c.args.handle.now) (taps_of (λ b. (goal.Tap-dyn g b).meter b.1) c.args.self.now) (said_of c.args.said) (handle_params c.args.handle.now) c.requires.small).writes c.carry_out.ensures.steps.written

pub returns-in-Err-Out-clause-asked : goal.returns-in-Err-Out-clause-asked
returns-in-Err-Out-clause-asked g c = more _ _ _ _ (uses_most (mode_of c.args.handle.now) (taps_of (λ b. (goal.Tap-dyn g b).meter b.1) c.args.self.now) (said_of c.args.said) (handle_params c.args.handle.now) c.requires.small).asks c.carry_out.ensures.steps.asked

pub returns-in-Err-Out-clause-written : goal.returns-in-Err-Out-clause-written
returns-in-Err-Out-clause-written g c = more _ _ _ _ (uses_most (mode_of c.args.handle.now) (taps_of (λ b. (goal.Tap-dyn g b).meter b.1) c.args.self.now) (said_of c.args.said) (handle_params c.args.handle.now) c.requires.small).writes c.carry_out.ensures.steps.written

pub returns-in-Err-Disk-clause-asked : goal.returns-in-Err-Disk-clause-asked
returns-in-Err-Disk-clause-asked g c = more _ _ _ _ (uses_most (mode_of c.args.handle.now) (taps_of (λ b. (goal.Tap-dyn g b).meter b.1) c.args.self.now) (said_of c.args.said) (handle_params c.args.handle.now) c.requires.small).asks c.carry_out.ensures.steps.asked

pub returns-in-Err-Disk-clause-written : goal.returns-in-Err-Disk-clause-written
returns-in-Err-Disk-clause-written g c = more _ _ _ _ (uses_most (mode_of c.args.handle.now) (taps_of (λ b. (goal.Tap-dyn g b).meter b.1) c.args.self.now) (said_of c.args.said) (handle_params c.args.handle.now) c.requires.small).writes c.carry_out.ensures.steps.written

pub returns-in-Err-Memory-clause-asked : goal.returns-in-Err-Memory-clause-asked
returns-in-Err-Memory-clause-asked g c = more _ _ _ _ (uses_most (mode_of c.args.handle.now) (taps_of (λ b. (goal.Tap-dyn g b).meter b.1) c.args.self.now) (said_of c.args.said) (handle_params c.args.handle.now) c.requires.small).asks c.carry_out.ensures.steps.asked

pub returns-in-Err-Memory-clause-written : goal.returns-in-Err-Memory-clause-written
returns-in-Err-Memory-clause-written g c = more _ _ _ _ (uses_most (mode_of c.args.handle.now) (taps_of (λ b. (goal.Tap-dyn g b).meter b.1) c.args.self.now) (said_of c.args.said) (handle_params c.args.handle.now) c.requires.small).writes c.carry_out.ensures.steps.written
