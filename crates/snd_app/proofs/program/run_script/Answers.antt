use Rattle.std.proofs.Common.{refl, rules}
use Rattle.snd_rules.specs.Desk.{stored}
use Rattle.snd_rules.specs.Pinned.{run_steps, run_too_long}
use Rattle.snd_script.specs.PinnedRun.{named}
use Rattle.snd_app.specs.Run.{told_by}
use Rattle.snd_app.proofs.Scripts.{done_is, fault_is, fault_stops, memory_is, too_long_is, too_long_stops}
use Rattle.snd_app.proofs.program.run_script.Goals as goal

pub returns-in-Done-clause-outcome : goal.returns-in-Done-clause-outcome
returns-in-Done-clause-outcome g c = λ files text told left.
    done_is g.S.Shelf.state (stored files _) (run_steps (named c.args.pinned) (stored files _) text) _ _ _ _ (g.R.Source.left c.serve.new.script) _ c.in-Done.refused _ (run_too_long (named c.args.pinned) (stored files _) text) (search rules) refl refl (c.in-Done.ensures.served files text told left)

pub returns-in-TooLong-clause-outcome : goal.returns-in-TooLong-clause-outcome
returns-in-TooLong-clause-outcome g c = λ files text told left.
    too_long_is g.S.Shelf.state (stored files _) (run_steps (named c.args.pinned) (stored files _) text) _ _ _ _ (g.R.Source.left c.serve.new.script) _ c.put_text.result (run_too_long (named c.args.pinned) (stored files _) text) c.put_text.ensures (c.in-TooLong.ensures.served files text told left)

pub returns-in-TooLong-clause-stops : goal.returns-in-TooLong-clause-stops
returns-in-TooLong-clause-stops g c = λ files text told left.
    too_long_stops g.S.Shelf.state (stored files _) (run_steps (named c.args.pinned) (stored files _) text) _ _ _ _ _ _ c.put_text.result (run_too_long (named c.args.pinned) (stored files _) text) c.put_text.ensures (c.in-TooLong.ensures.served files text told left)

pub returns-in-Fault-clause-outcome : goal.returns-in-Fault-clause-outcome
returns-in-Fault-clause-outcome g c = λ files text told left.
    fault_is g.S.Shelf.state (stored files _) (run_steps (named c.args.pinned) (stored files _) text) _ _ _ _ _ _ (run_too_long (named c.args.pinned) (stored files _) text) refl (c.in-Fault.ensures.served files text told left)

pub returns-in-Fault-clause-stops : goal.returns-in-Fault-clause-stops
returns-in-Fault-clause-stops g c = λ files text told left. fault_stops g.S.Shelf.state (stored files _) (run_steps (named c.args.pinned) (stored files _) text) _ _ _ (told_by g.E.Sink c.args.err.now c.args.err.now) _ _ (c.in-Fault.ensures.served files text told left)

pub returns-in-Memory-clause-outcome : goal.returns-in-Memory-clause-outcome
returns-in-Memory-clause-outcome g c = λ files text told left.
    memory_is g.S.Shelf.state (stored files _) (run_steps (named c.args.pinned) (stored files _) text) _ _ _ _ (g.R.Source.left c.serve.new.script) _ (run_too_long (named c.args.pinned) (stored files _) text) refl (c.in-Memory.ensures.served files text told left).1
