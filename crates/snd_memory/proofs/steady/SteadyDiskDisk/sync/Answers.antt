use Rattle.std.proofs.Common.{Some, ap, ◌∙◌}
use Rattle.snd_memory.specs.declared.call.Call.TheVariants.{Sync}
use Rattle.snd_memory.specs.declared.call.End.TheVariants.{Done}
use Rattle.snd_memory.proofs.AfterCall.{only_settled, passes_may, on_ok}
use Rattle.snd_memory.proofs.steady.SteadyDiskDisk.sync.Goals as goal

pub returns-clause-done : goal.returns-clause-done
returns-clause-done c =
    on_ok c.settle.result _ _ (λ notes x left. ap (λ b. Some b) notes.bytes ∙ only_settled c.args.self.now.disk c.settle.new.self notes x left) c.settle.ensures.ok

pub returns-clause-time : goal.returns-clause-time
returns-clause-time c = passes_may c.args.self.now.disk c.settle.new.self (record { call = Sync; end = Done }) c.settle.ensures.noted
