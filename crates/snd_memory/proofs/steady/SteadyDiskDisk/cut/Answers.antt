use Rattle.snd_memory.specs.declared.call.Call.TheVariants.{Cut}
use Rattle.snd_memory.specs.declared.call.End.TheVariants.{Done}
use Rattle.snd_memory.proofs.AfterCall.{mixes_cut, all_cut, passes_may, on_ok}
use Rattle.snd_memory.proofs.steady.SteadyDiskDisk.cut.Goals as goal

pub returns-clause-images : goal.returns-clause-images
returns-clause-images c = mixes_cut c.args.self.now.disk c.shorten.new.self c.args.len Done c.shorten.ensures.noted

pub returns-clause-all_images : goal.returns-clause-all_images
returns-clause-all_images c = on_ok c.shorten.result _ _ (all_cut c.args.self.now.disk c.shorten.new.self c.args.len Done) c.shorten.ensures.ok

pub returns-clause-time : goal.returns-clause-time
returns-clause-time c = passes_may c.args.self.now.disk c.shorten.new.self (record { call = Cut c.args.len; end = Done }) c.shorten.ensures.noted
