use Rattle.std.proofs.Common.{ap}
use Rattle.snd_rules.specs.Desk.{writing}
use Rattle.snd_session.specs.Tapped.{meter_taps}
use Rattle.snd_session.proofs.FedTaps.{is_quiet, work_fed}
use Rattle.snd_session.proofs.step.step_made.Goals as goal

pub returns-in-Set-clause-taps : goal.returns-in-Set-clause-taps
returns-in-Set-clause-taps g c = work_fed g.D.Disk.state writing c.args.work c.set.result c.args.file.now (meter_taps (λ b. (goal.Tap-dyn g b).meter b.1) c.args.meters.now) (ap (is_quiet writing) c.in-Set.is)
