use Rattle.std.proofs.Common.{◌≡◌, true, ap, rules, ⊎_elim}
use Rattle.snd_rules.specs.Desk.{reading}
use Rattle.snd_session.specs.Tapped.{meter_taps}
use Rattle.snd_session.proofs.FedTaps.{changing_is_quiet, is_quiet, work_fed}
use Rattle.snd_session.proofs.step.step_read.Goals as goal

pub returns-in-Ask-clause-taps : goal.returns-in-Ask-clause-taps
returns-in-Ask-clause-taps g c = work_fed g.D.Disk.state reading c.args.work c.ask.result c.args.file.now (meter_taps (λ b. (goal.Tap-dyn g b).meter b.1) c.args.meters.now) (ap (is_quiet reading) c.in-Ask.is)

pub returns-in-Set-clause-taps : goal.returns-in-Set-clause-taps
returns-in-Set-clause-taps g c = work_fed g.D.Disk.state reading c.args.work c.refuse_on.result c.args.file.now (meter_taps (λ b. (goal.Tap-dyn g b).meter b.1) c.args.meters.now) (changing_is_quiet c.args.work c.in-Set.is)

pub returns-in-Open-clause-taps : goal.returns-in-Open-clause-taps
returns-in-Open-clause-taps g c = work_fed g.D.Disk.state reading c.args.work c.refuse_on-in-Open.result c.args.file.now (meter_taps (λ b. (goal.Tap-dyn g b).meter b.1) c.args.meters.now)
    (⊎_elim (λ is. ap (is_quiet reading) is.1) (λ more. ⊎_elim (λ is. ap (is_quiet reading) is.1) (λ is. ap (is_quiet reading) is.5) more) c.in-Open.is)

pub returns-in-SeekRead-clause-taps : goal.returns-in-SeekRead-clause-taps
returns-in-SeekRead-clause-taps g c =
    let quiet : is_quiet reading c.args.work ≡ true = search rules in
    work_fed g.D.Disk.state reading c.args.work c.seek_read.result c.args.file.now (meter_taps (λ b. (goal.Tap-dyn g b).meter b.1) c.args.meters.now) quiet
