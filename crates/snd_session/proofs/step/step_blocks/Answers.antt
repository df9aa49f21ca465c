use Rattle.std.proofs.Common.{ap, ⊎_elim}
use Rattle.snd_rules.specs.Desk.{encoding}
use Rattle.snd_session.specs.Tapped.{meter_taps}
use Rattle.snd_session.proofs.FedTaps.{is_quiet, work_fed}
use Rattle.snd_session.proofs.step.step_blocks.Goals as goal

pub returns-in-Tell-clause-taps : goal.returns-in-Tell-clause-taps
returns-in-Tell-clause-taps g c = work_fed g.D.Disk.state encoding c.args.work c.tell_given.result c.args.file.now (meter_taps (λ b. (goal.Tap-dyn g b).meter b.1) c.args.meters.now) (ap (is_quiet encoding) c.in-Tell.is)

pub returns-in-Write-clause-taps : goal.returns-in-Write-clause-taps
returns-in-Write-clause-taps g c = work_fed g.D.Disk.state encoding c.args.work c.encode.result c.args.file.now (meter_taps (λ b. (goal.Tap-dyn g b).meter b.1) c.args.meters.now) (ap (is_quiet encoding) c.in-Write.is)

pub returns-in-BringUp-clause-taps : goal.returns-in-BringUp-clause-taps
returns-in-BringUp-clause-taps g c = work_fed g.D.Disk.state encoding c.args.work c.bring_up.result c.args.file.now (meter_taps (λ b. (goal.Tap-dyn g b).meter b.1) c.args.meters.now) (ap (is_quiet encoding) c.in-BringUp.is)

pub returns-in-Auto-clause-taps : goal.returns-in-Auto-clause-taps
returns-in-Auto-clause-taps g c = work_fed g.D.Disk.state encoding c.args.work c.set_auto.result c.args.file.now (meter_taps (λ b. (goal.Tap-dyn g b).meter b.1) c.args.meters.now) (ap (is_quiet encoding) c.in-Auto.is)

pub returns-in-Set-clause-taps : goal.returns-in-Set-clause-taps
returns-in-Set-clause-taps g c = work_fed g.D.Disk.state encoding c.args.work c.set.result c.args.file.now (meter_taps (λ b. (goal.Tap-dyn g b).meter b.1) c.args.meters.now) (ap (is_quiet encoding) c.in-Set.is)

pub returns-in-Ask-clause-taps : goal.returns-in-Ask-clause-taps
returns-in-Ask-clause-taps g c = work_fed g.D.Disk.state encoding c.args.work c.ask.result c.args.file.now (meter_taps (λ b. (goal.Tap-dyn g b).meter b.1) c.args.meters.now) (ap (is_quiet encoding) c.in-Ask.is)

pub returns-in-SeekWrite-clause-taps : goal.returns-in-SeekWrite-clause-taps
returns-in-SeekWrite-clause-taps g c = work_fed g.D.Disk.state encoding c.args.work c.refuse_on.result c.args.file.now (meter_taps (λ b. (goal.Tap-dyn g b).meter b.1) c.args.meters.now) (⊎_elim (λ is. ap (is_quiet encoding) is.1) (λ is. ap (is_quiet encoding) is.1) c.in-SeekWrite.is)

pub returns-in-Truncate-clause-taps : goal.returns-in-Truncate-clause-taps
returns-in-Truncate-clause-taps g c = work_fed g.D.Disk.state encoding c.args.work c.refuse_on-in-Truncate.result c.args.file.now (meter_taps (λ b. (goal.Tap-dyn g b).meter b.1) c.args.meters.now) (⊎_elim (λ is. ap (is_quiet encoding) is.1) (λ is. ap (is_quiet encoding) is) c.in-Truncate.is)

pub returns-in-SeekRead-clause-taps : goal.returns-in-SeekRead-clause-taps
returns-in-SeekRead-clause-taps g c = work_fed g.D.Disk.state encoding c.args.work c.refuse_on-in-SeekRead.result c.args.file.now (meter_taps (λ b. (goal.Tap-dyn g b).meter b.1) c.args.meters.now) (⊎_elim (λ is. ap (is_quiet encoding) is.1) (λ more. ⊎_elim (λ is. ap (is_quiet encoding) is.1) (λ is. ap (is_quiet encoding) is) more) c.in-SeekRead.is)

pub returns-in-Open-clause-taps : goal.returns-in-Open-clause-taps
returns-in-Open-clause-taps g c = work_fed g.D.Disk.state encoding c.args.work c.refuse_on-in-Open.result c.args.file.now (meter_taps (λ b. (goal.Tap-dyn g b).meter b.1) c.args.meters.now)
    (⊎_elim (λ is. ap (is_quiet encoding) is.1) (λ more. ⊎_elim (λ is. ap (is_quiet encoding) is.1) (λ is. ap (is_quiet encoding) is.5) more) c.in-Open.is)
