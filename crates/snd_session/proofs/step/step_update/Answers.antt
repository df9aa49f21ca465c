use Rattle.std.proofs.Common.{◌≡◌, ℕ, List, ap, refl}
use Rattle.snd_meters.specs.Gauge.{Gauge}
use Rattle.snd_rules.specs.Desk.{updating, writing}
use Rattle.snd_rules.specs.Work.{work_rule}
use Rattle.snd_rules.specs.declared.work.Setting.{Setting}
use Rattle.snd_rules.specs.declared.work.Work.{Work}
use Rattle.snd_rules.specs.declared.work.Work.TheVariants.{Open, Update, Make, Close, Tell, SeekRead, SeekWrite, SeekBoth, Read, Write, Truncate, Trim, BringUp, Auto, Promote, Set, Ask, Tap, Untap}
use Rattle.snd_session.specs.Tapped.{meter_taps}
use Rattle.snd_session.proofs.FedTaps.{is_quiet, work_fed}
use Rattle.snd_session.proofs.step.step_update.Goals as goal

-- what reads nothing is done as on a file that was made
as_written : (taps : List Gauge) (work : Work) → ((setting : Setting) → work ≡ Set setting → ⊥) → ((n : ℕ) → work ≡ SeekRead n → ⊥) → ((n : ℕ) → work ≡ SeekBoth n → ⊥) → ((n : ℕ) → work ≡ Read n → ⊥) → (work ≡ Promote → ⊥) → work_rule updating taps work ≡ work_rule writing taps work
as_written taps (SeekRead n) head seek both read promote = absurd (seek n refl)
as_written taps (SeekBoth n) head seek both read promote = absurd (both n refl)
as_written taps (Read n) head seek both read promote = absurd (read n refl)
as_written taps (Open name) head seek both read promote = refl
as_written taps (Update name) head seek both read promote = refl
as_written taps (Make kind codec channels rate name) head seek both read promote = refl
as_written taps Close head seek both read promote = refl
as_written taps Tell head seek both read promote = refl
as_written taps (SeekWrite n) head seek both read promote = refl
as_written taps (Write xs) head seek both read promote = refl
as_written taps (Truncate n) head seek both read promote = refl
as_written taps Trim head seek both read promote = refl
as_written taps BringUp head seek both read promote = refl
as_written taps (Auto on) head seek both read promote = refl
as_written taps (Set setting) head seek both read promote = absurd (head setting refl)
as_written taps Promote head seek both read promote = absurd (promote refl)
as_written taps (Ask asking) head seek both read promote = refl
as_written taps (Tap kind) head seek both read promote = refl
as_written taps (Untap kind) head seek both read promote = refl

pub returns-in_default-clause-follows : goal.returns-in_default-clause-follows
returns-in_default-clause-follows g c =
    rw (as_written _ c.args.work c.in_default.not-Set c.in_default.not-SeekRead c.in_default.not-SeekBoth c.in_default.not-Read c.in_default.not-Promote) c.step_write.ensures.follows

pub returns-in_default-clause-taps : goal.returns-in_default-clause-taps
returns-in_default-clause-taps g c =
    rw (as_written _ c.args.work c.in_default.not-Set c.in_default.not-SeekRead c.in_default.not-SeekBoth c.in_default.not-Read c.in_default.not-Promote) c.step_write.ensures.taps

pub returns-in-Promote-clause-taps : goal.returns-in-Promote-clause-taps
returns-in-Promote-clause-taps g c = work_fed g.D.Disk.state updating c.args.work c.promote.result c.args.file.now (meter_taps (λ b. (goal.Tap-dyn g b).meter b.1) c.args.meters.now) (ap (is_quiet updating) c.in-Promote.is)
