use Rattle.std.proofs.Common.{◌≡◌, Err, ap, refl, sym}
use Rattle.snd_meters.specs.Gauges.{stop_answer}
use Rattle.snd_rules.specs.Rules.{untap_rule, why_not}
use Rattle.snd_session.specs.Tapped.{meter_taps}
use Rattle.snd_session.proofs.Followed.{refused_on}
use Rattle.snd_session.proofs.tapping.untap.Goals as goal

pub returns-in-Err-clause-follows : goal.returns-in-Err-clause-follows
returns-in-Err-clause-follows g c =
    let taps = meter_taps (λ b. (goal.Tap-dyn g b).meter b.1) c.args.meters.now in
    let why : stop_answer c.args.kind taps ≡ Err c.in-Err.refusal = sym c.in-Err.ensures.answer in
    refused_on g.D.Disk g.O.Sink (untap_rule taps c.args.kind) c.refuse.result c.args._file.now c.args.out.now c.args._file.now c.refuse.new.out c.in-Err.refusal
    refl (ap why_not why) c.refuse.ensures.sent c.refuse.ensures.said refl (λ e here. here) refl
