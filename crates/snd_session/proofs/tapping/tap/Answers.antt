use Rattle.std.proofs.Common.{◌≡◌, ◌∙◌, Err, [], ap, of_z, refl, rules, sym, to_z, w32}
use Rattle.snd_meters.specs.Gauges.{after_start, start_answer}
use Rattle.snd_file.specs.Handle.{known_of}
use Rattle.snd_pcm.specs.Pcm.{high, low}
use Rattle.snd_rules.specs.Rules.{tap_range, tap_rule, why_not}
use Rattle.snd_session.specs.Tapped.{meter_taps}
use Rattle.snd_session.proofs.FedTaps.{taps_sent}
use Rattle.snd_session.proofs.Followed.{refused_on}
use Rattle.snd_session.proofs.tapping.tap.Goals as goal

pub returns-in-Ok-clause-taps : goal.returns-in-Ok-clause-taps
returns-in-Ok-clause-taps g c =
    let taps = meter_taps (λ b. (goal.Tap-dyn g b).meter b.1) c.args.meters.now in
    let range = tap_range (known_of c.args.file.now).shape.params.codec in
    let is : c.tap_range-range.result ≡ range = search rules in
    let least : to_z w32 (of_z w32 c.low.result) ≡ c.low.result = search rules in
    let most : to_z w32 (of_z w32 c.high.result) ≡ c.high.result = search rules in
    let after : meter_taps (λ b. (goal.Tap-dyn g b).meter b.1) c.start.new.self ≡ after_start c.args.kind (low range) (high range) taps =
    c.in-Ok.ensures.after ∙ ap (λ l. after_start c.args.kind l (to_z w32 (of_z w32 c.high.result)) taps) (least ∙ c.low.ensures ∙ ap low is)
    ∙ ap (λ h. after_start c.args.kind (low range) h taps) (most ∙ c.high.ensures ∙ ap high is) in
    taps_sent (λ frames taps. after_start c.args.kind (low range) (high range) taps) _ taps c.say_text.result _ _ _ [] c.say_text.ensures.sent (λ e here. refl) after

pub returns-in-Err-clause-taps : goal.returns-in-Err-clause-taps
returns-in-Err-clause-taps g c =
    let taps = meter_taps (λ b. (goal.Tap-dyn g b).meter b.1) c.args.meters.now in
    let range = tap_range (known_of c.args.file.now).shape.params.codec in
    let is : c.tap_range-range.result ≡ range = search rules in
    let least : to_z w32 (of_z w32 c.low.result) ≡ c.low.result = search rules in
    let most : to_z w32 (of_z w32 c.high.result) ≡ c.high.result = search rules in
    let after : meter_taps (λ b. (goal.Tap-dyn g b).meter b.1) c.start.new.self ≡ after_start c.args.kind (low range) (high range) taps =
    c.in-Err.ensures.after ∙ ap (λ l. after_start c.args.kind l (to_z w32 (of_z w32 c.high.result)) taps) (least ∙ c.low.ensures ∙ ap low is)
    ∙ ap (λ h. after_start c.args.kind (low range) h taps) (most ∙ c.high.ensures ∙ ap high is) in
    taps_sent (λ frames taps. after_start c.args.kind (low range) (high range) taps) _ taps c.refuse.result _ _ _ [] c.refuse.ensures.sent (λ e here. refl) after

pub returns-in-Err-clause-follows : goal.returns-in-Err-clause-follows
returns-in-Err-clause-follows g c =
    let taps = meter_taps (λ b. (goal.Tap-dyn g b).meter b.1) c.args.meters.now in
    let why : start_answer c.args.kind taps ≡ Err c.in-Err.refusal = sym c.in-Err.ensures.answer in
    refused_on g.D.Disk g.O.Sink (tap_rule taps c.args.kind) c.refuse.result c.args.file.now c.args.out.now c.args.file.now c.refuse.new.out c.in-Err.refusal
    refl (ap why_not why) c.refuse.ensures.sent c.refuse.ensures.said refl (λ e here. here) refl
