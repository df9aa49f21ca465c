use Rattle.std.proofs.Common.{◌≡◌, ◌∙◌, ◌+◌, ◌*◌, ◌≤◌, ℕ, false, [], length, take, ap, sym, subst, refl, rules, arith}
use Rattle.std.proofs.lemmas.List.{places}
use Rattle.snd_blocks.specs.Frames.{has_bad}
use Rattle.snd_lines.specs.declared.refusal.Refusal.TheVariants.{BadBlock}
use Rattle.snd_edits.specs.Editing.{Editing, frames_read, moved_by}
use Rattle.snd_file.specs.Handle.{Stands}
use Rattle.snd_pcm.specs.Groups.{first_groups, groups}
use Rattle.snd_rules.specs.Replies.{frames_text, read_text, says}
use Rattle.snd_session.specs.Tapped.{meter_taps}
use Rattle.snd_rules.specs.Rules.{FileEdited, frames_fed, frames_wanted, read_rule}
use Rattle.snd_session.proofs.FedTaps.{frames_in, taps_sent}
use Rattle.snd_session.proofs.Followed.{carried_out}
use Rattle.snd_rules.proofs.Public.{front_groups, bad_fed, bad_read, fed_none, good_fed, good_read}
use Rattle.snd_session.proofs.Puts.{found_out}
use Rattle.snd_session.proofs.carry.read.Goals as goal

pub returns-in_default-clause-follows : goal.returns-in_default-clause-follows
returns-in_default-clause-follows g c =
    let held = rw c.in_default.is at c.in_ok-frames.ensures.held in
    let bad = rw c.in_default.is at c.in_ok-frames.ensures.bad in
    let stands = rw c.in_default.is at c.in_ok-frames.ensures.stands in
    found_out g.D.Disk g.O.Sink (read_rule c.args.wanted) c.refuse.result c.args.file.now c.args.out.now c.read_some.new.file c.refuse.new.out BadBlock
    (record {
      loan = c.read_some.ensures.loan;
      known = held.1;
      stands = stands;
      calm = c.in_ok-frames.ensures.calm;
      tells = search rules;
      time = search rules;
      reads = c.read_some.ensures.reads;
      asked = c.read_some.ensures.asked;
      written = search rules;
    })
    refl held.0 (λ changes. absurd (cc)) (λ e here. bad_read c.args.wanted e (bad refl e here)) (λ none. let e : 1024 * c.args.wanted + 16384 ≡ 0 = none in omega (arith, e)) (record { said = c.refuse.ensures.said; sent = c.refuse.ensures.sent })

pub returns-in_default-clause-taps : goal.returns-in_default-clause-taps
returns-in_default-clause-taps g c =
    let bad = rw c.in_default.is at c.in_ok-frames.ensures.bad in
    taps_sent _ _ _ c.refuse.result _ _ _ [] c.refuse.ensures.sent (λ e here. sym (bad_fed c.args.wanted e (bad refl e here))) (fed_none (meter_taps (λ b. (goal.Tap-dyn g b).meter b.1) c.args.meters.now))

pub returns-clause-follows : goal.returns-clause-follows
returns-clause-follows g c =
    let channels = c.from-channels.result in
    let k = c.in-Some.frames in
    let samples = c.read_some.new.samples.items in
    let held = rw c.in-Some.is at c.in_ok-frames.ensures.held in
    let count = rw c.in-Some.is at c.in_ok-frames.ensures.count in
    let read = rw c.in-Some.is at c.in_ok-frames.ensures.read in
    let stands = rw c.in-Some.is at c.in_ok-frames.ensures.stands in
    let same : channels ≡ c.args.file.now.layout.params.channels = search rules in
    let shown : (e : Editing) → Stands g.D.Disk.state c.args.file.now e → first_groups channels k (take (k * channels) c.deref.result.now) ≡ frames_wanted c.args.wanted e =
    λ e here. ap (λ l. first_groups channels k (take (k * channels) l)) c.deref.ensures.value
    ∙ front_groups channels k samples
    ∙ ap (λ m. first_groups m k samples) same
    ∙ (read e here).frames
    ∙ ap (frames_read e) (count e here) in
    let good : (e : Editing) → Stands g.D.Disk.state c.args.file.now e → has_bad (frames_wanted c.args.wanted e) ≡ false =
    λ e here. ap (λ (n : ℕ). has_bad (frames_read e n)) (sym (count e here)) ∙ (read e here).good in
    carried_out g.D.Disk g.O.Sink (read_rule c.args.wanted) c.say_frames.result c.args.file.now c.args.out.now c.read_some.new.file c.say_frames.new.out
    (read_text channels k (take (k * channels) c.deref.result.now))
    c.read_some.ensures.loan refl c.say_frames.ensures.sent c.say_frames.ensures.said
    (λ e here. ap (λ (x : FileEdited). x.answer) (good_read c.args.wanted e (good e here)) ∙ ap (λ fs. says (frames_text fs)) (sym (shown e here)))
    (λ none. absurd (let e : 1024 * c.args.wanted + 16384 ≡ 0 = none in omega (arith, e)))
    (λ e here. subst (λ (x : FileEdited). Stands g.D.Disk.state c.read_some.new.file x.editing) (sym (good_read c.args.wanted e (good e here)))
    (subst (λ (n : ℕ). Stands g.D.Disk.state c.read_some.new.file (moved_by n e)) (count e here) (stands e here)))
    held c.in_ok-frames.ensures.calm (search rules) (search rules) (λ same. c.in_ok-frames.ensures.reads) (λ changes. absurd (cc)) (λ changes. absurd (cc)) (λ changes. absurd (cc)) c.in_ok-frames.ensures.asked (search rules)

pub returns-clause-taps : goal.returns-clause-taps
returns-clause-taps g c =
    let channels = c.from-channels.result in
    let k = c.in-Some.frames in
    let samples = c.read_some.new.samples.items in
    let shown = take (k * channels) c.deref.result.now in
    let count = rw c.in-Some.is at c.in_ok-frames.ensures.count in
    let read = rw c.in-Some.is at c.in_ok-frames.ensures.read in
    let same : channels ≡ c.args.file.now.layout.params.channels = search rules in
    let some : 1 ≤ channels = search (rules, arith) in
    let whole : length shown ≡ k * channels = search (rules, places) in
    let good : (e : Editing) → Stands g.D.Disk.state c.args.file.now e → frames_wanted c.args.wanted e ≡ frames_fed c.args.wanted e =
    λ e here. sym (good_fed c.args.wanted e (ap (λ (n : ℕ). has_bad (frames_read e n)) (sym (count e here)) ∙ (read e here).good)) in
    taps_sent _ _ _ c.say_frames.result _ _ _ (groups channels shown) c.say_frames.ensures.sent
    (λ e here. frames_in channels k shown some whole
    ∙ ap (λ l. first_groups channels k (take (k * channels) l)) c.deref.ensures.value
    ∙ front_groups channels k samples
    ∙ ap (λ m. first_groups m k samples) same
    ∙ (read e here).frames
    ∙ ap (frames_read e) (count e here)
    ∙ good e here)
    c.feed.ensures
