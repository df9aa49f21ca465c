use Rattle.std.proofs.Common.{Option, None, ℕ, refl, sym, subst}
use Rattle.std.specs.Prelude.{codes}
use Rattle.snd_file.specs.Handle.{known_of}
use Rattle.snd_edits.specs.TagDrafts.{bext_timed}
use Rattle.snd_rules.specs.Rules.{draft_refusal, known_grounds, set_time_rule}
use Rattle.snd_session.specs.Follows.{Follows}
use Rattle.snd_lines.specs.declared.refusal.Refusal.TheVariants.{BadCommand}
use Rattle.snd_session.proofs.Followed.{refused_on}
use Rattle.snd_session.proofs.Puts.{follows_drafting, plain_why}
use Rattle.snd_session.proofs.setting.put_time.Goals as goal

pub returns-in-None : goal.returns-in-None
returns-in-None g c =
    subst (λ (time : Option ℕ). Follows g.D.Disk g.O.Sink (set_time_rule time) c.refuse.result c.args.file.now c.args.out.now c.args.file.now c.refuse.new.out) (sym c.in-None.is)
    (refused_on g.D.Disk g.O.Sink (set_time_rule None) c.refuse.result c.args.file.now c.args.out.now c.args.file.now c.refuse.new.out BadCommand
    refl refl c.refuse.ensures.sent c.refuse.ensures.said refl (λ e here. here) refl)

pub returns-in-Some : goal.returns-in-Some
returns-in-Some g c =
    let set = c.set_time.ensures in
    subst (λ (time : Option ℕ). Follows g.D.Disk g.O.Sink (set_time_rule time) c.say_put.result c.args.file.now c.args.out.now c.set_time.new.file c.say_put.new.out) (sym c.in-Some.is)
    (follows_drafting g.D.Disk g.O.Sink (codes "bext") draft_refusal (bext_timed c.in-Some.time)
    c.say_put.result c.args.file.now c.args.out.now c.set_time.new.file c.say_put.new.out c.set_time.result
    (record { loan = set.loan; left = set.left; sets = set.sets; puts = set.puts; tells = set.tells; time = set.time; faults = set.faults; written = set.written; asked = set.asked; said = c.say_put.ensures })
    (plain_why (known_grounds (known_of c.args.file.now)) c.set_time.result set.fits))
