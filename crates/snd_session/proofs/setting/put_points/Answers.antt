use Rattle.std.proofs.Common.{List, ℕ, subst}
use Rattle.std.specs.Prelude.{codes}
use Rattle.snd_meta.specs.Cue.{cue_body, named}
use Rattle.snd_file.specs.Handle.{known_of}
use Rattle.snd_rules.specs.Rules.{draft_refusal, known_grounds, set_cue_rule}
use Rattle.snd_session.specs.Follows.{Follows}
use Rattle.snd_session.proofs.Puts.{follows_drafting, plain_why}
use Rattle.snd_session.proofs.setting.put_points.Goals as goal

pub returns : goal.returns
returns g c =
    let places = c.deref.result.now in
    let set = c.set_points.ensures in
    subst (λ (places : List ℕ). Follows g.D.Disk g.O.Sink (set_cue_rule places) c.say_put.result c.args.file.now c.args.out.now c.set_points.new.file c.say_put.new.out) c.deref.ensures.0
    (follows_drafting g.D.Disk g.O.Sink (codes "cue ") draft_refusal (λ e. cue_body (named 1 places))
    c.say_put.result c.args.file.now c.args.out.now c.set_points.new.file c.say_put.new.out c.set_points.result
    (record { loan = set.loan; left = set.left; sets = set.sets; puts = set.puts; tells = set.tells; time = set.time; faults = set.faults; written = set.written; asked = set.asked; said = c.say_put.ensures })
    (plain_why (known_grounds (known_of c.args.file.now)) c.set_points.result set.fits))
