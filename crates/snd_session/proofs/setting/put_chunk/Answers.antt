use Rattle.std.proofs.Common.{List, ℕ, Ok, Err, ◌∙◌, subst}
use Rattle.snd_rules.specs.Rules.{add_rule}
use Rattle.snd_session.specs.Follows.{Follows}
use Rattle.snd_session.proofs.Puts.{follows_adding}
use Rattle.snd_session.proofs.setting.put_chunk.Goals as goal

pub returns-in-Ok-add_piece : goal.returns-in-Ok-add_piece
returns-in-Ok-add_piece g c =
    let put = c.in-Ok-add_piece.ensures in
    subst (λ (body : List ℕ). Follows g.D.Disk g.O.Sink (add_rule c.args.id.0 body) c.say_put.result c.args.file.now c.args.out.now c.add_piece.new.self c.say_put.new.out)
    (c.deref.ensures.value ∙ c.in-Ok.ensures)
    (follows_adding g.D.Disk g.O.Sink c.args.id.0 c.deref.result.now c.say_put.result c.args.file.now c.args.out.now c.add_piece.new.self c.say_put.new.out {T = Unit {0}} (Ok tt)
    (record { working = c.requires; loan = put.loan; left = put.left; stands = put.stands; unchanged = put.unchanged; tells = put.tells; time = put.time; faults = put.faults; written = put.written; asked = put.asked; said = c.say_put.ensures }))

pub returns : goal.returns
returns g c =
    let put = c.in-Err.ensures in
    subst (λ (body : List ℕ). Follows g.D.Disk g.O.Sink (add_rule c.args.id.0 body) c.say_put-in-Err.result c.args.file.now c.args.out.now c.add_piece.new.self c.say_put-in-Err.new.out)
    (c.deref.ensures.value ∙ c.in-Ok.ensures)
    (follows_adding g.D.Disk g.O.Sink c.args.id.0 c.deref.result.now c.say_put-in-Err.result c.args.file.now c.args.out.now c.add_piece.new.self c.say_put-in-Err.new.out {T = Unit {0}} (Err c.in-Err.error)
    (record { working = c.requires; loan = put.loan; left = put.left; stands = put.stands; unchanged = put.unchanged; tells = put.tells; time = put.time; faults = put.faults; written = put.written; asked = put.asked; said = c.say_put-in-Err.ensures }))
