use Rattle.std.proofs.Common.{◌≡◌, ◌∙◌, ap, sym, refl, arith, rules}
use Rattle.snd_inputs.proofs.Public.{all_ahead, asks_to_copy}
use Rattle.snd_layout.specs.Shape.{Shape}
use Rattle.snd_file.specs.Handle.{known_of}
use Rattle.snd_output.proofs.Public.{changed_as}
use Rattle.snd_output.specs.Appended.{left_in}
use Rattle.snd_concat.proofs.Gains.{gains_file, made_longer, made_unless, may_append}
use Rattle.snd_concat.specs.Appending.{Follows}
use Rattle.snd_concat.proofs.append.append_file.Goals as goal

pub append-requires-clause-may : goal.append-requires-clause-may
append-requires-clause-may g c =
    let follows : Follows (known_of c.args.from.now).shape (known_of c.args.to.now) = search rules in
    may_append (known_of c.args.from.now) (known_of c.args.to.now) c.requires.unread c.requires.at_end follows

pub returns-clause-left : goal.returns-clause-left
returns-clause-left g c = made_longer (left_in (known_of c.args.from.now)) (known_of c.args.to.now) (known_of c.append.new.to) c.requires.at_end c.in_ok-append.ensures.left.1

pub returns-clause-appended : goal.returns-clause-appended
returns-clause-appended g c = λ e stands first follows.
    let counted = c.in_ok-append.ensures.left.1.place in
    let same : c.args.from.now.layout.frames ≡ e.shape.frames = ap (λ (h : Shape). h.frames) stands.shape in
    (refl, omega (arith, counted, same, c.requires.unread.first), gains_file g.E.Disk.state g.D.Disk.state c.args.from.now c.args.to.now c.append.new.to e stands first c.in_ok-append.ensures.lengthens)

pub returns-in_err-append-clause-left : goal.returns-in_err-append-clause-left
returns-in_err-append-clause-left g c =
    made_unless (left_in (known_of c.args.from.now)) (known_of c.args.from.now) (known_of c.append.new.from) (known_of c.args.to.now) (known_of c.append.new.to) _ _ _ _ c.in_err-append.field-0.0 c.from_residual.result (search rules) c.in_err-append.ensures.left c.in_err-append.ensures.faults

pub returns-in_err-append-clause-changed : goal.returns-in_err-append-clause-changed
returns-in_err-append-clause-changed g c =
    changed_as _ _ c.in_err-append.field-0.0 c.from_residual.result (search rules) (λ bad e stands. all_ahead e (sym stands.place ∙ c.requires.unread.first) (bad e stands)) c.in_err-append.ensures.changed

-- the frames of a file that is unread are asked for
pub returns-in_err-append-clause-asked : goal.returns-in_err-append-clause-asked
returns-in_err-append-clause-asked g c =
    asks_to_copy (known_of c.args.from.now) _ _ _ c.requires.unread c.requires.places c.append.ensures.asked

pub returns-clause-asked : goal.returns-clause-asked
returns-clause-asked g c =
    asks_to_copy (known_of c.args.from.now) _ _ _ c.requires.unread c.requires.places c.append.ensures.asked
