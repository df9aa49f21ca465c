use Rattle.std.proofs.Common.{◌≡◌, ◌∙◌, ap, sym, subst, refl, rules, ℕ, false}
use Rattle.snd_layout.specs.Blocks.{is_adpcm}
use Rattle.snd_layout.specs.Params.{Parameters}
use Rattle.snd_layout.specs.Shape.{Shape}
use Rattle.snd_edits.specs.Edits.{written_to}
use Rattle.snd_file.specs.Handle.{known_of}
use Rattle.snd_edits.specs.WriteCalls.{MayWrite}
use Rattle.snd_edits.proofs.Public.{not_adpcm}
use Rattle.snd_output.proofs.Finished.{making_params}
use Rattle.snd_output.proofs.Giving.{may_write, never_unwritten, written_longer}
use Rattle.snd_output.proofs.Lengthened.{written_is_making}
use Rattle.snd_output.proofs.making.WriteMaking.give.Goals as goal

pub returns-in-Ok-clause-left : goal.returns-in-Ok-clause-left
returns-in-Ok-clause-left g c = written_longer c.args.from.now (known_of c.args.to.now) c.requires.may (known_of c.write_frames.new.self) c.in-Ok.ensures.left.2

pub returns-in-Ok-clause-gains : goal.returns-in-Ok-clause-gains
returns-in-Ok-clause-gains g c = λ kind p pieces xs e stands making.
    let ys = c.args.from.now in
    let file = c.args.to.now in
    let plain : is_adpcm p.codec ≡ false =
    ap (λ (q : Parameters). is_adpcm q.codec) (sym (making_params kind p pieces xs e making)) ∙ ap (λ (s : Shape). is_adpcm s.params.codec) (sym stands.shape) ∙ not_adpcm (known_of file).shape.params.codec (file.linear refl) in
    let may : MayWrite ys e.shape e.write_place =
    subst (λ (n : ℕ). MayWrite ys e.shape n) stands.write_place (subst (λ (s : Shape). MayWrite ys s (known_of file).write_place) stands.shape (may_write ys (known_of file) c.requires.may)) in
    (written_to ys e, c.in-Ok.ensures.stands e stands, written_is_making kind p pieces xs ys e making plain may)

pub unreachable-requires : goal.unreachable-requires
unreachable-requires g c = never_unwritten c.args.from.now (known_of c.args.to.now) c.requires.may _ _ _ c.write_frames.ensures.left c.in-Err.is (λ step fault. search rules)
