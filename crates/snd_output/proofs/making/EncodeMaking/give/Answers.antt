use Rattle.std.proofs.Common.{◌≡◌, ◌∙◌, ap, sym, subst, refl, rules, ℕ, true}
use Rattle.snd_layout.specs.Blocks.{is_adpcm}
use Rattle.snd_layout.specs.Params.{Parameters}
use Rattle.snd_layout.specs.Shape.{Shape}
use Rattle.snd_edits.specs.Encoding.{MayEncode, encoded_to}
use Rattle.snd_file.specs.Handle.{known_of}
use Rattle.snd_output.proofs.Encoding.{encoded_is_making}
use Rattle.snd_output.proofs.Finished.{making_params}
use Rattle.snd_output.proofs.Giving.{encoded_longer, may_encode, never_unencoded}
use Rattle.snd_output.proofs.making.EncodeMaking.give.Goals as goal

pub returns-in-Ok-clause-left : goal.returns-in-Ok-clause-left
returns-in-Ok-clause-left g c =
    encoded_longer c.args.from.now (known_of c.args.to.now) c.requires.may (c.args.to.now.roomy refl).blocks (known_of c.encode_frames.new.self) c.in-Ok.ensures.left.2

pub returns-in-Ok-clause-gains : goal.returns-in-Ok-clause-gains
returns-in-Ok-clause-gains g c = λ kind p pieces xs e stands making.
    let ys = c.args.from.now in
    let file = c.args.to.now in
    let blocks = (file.roomy refl).blocks in
    let is : is_adpcm p.codec ≡ true =
    ap (λ (q : Parameters). is_adpcm q.codec) (sym (making_params kind p pieces xs e making)) ∙ ap (λ (s : Shape). is_adpcm s.params.codec) (sym stands.shape) ∙ blocks in
    let may : MayEncode ys e.shape e.write_place =
    subst (λ (n : ℕ). MayEncode ys e.shape n) stands.write_place (subst (λ (s : Shape). MayEncode ys s (known_of file).write_place) stands.shape (may_encode ys (known_of file) c.requires.may blocks)) in
    (encoded_to ys e, c.in-Ok.ensures.stands e stands, encoded_is_making kind p pieces xs ys e making is may)

pub unreachable-requires : goal.unreachable-requires
unreachable-requires g c =
    never_unencoded c.args.from.now (known_of c.args.to.now) c.requires.may (c.args.to.now.roomy refl).blocks _ _ _ c.encode_frames.ensures.left c.in-Err.is (λ step fault. search rules)
