use Rattle.std.proofs.Common.{◌≡◌, ◌∙◌, ap, sym, true, false}
use Rattle.std.proofs.lemmas.Result.{on_ok_weaker}
use Rattle.snd_carry.specs.Carried.{carried}
use Rattle.snd_layout.specs.Shape.{Shape}
use Rattle.snd_inputs.proofs.Public.{asks_less}
use Rattle.snd_file.specs.Handle.{known_of}
use Rattle.snd_output.specs.Made.{made_with}
use Rattle.snd_convert.specs.Convert.{carries}
use Rattle.snd_convert.specs.Planning.{planned_by}
use Rattle.snd_convert.proofs.Asking.{bodies_from}
use Rattle.snd_convert.proofs.Filling.{filled, filled_none, into_meta, making_with, making_without, new_shape_is, on_both}
use Rattle.snd_convert.proofs.chunks.carry.Goals as goal

pub returns-then-not-go-clause-known : goal.returns-then-not-go-clause-known
returns-then-not-go-clause-known g c =
    let h : Shape = (known_of c.args.from.now).shape in
    let none : carries c.args.plan.now.kind h.kind ≡ false = ap (carries c.args.plan.now.kind) (sym c.kind.ensures) ∙ sym c.carries-go.ensures ∙ c.if-not-go.true in
    filled_none (planned_by c.args.plan.now) h none (known_of c.args.to.now) c.requires.begun

pub returns-then-not-go-clause-carried : goal.returns-then-not-go-clause-carried
returns-then-not-go-clause-carried g c = λ r e stands made begun.
    let h : Shape = (known_of c.args.from.now).shape in
    let none : carries c.args.plan.now.kind h.kind ≡ false = ap (carries c.args.plan.now.kind) (sym c.kind.ensures) ∙ sym c.carries-go.ensures ∙ c.if-not-go.true in
    (e, begun, making_without (planned_by c.args.plan.now) h none r e c.requires.good made stands.shape)

pub carry_pieces-requires-clause-empty : goal.carry_pieces-requires-clause-empty
carry_pieces-requires-clause-empty g c = new_shape_is (planned_by c.args.plan.now) (known_of c.args.to.now) c.requires.begun

pub carry_pieces-requires-clause-meta : goal.carry_pieces-requires-clause-meta
carry_pieces-requires-clause-meta g c =
    let h : Shape = (known_of c.args.from.now).shape in
    let both : carries c.args.plan.now.kind h.kind ≡ true = ap (carries c.args.plan.now.kind) (sym c.kind.ensures) ∙ sym c.carries-go.ensures ∙ c.if-not-go.false in
    into_meta (planned_by c.args.plan.now) h both (known_of c.args.to.now) c.requires.begun

pub returns-clause-known : goal.returns-clause-known
returns-clause-known g c =
    let h : Shape = (known_of c.args.from.now).shape in
    let both : carries c.args.plan.now.kind h.kind ≡ true = ap (carries c.args.plan.now.kind) (sym c.kind.ensures) ∙ sym c.carries-go.ensures ∙ c.if-not-go.false in
    on_ok_weaker c.carry_pieces.result (λ known. known ∙ filled (planned_by c.args.plan.now) h both (known_of c.args.to.now) c.requires.begun) c.carry_pieces.ensures.known

pub returns-clause-carried : goal.returns-clause-carried
returns-clause-carried g c =
    let plan = planned_by c.args.plan.now in
    let h : Shape = (known_of c.args.from.now).shape in
    let both : carries plan.kind h.kind ≡ true = ap (carries plan.kind) (sym c.kind.ensures) ∙ sym c.carries-go.ensures ∙ c.if-not-go.false in
    on_both c.carry_pieces.result _ _ _
    (λ put chunks r e stands made begun.
    (made_with plan.kind plan.params (carried r.bytes r.shape.pieces), put r e plan.kind plan.params stands made begun, making_with plan h both r e c.requires.good made stands.shape (chunks r stands)))
    c.carry_pieces.ensures.carried c.carry_pieces.ensures.chunks

pub returns-clause-asked : goal.returns-clause-asked
returns-clause-asked g c =
    let h : Shape = (known_of c.args.from.now).shape in
    let both : carries c.args.plan.now.kind h.kind ≡ true = ap (carries c.args.plan.now.kind) (sym c.kind.ensures) ∙ sym c.carries-go.ensures ∙ c.if-not-go.false in
    asks_less _ _ _ _ (bodies_from (planned_by c.args.plan.now) h both) c.carry_pieces.ensures.asked
