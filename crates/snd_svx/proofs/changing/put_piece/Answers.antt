use Rattle.std.proofs.Common.{false, ◌≡◌, ◌≤◌, ◌+◌, List, arith, ap, length, subst, sym, ◌∙◌}
use Rattle.snd_chunks.specs.Written.{NewChunk}
use Rattle.snd_fields.specs.declared.field.Order.TheVariants.{Big}
use Rattle.snd_layout.specs.Fit.{fit_refusal}
use Rattle.snd_layout.specs.Params.{Parameters}
use Rattle.snd_layout.specs.Shape.{Shape}
use Rattle.snd_layout.specs.declared.kind.Kind.TheVariants.{Svx}
use Rattle.snd_layout.specs.declared.piece.Piece.{Piece}
use Rattle.snd_wave.specs.Changes.{IsPlan}
use Rattle.snd_chunks.specs.Heads.{IsHeadIn, with_piece}
use Rattle.snd_svx.specs.Layout.{shape_of}
use Rattle.snd_svx.specs.Put.{closing_behind, svx_heads}
use Rattle.snd_wave.specs.Relaid.{AreStanding}
use Rattle.snd_svx.proofs.Putting.{closes, made_params, new_may, new_shape, svx_form, svx_mark, svx_size, svx_split, stands}
use Rattle.snd_wave.proofs.Public.{as_many, can_change, new_head, new_size}
use Rattle.snd_svx.proofs.changing.put_piece.Goals as goal

pub plan_piece-requires-clause-stand : goal.plan_piece-requires-clause-stand
plan_piece-requires-clause-stand g c =
    let p : Parameters = c.requires.head.0 in
    let pieces : List NewChunk = c.requires.head.1 in
    let is : IsHeadIn svx_heads (g.D.Disk.state c.args.disk.now) c.args.layout.now p pieces = c.requires.head.2 in
    let said : c.layout.inside.params ≡ p = ap (λ (s : Shape). s.params) c.layout.view_is ∙ made_params c.args.layout.now p pieces is.laid in
    let stand : AreStanding 40 c.layout.inside.pieces pieces = subst (λ (l : List Piece). AreStanding 40 l pieces) (sym (ap (λ (s : Shape). s.pieces) c.layout.view_is)) (stands c.args.layout.now p pieces is.laid) in
    (pieces, stand)

pub change_head-requires : goal.change_head-requires
change_head-requires g c =
    let p : Parameters = c.requires.head.0 in
    let pieces : List NewChunk = c.requires.head.1 in
    let is : IsHeadIn svx_heads (g.D.Disk.state c.args.disk.now) c.args.layout.now p pieces = c.requires.head.2 in
    let said : c.layout.inside.params ≡ p = ap (λ (s : Shape). s.params) c.layout.view_is ∙ made_params c.args.layout.now p pieces is.laid in
    let stand : AreStanding 40 c.layout.inside.pieces pieces = subst (λ (l : List Piece). AreStanding 40 l pieces) (sym (ap (λ (s : Shape). s.pieces) c.layout.view_is)) (stands c.args.layout.now p pieces is.laid) in
    let piece : NewChunk = record { id = c.args.id.0; body = c.args.body.now } in
    let close = closes c.in_ok-plan.plan.end c.closing_of-closing.result c.in_ok-plan.ensures.most c.closing_of-closing.ensures.order c.closing_of-closing.ensures.bytes c.closing_of-closing.ensures.few c.closing_of-closing.ensures.size_at c.closing_of-closing.ensures.size in
    let plan : IsPlan Big 40 pieces c.args.place piece c.in_ok-plan.plan = c.in_ok-plan.ensures.planned Big pieces stand in
    let heads = svx_split p is.laid.may.params is.laid.may.fits in
    can_change svx_heads p Big 40 svx_mark (svx_form p) svx_size closing_behind heads pieces c.args.place piece c.in_ok-plan.plan plan c.closing_of-closing.result close
    (g.D.Disk.state c.args.disk.now).size is.size (omega (arith, c.in_ok-plan.ensures.most, c.closing_of-closing.ensures.few))

pub layout_with-requires-clause-fits : goal.layout_with-requires-clause-fits
layout_with-requires-clause-fits g c =
    let p : Parameters = c.requires.head.0 in
    let pieces : List NewChunk = c.requires.head.1 in
    let is : IsHeadIn svx_heads (g.D.Disk.state c.args.disk.now) c.args.layout.now p pieces = c.requires.head.2 in
    let said : c.layout.inside.params ≡ p = ap (λ (s : Shape). s.params) c.layout.view_is ∙ made_params c.args.layout.now p pieces is.laid in
    let stand : AreStanding 40 c.layout.inside.pieces pieces = subst (λ (l : List Piece). AreStanding 40 l pieces) (sym (ap (λ (s : Shape). s.pieces) c.layout.view_is)) (stands c.args.layout.now p pieces is.laid) in
    ap (λ (q : Parameters). fit_refusal Svx q) said ∙ is.laid.may.fits

pub layout_with-requires-clause-least : goal.layout_with-requires-clause-least
layout_with-requires-clause-least g c = omega (arith, c.in_ok-plan.ensures.least, c.closing_of-closing.ensures.least, c.len.ensures.value)

pub returns-clause-put : goal.returns-clause-put
returns-clause-put g c = λ p pieces is.
    let said : c.layout.inside.params ≡ p = ap (λ (s : Shape). s.params) c.layout.view_is ∙ made_params c.args.layout.now p pieces is.laid in
    let stand : AreStanding 40 c.layout.inside.pieces pieces = subst (λ (l : List Piece). AreStanding 40 l pieces) (sym (ap (λ (s : Shape). s.pieces) c.layout.view_is)) (stands c.args.layout.now p pieces is.laid) in
    let piece : NewChunk = record { id = c.args.id.0; body = c.args.body.now } in
    let close = closes c.in_ok-plan.plan.end c.closing_of-closing.result c.in_ok-plan.ensures.most c.closing_of-closing.ensures.order c.closing_of-closing.ensures.bytes c.closing_of-closing.ensures.few c.closing_of-closing.ensures.size_at c.closing_of-closing.ensures.size in
    let plan : IsPlan Big 40 pieces c.args.place piece c.in_ok-plan.plan = c.in_ok-plan.ensures.planned Big pieces stand in
    let heads = svx_split p is.laid.may.params is.laid.may.fits in
    let within : c.args.place ≤ length pieces = omega (arith, c.requires.place, ap (λ (s : Shape). length s.pieces) c.layout.view_is, ap length stand.stand, as_many 40 pieces) in
    let starts = new_size svx_heads p Big 40 svx_mark (svx_form p) svx_size closing_behind heads pieces c.args.place piece c.in_ok-plan.plan plan c.closing_of-closing.result close in
    let shape = c.drop-2.view_is ∙ c.layout_with.ensures ∙ ap (λ (q : Parameters). shape_of q (c.in_ok-plan.plan.end + c.len.result) 0 0 20 false c.in_ok-plan.plan.pieces) said
    ∙ new_shape p is.laid.may.params is.laid.may.fits (c.in_ok-plan.plan.end + c.len.result) (with_piece pieces c.args.place piece) c.in_ok-plan.plan.pieces (ap (λ k. c.in_ok-plan.plan.end + k) c.len.ensures.value ∙ starts) plan.laid_anew in
    new_head svx_heads p Big 40 svx_mark (svx_form p) svx_size closing_behind heads pieces c.args.place piece c.in_ok-plan.plan plan c.closing_of-closing.result close
    _ (g.D.Disk.state c.args.disk.now) (g.D.Disk.state c.change_head.new.disk) (new_may c.args.layout.now p pieces is.laid c.args.place piece c.requires.may within c.requires.few) shape is.contents c.in_ok-change_head.ensures.done

pub returns-clause-head : goal.returns-clause-head
returns-clause-head g c =
    let p : Parameters = c.requires.head.0 in
    let pieces : List NewChunk = c.requires.head.1 in
    (p, with_piece pieces c.args.place (record { id = c.args.id.0; body = c.args.body.now }), returns-clause-put g c p pieces c.requires.head.2)
