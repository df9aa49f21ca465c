use Rattle.std.proofs.Common.{false, ◌≡◌, ◌≤◌, ◌+◌, List, arith, ap, length, subst, sym, ◌∙◌}
use Rattle.snd_chunks.specs.Written.{NewChunk}
use Rattle.snd_fields.specs.declared.field.Order.TheVariants.{Little}
use Rattle.snd_layout.specs.Fit.{fit_refusal}
use Rattle.snd_layout.specs.Params.{Parameters}
use Rattle.snd_layout.specs.Shape.{Shape}
use Rattle.snd_layout.specs.declared.kind.Kind.TheVariants.{Rf64}
use Rattle.snd_layout.specs.declared.piece.Piece.{Piece}
use Rattle.snd_wave.specs.Changes.{IsPlan}
use Rattle.snd_chunks.specs.Heads.{IsHeadIn, with_piece}
use Rattle.snd_rf64.specs.Put.{first_place, rf64_heads}
use Rattle.snd_rf64.specs.Layout.{shape_at}
use Rattle.snd_wave.specs.Relaid.{AreStanding}
use Rattle.snd_rf64.proofs.Putting.{closes, data_few, made_params, new_may, new_shape, rf64_closing, rf64_form, rf64_mark, rf64_size, rf64_split, stands}
use Rattle.snd_wave.proofs.Public.{as_many, can_change, new_head, new_size}
use Rattle.snd_rf64.proofs.changing.put_piece.Goals as goal

pub first_place-requires : goal.first_place-requires
first_place-requires g c =
    let p : Parameters = c.requires.head.0 in
    let pieces : List NewChunk = c.requires.head.1 in
    let is : IsHeadIn rf64_heads (g.D.Disk.state c.args.disk.now) c.args.layout.now p pieces = c.requires.head.2 in
    ap (λ (q : Parameters). fit_refusal Rf64 q) (ap (λ (s : Shape). s.params) c.layout.view_is ∙ made_params c.args.layout.now p pieces is.laid) ∙ is.laid.may.fits

pub plan_piece-requires-clause-stand : goal.plan_piece-requires-clause-stand
plan_piece-requires-clause-stand g c =
    let p : Parameters = c.requires.head.0 in
    let pieces : List NewChunk = c.requires.head.1 in
    let is : IsHeadIn rf64_heads (g.D.Disk.state c.args.disk.now) c.args.layout.now p pieces = c.requires.head.2 in
    let said : c.layout.inside.params ≡ p = ap (λ (s : Shape). s.params) c.layout.view_is ∙ made_params c.args.layout.now p pieces is.laid in
    let first : c.first_place.result ≡ first_place p = c.first_place.ensures.place ∙ ap first_place said in
    let stand : AreStanding c.first_place.result c.layout.inside.pieces pieces = rw first (subst (λ (l : List Piece). AreStanding (first_place p) l pieces) (sym (ap (λ (s : Shape). s.pieces) c.layout.view_is)) (stands c.args.layout.now p pieces is.laid)) in
    (pieces, stand)

pub change_head-requires : goal.change_head-requires
change_head-requires g c =
    let p : Parameters = c.requires.head.0 in
    let pieces : List NewChunk = c.requires.head.1 in
    let is : IsHeadIn rf64_heads (g.D.Disk.state c.args.disk.now) c.args.layout.now p pieces = c.requires.head.2 in
    let said : c.layout.inside.params ≡ p = ap (λ (s : Shape). s.params) c.layout.view_is ∙ made_params c.args.layout.now p pieces is.laid in
    let first : c.first_place.result ≡ first_place p = c.first_place.ensures.place ∙ ap first_place said in
    let stand : AreStanding c.first_place.result c.layout.inside.pieces pieces = rw first (subst (λ (l : List Piece). AreStanding (first_place p) l pieces) (sym (ap (λ (s : Shape). s.pieces) c.layout.view_is)) (stands c.args.layout.now p pieces is.laid)) in
    let piece : NewChunk = record { id = c.args.id.0; body = c.args.body.now } in
    let close = closes c.in_ok-plan.plan.end c.closing_of-closing.result c.closing_of-closing.ensures.order c.closing_of-closing.ensures.bytes c.closing_of-closing.ensures.size_at c.closing_of-closing.ensures.size in
    let plan : IsPlan Little (first_place p) pieces c.args.place piece c.in_ok-plan.plan = subst (λ k. IsPlan Little k pieces c.args.place piece c.in_ok-plan.plan) first (c.in_ok-plan.ensures.planned Little pieces stand) in
    let heads = rf64_split p in
    let few = ap length c.closing_of-closing.ensures.bytes ∙ data_few in
    can_change rf64_heads p Little (first_place p) rf64_mark (rf64_form p) rf64_size rf64_closing heads pieces c.args.place piece c.in_ok-plan.plan plan c.closing_of-closing.result close
    (g.D.Disk.state c.args.disk.now).size is.size (omega (arith, c.in_ok-plan.ensures.most, few))

pub layout_with-requires-clause-fits : goal.layout_with-requires-clause-fits
layout_with-requires-clause-fits g c =
    let p : Parameters = c.requires.head.0 in
    let pieces : List NewChunk = c.requires.head.1 in
    let is : IsHeadIn rf64_heads (g.D.Disk.state c.args.disk.now) c.args.layout.now p pieces = c.requires.head.2 in
    let said : c.layout.inside.params ≡ p = ap (λ (s : Shape). s.params) c.layout.view_is ∙ made_params c.args.layout.now p pieces is.laid in
    let first : c.first_place.result ≡ first_place p = c.first_place.ensures.place ∙ ap first_place said in
    let stand : AreStanding c.first_place.result c.layout.inside.pieces pieces = rw first (subst (λ (l : List Piece). AreStanding (first_place p) l pieces) (sym (ap (λ (s : Shape). s.pieces) c.layout.view_is)) (stands c.args.layout.now p pieces is.laid)) in
    ap (λ (q : Parameters). fit_refusal Rf64 q) said ∙ is.laid.may.fits

pub layout_with-requires-clause-least : goal.layout_with-requires-clause-least
layout_with-requires-clause-least g c = omega (arith, c.in_ok-plan.ensures.least, c.first_place.ensures.least)

pub returns-clause-put : goal.returns-clause-put
returns-clause-put g c = λ p pieces is.
    let said : c.layout.inside.params ≡ p = ap (λ (s : Shape). s.params) c.layout.view_is ∙ made_params c.args.layout.now p pieces is.laid in
    let first : c.first_place.result ≡ first_place p = c.first_place.ensures.place ∙ ap first_place said in
    let stand : AreStanding c.first_place.result c.layout.inside.pieces pieces = rw first (subst (λ (l : List Piece). AreStanding (first_place p) l pieces) (sym (ap (λ (s : Shape). s.pieces) c.layout.view_is)) (stands c.args.layout.now p pieces is.laid)) in
    let piece : NewChunk = record { id = c.args.id.0; body = c.args.body.now } in
    let close = closes c.in_ok-plan.plan.end c.closing_of-closing.result c.closing_of-closing.ensures.order c.closing_of-closing.ensures.bytes c.closing_of-closing.ensures.size_at c.closing_of-closing.ensures.size in
    let plan : IsPlan Little (first_place p) pieces c.args.place piece c.in_ok-plan.plan = subst (λ k. IsPlan Little k pieces c.args.place piece c.in_ok-plan.plan) first (c.in_ok-plan.ensures.planned Little pieces stand) in
    let heads = rf64_split p in
    let within : c.args.place ≤ length pieces = omega (arith, c.requires.place, ap (λ (s : Shape). length s.pieces) c.layout.view_is, ap length stand.stand, as_many c.first_place.result pieces) in
    let starts = new_size rf64_heads p Little (first_place p) rf64_mark (rf64_form p) rf64_size rf64_closing heads pieces c.args.place piece c.in_ok-plan.plan plan c.closing_of-closing.result close in
    let shape = c.drop-2.view_is ∙ c.layout_with.ensures ∙ ap (λ (q : Parameters). shape_at q (c.in_ok-plan.plan.end + c.len.result) 0 0 false c.in_ok-plan.plan.pieces) said
    ∙ new_shape p (c.in_ok-plan.plan.end + c.len.result) (with_piece pieces c.args.place piece) c.in_ok-plan.plan.pieces (ap (λ k. c.in_ok-plan.plan.end + k) c.len.ensures.value ∙ starts) plan.laid_anew in
    new_head rf64_heads p Little (first_place p) rf64_mark (rf64_form p) rf64_size rf64_closing heads pieces c.args.place piece c.in_ok-plan.plan plan c.closing_of-closing.result close
    _ (g.D.Disk.state c.args.disk.now) (g.D.Disk.state c.change_head.new.disk) (new_may c.args.layout.now p pieces is.laid c.args.place piece c.requires.may within c.requires.few) shape is.contents c.in_ok-change_head.ensures.done

pub returns-clause-head : goal.returns-clause-head
returns-clause-head g c =
    let p : Parameters = c.requires.head.0 in
    let pieces : List NewChunk = c.requires.head.1 in
    (p, with_piece pieces c.args.place (record { id = c.args.id.0; body = c.args.body.now }), returns-clause-put g c p pieces c.requires.head.2)
