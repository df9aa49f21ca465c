use Rattle.std.proofs.Common.{◌≡◌, ◌≤◌, ◌+◌, ℕ, List, Option, arith, ap, length, subst, sym, ◌∙◌}
use Rattle.std.specs.Prelude.{IfSome}
use Rattle.snd_chunks.specs.Written.{NewChunk}
use Rattle.snd_fields.specs.declared.field.Order.TheVariants.{Little}
use Rattle.snd_layout.specs.Fit.{fit_refusal}
use Rattle.snd_layout.specs.Params.{Parameters}
use Rattle.snd_layout.specs.Shape.{IsReserve, Shape}
use Rattle.snd_layout.specs.declared.kind.Kind.TheVariants.{Wave}
use Rattle.snd_layout.specs.declared.piece.Piece.{Piece}
use Rattle.snd_wave.specs.Changes.{IsPlan}
use Rattle.snd_chunks.specs.Heads.{IsHeadIn, with_piece}
use Rattle.snd_wave.specs.Put.{closing_behind, head_shape, reserved_heads}
use Rattle.snd_wave.specs.Relaid.{AreStanding}
use Rattle.snd_wave.specs.Written.{reserved_first}
use Rattle.snd_wave.proofs.Putting.{closes, first_most, new_shape, reserve_stands, reserved_may, reserved_params, reserved_stand, wave_form, wave_mark, wave_size, wave_split}
use Rattle.snd_wave.proofs.Relaying.{as_many}
use Rattle.snd_wave.proofs.Splits.{can_change, new_head, new_size}
use Rattle.snd_wave.proofs.changing.put_piece.Goals as goal

pub plan_piece-requires-clause-stand : goal.plan_piece-requires-clause-stand
plan_piece-requires-clause-stand g c =
    let p : Parameters = c.requires.head.0 in
    let pieces : List NewChunk = c.requires.head.1 in
    let r : Option ℕ = c.args.layout.now.reserve in
    let is : IsHeadIn (reserved_heads r) (g.D.Disk.state c.args.disk.now) c.args.layout.now p pieces = c.requires.head.2 in
    let said : c.layout.inside.params ≡ p = ap (λ (s : Shape). s.params) c.layout.view_is ∙ reserved_params r c.args.layout.now p pieces is.laid in
    let kept : c.layout.inside.reserve ≡ r = ap (λ (s : Shape). s.reserve) c.layout.view_is in
    let first : c.first_place-first.result ≡ reserved_first r p = c.first_place-first.ensures.place ∙ ap (reserved_first c.layout.inside.reserve) said ∙ ap (λ (o : Option ℕ). reserved_first o p) kept in
    let stand : AreStanding c.first_place-first.result c.layout.inside.pieces pieces =
    rw first (subst (λ (l : List Piece). AreStanding (reserved_first r p) l pieces) (sym (ap (λ (s : Shape). s.pieces) c.layout.view_is)) (reserved_stand r c.args.layout.now p pieces is.laid)) in
    (pieces, stand)

pub plan_piece-requires-clause-first : goal.plan_piece-requires-clause-first
plan_piece-requires-clause-first g c =
    let p : Parameters = c.requires.head.0 in
    let pieces : List NewChunk = c.requires.head.1 in
    let r : Option ℕ = c.args.layout.now.reserve in
    let is : IsHeadIn (reserved_heads r) (g.D.Disk.state c.args.disk.now) c.args.layout.now p pieces = c.requires.head.2 in
    let said : c.layout.inside.params ≡ p = ap (λ (s : Shape). s.params) c.layout.view_is ∙ reserved_params r c.args.layout.now p pieces is.laid in
    let kept : c.layout.inside.reserve ≡ r = ap (λ (s : Shape). s.reserve) c.layout.view_is in
    let first : c.first_place-first.result ≡ reserved_first r p = c.first_place-first.ensures.place ∙ ap (reserved_first c.layout.inside.reserve) said ∙ ap (λ (o : Option ℕ). reserved_first o p) kept in
    let stand : AreStanding c.first_place-first.result c.layout.inside.pieces pieces =
    rw first (subst (λ (l : List Piece). AreStanding (reserved_first r p) l pieces) (sym (ap (λ (s : Shape). s.pieces) c.layout.view_is)) (reserved_stand r c.args.layout.now p pieces is.laid)) in
    omega (arith, first, first_most r p is.laid.may.reserved)

pub change_head-requires : goal.change_head-requires
change_head-requires g c =
    let p : Parameters = c.requires.head.0 in
    let pieces : List NewChunk = c.requires.head.1 in
    let r : Option ℕ = c.args.layout.now.reserve in
    let is : IsHeadIn (reserved_heads r) (g.D.Disk.state c.args.disk.now) c.args.layout.now p pieces = c.requires.head.2 in
    let said : c.layout.inside.params ≡ p = ap (λ (s : Shape). s.params) c.layout.view_is ∙ reserved_params r c.args.layout.now p pieces is.laid in
    let kept : c.layout.inside.reserve ≡ r = ap (λ (s : Shape). s.reserve) c.layout.view_is in
    let first : c.first_place-first.result ≡ reserved_first r p = c.first_place-first.ensures.place ∙ ap (reserved_first c.layout.inside.reserve) said ∙ ap (λ (o : Option ℕ). reserved_first o p) kept in
    let stand : AreStanding c.first_place-first.result c.layout.inside.pieces pieces =
    rw first (subst (λ (l : List Piece). AreStanding (reserved_first r p) l pieces) (sym (ap (λ (s : Shape). s.pieces) c.layout.view_is)) (reserved_stand r c.args.layout.now p pieces is.laid)) in
    let piece : NewChunk = record { id = c.args.id.0; body = c.args.body.now } in
    let close = closes p c.layout.inside.params c.in_ok-plan.plan.end c.closing_of-closing.result said c.in_ok-plan.ensures.most c.closing_of-closing.ensures.order c.closing_of-closing.ensures.bytes c.closing_of-closing.ensures.few c.closing_of-closing.ensures.size_at c.closing_of-closing.ensures.size in
    let plan : IsPlan Little (reserved_first r p) pieces c.args.place piece c.in_ok-plan.plan = subst (λ k. IsPlan Little k pieces c.args.place piece c.in_ok-plan.plan) first (c.in_ok-plan.ensures.planned Little pieces stand) in
    let heads = wave_split r p is.laid.may.params is.laid.may.fits in
    can_change (reserved_heads r) p Little (reserved_first r p) wave_mark (wave_form r p) wave_size (closing_behind p.codec) heads pieces c.args.place piece c.in_ok-plan.plan plan c.closing_of-closing.result close
    (g.D.Disk.state c.args.disk.now).size is.size (omega (arith, c.in_ok-plan.ensures.most, c.closing_of-closing.ensures.few))

pub layout_with-requires-clause-fits : goal.layout_with-requires-clause-fits
layout_with-requires-clause-fits g c =
    let p : Parameters = c.requires.head.0 in
    let pieces : List NewChunk = c.requires.head.1 in
    let r : Option ℕ = c.args.layout.now.reserve in
    let is : IsHeadIn (reserved_heads r) (g.D.Disk.state c.args.disk.now) c.args.layout.now p pieces = c.requires.head.2 in
    let said : c.layout.inside.params ≡ p = ap (λ (s : Shape). s.params) c.layout.view_is ∙ reserved_params r c.args.layout.now p pieces is.laid in
    let kept : c.layout.inside.reserve ≡ r = ap (λ (s : Shape). s.reserve) c.layout.view_is in
    let first : c.first_place-first.result ≡ reserved_first r p = c.first_place-first.ensures.place ∙ ap (reserved_first c.layout.inside.reserve) said ∙ ap (λ (o : Option ℕ). reserved_first o p) kept in
    let stand : AreStanding c.first_place-first.result c.layout.inside.pieces pieces =
    rw first (subst (λ (l : List Piece). AreStanding (reserved_first r p) l pieces) (sym (ap (λ (s : Shape). s.pieces) c.layout.view_is)) (reserved_stand r c.args.layout.now p pieces is.laid)) in
    ap (λ (q : Parameters). fit_refusal Wave q) said ∙ is.laid.may.fits

pub layout_with-requires-clause-reserve : goal.layout_with-requires-clause-reserve
layout_with-requires-clause-reserve g c =
    let p : Parameters = c.requires.head.0 in
    let pieces : List NewChunk = c.requires.head.1 in
    let r : Option ℕ = c.args.layout.now.reserve in
    let is : IsHeadIn (reserved_heads r) (g.D.Disk.state c.args.disk.now) c.args.layout.now p pieces = c.requires.head.2 in
    let said : c.layout.inside.params ≡ p = ap (λ (s : Shape). s.params) c.layout.view_is ∙ reserved_params r c.args.layout.now p pieces is.laid in
    let kept : c.layout.inside.reserve ≡ r = ap (λ (s : Shape). s.reserve) c.layout.view_is in
    let first : c.first_place-first.result ≡ reserved_first r p = c.first_place-first.ensures.place ∙ ap (reserved_first c.layout.inside.reserve) said ∙ ap (λ (o : Option ℕ). reserved_first o p) kept in
    let stand : AreStanding c.first_place-first.result c.layout.inside.pieces pieces =
    rw first (subst (λ (l : List Piece). AreStanding (reserved_first r p) l pieces) (sym (ap (λ (s : Shape). s.pieces) c.layout.view_is)) (reserved_stand r c.args.layout.now p pieces is.laid)) in
    let begins : ℕ = c.in_ok-plan.plan.end + c.len.result in
    let late : reserved_first r p + 8 ≤ begins = omega (arith, first, c.in_ok-plan.ensures.least, c.closing_of-closing.ensures.least, c.len.ensures.value) in
    subst (λ (o : Option ℕ). IfSome o (IsReserve Wave c.layout.inside.params.codec begins)) (sym kept)
    (subst (λ (q : Parameters). IfSome r (IsReserve Wave q.codec begins)) (sym said) (reserve_stands r p begins is.laid.may.reserved late))

pub layout_with-requires-clause-least : goal.layout_with-requires-clause-least
layout_with-requires-clause-least g c = omega (arith, c.in_ok-plan.ensures.least, c.first_place-first.ensures.least, c.closing_of-closing.ensures.least, c.len.ensures.value)

pub returns-clause-put : goal.returns-clause-put
returns-clause-put g c = λ p pieces is.
    let r : Option ℕ = c.args.layout.now.reserve in
    let said : c.layout.inside.params ≡ p = ap (λ (s : Shape). s.params) c.layout.view_is ∙ reserved_params r c.args.layout.now p pieces is.laid in
    let kept : c.layout.inside.reserve ≡ r = ap (λ (s : Shape). s.reserve) c.layout.view_is in
    let first : c.first_place-first.result ≡ reserved_first r p = c.first_place-first.ensures.place ∙ ap (reserved_first c.layout.inside.reserve) said ∙ ap (λ (o : Option ℕ). reserved_first o p) kept in
    let stand : AreStanding c.first_place-first.result c.layout.inside.pieces pieces =
    rw first (subst (λ (l : List Piece). AreStanding (reserved_first r p) l pieces) (sym (ap (λ (s : Shape). s.pieces) c.layout.view_is)) (reserved_stand r c.args.layout.now p pieces is.laid)) in
    let piece : NewChunk = record { id = c.args.id.0; body = c.args.body.now } in
    let close = closes p c.layout.inside.params c.in_ok-plan.plan.end c.closing_of-closing.result said c.in_ok-plan.ensures.most c.closing_of-closing.ensures.order c.closing_of-closing.ensures.bytes c.closing_of-closing.ensures.few c.closing_of-closing.ensures.size_at c.closing_of-closing.ensures.size in
    let plan : IsPlan Little (reserved_first r p) pieces c.args.place piece c.in_ok-plan.plan = subst (λ k. IsPlan Little k pieces c.args.place piece c.in_ok-plan.plan) first (c.in_ok-plan.ensures.planned Little pieces stand) in
    let heads = wave_split r p is.laid.may.params is.laid.may.fits in
    let within : c.args.place ≤ length pieces = omega (arith, c.requires.place, ap (λ (s : Shape). length s.pieces) c.layout.view_is, ap length stand.stand, as_many c.first_place-first.result pieces) in
    let starts = new_size (reserved_heads r) p Little (reserved_first r p) wave_mark (wave_form r p) wave_size (closing_behind p.codec) heads pieces c.args.place piece c.in_ok-plan.plan plan c.closing_of-closing.result close in
    let shape = c.drop-2.view_is ∙ c.layout_with.ensures ∙ ap (λ (q : Parameters). head_shape c.layout.inside.reserve q (c.in_ok-plan.plan.end + c.len.result) c.in_ok-plan.plan.pieces) said
    ∙ ap (λ (o : Option ℕ). head_shape o p (c.in_ok-plan.plan.end + c.len.result) c.in_ok-plan.plan.pieces) kept ∙ new_shape r p is.laid.may.params is.laid.may.fits (c.in_ok-plan.plan.end + c.len.result) (with_piece pieces c.args.place piece) c.in_ok-plan.plan.pieces (ap (λ k. c.in_ok-plan.plan.end + k) c.len.ensures.value ∙ starts) plan.laid_anew in
    new_head (reserved_heads r) p Little (reserved_first r p) wave_mark (wave_form r p) wave_size (closing_behind p.codec) heads pieces c.args.place piece c.in_ok-plan.plan plan c.closing_of-closing.result close
    _ (g.D.Disk.state c.args.disk.now) (g.D.Disk.state c.change_head.new.disk) (reserved_may r c.args.layout.now p pieces is.laid c.args.place piece c.requires.may within c.requires.few) shape is.contents c.in_ok-change_head.ensures.done

pub returns-clause-head : goal.returns-clause-head
returns-clause-head g c =
    let p : Parameters = c.requires.head.0 in
    let pieces : List NewChunk = c.requires.head.1 in
    (p, with_piece pieces c.args.place (record { id = c.args.id.0; body = c.args.body.now }), returns-clause-put g c p pieces c.requires.head.2)
