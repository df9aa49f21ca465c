use Rattle.std.proofs.Common.{◌≡◌, ◌+◌, ◌≤◌, List, ◌∷◌, [], ◌++◌, ◌-◌, length, take, drop, arith, refl, ap, sym, subst, ◌∙◌}
use Rattle.snd_chunks.specs.Written.{NewChunk}
use Rattle.snd_fields.specs.declared.field.Order.TheVariants.{Little}
use Rattle.snd_layout.specs.declared.piece.Piece.{Piece}
use Rattle.snd_wave.specs.Relaid.{AreStanding, relaid, relaid_end}
use Rattle.snd_wave.proofs.Planning.{asked_for, fit, laid_as, new_placed, none_behind_all, old_placed, planned}
use Rattle.snd_wave.proofs.plan.plan_piece.Goals as goal

pub lay_pieces-requires : goal.lay_pieces-requires
lay_pieces-requires c =
    let chunks : List NewChunk = c.requires.stand.0 in
    let piece : NewChunk = record { id = c.args.id.0; body = c.args.body.now } in
    let old : List Piece = c.as_slice-old.result.now in
    let are : AreStanding c.args.first old chunks = subst (λ (l : List Piece). AreStanding c.args.first l chunks) (sym c.as_slice-old.ensures) c.requires.stand.1 in
    let there : c.args.place ≤ length old = omega (arith, c.requires.place, ap length c.as_slice-old.ensures) in
    let fits = fit Little c.args.first chunks c.args.place piece old are c.requires.small (relaid_end c.args.first (take c.args.place old)) (relaid_end (relaid_end c.args.first (take c.args.place old)) (laid_as piece ∷ [])) (relaid_end (relaid_end (relaid_end c.args.first (take c.args.place old)) (laid_as piece ∷ [])) (drop (c.args.place + 1) old)) refl refl refl there c.requires.few c.requires.first in
    omega (arith, fits)

pub lay_pieces-requires-2 : goal.lay_pieces-requires-2
lay_pieces-requires-2 c =
    let chunks : List NewChunk = c.requires.stand.0 in
    let piece : NewChunk = record { id = c.args.id.0; body = c.args.body.now } in
    let old : List Piece = c.as_slice-old.result.now in
    let are : AreStanding c.args.first old chunks = subst (λ (l : List Piece). AreStanding c.args.first l chunks) (sym c.as_slice-old.ensures) c.requires.stand.1 in
    let there : c.args.place ≤ length old = omega (arith, c.requires.place, ap length c.as_slice-old.ensures) in
    let fits = fit Little c.args.first chunks c.args.place piece old are c.requires.small c.in_ok-at.at (relaid_end c.in_ok-at.at (laid_as piece ∷ [])) (relaid_end (relaid_end c.in_ok-at.at (laid_as piece ∷ [])) (drop (c.args.place + 1) old)) c.in_ok-at.ensures.end refl refl there c.requires.few c.requires.first in
    omega (arith, fits)

pub lay_pieces-requires-3 : goal.lay_pieces-requires-3
lay_pieces-requires-3 c =
    let chunks : List NewChunk = c.requires.stand.0 in
    let piece : NewChunk = record { id = c.args.id.0; body = c.args.body.now } in
    let old : List Piece = c.as_slice-old.result.now in
    let are : AreStanding c.args.first old chunks = subst (λ (l : List Piece). AreStanding c.args.first l chunks) (sym c.as_slice-old.ensures) c.requires.stand.1 in
    let there : c.args.place ≤ length old = omega (arith, c.requires.place, ap length c.as_slice-old.ensures) in
    let fits = fit Little c.args.first chunks c.args.place piece old are c.requires.small c.in_ok-at.at c.in_ok-next.next (relaid_end c.in_ok-next.next c.pieces_behind.result.now) c.in_ok-at.ensures.end c.in_ok-next.ensures.end (ap (relaid_end c.in_ok-next.next) c.pieces_behind.ensures) there c.requires.few c.requires.first in
    omega (arith, fits)

pub end_of-requires : goal.end_of-requires
end_of-requires c =
    let chunks : List NewChunk = c.requires.stand.0 in
    let piece : NewChunk = record { id = c.args.id.0; body = c.args.body.now } in
    let old : List Piece = c.as_slice-old.result.now in
    let are : AreStanding c.args.first old chunks = subst (λ (l : List Piece). AreStanding c.args.first l chunks) (sym c.as_slice-old.ensures) c.requires.stand.1 in
    let there : c.args.place ≤ length old = omega (arith, c.requires.place, ap length c.as_slice-old.ensures) in
    old_placed Little c.args.first chunks c.args.place piece old are c.requires.small c.requires.first

pub overflow_sub-result : goal.overflow_sub-result
overflow_sub-result c =
    let chunks : List NewChunk = c.requires.stand.0 in
    let piece : NewChunk = record { id = c.args.id.0; body = c.args.body.now } in
    let old : List Piece = c.as_slice-old.result.now in
    let are : AreStanding c.args.first old chunks = subst (λ (l : List Piece). AreStanding c.args.first l chunks) (sym c.as_slice-old.ensures) c.requires.stand.1 in
    let there : c.args.place ≤ length old = omega (arith, c.requires.place, ap length c.as_slice-old.ensures) in
    let fits = fit Little c.args.first chunks c.args.place piece old are c.requires.small c.in_ok-at.at c.in_ok-next.next c.in_ok-end.end c.in_ok-at.ensures.end c.in_ok-next.ensures.end (c.in_ok-end.ensures.end ∙ ap (relaid_end c.in_ok-next.next) c.pieces_behind.ensures) there c.requires.few c.requires.first in
    omega (arith, fits)

pub returns-clause-least : goal.returns-clause-least
returns-clause-least c =
    let chunks : List NewChunk = c.requires.stand.0 in
    let piece : NewChunk = record { id = c.args.id.0; body = c.args.body.now } in
    let old : List Piece = c.as_slice-old.result.now in
    let are : AreStanding c.args.first old chunks = subst (λ (l : List Piece). AreStanding c.args.first l chunks) (sym c.as_slice-old.ensures) c.requires.stand.1 in
    let there : c.args.place ≤ length old = omega (arith, c.requires.place, ap length c.as_slice-old.ensures) in
    let fits = fit Little c.args.first chunks c.args.place piece old are c.requires.small c.in_ok-at.at c.in_ok-next.next c.in_ok-end.end c.in_ok-at.ensures.end c.in_ok-next.ensures.end (c.in_ok-end.ensures.end ∙ ap (relaid_end c.in_ok-next.next) c.pieces_behind.ensures) there c.requires.few c.requires.first in
    omega (arith, fits)

pub returns-clause-most : goal.returns-clause-most
returns-clause-most c =
    let chunks : List NewChunk = c.requires.stand.0 in
    let piece : NewChunk = record { id = c.args.id.0; body = c.args.body.now } in
    let old : List Piece = c.as_slice-old.result.now in
    let are : AreStanding c.args.first old chunks = subst (λ (l : List Piece). AreStanding c.args.first l chunks) (sym c.as_slice-old.ensures) c.requires.stand.1 in
    let there : c.args.place ≤ length old = omega (arith, c.requires.place, ap length c.as_slice-old.ensures) in
    let fits = fit Little c.args.first chunks c.args.place piece old are c.requires.small c.in_ok-at.at c.in_ok-next.next c.in_ok-end.end c.in_ok-at.ensures.end c.in_ok-next.ensures.end (c.in_ok-end.ensures.end ∙ ap (relaid_end c.in_ok-next.next) c.pieces_behind.ensures) there c.requires.few c.requires.first in
    omega (arith, fits)

pub returns-clause-asked : goal.returns-clause-asked
returns-clause-asked c =
    let chunks : List NewChunk = c.requires.stand.0 in
    let piece : NewChunk = record { id = c.args.id.0; body = c.args.body.now } in
    let old : List Piece = c.as_slice-old.result.now in
    let are : AreStanding c.args.first old chunks = subst (λ (l : List Piece). AreStanding c.args.first l chunks) (sym c.as_slice-old.ensures) c.requires.stand.1 in
    let there : c.args.place ≤ length old = omega (arith, c.requires.place, ap length c.as_slice-old.ensures) in
    let fits = fit Little c.args.first chunks c.args.place piece old are c.requires.small c.in_ok-at.at c.in_ok-next.next c.in_ok-end.end c.in_ok-at.ensures.end c.in_ok-next.ensures.end (c.in_ok-end.ensures.end ∙ ap (relaid_end c.in_ok-next.next) c.pieces_behind.ensures) there c.requires.few c.requires.first in
    asked_for (c.in_ok-end.end - c.in_ok-next.next) c.args.place (length c.args.pieces.now) (λ last.
    let none = none_behind_all Little c.args.first chunks c.args.place piece old are c.requires.small c.in_ok-next.next (last ∙ ap length (sym c.as_slice-old.ensures)) in
    omega (arith, c.in_ok-end.ensures.end, ap (relaid_end c.in_ok-next.next) c.pieces_behind.ensures, none)) (omega (arith, fits))

pub returns-clause-planned : goal.returns-clause-planned
returns-clause-planned c = λ order others stands.
    let piece : NewChunk = record { id = c.args.id.0; body = c.args.body.now } in
    let old : List Piece = c.as_slice-old.result.now in
    let are : AreStanding c.args.first old others = subst (λ (l : List Piece). AreStanding c.args.first l others) (sym c.as_slice-old.ensures) stands in
    let put : c.lay_pieces-3.new.into ≡ relaid c.args.first (take c.args.place old) ++ relaid c.in_ok-at.at (laid_as piece ∷ []) ++ relaid c.in_ok-next.next (drop (c.args.place + 1) old) =
    c.in_ok-end.ensures.laid ∙ ap (λ (l : List Piece). l ++ relaid c.in_ok-next.next c.pieces_behind.result.now) (c.in_ok-next.ensures.laid ∙ ap (λ (l : List Piece). l ++ relaid c.in_ok-at.at (laid_as piece ∷ []))
    (c.in_ok-at.ensures.laid ∙ ap (λ (l : List Piece). l ++ relaid c.args.first (take c.args.place old)) c.new-pieces.ensures)) ∙ ap (λ (l : List Piece). relaid c.args.first (take c.args.place old) ++ relaid c.in_ok-at.at (laid_as piece ∷ []) ++ relaid c.in_ok-next.next l) c.pieces_behind.ensures in
    planned order c.args.first others c.args.place piece old are c.requires.small c.in_ok-next.next (record { at = c.in_ok-at.at; from = c.end_of.result; count = c.in_ok-end.end - c.in_ok-next.next; end = c.in_ok-end.end; pieces = c.lay_pieces-3.new.into })
    c.in_ok-at.ensures.end c.in_ok-next.ensures.end (c.in_ok-end.ensures.end ∙ ap (relaid_end c.in_ok-next.next) c.pieces_behind.ensures) c.end_of.ensures refl put

pub returns-clause-placed : goal.returns-clause-placed
returns-clause-placed c =
    let chunks : List NewChunk = c.requires.stand.0 in
    let piece : NewChunk = record { id = c.args.id.0; body = c.args.body.now } in
    let old : List Piece = c.as_slice-old.result.now in
    let are : AreStanding c.args.first old chunks = subst (λ (l : List Piece). AreStanding c.args.first l chunks) (sym c.as_slice-old.ensures) c.requires.stand.1 in
    let there : c.args.place ≤ length old = omega (arith, c.requires.place, ap length c.as_slice-old.ensures) in
    let put : c.lay_pieces-3.new.into ≡ relaid c.args.first (take c.args.place old) ++ relaid c.in_ok-at.at (laid_as piece ∷ []) ++ relaid c.in_ok-next.next (drop (c.args.place + 1) old) =
    c.in_ok-end.ensures.laid ∙ ap (λ (l : List Piece). l ++ relaid c.in_ok-next.next c.pieces_behind.result.now) (c.in_ok-next.ensures.laid ∙ ap (λ (l : List Piece). l ++ relaid c.in_ok-at.at (laid_as piece ∷ []))
    (c.in_ok-at.ensures.laid ∙ ap (λ (l : List Piece). l ++ relaid c.args.first (take c.args.place old)) c.new-pieces.ensures)) ∙ ap (λ (l : List Piece). relaid c.args.first (take c.args.place old) ++ relaid c.in_ok-at.at (laid_as piece ∷ []) ++ relaid c.in_ok-next.next l) c.pieces_behind.ensures in
    let plan = planned Little c.args.first chunks c.args.place piece old are c.requires.small c.in_ok-next.next (record { at = c.in_ok-at.at; from = c.end_of.result; count = c.in_ok-end.end - c.in_ok-next.next; end = c.in_ok-end.end; pieces = c.lay_pieces-3.new.into })
    c.in_ok-at.ensures.end c.in_ok-next.ensures.end (c.in_ok-end.ensures.end ∙ ap (relaid_end c.in_ok-next.next) c.pieces_behind.ensures) c.end_of.ensures refl put in
    new_placed Little c.args.first chunks c.args.place piece old are c.requires.small there c.requires.few c.requires.first c.lay_pieces-3.new.into plan.laid_anew
