use Rattle.std.proofs.Common.{◌≡◌, ◌∙◌, ap, sym, subst, ℕ, ◌+◌, ◌≤◌, true, List, All, Some, length, take, arith}
use Rattle.std.proofs.lemmas.Option.{slice_get-get_or}
use Rattle.std.specs.Prelude.{get_or, map, slice_get}
use Rattle.snd_chunks.specs.Written.{chunks_bytes}
use Rattle.snd_fields.specs.declared.field.Order.TheVariants.{Little}
use Rattle.snd_chunks.specs.Heads.{outline}
use Rattle.snd_layout.specs.declared.piece.Piece.{Piece}
use Rattle.snd_carry.specs.Carried.{TakesBytes, carried_pieces, is_carried}
use Rattle.snd_carry.proofs.Taken.{IsFour, IsSized, all_taken, carried_full, carried_more, carried_other, few_carried, nowhere, outlines_are, sized_more, sized_none, sizes, takes_bytes}
use Rattle.snd_carry.proofs.choice.carried_size.Goals as goal
use Rattle.snd_carry.proofs.choice.carried_size.Goals.{then-count-lt-MOST_PIECES+then-is_carried, else-count-lt-MOST_PIECES, else-count-lt-MOST_PIECES-via-then-count-lt-MOST_PIECES+else-is_carried, else-count-lt-MOST_PIECES-via-else-count-lt-MOST_PIECES}

pub loop-piece-init : goal.loop-piece-init
loop-piece-init c = sized_none

pub loop-piece-preserved : goal.loop-piece-preserved
loop-piece-preserved c =
    let ps : List Piece = c.as_slice-piece-items.result.now in
    let i : ℕ = c.loop-piece.piece-index in
    let was : IsSized (carried_pieces (take i ps)) c.loop-piece.count c.loop-piece.size = c.loop-piece.invariant in
    let p : Piece = get_or ps i nowhere in
    let there : slice_get ps i ≡ Some p = slice_get-get_or ps i nowhere c.loop-piece-test.true in
    elim c.if-count-lt-MOST_PIECES.branch [
      | then-count-lt-MOST_PIECES+then-is_carried w ↦
          let is : is_carried p ≡ true = sym w.is_carried.ensures.carried ∙ w.if-is_carried.true in
          subst (λ (l : List Piece). IsSized l c.if-count-lt-MOST_PIECES.count c.if-count-lt-MOST_PIECES.size) (sym (carried_more ps i p there is (omega (arith, was.counted, w.if-count-lt-MOST_PIECES.true))))
          (sized_more (carried_pieces (take i ps)) p c.loop-piece.count c.loop-piece.size c.if-count-lt-MOST_PIECES.count c.if-count-lt-MOST_PIECES.size was is w.is_carried.ensures.four w.count-is (omega (arith, w.size-is, w.chunk_size-size.ensures.value)))
      | else-count-lt-MOST_PIECES w ↦
          let same : carried_pieces (take (i + 1) ps) ≡ carried_pieces (take i ps) = elim w.else-count-lt-MOST_PIECES.branch [
            | else-count-lt-MOST_PIECES-via-then-count-lt-MOST_PIECES+else-is_carried v ↦ carried_other ps i p there (sym v.is_carried.ensures.carried ∙ v.if-is_carried.false)
            | else-count-lt-MOST_PIECES-via-else-count-lt-MOST_PIECES v ↦ carried_full ps i p there (omega (arith, was.counted, v.if-count-lt-MOST_PIECES.false))
          ] in
          subst (λ (l : List Piece). IsSized l c.if-count-lt-MOST_PIECES.count c.if-count-lt-MOST_PIECES.size) (sym same)
          (subst (λ (n : ℕ). IsSized (carried_pieces (take i ps)) n c.if-count-lt-MOST_PIECES.size) (sym w.count-is) (subst (λ (n : ℕ). IsSized (carried_pieces (take i ps)) c.loop-piece.count n) (sym w.size-is) was))
    ]

pub returns-clause-size : goal.returns-clause-size
returns-clause-size c =
    let ps : List Piece = c.as_slice-piece-items.result.now in
    let same : carried_pieces (take c.loop-piece.piece-index ps) ≡ carried_pieces ps = all_taken ps c.loop-piece.piece-index (omega (arith, c.loop-piece-test.false)) in
    let all : TakesBytes ps c.loop-piece.size = takes_bytes ps c.loop-piece.size (subst (All IsFour) same c.loop-piece.invariant.fours) (c.loop-piece.invariant.sized ∙ ap sizes same) in
    subst (λ (l : List Piece). TakesBytes l c.loop-piece.size) c.as_slice-piece-items.ensures all

pub returns-clause-outlines : goal.returns-clause-outlines
returns-clause-outlines c =
    let ps : List Piece = c.as_slice-piece-items.result.now in
    let same : carried_pieces (take c.loop-piece.piece-index ps) ≡ carried_pieces ps = all_taken ps c.loop-piece.piece-index (omega (arith, c.loop-piece-test.false)) in
    let all : length (chunks_bytes Little (map outline (carried_pieces ps))) ≡ c.loop-piece.size = outlines_are (carried_pieces ps) (subst (All IsFour) same c.loop-piece.invariant.fours) ∙ sym (c.loop-piece.invariant.sized ∙ ap sizes same) in
    subst (λ (l : List Piece). length (chunks_bytes Little (map outline (carried_pieces l))) ≡ c.loop-piece.size) c.as_slice-piece-items.ensures all

pub returns-clause-most : goal.returns-clause-most
returns-clause-most c = let few : c.loop-piece.count ≤ 240 = omega (arith, c.loop-piece.invariant.counted, few_carried (take c.loop-piece.piece-index c.as_slice-piece-items.result.now)) in omega (arith, few, c.loop-piece.invariant.few)
