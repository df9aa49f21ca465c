use Rattle.std.proofs.Common.{rules, ◌≡◌, ◌∙◌, ap, sym, subst, ℕ, ◌+◌, ◌<◌, ◌≤◌, true, false, List, [], ◌∷◌, ◌++◌, All, Some, length, map, take, arith, length-append}
use Rattle.std.proofs.lemmas.List.{map-append}
use Rattle.std.proofs.lemmas.List.Elements.{All-append, All-cons, All-nil}
use Rattle.std.proofs.lemmas.List.Sums.{sum_by-append, sum_by-cons, sum_by-take-le}
use Rattle.std.specs.List.{filter}
use Rattle.std.specs.Prelude.{slice_get}
use Rattle.snd_carry.specs.Carried.{is_carried}
use Rattle.snd_layout.specs.declared.piece.Piece.{Piece}
use Rattle.snd_chunks.specs.Heads.{chunk_read}
use Rattle.snd_metadata.specs.Chunks.{kept_pieces}
use Rattle.snd_metadata.specs.Planned.{MayStand, bytes_planned, bytes_read, chunk_planned}
use Rattle.snd_metadata.specs.declared.chunks.PlannedChunk.{PlannedChunk}
use Rattle.snd_metadata.specs.declared.chunks.PlannedChunk.TheVariants.{Kept}
use Rattle.snd_metadata.proofs.Asking.{bodies_next}
use Rattle.snd_metadata.proofs.Lists.{few_in, kept_full, kept_more, kept_other}
use Rattle.snd_metadata.proofs.chunks.kept_chunks.Goals as goal

pub loop-place-preserved-then-not-is_carried : goal.loop-place-preserved-then-not-is_carried
loop-place-preserved-then-not-is_carried c =
    let ps : List Piece = c.args.pieces.now in
    let there : slice_get ps c.loop-place.place ≡ Some c.in-Some.piece = search rules in
    let other : is_carried c.in-Some.piece ≡ false = sym c.is_carried.ensures.carried ∙ c.if-not-is_carried.true in
    let same : kept_pieces (take (c.loop-place.place + 1) ps) ≡ kept_pieces (take c.loop-place.place ps) = kept_other is_carried 238 ps c.loop-place.place c.in-Some.piece there other in
    let was = c.loop-place.invariant in
    record {
      kept = λ b. was.kept b ∙ ap (λ (l : List Piece). map (chunk_read b) l) (sym same);
      counted = was.counted ∙ ap length (sym same);
      each = was.each;
      once = omega (arith, was.once, bodies_next ps c.loop-place.place c.in-Some.piece there);
    }

pub loop-place-preserved-then-len-eq-MOST_KEPT : goal.loop-place-preserved-then-len-eq-MOST_KEPT
loop-place-preserved-then-len-eq-MOST_KEPT c =
    let ps : List Piece = c.args.pieces.now in
    let there : slice_get ps c.loop-place.place ≡ Some c.in-Some.piece = search rules in
    let was = c.loop-place.invariant in
    let full : 238 ≤ length (kept_pieces (take c.loop-place.place ps)) = omega (arith, was.counted, c.len.ensures, c.if-len-eq-MOST_KEPT.true) in
    let same : kept_pieces (take (c.loop-place.place + 1) ps) ≡ kept_pieces (take c.loop-place.place ps) = kept_full is_carried 238 ps c.loop-place.place c.in-Some.piece there full in
    record {
      kept = λ b. was.kept b ∙ ap (λ (l : List Piece). map (chunk_read b) l) (sym same);
      counted = was.counted ∙ ap length (sym same);
      each = was.each;
      once = omega (arith, was.once, bodies_next ps c.loop-place.place c.in-Some.piece there);
    }

pub loop-place-preserved : goal.loop-place-preserved
loop-place-preserved c =
    let ps : List Piece = c.args.pieces.now in
    let place : ℕ = c.loop-place.place in
    let piece : Piece = c.in-Some.piece in
    let there : slice_get ps place ≡ Some piece = search rules in
    let is : is_carried piece ≡ true = sym c.is_carried.ensures.carried ∙ c.if-not-is_carried.false in
    let was = c.loop-place.invariant in
    let before : List Piece = kept_pieces (take place ps) in
    let few : length before < 238 = omega (arith, was.counted, few_in 238 (filter is_carried (take place ps)), c.len.ensures, c.if-len-eq-MOST_KEPT.false) in
    let more : kept_pieces (take (place + 1) ps) ≡ before ++ piece ∷ [] = kept_more is_carried 238 ps place piece there is few in
    let old : List PlannedChunk = c.loop-place.plan.items in
    let chunk : PlannedChunk = Kept place piece in
    let pushed : c.push.new.self.items ≡ old ++ chunk ∷ [] = search rules in
    record {
      kept = λ b.
          ap (λ (l : List PlannedChunk). map (chunk_planned b) l) pushed ∙ map-append (chunk_planned b) old (chunk ∷ []) ∙ ap (λ l. l ++ chunk_read b piece ∷ []) (was.kept b)
          ∙ sym (ap (λ (l : List Piece). map (chunk_read b) l) more ∙ map-append (chunk_read b) before (piece ∷ []));
      counted = ap length pushed ∙ omega (arith, was.counted, length-append old (chunk ∷ []), length-append before (piece ∷ []), ap length more);
      each = subst (All (MayStand ps)) (sym pushed) (All-append (MayStand ps) old (chunk ∷ []) was.each (All-cons (MayStand ps) chunk [] (there, is, c.is_carried.ensures.four, c.is_carried.ensures.bytes) (All-nil (MayStand ps))));
      once = omega (arith, was.once, bodies_next ps place piece there, ap bytes_planned pushed, sum_by-append bytes_read old (chunk ∷ []), sum_by-cons bytes_read chunk []);
    }

pub returns-clause-few : goal.returns-clause-few
returns-clause-few c = omega (arith, c.loop-place.invariant.counted, few_in 238 (filter is_carried (take c.loop-place.place c.args.pieces.now)))

pub returns-clause-once : goal.returns-clause-once
returns-clause-once c = omega (arith, c.loop-place.invariant.once, sum_by-take-le (λ (p : Piece). p.len) c.args.pieces.now c.loop-place.place)
