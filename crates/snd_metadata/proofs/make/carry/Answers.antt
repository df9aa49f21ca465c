use Rattle.std.proofs.Common.{rules, ◌≡◌, ◌∙◌, ap, refl, subst, sym, false, ℕ, ◌+◌, List, [], ◌∷◌, ◌++◌, All, Ok, Result, length, map, take, arith}
use Rattle.std.proofs.lemmas.List.{length-map, length-take, map-append, take_all, take_more}
use Rattle.std.proofs.lemmas.List.Elements.{All-append, All-cons, All-nil}
use Rattle.std.proofs.lemmas.List.Sums.{sum_by-take-le, sum_by_more, sum_by_more_le}
use Rattle.snd_carry.proofs.Public.{as_many, made_none}
use Rattle.snd_chunks.specs.Written.{NewChunk}
use Rattle.snd_inputs.proofs.Public.{asks_less, asks_then, copies_none, copies_then}
use Rattle.snd_inputs.specs.Copying.{CopiesInto}
use Rattle.std.specs.Prelude.{is_none}
use Rattle.snd_container.specs.Sound.{fixed_of}
use Rattle.snd_layout.specs.Params.{Parameters}
use Rattle.snd_layout.specs.Shape.{Shape}
use Rattle.snd_layout.specs.declared.piece.Piece.{Piece}
use Rattle.snd_edits.specs.Known.{Known}
use Rattle.snd_file.specs.Handle.{Stands, known_of}
use Rattle.snd_layout.specs.Kinds.{holds_meta}
use Rattle.snd_edits.specs.PieceCalls.{IsUntouched, known_put}
use Rattle.snd_output.proofs.Public.{carried_is_making, says_of}
use Rattle.snd_output.specs.Made.{IsChunk, made_with}
use Rattle.snd_output.specs.declared.stop.Stop.{Stop}
use Rattle.snd_metadata.specs.Making.{HasPut, chunks_planned, known_filled}
use Rattle.snd_metadata.specs.Planned.{MayStand, bytes_read, chunk_planned, outline_planned}
use Rattle.snd_metadata.specs.declared.chunks.PlannedChunk.{PlannedChunk}
use Rattle.snd_metadata.proofs.Filling.{begun_known, held_none, known_more}
use Rattle.snd_metadata.proofs.make.carry.Goals as goal

pub loop-at-init : goal.loop-at-init
loop-at-init g c =
    let h : Shape = (known_of c.args.from.now).shape in
    record {
      copies = copies_none g.D.Disk g.E.Disk c.args.from.now c.args.to.now c.requires.fresh.broken;
      same = refl;
      known = begun_known h (known_of c.args.to.now) c.requires.begun;
      so_far = λ r e s made stands. (
        record {
          stands = subst (Stands g.E.Disk.state c.args.to.now) (made_none h.kind h.params e c.requires.ready.meta made stands.count) stands;
          held = held_none h.kind h.params c.requires.ready.meta;
        },
        All-nil IsChunk,
      );
      asked = record { later = omega arith; most = omega arith };
      unasked = refl;
      stands = λ e s. s;
    }

pub put_planned-requires-clause-stands : goal.put_planned-requires-clause-stands
put_planned-requires-clause-stands g c =
    let pieces : List Piece = (known_of c.args.from.now).shape.pieces in
    let x : PlannedChunk = c.index-plan-at.result in
    subst (λ (ps : List Piece). MayStand ps x) (sym (ap (λ (k : Known). k.shape.pieces) c.loop-at.invariant.same))
    (subst (MayStand pieces) (sym c.index-plan-at.is) (c.requires.ready.plan_is.each c.loop-at.at x (omega arith)))

pub put_planned-requires-clause-untouched : goal.put_planned-requires-clause-untouched
put_planned-requires-clause-untouched g c =
    subst IsUntouched (sym c.loop-at.invariant.known) (record { working = c.requires.fresh.broken; empty = c.requires.fresh.written; by_hand = c.requires.fresh.automatic })

pub put_planned-requires-clause-meta : goal.put_planned-requires-clause-meta
put_planned-requires-clause-meta g c =
    let h : Shape = (known_of c.args.from.now).shape in
    ap (λ (k : Known). holds_meta k.shape.kind) c.loop-at.invariant.known
    ∙ ap holds_meta (says_of h.kind h.params (map outline_planned (take c.loop-at.at c.args.plan.now)) c.requires.ready.meta).kind_is ∙ c.requires.ready.meta

pub put_planned-requires-clause-few : goal.put_planned-requires-clause-few
put_planned-requires-clause-few g c =
    let h : Shape = (known_of c.args.from.now).shape in
    let xs : List PlannedChunk = take c.loop-at.at c.args.plan.now in
    let many : length (known_of c.loop-at.to).shape.pieces ≡ length xs =
    ap (λ (k : Known). length k.shape.pieces) c.loop-at.invariant.known ∙ as_many h.kind h.params c.requires.ready.meta (map outline_planned xs) ∙ length-map xs outline_planned in
    omega (arith, many, length-take c.loop-at.at c.args.plan.now, c.requires.ready.plan_is.few)

pub loop-at-preserved : goal.loop-at-preserved
loop-at-preserved g c =
    let h : Shape = (known_of c.args.from.now).shape in
    let k : Known = known_of c.args.to.now in
    let plan : List PlannedChunk = c.args.plan.now in
    let at : ℕ = c.loop-at.at in
    let x : PlannedChunk = c.index-plan-at.result in
    let xs : List PlannedChunk = take at plan in
    let more : take (at + 1) plan ≡ xs ++ x ∷ [] = take_more plan at x (omega arith) ∙ ap (λ (y : PlannedChunk). xs ++ y ∷ []) (sym c.index-plan-at.is) in
    let was = c.loop-at.invariant in
    let did = c.in_ok-put_planned.ensures in
    record {
      copies = copies_then g.D.Disk g.E.Disk c.args.from.now c.loop-at.from c.put_planned.new.from c.args.to.now c.loop-at.to c.put_planned.new.to tt (Ok tt) was.copies did.copies;
      same = did.same ∙ was.same;
      known = did.known ∙ ap (λ (k : Known). known_put (length k.shape.pieces) (outline_planned x) k) was.known ∙ known_more h xs x k c.requires.ready.meta ∙ ap (λ (l : List PlannedChunk). known_filled h l k) (sym more);
      so_far = λ r e s made stands.
          let f : PlannedChunk → NewChunk = chunk_planned r.bytes in
          let before = was.so_far r e s made stands in
          let next = did.puts r h.kind h.params (chunks_planned r xs) (was.stands r s) c.requires.ready.meta before.0 in
          let joined : chunks_planned r xs ++ f x ∷ [] ≡ chunks_planned r (take (at + 1) plan) = sym (ap (λ (l : List PlannedChunk). map f l) more ∙ map-append f xs (x ∷ [])) in (
            subst (λ (l : List NewChunk). HasPut g.E.Disk.state h.kind h.params l c.put_planned.new.to) joined next.0,
            subst (All IsChunk) joined (All-append IsChunk (chunks_planned r xs) (f x ∷ []) before.1 (All-cons IsChunk (f x) [] next.1 (All-nil IsChunk))),
          );
      asked = asks_then _ _ _ _ _ _ was.asked c.put_planned.ensures.asked (omega (arith, sum_by_more bytes_read plan at x (omega arith), ap bytes_read c.index-plan-at.is));
      unasked = c.put_planned.ensures.unasked ∙ was.unasked;
      stands = λ e s. did.stands e (was.stands e s);
    }

pub returns-in_err-put_planned-clause-copies : goal.returns-in_err-put_planned-clause-copies
returns-in_err-put_planned-clause-copies g c =
    subst (λ (r : Result (Unit {0}) Stop). CopiesInto g.D.Disk g.E.Disk c.args.from.now c.put_planned.new.from c.args.to.now c.put_planned.new.to r) (search rules)
    (copies_then g.D.Disk g.E.Disk c.args.from.now c.loop-at.from c.put_planned.new.from c.args.to.now c.loop-at.to c.put_planned.new.to tt _ c.loop-at.invariant.copies c.in_err-put_planned.ensures.copies)

pub returns-clause-copies : goal.returns-clause-copies
returns-clause-copies g c = c.loop-at.invariant.copies

pub returns-clause-known : goal.returns-clause-known
returns-clause-known g c =
    let all : take c.loop-at.at c.args.plan.now ≡ c.args.plan.now = take_all c.loop-at.at c.args.plan.now (omega arith) in
    c.loop-at.invariant.known ∙ ap (λ (l : List PlannedChunk). known_filled (known_of c.args.from.now).shape l (known_of c.args.to.now)) all

pub returns-clause-carried : goal.returns-clause-carried
returns-clause-carried g c = λ r e s made stands.
    let h : Shape = (known_of c.args.from.now).shape in
    let plan : List PlannedChunk = c.args.plan.now in
    let all : take c.loop-at.at plan ≡ plan = take_all c.loop-at.at plan (omega arith) in
    let put = c.loop-at.invariant.so_far r e s made stands in
    let chunks : List NewChunk = chunks_planned r plan in
    let has : HasPut g.E.Disk.state h.kind h.params chunks c.loop-at.to = subst (λ (l : List PlannedChunk). HasPut g.E.Disk.state h.kind h.params (chunks_planned r l) c.loop-at.to) all put.0 in
    let each : All IsChunk chunks = subst (λ (l : List PlannedChunk). All IsChunk (chunks_planned r l)) all put.1 in (
      made_with h.kind h.params chunks,
      has.stands,
      carried_is_making h.kind h.params chunks e c.requires.good made c.requires.ready.meta (record { each = each; few = omega (arith, length-map plan (chunk_planned r.bytes), c.requires.ready.plan_is.few) }),
    )

pub returns-in_err-put_planned-clause-asked : goal.returns-in_err-put_planned-clause-asked
returns-in_err-put_planned-clause-asked g c =
    let plan : List PlannedChunk = c.args.plan.now in
    let x : PlannedChunk = c.index-plan-at.result in
    asks_then _ _ _ _ _ _ c.loop-at.invariant.asked c.put_planned.ensures.asked (omega (arith, sum_by_more_le bytes_read plan c.loop-at.at x (omega arith), ap bytes_read c.index-plan-at.is))

pub returns-in_err-put_planned-clause-unasked : goal.returns-in_err-put_planned-clause-unasked
returns-in_err-put_planned-clause-unasked g c = c.put_planned.ensures.unasked ∙ c.loop-at.invariant.unasked

pub returns-clause-asked : goal.returns-clause-asked
returns-clause-asked g c = asks_less _ _ _ _ (sum_by-take-le bytes_read c.args.plan.now c.loop-at.at) c.loop-at.invariant.asked
