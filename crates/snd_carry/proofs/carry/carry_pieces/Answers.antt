use Rattle.std.proofs.Common.{rules, ◌≡◌, ◌∙◌, ap, sym, subst, refl, ℕ, ◌+◌, ◌*◌, ◌<◌, ◌≤◌, true, false, List, [], ◌∷◌, ◌++◌, None, Some, length, take, arith, length-append}
use Rattle.std.proofs.lemmas.Option.{slice_get-get_or}
use Rattle.std.specs.Prelude.{slice_get}
use Rattle.snd_disk.specs.Device.{WritesAtMost}
use Rattle.snd_disk.proofs.Public.{goes_on_then, only_reads_then}
use Rattle.snd_layout.specs.declared.piece.Piece.{Piece}
use Rattle.snd_edits.specs.Known.{Known}
use Rattle.snd_file.specs.Handle.{known_of}
use Rattle.snd_layout.specs.Kinds.{holds_meta}
use Rattle.snd_edits.specs.PieceCalls.{known_put}
use Rattle.snd_chunks.specs.Heads.{outline}
use Rattle.snd_carry.specs.Carried.{carried_pieces, is_carried}
use Rattle.snd_carry.specs.Carrying.{AsksForBodies, known_with}
use Rattle.snd_carry.proofs.Heads.{known_more, meta_with}
use Rattle.snd_carry.proofs.Steps.{ChunksSoFar, SoFar, all_carried, all_chunks, chunks_more, count_of, known_none, no_chunks, none_yet, one_more, read_at}
use Rattle.snd_carry.proofs.Taken.{all_asked, all_taken, bodies_so_far, body_asked, carried_full, carried_more, carried_other, few_carried, last_asked, more_asked, nowhere, within_all}
use Rattle.snd_carry.proofs.carry.carry_pieces.Goals as goal

pub loop-place-init : goal.loop-place-init
loop-place-init g c = record {
  from_loan = refl;
  to_loan = refl;
  same = refl;
  known = known_none (known_of c.args.to.now) c.requires.empty;
  so_far = none_yet g.D.Disk.state g.E.Disk.state c.args.from.now c.args.to.now c.requires.meta;
  chunks = no_chunks g.D.Disk.state c.args.from.now;
  begins = λ opened. opened;
  stands = λ e s. s;
  from_calm = refl;
  to_calm = refl;
  reads = search rules;
  tells = search rules;
  asked = search rules;
  written = search rules;
  unasked = refl;
  time = search rules;
}

pub unreachable-requires : goal.unreachable-requires
unreachable-requires g c =
    let ps : List Piece = (known_of c.args.from.now).shape.pieces in
    let place : ℕ = c.loop-place.place in
    let none : slice_get ps place ≡ None = read_at (known_of c.args.from.now) (known_of c.loop-place.from) c.pieces-in-loop-place.result.now place c.get.result None c.loop-place.invariant.same c.pieces-in-loop-place.ensures c.get.ensures c.in_default.is in
    let within : place < length ps = omega (arith, c.loop-place-test.true, c.len-count.ensures, ap length c.pieces.ensures) in
    let some = slice_get-get_or ps place nowhere within in
    cc

pub loop-place-preserved-then-not-is_carried : goal.loop-place-preserved-then-not-is_carried
loop-place-preserved-then-not-is_carried g c =
    let ps : List Piece = (known_of c.args.from.now).shape.pieces in
    let k : Known = known_of c.args.to.now in
    let place : ℕ = c.loop-place.place in
    let piece : Piece = c.in-Some.piece in
    let was = c.loop-place.invariant in
    let here : slice_get ps place ≡ Some piece = read_at (known_of c.args.from.now) (known_of c.loop-place.from) c.pieces-in-loop-place.result.now place c.get.result (Some piece) was.same c.pieces-in-loop-place.ensures c.get.ensures c.in-Some.is in
    let other : is_carried piece ≡ false = sym c.is_carried.ensures.carried ∙ c.if-not-is_carried.true in
    let same : carried_pieces (take (place + 1) ps) ≡ carried_pieces (take place ps) = carried_other ps place piece here other in
    record {
      from_loan = was.from_loan;
      to_loan = was.to_loan;
      same = was.same;
      known = was.known ∙ ap (λ (l : List Piece). known_with l k) (sym same);
      so_far = subst (SoFar g.D.Disk.state g.E.Disk.state c.args.from.now c.args.to.now c.loop-place.to) (sym same) was.so_far;
      chunks = subst (ChunksSoFar g.D.Disk.state c.args.from.now) (sym same) was.chunks;
      begins = was.begins;
      stands = was.stands;
      from_calm = was.from_calm;
      to_calm = was.to_calm;
      reads = was.reads;
      tells = was.tells;
      asked = subst (λ (l : List Piece). AsksForBodies g.D.Disk.state l c.args.from.now c.loop-place.from) (sym same) was.asked;
      written = subst (λ (l : List Piece). WritesAtMost g.E.Disk.state (16777216 * length l) c.args.to.now.disk.now c.loop-place.to.disk.now) (sym same) was.written;
      unasked = was.unasked;
      time = was.time;
    }

pub loop-place-preserved-then-len-eq-MOST_PIECES : goal.loop-place-preserved-then-len-eq-MOST_PIECES
loop-place-preserved-then-len-eq-MOST_PIECES g c =
    let ps : List Piece = (known_of c.args.from.now).shape.pieces in
    let k : Known = known_of c.args.to.now in
    let place : ℕ = c.loop-place.place in
    let piece : Piece = c.in-Some.piece in
    let was = c.loop-place.invariant in
    let xs : List Piece = carried_pieces (take place ps) in
    let here : slice_get ps place ≡ Some piece = read_at (known_of c.args.from.now) (known_of c.loop-place.from) c.pieces-in-loop-place.result.now place c.get.result (Some piece) was.same c.pieces-in-loop-place.ensures c.get.ensures c.in-Some.is in
    let many : c.len.result ≡ length xs = count_of k (known_of c.loop-place.to) xs c.pieces-in-loop-place-2.result.now c.len.result c.requires.meta was.known c.pieces-in-loop-place-2.ensures c.len.ensures in
    let full : 240 ≤ length xs = omega (arith, many, c.if-len-eq-MOST_PIECES.true) in
    let same : carried_pieces (take (place + 1) ps) ≡ xs = carried_full ps place piece here full in
    record {
      from_loan = was.from_loan;
      to_loan = was.to_loan;
      same = was.same;
      known = was.known ∙ ap (λ (l : List Piece). known_with l k) (sym same);
      so_far = subst (SoFar g.D.Disk.state g.E.Disk.state c.args.from.now c.args.to.now c.loop-place.to) (sym same) was.so_far;
      chunks = subst (ChunksSoFar g.D.Disk.state c.args.from.now) (sym same) was.chunks;
      begins = was.begins;
      stands = was.stands;
      from_calm = was.from_calm;
      to_calm = was.to_calm;
      reads = was.reads;
      tells = was.tells;
      asked = subst (λ (l : List Piece). AsksForBodies g.D.Disk.state l c.args.from.now c.loop-place.from) (sym same) was.asked;
      written = subst (λ (l : List Piece). WritesAtMost g.E.Disk.state (16777216 * length l) c.args.to.now.disk.now c.loop-place.to.disk.now) (sym same) was.written;
      unasked = was.unasked;
      time = was.time;
    }

pub carry_chunk-requires-clause-meta : goal.carry_chunk-requires-clause-meta
carry_chunk-requires-clause-meta g c =
    let xs : List Piece = carried_pieces (take c.loop-place.place (known_of c.args.from.now).shape.pieces) in
    ap (λ (k : Known). holds_meta k.shape.kind) c.loop-place.invariant.known ∙ meta_with xs (known_of c.args.to.now) c.requires.meta

pub carry_chunk-requires-clause-few : goal.carry_chunk-requires-clause-few
carry_chunk-requires-clause-few g c =
    let ps : List Piece = (known_of c.args.from.now).shape.pieces in
    let xs : List Piece = carried_pieces (take c.loop-place.place ps) in
    let many : c.len.result ≡ length xs = count_of (known_of c.args.to.now) (known_of c.loop-place.to) xs c.pieces-in-loop-place-2.result.now c.len.result c.requires.meta c.loop-place.invariant.known c.pieces-in-loop-place-2.ensures c.len.ensures in
    omega (arith, many, few_carried (take c.loop-place.place ps), c.if-len-eq-MOST_PIECES.false, c.len.ensures, ap length c.pieces-in-loop-place-2.ensures)

pub loop-place-preserved : goal.loop-place-preserved
loop-place-preserved g c =
    let ps : List Piece = (known_of c.args.from.now).shape.pieces in
    let k : Known = known_of c.args.to.now in
    let place : ℕ = c.loop-place.place in
    let piece : Piece = c.in-Some.piece in
    let was = c.loop-place.invariant in
    let xs : List Piece = carried_pieces (take place ps) in
    let here : slice_get ps place ≡ Some piece = read_at (known_of c.args.from.now) (known_of c.loop-place.from) c.pieces-in-loop-place.result.now place c.get.result (Some piece) was.same c.pieces-in-loop-place.ensures c.get.ensures c.in-Some.is in
    let is : is_carried piece ≡ true = sym c.is_carried.ensures.carried ∙ c.if-not-is_carried.false in
    let many : c.len.result ≡ length xs = count_of k (known_of c.loop-place.to) xs c.pieces-in-loop-place-2.result.now c.len.result c.requires.meta was.known c.pieces-in-loop-place-2.ensures c.len.ensures in
    let few : length xs < 240 = omega (arith, many, few_carried (take place ps), c.if-len-eq-MOST_PIECES.false) in
    let more : carried_pieces (take (place + 1) ps) ≡ xs ++ piece ∷ [] = carried_more ps place piece here is few in
    let did = c.in_ok-carry_chunk.ensures in
    record {
      from_loan = did.from_loan ∙ was.from_loan;
      to_loan = did.to_loan ∙ was.to_loan;
      same = did.same ∙ was.same;
      known = did.known ∙ ap (λ (k : Known). known_put (length k.shape.pieces) (outline piece) k) was.known ∙ known_more xs piece k c.requires.meta ∙ ap (λ (l : List Piece). known_with l k) (sym more);
      so_far = subst (SoFar g.D.Disk.state g.E.Disk.state c.args.from.now c.args.to.now c.carry_chunk.new.to) (sym more)
          (one_more g.D.Disk.state g.E.Disk.state c.args.from.now c.args.to.now c.requires.meta c.loop-place.from c.loop-place.to c.carry_chunk.new.to xs piece was.so_far was.stands did.carries did.holds);
      chunks = subst (ChunksSoFar g.D.Disk.state c.args.from.now) (sym more) (chunks_more g.D.Disk.state c.args.from.now c.loop-place.from xs piece was.chunks was.stands did.chunk);
      begins = λ opened. did.begins;
      stands = λ e s. did.stands e (was.stands e s);
      from_calm = did.faults.0 ∙ was.from_calm;
      to_calm = did.faults.1 ∙ was.to_calm;
      reads = only_reads_then _ _ _ _ _ _ _ _ _ was.reads did.reads;
      tells = record { told = did.tells.told ∙ was.tells.told; name = did.tells.name ∙ was.tells.name };
      asked = body_asked _ _ _ xs _ piece more was.asked did.asked;
      written = more_asked _ _ _ 16777216 _ _ (ap length more ∙ length-append xs (piece ∷ [])) was.written did.written;
      unasked = did.unasked ∙ was.unasked;
      time = goes_on_then _ _ _ _ _ _ was.time did.time;
    }

pub returns-clause-carried : goal.returns-clause-carried
returns-clause-carried g c =
    let ps : List Piece = (known_of c.args.from.now).shape.pieces in
    let all : carried_pieces (take c.loop-place.place ps) ≡ carried_pieces ps = all_taken ps c.loop-place.place (omega (arith, c.loop-place-test.false, c.len-count.ensures, ap length c.pieces.ensures)) in
    all_carried g.D.Disk.state g.E.Disk.state c.args.from.now c.args.to.now c.loop-place.to
    (subst (SoFar g.D.Disk.state g.E.Disk.state c.args.from.now c.args.to.now c.loop-place.to) all c.loop-place.invariant.so_far)

pub returns-clause-chunks : goal.returns-clause-chunks
returns-clause-chunks g c =
    let ps : List Piece = (known_of c.args.from.now).shape.pieces in
    let all : carried_pieces (take c.loop-place.place ps) ≡ carried_pieces ps = all_taken ps c.loop-place.place (omega (arith, c.loop-place-test.false, c.len-count.ensures, ap length c.pieces.ensures)) in
    all_chunks g.D.Disk.state c.args.from.now (subst (ChunksSoFar g.D.Disk.state c.args.from.now) all c.loop-place.invariant.chunks)

pub returns-in_err-carry_chunk-clause-asked : goal.returns-in_err-carry_chunk-clause-asked
returns-in_err-carry_chunk-clause-asked g c =
    let ps : List Piece = (known_of c.args.from.now).shape.pieces in
    let k : Known = known_of c.args.to.now in
    let place : ℕ = c.loop-place.place in
    let piece : Piece = c.in-Some.piece in
    let was = c.loop-place.invariant in
    let xs : List Piece = carried_pieces (take place ps) in
    let here : slice_get ps place ≡ Some piece = read_at (known_of c.args.from.now) (known_of c.loop-place.from) c.pieces-in-loop-place.result.now place c.get.result (Some piece) was.same c.pieces-in-loop-place.ensures c.get.ensures c.in-Some.is in
    let is : is_carried piece ≡ true = sym c.is_carried.ensures.carried ∙ c.if-not-is_carried.false in
    let many : c.len.result ≡ length xs = count_of k (known_of c.loop-place.to) xs c.pieces-in-loop-place-2.result.now c.len.result c.requires.meta was.known c.pieces-in-loop-place-2.ensures c.len.ensures in
    let few : length xs < 240 = omega (arith, many, few_carried (take place ps), c.if-len-eq-MOST_PIECES.false) in
    let more : carried_pieces (take (place + 1) ps) ≡ xs ++ piece ∷ [] = carried_more ps place piece here is few in
    within_all _ _ _ _ (bodies_so_far ps (place + 1)) (body_asked _ _ _ xs _ piece more was.asked c.carry_chunk.ensures.asked)

pub returns-in_err-carry_chunk-clause-written : goal.returns-in_err-carry_chunk-clause-written
returns-in_err-carry_chunk-clause-written g c =
    let ps : List Piece = (known_of c.args.from.now).shape.pieces in
    let k : Known = known_of c.args.to.now in
    let xs : List Piece = carried_pieces (take c.loop-place.place ps) in
    let many : c.len.result ≡ length xs = count_of k (known_of c.loop-place.to) xs c.pieces-in-loop-place-2.result.now c.len.result c.requires.meta c.loop-place.invariant.known c.pieces-in-loop-place-2.ensures c.len.ensures in
    let few : length xs < 240 = omega (arith, many, few_carried (take c.loop-place.place ps), c.if-len-eq-MOST_PIECES.false) in
    last_asked _ _ _ 16777216 (length xs) 4026531840 (omega arith) few c.loop-place.invariant.written c.carry_chunk.ensures.written

pub returns-clause-asked : goal.returns-clause-asked
returns-clause-asked g c = within_all _ _ _ _ (bodies_so_far (known_of c.args.from.now).shape.pieces c.loop-place.place) c.loop-place.invariant.asked

pub returns-clause-written : goal.returns-clause-written
returns-clause-written g c =
    let before : List Piece = take c.loop-place.place (known_of c.args.from.now).shape.pieces in
    all_asked _ _ 16777216 (length (carried_pieces before)) 4026531840 (omega arith) (few_carried before) c.loop-place.invariant.written
