use Rattle.std.proofs.Common.{rules, ◌≡◌, ◌∙◌, ap, sym, subst, refl, ℕ, ◌≤◌, ◌++◌, All, Option, None, Some, length, drop, min, arith}
use Rattle.std.specs.Prelude.{IfSome, slice_get}
use Rattle.std.proofs.lemmas.List.{length-take-le}
use Rattle.snd_layout.specs.Opened.{EndsIn}
use Rattle.snd_layout.specs.Shape.{Shape}
use Rattle.snd_layout.specs.declared.piece.Piece.{Piece}
use Rattle.snd_edits.specs.Pieces.{HasFront, body_of}
use Rattle.snd_edits.proofs.Public.{broken_is}
use Rattle.snd_file.proofs.Cached.{still_cached}
use Rattle.snd_file.proofs.KindHeads.{head_same}
use Rattle.snd_frames.proofs.Public.{all_read, front_read, got_has, rest_stays}
use Rattle.snd_file.proofs.handle.File.piece_read.Goals as goal

pub invariant_of-self : goal.invariant_of-self
invariant_of-self g c =
    let state = g.D.Disk.state in
    let file = c.args.self.now in
    let keeps = c.read_front.ensures.reads.keeps in
    record {
      stands = λ working. omega (arith, keeps.size, file.stands working);
      placed = file.placed;
      write_placed = file.write_placed;
      linear = file.linear;
      encodes = file.encodes;
      paced = file.paced;
      roomy = file.roomy;
      unwritten = file.unwritten;
      blocks = file.blocks;
      cached = λ reads. still_cached state file.disk.now c.read_front.new.disk file.layout file.cache keeps.contents (file.cached reads);
      room_ends = file.room_ends;
      sized = file.sized;
      pieces_held = λ reads working. subst (λ (n : ℕ). All (EndsIn n) file.layout.pieces) (sym keeps.size) (file.pieces_held reads working);
      headed = λ makes empty working holds. head_same (state file.disk.now) (state c.read_front.new.disk) file.layout holds keeps.size keeps.contents (file.headed makes empty working holds);
      counted = file.counted;
      closed = λ automatic working free. omega (arith, keeps.size, file.closed automatic working free);
    }

pub returns-in-Ok-clause-front : goal.returns-in-Ok-clause-front
returns-in-Ok-clause-front g c = λ e stands.
    let piece = c.piece_at-piece.result in
    let into = c.args.into.now in
    let k = c.min-count.result in
    let n = c.in-Ok.read in
    let wanted = c.read_front.new.into in
    let size = (g.D.Disk.state c.args.self.now.disk.now).size in
    let most : k ≡ min piece.len (length into) = search rules in
    let short = length-take-le k into (omega (arith, most)) in
    let found : slice_get e.shape.pieces c.args.place ≡ Some piece = ap (λ (s : Shape). slice_get s.pieces c.args.place) (sym stands.shape) ∙ c.piece_at-piece.ensures.found in
    let has : HasFront (body_of e.bytes piece) into (wanted ++ drop k into) n =
    front_read e.bytes into wanted (drop k into) (wanted ++ drop k into) piece size k n (g.met.D.Disk.size_told c.args.self.now.disk.now e.bytes stands.bytes) most
    (omega (arith, c.read_front.auto.into, short)) (omega (arith, c.in-Ok.ensures.count, short)) (c.in-Ok.ensures.told e.bytes stands.bytes) refl in
    subst (λ (o : Option Piece). IfSome o (λ p. HasFront (body_of e.bytes p) into (wanted ++ drop k into) n)) (sym found) has

pub returns-in-Ok-clause-rest : goal.returns-in-Ok-clause-rest
returns-in-Ok-clause-rest g c =
    let into = c.args.into.now in
    let k = c.min-count.result in
    let most : k ≡ min c.piece_at-piece.result.len (length into) = search rules in
    let fits : k ≤ length into = omega (arith, most) in
    let short = length-take-le k into fits in
    rest_stays into c.read_front.new.into k c.in-Ok.read (omega (arith, c.read_front.auto.into, short)) fits (omega (arith, c.in-Ok.ensures.count, short)) c.in-Ok.ensures.rest

pub returns-in-Ok-clause-whole : goal.returns-in-Ok-clause-whole
returns-in-Ok-clause-whole g c = λ reads.
    let piece = c.piece_at-piece.result in
    let into = c.args.into.now in
    let k = c.min-count.result in
    let size = (g.D.Disk.state c.args.self.now.disk.now).size in
    let working : c.args.self.now.broken ≡ None = search rules in
    let most : k ≡ min piece.len (length into) = search rules in
    let short = length-take-le k into (omega (arith, most)) in
    let found = c.piece_at-piece.ensures.found in
    let ends : EndsIn size piece = got_has (EndsIn size) c.args.self.now.layout.pieces c.args.place piece (c.args.self.now.pieces_held reads working) found in
    let all : c.in-Ok.read ≡ k = all_read piece size k c.in-Ok.read ends (omega (arith, most)) (omega (arith, c.in-Ok.ensures.count, short)) in
    subst (λ (o : Option Piece). IfSome o (λ p. c.in-Ok.read ≡ min (length into) p.len)) (sym found) (omega (arith, all, most))

pub invariant_of-self-in-Err : goal.invariant_of-self-in-Err
invariant_of-self-in-Err g c =
    let state = g.D.Disk.state in
    let file = c.args.self.now in
    record {
      stands = λ working. broken_is _ working;
      placed = file.placed;
      write_placed = file.write_placed;
      linear = file.linear;
      encodes = file.encodes;
      paced = λ encodes working. broken_is _ working;
      roomy = file.roomy;
      unwritten = file.unwritten;
      blocks = file.blocks;
      cached = λ reads. still_cached state file.disk.now c.read_front.new.disk file.layout file.cache c.read_front.ensures.reads.keeps.contents (file.cached reads);
      room_ends = file.room_ends;
      sized = file.sized;
      pieces_held = λ reads working. broken_is _ working;
      headed = λ makes empty working. broken_is _ working;
      counted = λ automatic working. broken_is _ working;
      closed = λ automatic working. broken_is _ working;
    }
