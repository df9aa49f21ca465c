use Rattle.std.proofs.Common.{rules, ◌≡◌, ◌∙◌, ap, sym, subst, ℕ, ◌-◌, All, Option, None, Some, length, min, arith}
use Rattle.std.specs.Prelude.{IfSome}
use Rattle.std.proofs.lemmas.List.{length-take-le}
use Rattle.snd_layout.specs.Opened.{EndsIn}
use Rattle.snd_layout.specs.declared.piece.Piece.{Piece}
use Rattle.snd_edits.specs.Pieces.{body_of, first_piece, has_name}
use Rattle.snd_edits.proofs.Public.{broken_is}
use Rattle.snd_file.proofs.Cached.{still_cached}
use Rattle.snd_file.proofs.KindHeads.{head_same}
use Rattle.snd_frames.proofs.Public.{all_read, found_has, whole_body, written_back}
use Rattle.snd_file.proofs.handle.File.piece_bytes.Goals as goal

pub invariant_of-self : goal.invariant_of-self
invariant_of-self g c =
    let state = g.D.Disk.state in
    let file = c.args.self.now in
    let keeps = c.read_front.ensures.reads.keeps in
    record {
      stands = λ working. omega (arith, keeps.size, file.stands working);
      placed = file.placed;
      write_placed = file.write_placed;
      linear = file.linear;
      encodes = file.encodes;
      paced = file.paced;
      roomy = file.roomy;
      unwritten = file.unwritten;
      blocks = file.blocks;
      cached = λ reads. still_cached state file.disk.now c.read_front.new.disk file.layout file.cache keeps.contents (file.cached reads);
      room_ends = file.room_ends;
      sized = file.sized;
      pieces_held = λ reads working. subst (λ (n : ℕ). All (EndsIn n) file.layout.pieces) (sym keeps.size) (file.pieces_held reads working);
      headed = λ makes empty working holds. head_same (state file.disk.now) (state c.read_front.new.disk) file.layout holds keeps.size keeps.contents (file.headed makes empty working holds);
      counted = file.counted;
      closed = λ automatic working free. omega (arith, keeps.size, file.closed automatic working free);
    }

pub returns-in-Ok-clause-body : goal.returns-in-Ok-clause-body
returns-in-Ok-clause-body g c = λ e stands.
    let piece = c.in_ok-piece.piece in
    let n = c.in-Ok.count in
    let size = (g.D.Disk.state c.args.self.now.disk.now).size in
    let len : length c.deref_mut.result.now ≡ piece.len = search rules in
    let count : n ≡ min piece.len (size - piece.at) = omega (arith, c.in-Ok.ensures.count, len) in
    let kept = written_back n c.in_ok-body.body.len c.read_front.new.into _ (omega (arith, c.in_ok-body.ensures.len, count)) (omega (arith, c.read_front.auto.into, len, count)) in
    let body = c.truncate.ensures.items ∙ kept ∙ whole_body e.bytes c.read_front.new.into piece size n (g.met.D.Disk.size_told c.args.self.now.disk.now e.bytes stands.bytes) count (c.in-Ok.ensures.told e.bytes stands.bytes) in
    let found : first_piece c.args.id.0 e.shape ≡ Some piece = ap (first_piece c.args.id.0) (sym stands.shape) ∙ c.in_ok-piece.ensures.found in
    subst (λ (o : Option Piece). IfSome o (λ p. c.truncate.new.self.items ≡ body_of e.bytes p)) (sym found) body

pub returns-in-Ok-clause-whole : goal.returns-in-Ok-clause-whole
returns-in-Ok-clause-whole g c = λ reads.
    let piece = c.in_ok-piece.piece in
    let n = c.in-Ok.count in
    let size = (g.D.Disk.state c.args.self.now.disk.now).size in
    let working : c.args.self.now.broken ≡ None = search rules in
    let len : length c.deref_mut.result.now ≡ piece.len = search rules in
    let found = c.in_ok-piece.ensures.found in
    let ends : EndsIn size piece = found_has (EndsIn size) (has_name c.args.id.0) c.args.self.now.layout.pieces piece (c.args.self.now.pieces_held reads working) found in
    let all : n ≡ piece.len = all_read piece size piece.len n ends (omega arith) (omega (arith, c.in-Ok.ensures.count, len)) in
    let given : length c.truncate.new.self.items ≡ piece.len =
    ap length (c.truncate.ensures.items ∙ written_back n c.in_ok-body.body.len c.read_front.new.into _ (omega (arith, c.in_ok-body.ensures.len, all)) (omega (arith, c.read_front.auto.into, len, all))) ∙ length-take-le n c.read_front.new.into (omega (arith, all, len, c.read_front.auto.into)) ∙ all in
    subst (λ (o : Option Piece). IfSome o (λ p. length c.truncate.new.self.items ≡ p.len)) (sym found) given

pub invariant_of-self-in-Err : goal.invariant_of-self-in-Err
invariant_of-self-in-Err g c =
    let state = g.D.Disk.state in
    let file = c.args.self.now in
    record {
      stands = λ working. broken_is _ working;
      placed = file.placed;
      write_placed = file.write_placed;
      linear = file.linear;
      encodes = file.encodes;
      paced = λ encodes working. broken_is _ working;
      roomy = file.roomy;
      unwritten = file.unwritten;
      blocks = file.blocks;
      cached = λ reads. still_cached state file.disk.now c.read_front.new.disk file.layout file.cache c.read_front.ensures.reads.keeps.contents (file.cached reads);
      room_ends = file.room_ends;
      sized = file.sized;
      pieces_held = λ reads working. broken_is _ working;
      headed = λ makes empty working. broken_is _ working;
      counted = λ automatic working. broken_is _ working;
      closed = λ automatic working. broken_is _ working;
    }
