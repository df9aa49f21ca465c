use Rattle.std.proofs.Common.{sym, subst, ℕ, All, arith}
use Rattle.snd_layout.specs.Opened.{EndsIn}
use Rattle.snd_edits.proofs.Public.{broken_is}
use Rattle.snd_file.proofs.Cached.{still_cached}
use Rattle.snd_file.proofs.KindHeads.{head_same}
use Rattle.snd_file.proofs.handle.File.check_blocks.Goals as goal

pub invariant_of-self : goal.invariant_of-self
invariant_of-self g c =
    let state = g.D.Disk.state in
    let file = c.args.self.now in
    let keeps = c.check_any.ensures.reads.keeps in
    record {
      stands = λ working. omega (arith, keeps.size, file.stands working);
      placed = file.placed;
      write_placed = file.write_placed;
      linear = file.linear;
      encodes = file.encodes;
      paced = file.paced;
      roomy = file.roomy;
      unwritten = file.unwritten;
      blocks = file.blocks;
      cached = λ reads. still_cached state file.disk.now c.check_any.new.disk file.layout file.cache keeps.contents (file.cached reads);
      room_ends = file.room_ends;
      sized = file.sized;
      pieces_held = λ reads working. subst (λ (n : ℕ). All (EndsIn n) file.layout.pieces) (sym keeps.size) (file.pieces_held reads working);
      headed = λ makes empty working holds. head_same (state file.disk.now) (state c.check_any.new.disk) file.layout holds keeps.size keeps.contents (file.headed makes empty working holds);
      counted = file.counted;
      closed = λ automatic working free. omega (arith, keeps.size, file.closed automatic working free);
    }

pub invariant_of-self-in-Err-BadBlock : goal.invariant_of-self-in-Err-BadBlock
invariant_of-self-in-Err-BadBlock g c =
    let state = g.D.Disk.state in
    let file = c.args.self.now in
    let keeps = c.check_any.ensures.reads.keeps in
    record {
      stands = λ working. omega (arith, keeps.size, file.stands working);
      placed = file.placed;
      write_placed = file.write_placed;
      linear = file.linear;
      encodes = file.encodes;
      paced = file.paced;
      roomy = file.roomy;
      unwritten = file.unwritten;
      blocks = file.blocks;
      cached = λ reads. still_cached state file.disk.now c.check_any.new.disk file.layout file.cache keeps.contents (file.cached reads);
      room_ends = file.room_ends;
      sized = file.sized;
      pieces_held = λ reads working. subst (λ (n : ℕ). All (EndsIn n) file.layout.pieces) (sym keeps.size) (file.pieces_held reads working);
      headed = λ makes empty working holds. head_same (state file.disk.now) (state c.check_any.new.disk) file.layout holds keeps.size keeps.contents (file.headed makes empty working holds);
      counted = file.counted;
      closed = λ automatic working free. omega (arith, keeps.size, file.closed automatic working free);
    }

pub invariant_of-self-in-Err-DiskFault : goal.invariant_of-self-in-Err-DiskFault
invariant_of-self-in-Err-DiskFault g c =
    let state = g.D.Disk.state in
    let file = c.args.self.now in
    let keeps = c.check_any.ensures.reads.keeps in
    record {
      stands = λ working. broken_is _ working;
      placed = file.placed;
      write_placed = file.write_placed;
      linear = file.linear;
      encodes = file.encodes;
      paced = λ encodes working. broken_is _ working;
      roomy = file.roomy;
      unwritten = file.unwritten;
      blocks = file.blocks;
      cached = λ reads. still_cached state file.disk.now c.check_any.new.disk file.layout file.cache keeps.contents (file.cached reads);
      room_ends = file.room_ends;
      sized = file.sized;
      pieces_held = λ reads working. broken_is _ working;
      headed = λ makes empty working holds. broken_is _ working;
      counted = λ automatic working. broken_is _ working;
      closed = λ automatic working free. broken_is _ working;
    }
