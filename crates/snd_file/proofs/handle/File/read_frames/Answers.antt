use Rattle.std.proofs.Common.{rules, ◌≡◌, ◌++◌, ◌∙◌, ap, sym, subst, inl, inr, true, false, is_some, ℕ, ◌*◌, ◌-◌, ◌≤◌, All, length, take, drop, arith}
use Rattle.std.proofs.lemmas.Bool.{cases_Bool}
use Rattle.std.proofs.lemmas.List.{length-take-le, take-append-le, take_all}
use Rattle.snd_blocks.specs.Frames.{has_bad}
use Rattle.snd_layout.specs.Opened.{EndsIn}
use Rattle.snd_pcm.specs.Groups.{first_groups}
use Rattle.snd_blocks.specs.Sound.{frames_in}
use Rattle.snd_file.specs.Handle.{channels_of, codec_of}
use Rattle.snd_edits.specs.Reading.{FitCodec}
use Rattle.snd_file.specs.Reading.{front_of}
use Rattle.snd_file.proofs.KindHeads.{head_same}
use Rattle.snd_edits.proofs.Public.{frames_of_bytes, groups_of_piece, not_adpcm}
use Rattle.snd_file.proofs.handle.File.read_frames.Goals as goal

pub returns-in-Ok-clause-read : goal.returns-in-Ok-clause-read
returns-in-Ok-clause-read g c = λ e stands.
    let channels = c.args.self.now.layout.params.channels in
    let k = c.frames_ahead-count.result in
    let piece = c.read_any.new.into in
    let rest = drop (k * c.channels_of-channels.result) c.args.into.now in
    let place = c.args.self.now.read_place in
    let fits : k * c.channels_of-channels.result ≤ length c.args.into.now = search rules in
    let turn : k * c.channels_of-channels.result ≡ channels * k = ap (λ (m : ℕ). k * m) c.channels_of-channels.ensures.value ∙ (let e : k * channels ≡ channels * k = omega arith in e) in
    let size : length piece ≡ channels * k = omega (arith, turn, c.read_any.auto.into, length-take-le (k * c.channels_of-channels.result) c.args.into.now fits) in
    let front : first_groups channels k (piece ++ rest) ≡ first_groups channels k piece = groups_of_piece channels k piece rest size in
    let read : first_groups channels k piece ≡ take k (drop place (frames_in e.bytes c.args.self.now.layout)) = c.in-Ok.ensures.told e.bytes stands.bytes in
    let next = frames_of_bytes e c.args.self.now.layout place k stands.shape stands.place stands.sound in
    record { frames = front ∙ (read ∙ next); good = sym (ap has_bad next) ∙ c.in-Ok.ensures.good e.bytes stands.bytes }

pub invariant_of-self : goal.invariant_of-self
invariant_of-self g c =
    let state = g.D.Disk.state in
    let file = c.args.self.now in
    let keeps = c.read_any.ensures.reads.keeps in
    let ahead : c.frames_ahead-count.result ≤ file.layout.frames - file.read_place = search rules in
    record {
      stands = λ working. omega (arith, keeps.size, file.stands working);
      placed = omega (arith, file.placed, ahead);
      write_placed = file.write_placed;
      linear = file.linear;
      encodes = file.encodes;
      paced = file.paced;
      roomy = file.roomy;
      unwritten = file.unwritten;
      blocks = λ reads. c.read_any.ensures.blocks;
      cached = λ reads. c.read_any.ensures.cached;
      room_ends = file.room_ends;
      sized = file.sized;
      pieces_held = λ reads working. subst (λ (n : ℕ). All (EndsIn n) file.layout.pieces) (sym keeps.size) (file.pieces_held reads working);
      headed = λ makes empty working holds. head_same (state file.disk.now) (state c.read_any.new.disk) file.layout holds keeps.size keeps.contents (file.headed makes empty working holds);
      counted = file.counted;
      closed = λ automatic working free. omega (arith, keeps.size, file.closed automatic working free);
    }

pub invariant_of-self-in-Err-BadBlock : goal.invariant_of-self-in-Err-BadBlock
invariant_of-self-in-Err-BadBlock g c =
    let state = g.D.Disk.state in
    let file = c.args.self.now in
    let keeps = c.read_any.ensures.reads.keeps in
    record {
      stands = λ working. omega (arith, keeps.size, file.stands working);
      placed = file.placed;
      write_placed = file.write_placed;
      linear = file.linear;
      encodes = file.encodes;
      paced = file.paced;
      roomy = file.roomy;
      unwritten = file.unwritten;
      blocks = λ reads. c.read_any.ensures.blocks;
      cached = λ reads. c.read_any.ensures.cached;
      room_ends = file.room_ends;
      sized = file.sized;
      pieces_held = λ reads working. subst (λ (n : ℕ). All (EndsIn n) file.layout.pieces) (sym keeps.size) (file.pieces_held reads working);
      headed = λ makes empty working holds. head_same (state file.disk.now) (state c.read_any.new.disk) file.layout holds keeps.size keeps.contents (file.headed makes empty working holds);
      counted = file.counted;
      closed = λ automatic working free. omega (arith, keeps.size, file.closed automatic working free);
    }

pub returns-in-Ok-clause-in_range : goal.returns-in-Ok-clause-in_range
returns-in-Ok-clause-in_range g c =
    let k = c.frames_ahead-count.result in
    let n = k * c.channels_of-channels.result in
    let piece = c.read_any.new.into in
    let rest = drop n c.args.into.now in
    let fits : n ≤ length c.args.into.now = search rules in
    let turn : k * channels_of c.args.self.now ≡ n = ap (λ (m : ℕ). k * m) (sym c.channels_of-channels.ensures.value) in
    let size : length piece ≡ n = omega (arith, c.read_any.auto.into, length-take-le n c.args.into.now fits) in
    let front : front_of c.args.self.now k (piece ++ rest) ≡ piece =
    ap (λ (m : ℕ). take m (piece ++ rest)) turn ∙ take-append-le n piece rest (omega (arith, size)) ∙ take_all n piece (omega (arith, size)) in
    subst (FitCodec (codec_of c.args.self.now)) (sym front) c.in-Ok.ensures.in_range

pub read_any-requires-clause-cached : goal.read_any-requires-clause-cached
read_any-requires-clause-cached g c =
    let file = c.args.self.now in
    elim (cases_Bool g.M.Mode.WRITES) [
      | inl writes ↦ λ cache is. absurd
          (let places : g.M.Mode.PLACES ≡ true = g.M.Mode.ways writes g.met.M.CanRead.reads in
          let none : is_some file.cache ≡ false = file.blocks g.met.M.CanRead.reads ∙ not_adpcm file.layout.params.codec (file.linear places) in
          let some : is_some file.cache ≡ true = ap is_some is in
          cc)
      | inr only_reads ↦ file.cached only_reads
    ]
