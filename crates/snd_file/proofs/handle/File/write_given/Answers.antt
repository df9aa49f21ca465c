use Rattle.std.proofs.Common.{rules, ◌≡◌, ◌∙◌, ap, sym, subst, refl, false, ℕ, ◌+◌, ◌-◌, ◌/◌, ◌^◌, ◌≤◌, Bool, ◌||◌, Some, None, option_map, length, arith}
use Rattle.std.specs.Prelude.{is_none, is_some, nat_lt}
use Rattle.std.proofs.lemmas.Bool.{ltb-false, or_parts}
use Rattle.std.proofs.lemmas.List.{nil_from_length}
use Rattle.snd_layout.specs.Shape.{Shape, end, room}
use Rattle.snd_edits.specs.Edits.{coded, count_written, written_bytes, written_shape, written_to}
use Rattle.snd_frames.specs.Given.{given}
use Rattle.snd_edits.specs.Pacing.{HasPlaceFor}
use Rattle.snd_container.specs.Sound.{fixed_of}
use Rattle.snd_layout.specs.Blocks.{is_adpcm}
use Rattle.snd_file.proofs.Encoded.{stands_again}
use Rattle.snd_edits.proofs.Public.{CanPut, broken_is, coded_size, known_is, still_closed, whole_frames, written_count, written_sound}
use Rattle.snd_file.specs.Handle.{known_of}
use Rattle.snd_edits.specs.Reading.{bytes_of_frames}
use Rattle.snd_file.proofs.AtRest.{stays_refused_as, still_safe, written_at_rest, written_leaves}
use Rattle.snd_file.proofs.BareHeads.{written_head}
use Rattle.snd_file.proofs.KeptChunks.{stay_written}
use Rattle.snd_file.proofs.handle.File.write_given.Goals as goal

pub invariant_of-self-in-Ok-clause-closed : goal.invariant_of-self-in-Ok-clause-closed
invariant_of-self-in-Ok-clause-closed g c = λ auto working free.
    let h = c.args.self.now.layout in
    still_closed c.args.self.now.automatic h c.write_over.new.layout _ _ c.in-Ok.ensures.layout (c.in-Ok.ensures.closed auto) free

pub returns-in-Ok-clause-stands : goal.returns-in-Ok-clause-stands
returns-in-Ok-clause-stands g c = λ e stands.
    let xs = (given c.args.self.now.layout c.args.from) in
    let h = c.args.self.now.layout in
    let place = c.args.self.now.write_place in
    let auto = c.args.self.now.automatic in
    let k = length xs / e.shape.params.channels in
    let working : c.args.self.now.broken ≡ None = search rules in
    let total : c.in_ok-next.next - place ≡ k = omega (arith, c.in_ok-next.ensures.value, ap (λ (s : Shape). length xs / s.params.channels) stands.shape) in
    let told = g.met.D.Disk.size_told c.args.self.now.disk.now e.bytes stands.bytes in
    let can : CanPut h e.bytes place (length xs / h.params.channels) xs = record {
      rule = c.end_of_write.ensures.rule;
      linear = c.args.self.now.linear g.met.M.CanWrite.places;
      some = c.end_of_write.ensures.some;
      fits = omega (arith, told, c.args.self.now.stands working);
      within = c.args.self.now.write_placed g.met.M.CanWrite.places;
      whole = whole_frames (length xs) h.params.channels _ c.end_of_write.ensures.some c.in_ok-next.ensures.ready.frames.whole refl;
      fit = c.in_ok-next.ensures.ready.frames.in_range;
    } in
    let can' : CanPut e.shape e.bytes e.write_place k xs =
    subst (λ (p : ℕ). CanPut e.shape e.bytes p k xs) stands.write_place (subst (λ (s : Shape). CanPut s e.bytes place (length xs / s.params.channels) xs) stands.shape can) in
    let n = count_written e.shape e.write_place k in
    let bytes : (g.D.Disk.state c.write_over.new.disk).contents ≡ Some (written_bytes e.automatic e.bytes e.shape e.write_place n xs) =
    c.in-Ok.ensures.contents
    ∙ ap (option_map (λ b. written_bytes auto b h place (count_written h place (c.in_ok-next.next - place)) xs)) stands.bytes
    ∙ ap (λ (m : ℕ). Some (written_bytes auto e.bytes h place (count_written h place m) xs)) total
    ∙ ap (λ (s : Shape). Some (written_bytes auto e.bytes s place (count_written s place k) xs)) stands.shape
    ∙ ap (λ (p : ℕ). Some (written_bytes auto e.bytes e.shape p (count_written e.shape p k) xs)) stands.write_place
    ∙ ap (λ (a : Bool). Some (written_bytes a e.bytes e.shape e.write_place n xs)) stands.automatic in
    let shape : c.write_over.new.layout ≡ written_shape e.automatic e.shape n =
    c.in-Ok.ensures.layout
    ∙ ap (λ (m : ℕ). written_shape auto h (count_written h place m)) total
    ∙ ap (λ (s : Shape). written_shape auto s (count_written s place k)) stands.shape
    ∙ ap (λ (p : ℕ). written_shape auto e.shape (count_written e.shape p k)) stands.write_place
    ∙ ap (λ (a : Bool). written_shape a e.shape n) stands.automatic in
    let ends : end h (count_written h place (c.in_ok-next.next - place)) ≡ end e.shape n =
    ap (λ (m : ℕ). end h (count_written h place m)) total ∙ ap (λ (s : Shape). end s (count_written s place k)) stands.shape ∙ ap (λ (p : ℕ). end e.shape (count_written e.shape p k)) stands.write_place in
    let long : end e.shape n ≤ length (written_bytes e.automatic e.bytes e.shape e.write_place n xs) =
    omega (arith, ends, c.in-Ok.ensures.size, g.met.D.Disk.size_told c.write_over.new.disk _ bytes) in
    record {
      bytes = bytes;
      shape = shape;
      place = stands.place;
      write_place = omega (arith, c.in_ok-next.ensures.value, stands.write_place, ap (λ (s : Shape). length xs / s.params.channels) stands.shape);
      automatic = stands.automatic;
      written = ap (λ (t : Bool). t || nat_lt 0 (c.in_ok-next.next - place)) stands.written ∙ ap (λ (m : ℕ). e.written || nat_lt 0 m) total;
      sound = written_sound e k xs can' stands.sound long;
      count = written_count e k xs can' stands.count;
      none_given = stands.none_given;
      given = λ encodes. absurd (let by_place = g.met.M.CanWrite.by_place in cc);
    }

pub returns-in-Ok-clause-left : goal.returns-in-Ok-clause-left
returns-in-Ok-clause-left g c =
    let working : c.args.self.now.broken ≡ None = search rules in
    (working, c.in_ok-next.ensures.ready, known_is (given c.args.self.now.layout c.args.from) (known_of c.args.self.now) c.write_over.new.layout c.in_ok-next.next c.in_ok-next.ensures.value c.in-Ok.ensures.layout)

pub returns-in-Ok-clause-leaves : goal.returns-in-Ok-clause-leaves
returns-in-Ok-clause-leaves g c = λ auto opened e rest.
    written_leaves g.D.Disk c.args.self.now g.met.M.CanWrite.by_place opened e (given c.args.self.now.layout c.args.from) rest auto c.in_ok-next.ensures.ready
    (c.in_ok-next.next - c.args.self.now.write_place) c.write_over.new.disk (omega (arith, c.in_ok-next.ensures.value)) c.write_over.ensures.leaves

pub returns-in-Err-clause-leaves : goal.returns-in-Err-clause-leaves
returns-in-Err-clause-leaves g c = λ auto opened e rest.
    written_leaves g.D.Disk c.args.self.now g.met.M.CanWrite.by_place opened e (given c.args.self.now.layout c.args.from) rest auto c.in_ok-next.ensures.ready
    (c.in_ok-next.next - c.args.self.now.write_place) c.write_over.new.disk (omega (arith, c.in_ok-next.ensures.value)) c.write_over.ensures.leaves

pub returns-in-Some-clause-leaves : goal.returns-in-Some-clause-leaves
returns-in-Some-clause-leaves g c = λ auto opened e rest. still_safe g.D.Disk c.args.self.now g.met.D.Disk.only_now opened e _ rest

pub returns-in_err-next-clause-leaves : goal.returns-in_err-next-clause-leaves
returns-in_err-next-clause-leaves g c = λ auto opened e rest. still_safe g.D.Disk c.args.self.now g.met.D.Disk.only_now opened e _ rest

pub returns-in-Ok-clause-rests : goal.returns-in-Ok-clause-rests
returns-in-Ok-clause-rests g c = λ auto opened e rest.
    written_at_rest g.D.Disk c.args.self.now g.met.M.CanWrite.by_place opened e (given c.args.self.now.layout c.args.from) rest auto c.in_ok-next.ensures.ready _ (returns-in-Ok-clause-stands g c e rest.stands) (c.in-Ok.ensures.stable auto)

pub invariant_of-self-in-Ok-clause-headed : goal.invariant_of-self-in-Ok-clause-headed
invariant_of-self-in-Ok-clause-headed g c = λ makes empty working.
    let state = g.D.Disk.state in
    let file = c.args.self.now in
    let h = file.layout in
    let xs = (given c.args.self.now.layout c.args.from) in
    let before : file.broken ≡ None = search rules in
    let count = c.in_ok-next.next - file.write_place in
    let unwritten = or_parts file.written (nat_lt 0 count) empty in
    let none : count ≡ 0 = omega (arith, ltb-false 0 count unwritten.1) in
    let whole = whole_frames (length xs) h.params.channels count c.end_of_write.ensures.some c.in_ok-next.ensures.ready.frames.whole (omega (arith, c.in_ok-next.ensures.value)) in
    let bytes : bytes_of_frames h.params 0 ≡ 0 = omega arith in
    let size : length (coded h.params xs) ≡ 0 = coded_size h.params xs count (file.linear g.met.M.CanWrite.places) whole ∙ ap (bytes_of_frames h.params) none ∙ bytes in
    written_head (state file.disk.now) (state c.write_over.new.disk) h c.write_over.new.layout c.end_of_write.ensures.rule (file.headed makes unwritten.0 before) (g.met.D.Disk.size_told file.disk.now)
    file.automatic file.write_place (count_written h file.write_place count) xs (file.write_placed g.met.M.CanWrite.places) (ap (count_written h file.write_place) none) (nil_from_length (coded h.params xs) size)
    c.in-Ok.ensures.layout c.in-Ok.ensures.grows c.in-Ok.ensures.contents

pub returns-in-Ok-clause-chunks : goal.returns-in-Ok-clause-chunks
returns-in-Ok-clause-chunks g c = stay_written g.D.Disk c.args.self.now _ (given c.args.self.now.layout c.args.from) c.in_ok-next.ensures.ready (returns-in-Ok-clause-stands g c)

pub returns-in_err-next-clause-rests : goal.returns-in_err-next-clause-rests
returns-in_err-next-clause-rests g c = λ auto.
    stays_refused_as g.D.Disk c.args.self.now _ (written_to (given c.args.self.now.layout c.args.from)) (given c.args.self.now.layout c.args.from) c.args.self.now.layout c.args.self.now.write_place c.in_err-next.field-0.0 c.in_err-next.ensures.refused (λ opened e rest.
    record { state = rest.state; stands = stands_again g.D.Disk.state c.args.self.now _ e refl refl refl rest.stands; stable = rest.stable; fit = rest.fit; sized = rest.sized }) c.from_residual.result (search rules)

pub invariant_of-self-in-Err : goal.invariant_of-self-in-Err
invariant_of-self-in-Err g c =
    let file = c.args.self.now in
    let same : c.write_over.new.layout ≡ file.layout = c.in-Err.ensures.kept in
    record {
      stands = λ working. broken_is _ working;
      placed = subst (λ (l : Shape). file.read_place ≤ l.frames) (sym same) file.placed;
      write_placed = λ places. subst (λ (l : Shape). file.write_place ≤ l.frames) (sym same) (file.write_placed places);
      linear = λ places. subst (λ (l : Shape). is_none (fixed_of l.params.codec) ≡ false) (sym same) (file.linear places);
      blocks = λ by_place. subst (λ (l : Shape). is_some file.cache ≡ is_adpcm l.params.codec) (sym same) (file.blocks by_place);
      encodes = file.encodes;
      paced = λ encodes working. broken_is _ working;
      roomy = λ encodes. subst (λ (l : Shape). HasPlaceFor l file.write_place) (sym same) (file.roomy encodes);
      unwritten = file.unwritten;
      cached = λ reads. absurd (let writes = g.met.M.CanSeal.writes in cc);
      room_ends = subst (λ (l : Shape). l.start + room l + 8 ≤ 2 ^ 63) (sym same) file.room_ends;
      sized = λ writes. subst (λ (l : Shape). l.unknown_length ≡ false) (sym same) (file.sized writes);
      pieces_held = λ reads working. broken_is _ working;
      headed = λ makes empty working. broken_is _ working;
      counted = λ automatic working. broken_is _ working;
      closed = λ automatic working free. broken_is _ working;
    }
