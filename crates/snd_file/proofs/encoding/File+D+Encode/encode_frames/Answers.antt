use Rattle.std.proofs.Common.{rules, ◌≡◌, ◌∙◌, ap, sym, subst, refl, inr, ◌+◌, ◌^◌, ◌≤◌, true, None, arith}
use Rattle.snd_layout.specs.Shape.{Shape, end, room}
use Rattle.snd_edits.specs.Encoding.{MayEncode, counting_whole, encoded_to, whole_frames}
use Rattle.snd_frames.specs.UnderWay.{LeavesGivenIn}
use Rattle.snd_edits.specs.WriteCalls.{end_written}
use Rattle.snd_file.proofs.AtRest.{still_safe}
use Rattle.snd_edits.proofs.Public.{are_16_bits, blocks_of, counted_within, data_more, declared_where, ends_where, frames_where, known_where, may_encode, more_frames, place_where, room_where, some_writer, whole_least, whole_reaches}
use Rattle.snd_file.proofs.EncodedRest.{given_at_rest, giving_is_safe, stays_refused_as}
use Rattle.snd_file.proofs.EncodedState.{encoded_stands}
use Rattle.snd_file.proofs.Encoded.{stands_again}
use Rattle.snd_edits.specs.Pacing.{HasPlaceFor}
use Rattle.snd_file.proofs.encoding.«File+D+Encode».encode_frames.Goals as goal

pub returns-in-Ok-clause-stands : goal.returns-in-Ok-clause-stands
returns-in-Ok-clause-stands g c =
    let file = c.args.self.now in
    let h = file.layout in
    let xs = c.args.from.now in
    let to = c.in_ok-next.next in
    let working : file.broken ≡ None = search rules in
    let fits = c.in_ok-next.ensures.fits in
    let form = blocks_of h c.end_of_encode.ensures.rule fits.blocks c.end_of_encode.ensures.params in
    let may = may_encode h to (whole_frames h.params to) form.some_frames fits file.room_ends (whole_least h form to) in
    let bytes = data_more h.params (whole_frames h.params to) to form.some_frames (whole_least h form to) in
    let w = some_writer true file.writer file.encodes refl in
    let w' = some_writer true c.give_writer.new.writer c.give_writer.ensures.some refl in
    let all = c.in-Ok.ensures.gives w.0 w'.0 w.1 w'.1 in
    encoded_stands g.D.Disk.state file _ xs to w.0 w'.0 (record {
      encodes = refl;
      writer = w.1;
      then = w'.1;
      takes = all.takes;
      holds = all.holds;
      known = search rules;
      reaches = c.in_ok-next.ensures.value;
      even = c.in_ok-next.ensures.ready.frames.whole;
      range = are_16_bits h.params.codec xs fits.blocks c.in_ok-next.ensures.ready.frames.in_range;
      rule = more_frames h (whole_frames h.params to) c.end_of_encode.ensures.rule (file.sized refl) may.1 (inr (omega (arith, bytes, fits.fits.in_room)));
      told = g.met.D.Disk.size_told file.disk.now;
      told_then = g.met.D.Disk.size_told c.give_writer.new.disk;
      there = file.stands working;
      there_then = ends_where file.automatic h to _ (subst (λ (l : Shape). end l l.frames ≤ (g.D.Disk.state c.give_writer.new.disk).size) c.in-Ok.ensures.layout c.in-Ok.ensures.held);
    })

pub invariant_of-self-in-Ok : goal.invariant_of-self-in-Ok
invariant_of-self-in-Ok g c =
    let file = c.args.self.now in
    let h = file.layout in
    let to = c.in_ok-next.next in
    let laid = c.in-Ok.ensures.layout in
    let working : file.broken ≡ None = search rules in
    let w = some_writer true file.writer file.encodes refl in
    let pace = file.paced refl working w.0 w.1 in
    let form = blocks_of h c.end_of_encode.ensures.rule c.in_ok-next.ensures.fits.blocks c.end_of_encode.ensures.params in
    let within = counted_within h file.write_place _ c.end_of_encode.ensures.params.some_channel pace in
    let more = whole_reaches h _ to form.some_frames pace.blocks (omega (arith, within, c.in_ok-next.ensures.value)) in
    record {
      stands = λ still. c.in-Ok.ensures.held;
      placed = omega (arith, file.placed, more, ap (λ (l : Shape). l.frames) laid, frames_where file.automatic (counting_whole h to) (whole_frames h.params to));
      write_placed = λ places. absurd (cc);
      linear = λ places. absurd (cc);
      blocks = λ by_place. absurd (cc);
      encodes = c.give_writer.ensures.some;
      paced = λ encodes still. c.in-Ok.ensures.paced;
      roomy = λ encodes. subst (λ (l : Shape). HasPlaceFor l to) (sym laid) (place_where file.automatic h to c.in_ok-next.ensures.fits);
      unwritten = λ encodes empty. absurd (cc);
      cached = λ reads. absurd (cc);
      room_ends = subst (λ (l : Shape). l.start + room l + 8 ≤ 2 ^ 63) (sym laid) (room_where file.automatic h to file.room_ends);
      sized = λ writes. ap (λ (l : Shape). l.unknown_length) laid ∙ known_where file.automatic h to ∙ file.sized refl;
      pieces_held = λ reads. absurd (cc);
      headed = λ makes empty. absurd (cc);
      counted = λ automatic still free other. declared_where file.automatic h to c.give_writer.new.layout automatic laid free;
      closed = λ automatic still free. c.in-Ok.ensures.closed automatic;
    }

-- what a crash leaves, from rest

pub returns-in-Some-clause-leaves : goal.returns-in-Some-clause-leaves
returns-in-Some-clause-leaves g c = λ auto opened e rest. still_safe g.D.Disk c.args.self.now g.met.D.Disk.only_now opened e _ rest

pub returns-in_err-next-clause-leaves : goal.returns-in_err-next-clause-leaves
returns-in_err-next-clause-leaves g c = λ auto opened e rest. still_safe g.D.Disk c.args.self.now g.met.D.Disk.only_now opened e _ rest

pub returns-in-Ok-clause-leaves : goal.returns-in-Ok-clause-leaves
returns-in-Ok-clause-leaves g c = λ auto opened e rest.
    let file = c.args.self.now in
    let xs = c.args.from.now in
    let w = some_writer true file.writer file.encodes refl in
    let may : MayEncode xs e.shape e.write_place = subst (MayEncode xs e.shape) rest.stands.write_place (subst (λ (s : Shape). MayEncode xs s file.write_place) rest.stands.shape c.in_ok-next.ensures.ready) in
    let reaches : c.in_ok-next.next ≡ end_written xs e.shape e.write_place =
    c.in_ok-next.ensures.value ∙ ap (λ (s : Shape). end_written xs s file.write_place) rest.stands.shape ∙ ap (end_written xs e.shape) rest.stands.write_place in
    giving_is_safe g.D.Disk opened file e refl rest w.0 w.1 c.give_writer.new.disk xs c.in_ok-next.next reaches may
    (subst (λ (s : Shape). LeavesGivenIn g.D.Disk s c.in_ok-next.next xs file.writer file.disk.now c.give_writer.new.disk) rest.stands.shape (c.give_writer.ensures.leaves auto))

pub returns-in-Err-clause-leaves : goal.returns-in-Err-clause-leaves
returns-in-Err-clause-leaves g c = λ auto opened e rest.
    let file = c.args.self.now in
    let xs = c.args.from.now in
    let w = some_writer true file.writer file.encodes refl in
    let may : MayEncode xs e.shape e.write_place = subst (MayEncode xs e.shape) rest.stands.write_place (subst (λ (s : Shape). MayEncode xs s file.write_place) rest.stands.shape c.in_ok-next.ensures.ready) in
    let reaches : c.in_ok-next.next ≡ end_written xs e.shape e.write_place =
    c.in_ok-next.ensures.value ∙ ap (λ (s : Shape). end_written xs s file.write_place) rest.stands.shape ∙ ap (end_written xs e.shape) rest.stands.write_place in
    giving_is_safe g.D.Disk opened file e refl rest w.0 w.1 c.give_writer.new.disk xs c.in_ok-next.next reaches may
    (subst (λ (s : Shape). LeavesGivenIn g.D.Disk s c.in_ok-next.next xs file.writer file.disk.now c.give_writer.new.disk) rest.stands.shape (c.give_writer.ensures.leaves auto))

pub returns-in-Ok-clause-rests : goal.returns-in-Ok-clause-rests
returns-in-Ok-clause-rests g c = λ auto opened e rest.
    let file = c.args.self.now in
    let xs = c.args.from.now in
    let may : MayEncode xs e.shape e.write_place = subst (MayEncode xs e.shape) rest.stands.write_place (subst (λ (s : Shape). MayEncode xs s file.write_place) rest.stands.shape c.in_ok-next.ensures.ready) in
    given_at_rest g.D.Disk opened file e refl rest _ xs may (sym rest.stands.automatic ∙ auto) (returns-in-Ok-clause-stands g c e rest.stands) (c.in-Ok.ensures.stable auto)

pub returns-in_err-next-clause-rests : goal.returns-in_err-next-clause-rests
returns-in_err-next-clause-rests g c = λ auto.
    stays_refused_as g.D.Disk c.args.self.now _ (encoded_to c.args.from.now) c.args.from.now c.args.self.now.layout c.args.self.now.write_place c.in_err-next.field-0.0 c.in_err-next.ensures.refused (λ opened e rest.
    record { state = rest.state; stands = stands_again g.D.Disk.state c.args.self.now _ e refl refl refl rest.stands; stable = rest.stable; fit = rest.fit; sized = rest.sized }) c.from_residual.result (search rules)
