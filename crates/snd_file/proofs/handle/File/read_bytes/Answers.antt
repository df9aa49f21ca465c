use Rattle.std.proofs.Common.{rules, ◌≡◌, ◌∙◌, ap, sym, subst, refl, ℕ, None, ◌*◌, ◌-◌, ◌≤◌, All, length, take, drop, arith}
use Rattle.std.proofs.lemmas.List.{length-take-le}
use Rattle.snd_blocks.specs.Frames.{has_bad}
use Rattle.snd_layout.specs.Opened.{EndsIn}
use Rattle.snd_pcm.specs.Groups.{first_groups}
use Rattle.snd_blocks.specs.Sound.{frames_in}
use Rattle.snd_disk.specs.Device.{AsksAtMost}
use Rattle.snd_edits.specs.Bytes.{numbers_in}
use Rattle.snd_edits.specs.Calls.{count_read}
use Rattle.snd_edits.specs.Editing.{frames_read}
use Rattle.snd_file.specs.Handle.{known_of}
use Rattle.snd_edits.specs.Reading.{bytes_of_frames}
use Rattle.snd_edits.proofs.Public.{bytes_asked, frames_ahead, frames_in_front, frames_of_bytes, good_bytes, numbers_are_whole}
use Rattle.snd_file.proofs.Cached.{still_cached}
use Rattle.snd_file.proofs.KindHeads.{head_same}
use Rattle.snd_file.proofs.handle.File.read_bytes.Goals as goal

pub invariant_of-self : goal.invariant_of-self
invariant_of-self g c =
    let state = g.D.Disk.state in
    let file = c.args.self.now in
    let keeps = c.read_raw.ensures.reads.keeps in
    let ahead : c.frames_ahead-count.result ≤ file.layout.frames - file.read_place = search rules in
    record {
      stands = λ working. omega (arith, keeps.size, file.stands working);
      placed = omega (arith, file.placed, ahead);
      write_placed = file.write_placed;
      linear = file.linear;
      encodes = file.encodes;
      paced = file.paced;
      roomy = file.roomy;
      unwritten = file.unwritten;
      blocks = file.blocks;
      cached = λ reads. still_cached state file.disk.now c.read_raw.new.disk file.layout file.cache keeps.contents (file.cached reads);
      room_ends = file.room_ends;
      sized = file.sized;
      pieces_held = λ reads working. subst (λ (n : ℕ). All (EndsIn n) file.layout.pieces) (sym keeps.size) (file.pieces_held reads working);
      headed = λ makes empty working holds. head_same (state file.disk.now) (state c.read_raw.new.disk) file.layout holds keeps.size keeps.contents (file.headed makes empty working holds);
      counted = file.counted;
      closed = λ automatic working free. omega (arith, keeps.size, file.closed automatic working free);
    }

pub returns-in-Ok-clause-left : goal.returns-in-Ok-clause-left
returns-in-Ok-clause-left g c =
    let p = c.args.self.now.layout.params in
    let bytes = c.args.into.now in
    let working : c.args.self.now.broken ≡ None = search rules in
    let align = c.align_of-align.ensures in
    let left = c.args.self.now.layout.frames - c.args.self.now.read_place in
    let count = frames_ahead p bytes c.requires.fixed c.requires.whole c.align_of-align.result left c.frames_ahead-count.result align.params.some_channel align.value c.frames_ahead-count.ensures.count in
    (record { working = working; whole = numbers_are_whole p bytes c.requires.fixed c.requires.whole }, count, refl)

pub returns-in-Ok-clause-read : goal.returns-in-Ok-clause-read
returns-in-Ok-clause-read g c = λ e stands.
    let s = c.args.self.now.layout in
    let channels = s.params.channels in
    let k = c.frames_ahead-count.result in
    let n = k * c.align_of-align.result in
    let piece = c.read_raw.new.into in
    let rest = drop n c.args.into.now in
    let place = c.args.self.now.read_place in
    let some = c.align_of-align.ensures.params.some_channel in
    let fits : n ≤ length c.args.into.now = search rules in
    let turn : n ≡ bytes_of_frames s.params k = ap (λ (m : ℕ). k * m) c.align_of-align.ensures.value in
    let size : length piece ≡ bytes_of_frames s.params k = omega (arith, turn, c.read_raw.auto.into, length-take-le n c.args.into.now fits) in
    let read : first_groups channels k (numbers_in s.params.codec piece) ≡ take k (drop place (frames_in e.bytes s)) = c.in-Ok.ensures.told e.bytes stands.bytes in
    let next : take k (drop place (frames_in e.bytes s)) ≡ frames_read e k = frames_of_bytes e s place k stands.shape stands.place stands.sound in
    record {
      frames = frames_in_front s.params.codec channels k piece rest c.requires.fixed size ∙ (read ∙ next);
      good = sym (ap has_bad next) ∙ good_bytes e.bytes s place k piece c.requires.fixed some size read;
    }

pub returns-in-Ok-clause-asked : goal.returns-in-Ok-clause-asked
returns-in-Ok-clause-asked g c =
    let state = g.D.Disk.state in
    let file = c.args.self.now in
    let p = file.layout.params in
    let align = c.align_of-align.ensures in
    let k = c.frames_ahead-count.result in
    let left = file.layout.frames - file.read_place in
    let count = frames_ahead p c.args.into.now c.requires.fixed c.requires.whole c.align_of-align.result left k align.params.some_channel align.value c.frames_ahead-count.ensures.count in
    subst (λ (n : ℕ). AsksAtMost state n file.disk.now c.read_raw.new.disk) (bytes_asked p (count_read (length (numbers_in p.codec c.args.into.now)) (known_of file)) k c.requires.fixed count) c.read_raw.ensures.asked

pub returns-in-Err-clause-left : goal.returns-in-Err-clause-left
returns-in-Err-clause-left g c =
    let p = c.args.self.now.layout.params in
    let bytes = c.args.into.now in
    let working : c.args.self.now.broken ≡ None = search rules in
    (record { working = working; whole = numbers_are_whole p bytes c.requires.fixed c.requires.whole }, refl)

pub returns-in-Err-clause-asked : goal.returns-in-Err-clause-asked
returns-in-Err-clause-asked g c =
    let state = g.D.Disk.state in
    let file = c.args.self.now in
    let p = file.layout.params in
    let align = c.align_of-align.ensures in
    let k = c.frames_ahead-count.result in
    let left = file.layout.frames - file.read_place in
    let count = frames_ahead p c.args.into.now c.requires.fixed c.requires.whole c.align_of-align.result left k align.params.some_channel align.value c.frames_ahead-count.ensures.count in
    subst (λ (n : ℕ). AsksAtMost state n file.disk.now c.read_raw.new.disk) (bytes_asked p (count_read (length (numbers_in p.codec c.args.into.now)) (known_of file)) k c.requires.fixed count) c.read_raw.ensures.asked
