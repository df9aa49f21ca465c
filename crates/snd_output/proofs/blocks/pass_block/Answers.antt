use Rattle.std.proofs.Common.{rules, ◌∙◌, ap, sym, subst, ◌≡◌, ℕ, ◌*◌, ◌/◌, ◌%◌, ◌≤◌, ℤ, List, ◌++◌, length, take, true, arith}
use Rattle.snd_layout.specs.Params.{Parameters}
use Rattle.snd_disk.specs.State.{AtMost}
use Rattle.snd_edits.specs.Bytes.{numbers_in}
use Rattle.snd_edits.specs.Calls.{count_read}
use Rattle.snd_file.specs.Handle.{channels_of, codec_of, disk_of, known_of}
use Rattle.snd_edits.specs.Reading.{bytes_to_read}
use Rattle.std.proofs.Math.Nat.{mul-mod_left}
use Rattle.snd_output.specs.Appended.{HasRoom, bytes_in, next_frames, read_on}
use Rattle.snd_output.specs.Widths.{change_numbers}
use Rattle.snd_output.specs.Made.{IsMaking}
use Rattle.snd_output.proofs.Appending.{left_unread, left_unwritten, longer_as, never_changed, read_failed, write_failed}
use Rattle.std.proofs.lemmas.List.{length-take-le}
use Rattle.snd_layout.specs.Blocks.{block_align, block_frames}
use Rattle.snd_layout.specs.declared.codec.Codec.{Codec}
use Rattle.snd_blocks.specs.Frames.{has_bad}
use Rattle.snd_output.proofs.Passing.{bytes_taken, bytes_within, count_is, frames_are_whole, frames_counted, fixed_frames_are, numbers_within, passed, room_left, same_places}
use Rattle.snd_output.proofs.Changing.{changed_as}
use Rattle.snd_output.proofs.blocks.pass_block.Goals as goal

pub returns-in_err-count-clause-faults : goal.returns-in_err-count-clause-faults
returns-in_err-count-clause-faults g c =
    read_failed ℕ ℕ _ _ _ c.in_err-count.field-0.0 c.from_residual.result (search rules) c.in_err-count.ensures.faults

pub returns-in_err-count-clause-left : goal.returns-in_err-count-clause-left
returns-in_err-count-clause-left g c =
    left_unread _ _ _ _ c.in_err-count.field-0.0 c.from_residual.result (search rules) c.in_err-count.ensures.left c.requires.may.working c.requires.may.at_end.working

pub returns-in_err-count-clause-changed : goal.returns-in_err-count-clause-changed
returns-in_err-count-clause-changed g c =
    let from = c.args.from.now in
    let same = same_places (known_of from).shape.params c.args.bytes.now (length c.args.block.now) c.requires.pass.0 c.requires.whole c.requires.held in
    changed_as _ _ c.in_err-count.field-0.0 c.from_residual.result (search rules) (λ bad e stands. subst (λ (n : ℕ). has_bad (next_frames n from e) ≡ true) same (bad e stands)) c.in_err-count.ensures.changed

pub returns-in_err-give_passed-clause-faults : goal.returns-in_err-give_passed-clause-faults
returns-in_err-give_passed-clause-faults g c =
    write_failed ℕ Unit _ _ _ _ c.in_err-give_passed.field-0.0 c.from_residual-in_err-give_passed.result (search rules) c.in_ok-count.ensures.faults c.in_err-give_passed.ensures.faults

pub returns-in_err-give_passed-clause-left : goal.returns-in_err-give_passed-clause-left
returns-in_err-give_passed-clause-left g c =
    left_unwritten _ _ _ _ _ _ _ c.in_err-give_passed.field-0.0 c.from_residual-in_err-give_passed.result (search rules) c.in_err-give_passed.ensures.faults c.in_err-give_passed.ensures.left

pub returns-in_err-give_passed-clause-changed : goal.returns-in_err-give_passed-clause-changed
returns-in_err-give_passed-clause-changed g c = never_changed _ _ _ c.in_err-give_passed.field-0.0 c.from_residual-in_err-give_passed.result (search rules) c.in_err-give_passed.ensures.faults

pub read_some_bytes-requires-clause-ready : goal.read_some_bytes-requires-clause-ready
read_some_bytes-requires-clause-ready g c =
    let p = (known_of c.args.from.now).shape.params in
    let same = same_places p c.args.bytes.now (length c.args.block.now) c.requires.pass.0 c.requires.whole c.requires.held in
    record { working = c.requires.may.working; whole = ap (λ (n : ℕ). n % p.channels) same ∙ c.requires.whole }

pub read_some_bytes-requires-clause-whole : goal.read_some_bytes-requires-clause-whole
read_some_bytes-requires-clause-whole g c =
    let p = (known_of c.args.from.now).shape.params in
    let align = block_align p.channels p.codec in
    ap (λ (n : ℕ). n % align) c.requires.held ∙ mul-mod_left (length c.args.block.now / p.channels) align

pub returns-in_err-count-clause-asked : goal.returns-in_err-count-clause-asked
returns-in_err-count-clause-asked g c =
    let from = c.args.from.now in
    let same = same_places (known_of from).shape.params c.args.bytes.now (length c.args.block.now) c.requires.pass.0 c.requires.whole c.requires.held in
    subst (λ (n : ℕ). AtMost (g.D.Disk.state (disk_of from)).asked (bytes_to_read (known_of from).shape.params (count_read n (known_of from))) (g.D.Disk.state (disk_of c.read_some_bytes.new.from)).asked) same c.in_err-count.ensures.asked

pub overflow_mul-numbers : goal.overflow_mul-numbers
overflow_mul-numbers g c =
    let within = numbers_within (known_of c.args.from.now) (known_of c.args.to.now) (length c.args.block.now) c.in_ok-count.count c.numbers_of-channels.result.0 c.from-align.result c.args.bytes.now c.read_some_bytes.new.into c.requires.may c.requires.pass
    c.numbers_of-channels.ensures.channels c.numbers_of-channels.ensures.some c.requires.whole c.requires.held c.read_some_bytes.auto.into
    (c.from-align.ensures ∙ c.block_align.ensures ∙ ap (λ (q : Parameters). block_align q.channels q.codec) c.params.ensures) c.in_ok-count.ensures.count in
    omega (arith, within, c.requires.few)

pub slice_bounds-numbers-end : goal.slice_bounds-numbers-end
slice_bounds-numbers-end g c =
    numbers_within (known_of c.args.from.now) (known_of c.args.to.now) (length c.args.block.now) c.in_ok-count.count c.numbers_of-channels.result.0 c.from-align.result c.args.bytes.now c.read_some_bytes.new.into c.requires.may c.requires.pass
    c.numbers_of-channels.ensures.channels c.numbers_of-channels.ensures.some c.requires.whole c.requires.held c.read_some_bytes.auto.into
    (c.from-align.ensures ∙ c.block_align.ensures ∙ ap (λ (q : Parameters). block_align q.channels q.codec) c.params.ensures) c.in_ok-count.ensures.count

pub slice_bounds-numbers-end-2 : goal.slice_bounds-numbers-end-2
slice_bounds-numbers-end-2 g c =
    let within = numbers_within (known_of c.args.from.now) (known_of c.args.to.now) (length c.args.block.now) c.in_ok-count.count c.numbers_of-channels.result.0 c.from-align.result c.args.bytes.now c.read_some_bytes.new.into c.requires.may c.requires.pass
    c.numbers_of-channels.ensures.channels c.numbers_of-channels.ensures.some c.requires.whole c.requires.held c.read_some_bytes.auto.into
    (c.from-align.ensures ∙ c.block_align.ensures ∙ ap (λ (q : Parameters). block_align q.channels q.codec) c.params.ensures) c.in_ok-count.ensures.count in
    sym (length-take-le (c.in_ok-count.count * c.numbers_of-channels.result.0) c.args.block.now within)

pub overflow_mul-count : goal.overflow_mul-count
overflow_mul-count g c =
    let within = bytes_within (known_of c.args.from.now) (known_of c.args.to.now) (length c.args.block.now) c.in_ok-count.count c.numbers_of-channels.result.0 c.from-align.result c.args.bytes.now c.read_some_bytes.new.into c.requires.may c.requires.pass
    c.numbers_of-channels.ensures.channels c.numbers_of-channels.ensures.some c.requires.whole c.requires.held c.read_some_bytes.auto.into
    (c.from-align.ensures ∙ c.block_align.ensures ∙ ap (λ (q : Parameters). block_align q.channels q.codec) c.params.ensures) c.in_ok-count.ensures.count in
    omega (arith, within)

pub slice_bounds-give_passed-end : goal.slice_bounds-give_passed-end
slice_bounds-give_passed-end g c =
    bytes_within (known_of c.args.from.now) (known_of c.args.to.now) (length c.args.block.now) c.in_ok-count.count c.numbers_of-channels.result.0 c.from-align.result c.args.bytes.now c.read_some_bytes.new.into c.requires.may c.requires.pass
    c.numbers_of-channels.ensures.channels c.numbers_of-channels.ensures.some c.requires.whole c.requires.held c.read_some_bytes.auto.into
    (c.from-align.ensures ∙ c.block_align.ensures ∙ ap (λ (q : Parameters). block_align q.channels q.codec) c.params.ensures) c.in_ok-count.ensures.count

pub slice_bounds-give_passed-end-2 : goal.slice_bounds-give_passed-end-2
slice_bounds-give_passed-end-2 g c =
    let within = bytes_within (known_of c.args.from.now) (known_of c.args.to.now) (length c.args.block.now) c.in_ok-count.count c.numbers_of-channels.result.0 c.from-align.result c.args.bytes.now c.read_some_bytes.new.into c.requires.may c.requires.pass
    c.numbers_of-channels.ensures.channels c.numbers_of-channels.ensures.some c.requires.whole c.requires.held c.read_some_bytes.auto.into
    (c.from-align.ensures ∙ c.block_align.ensures ∙ ap (λ (q : Parameters). block_align q.channels q.codec) c.params.ensures) c.in_ok-count.ensures.count in
    sym (length-take-le (c.in_ok-count.count * c.from-align.result) c.read_some_bytes.new.into within)

pub give_passed-requires-clause-room : goal.give_passed-requires-clause-room
give_passed-requires-clause-room g c =
    let to = known_of c.args.to.now in
    let k = c.in_ok-count.count * c.numbers_of-channels.result.0 in
    let size : length (take k c.args.block.now) ≡ k = length-take-le k c.args.block.now (numbers_within (known_of c.args.from.now) (known_of c.args.to.now) (length c.args.block.now) c.in_ok-count.count c.numbers_of-channels.result.0 c.from-align.result c.args.bytes.now c.read_some_bytes.new.into c.requires.may c.requires.pass
    c.numbers_of-channels.ensures.channels c.numbers_of-channels.ensures.some c.requires.whole c.requires.held c.read_some_bytes.auto.into
    (c.from-align.ensures ∙ c.block_align.ensures ∙ ap (λ (q : Parameters). block_align q.channels q.codec) c.params.ensures) c.in_ok-count.ensures.count) in
    let one : 1 ≤ block_frames to.shape.params.codec = fixed_frames_are to.shape.params.codec c.requires.pass.1 in
    subst (λ (n : ℕ). HasRoom (n / to.shape.params.channels) to) (sym size) (room_left (known_of c.args.from.now) (known_of c.args.to.now) (length c.args.block.now) c.in_ok-count.count c.numbers_of-channels.result.0 c.from-align.result c.args.bytes.now c.read_some_bytes.new.into c.requires.may c.requires.pass
    c.numbers_of-channels.ensures.channels c.numbers_of-channels.ensures.some c.requires.whole c.requires.held c.read_some_bytes.auto.into
    (c.from-align.ensures ∙ c.block_align.ensures ∙ ap (λ (q : Parameters). block_align q.channels q.codec) c.params.ensures) c.in_ok-count.ensures.count one)

pub give_passed-requires-clause-whole : goal.give_passed-requires-clause-whole
give_passed-requires-clause-whole g c =
    let k = c.in_ok-count.count * c.numbers_of-channels.result.0 in
    let size : length (take k c.args.block.now) ≡ k = length-take-le k c.args.block.now (numbers_within (known_of c.args.from.now) (known_of c.args.to.now) (length c.args.block.now) c.in_ok-count.count c.numbers_of-channels.result.0 c.from-align.result c.args.bytes.now c.read_some_bytes.new.into c.requires.may c.requires.pass
    c.numbers_of-channels.ensures.channels c.numbers_of-channels.ensures.some c.requires.whole c.requires.held c.read_some_bytes.auto.into
    (c.from-align.ensures ∙ c.block_align.ensures ∙ ap (λ (q : Parameters). block_align q.channels q.codec) c.params.ensures) c.in_ok-count.ensures.count) in
    ap (λ (n : ℕ). n % channels_of c.args.to.now) size ∙ frames_are_whole (known_of c.args.from.now) (known_of c.args.to.now) (length c.args.block.now) c.in_ok-count.count c.numbers_of-channels.result.0 c.from-align.result c.args.bytes.now c.read_some_bytes.new.into c.requires.may c.requires.pass
    c.numbers_of-channels.ensures.channels c.numbers_of-channels.ensures.some c.requires.whole c.requires.held c.read_some_bytes.auto.into
    (c.from-align.ensures ∙ c.block_align.ensures ∙ ap (λ (q : Parameters). block_align q.channels q.codec) c.params.ensures) c.in_ok-count.ensures.count

pub give_passed-requires-clause-held : goal.give_passed-requires-clause-held
give_passed-requires-clause-held g c =
    let k = c.in_ok-count.count * c.numbers_of-channels.result.0 in
    let size : length (take k c.args.block.now) ≡ k = length-take-le k c.args.block.now (numbers_within (known_of c.args.from.now) (known_of c.args.to.now) (length c.args.block.now) c.in_ok-count.count c.numbers_of-channels.result.0 c.from-align.result c.args.bytes.now c.read_some_bytes.new.into c.requires.may c.requires.pass
    c.numbers_of-channels.ensures.channels c.numbers_of-channels.ensures.some c.requires.whole c.requires.held c.read_some_bytes.auto.into
    (c.from-align.ensures ∙ c.block_align.ensures ∙ ap (λ (q : Parameters). block_align q.channels q.codec) c.params.ensures) c.in_ok-count.ensures.count) in
    bytes_taken (known_of c.args.from.now) (known_of c.args.to.now) (length c.args.block.now) c.in_ok-count.count c.numbers_of-channels.result.0 c.from-align.result c.args.bytes.now c.read_some_bytes.new.into c.requires.may c.requires.pass
    c.numbers_of-channels.ensures.channels c.numbers_of-channels.ensures.some c.requires.whole c.requires.held c.read_some_bytes.auto.into
    (c.from-align.ensures ∙ c.block_align.ensures ∙ ap (λ (q : Parameters). block_align q.channels q.codec) c.params.ensures) c.in_ok-count.ensures.count
    ∙ ap (λ (q : Codec). bytes_in q k) (sym c.numbers_of-channels.ensures.codec) ∙ ap (bytes_in c.numbers_of-channels.result.1) (sym size)

pub returns-in_err-give_passed-clause-asked : goal.returns-in_err-give_passed-clause-asked
returns-in_err-give_passed-clause-asked g c =
    let from = c.args.from.now in
    let same = same_places (known_of from).shape.params c.args.bytes.now (length c.args.block.now) c.requires.pass.0 c.requires.whole c.requires.held in
    subst (λ (n : ℕ). AtMost (g.D.Disk.state (disk_of from)).asked (bytes_to_read (known_of from).shape.params (count_read n (known_of from))) (g.D.Disk.state (disk_of c.read_some_bytes.new.from)).asked) same c.in_ok-count.ensures.asked

pub returns-clause-count : goal.returns-clause-count
returns-clause-count g c =
    count_is (known_of c.args.from.now) (known_of c.args.to.now) (length c.args.block.now) c.in_ok-count.count c.numbers_of-channels.result.0 c.from-align.result c.args.bytes.now c.read_some_bytes.new.into c.requires.may c.requires.pass
    c.numbers_of-channels.ensures.channels c.numbers_of-channels.ensures.some c.requires.whole c.requires.held c.read_some_bytes.auto.into
    (c.from-align.ensures ∙ c.block_align.ensures ∙ ap (λ (q : Parameters). block_align q.channels q.codec) c.params.ensures) c.in_ok-count.ensures.count

pub returns-clause-left : goal.returns-clause-left
returns-clause-left g c =
    let from = known_of c.args.from.now in
    let to = known_of c.args.to.now in
    let k = c.in_ok-count.count * c.numbers_of-channels.result.0 in
    let is = count_is (known_of c.args.from.now) (known_of c.args.to.now) (length c.args.block.now) c.in_ok-count.count c.numbers_of-channels.result.0 c.from-align.result c.args.bytes.now c.read_some_bytes.new.into c.requires.may c.requires.pass
    c.numbers_of-channels.ensures.channels c.numbers_of-channels.ensures.some c.requires.whole c.requires.held c.read_some_bytes.auto.into
    (c.from-align.ensures ∙ c.block_align.ensures ∙ ap (λ (q : Parameters). block_align q.channels q.codec) c.params.ensures) c.in_ok-count.ensures.count in
    let size : length (take k c.args.block.now) ≡ k = length-take-le k c.args.block.now (numbers_within (known_of c.args.from.now) (known_of c.args.to.now) (length c.args.block.now) c.in_ok-count.count c.numbers_of-channels.result.0 c.from-align.result c.args.bytes.now c.read_some_bytes.new.into c.requires.may c.requires.pass
    c.numbers_of-channels.ensures.channels c.numbers_of-channels.ensures.some c.requires.whole c.requires.held c.read_some_bytes.auto.into
    (c.from-align.ensures ∙ c.block_align.ensures ∙ ap (λ (q : Parameters). block_align q.channels q.codec) c.params.ensures) c.in_ok-count.ensures.count) in
    let frames : length (take k c.args.block.now) / to.shape.params.channels ≡ c.in_ok-count.count = ap (λ (n : ℕ). n / to.shape.params.channels) size ∙ frames_counted (known_of c.args.from.now) (known_of c.args.to.now) (length c.args.block.now) c.in_ok-count.count c.numbers_of-channels.result.0 c.from-align.result c.args.bytes.now c.read_some_bytes.new.into c.requires.may c.requires.pass
    c.numbers_of-channels.ensures.channels c.numbers_of-channels.ensures.some c.requires.whole c.requires.held c.read_some_bytes.auto.into
    (c.from-align.ensures ∙ c.block_align.ensures ∙ ap (λ (q : Parameters). block_align q.channels q.codec) c.params.ensures) c.in_ok-count.ensures.count in (
      c.in_ok-count.ensures.left ∙ ap (λ (n : ℕ). read_on n from) is,
      longer_as _ _ to (known_of c.give_passed.new.to) (frames ∙ is) c.in_ok-give_passed.ensures.left,
    )

pub returns-clause-lengthens : goal.returns-clause-lengthens
returns-clause-lengthens g c = λ kind p pieces xs r e reads stands making.
    let are = passed (known_of c.args.from.now) (known_of c.args.to.now) (length c.args.block.now) c.in_ok-count.count c.numbers_of-channels.result.0 c.from-align.result c.args.bytes.now c.read_some_bytes.new.into c.requires.may c.requires.pass
    c.numbers_of-channels.ensures.channels c.numbers_of-channels.ensures.some c.requires.whole c.requires.held c.read_some_bytes.auto.into
    (c.from-align.ensures ∙ c.block_align.ensures ∙ ap (λ (q : Parameters). block_align q.channels q.codec) c.params.ensures) c.in_ok-count.ensures.count r (c.in_ok-count.ensures.read r reads).frames in
    let from = codec_of c.args.from.now in
    let to = codec_of c.args.to.now in
    let bytes = take (c.in_ok-count.count * c.from-align.result) c.read_some_bytes.new.into in
    let given = c.in_ok-give_passed.ensures.gains kind p pieces xs e stands making in
    let same : change_numbers c.numbers_of-channels.result.1 to (numbers_in c.numbers_of-channels.result.1 bytes) ≡ change_numbers from to (numbers_in from bytes) =
    ap (λ (q : Codec). change_numbers q to (numbers_in q bytes)) c.numbers_of-channels.ensures.codec in (
      given.0,
      given.1,
      subst (λ (l : List ℤ). IsMaking kind p pieces (xs ++ l) given.0) (same ∙ are) given.2,
    )

pub returns-clause-asked : goal.returns-clause-asked
returns-clause-asked g c =
    let from = c.args.from.now in
    let same = same_places (known_of from).shape.params c.args.bytes.now (length c.args.block.now) c.requires.pass.0 c.requires.whole c.requires.held in
    subst (λ (n : ℕ). AtMost (g.D.Disk.state (disk_of from)).asked (bytes_to_read (known_of from).shape.params (count_read n (known_of from))) (g.D.Disk.state (disk_of c.read_some_bytes.new.from)).asked) same c.in_ok-count.ensures.asked
