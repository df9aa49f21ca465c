use Rattle.std.proofs.Common.{rules, ◌≡◌, ◌∙◌, ap, sym, subst, refl, ℕ, ◌+◌, ◌-◌, ◌*◌, ◌/◌, ◌%◌, ◌<◌, ◌≤◌, ◌^◌, ℤ, List, ◌++◌, length, map, min, drop, take, true, false, arith}
use Rattle.std.proofs.Math.Nat.{mul-le-mul_right, mul-mod_left}
use Rattle.std.proofs.lemmas.List.{length-append, length-drop, length-take-le}
use Rattle.snd_disk.proofs.Public.{goes_on_then, only_reads_then}
use Rattle.snd_disk.specs.State.{AtMost}
use Rattle.snd_layout.specs.Shape.{Shape}
use Rattle.snd_layout.specs.Params.{Parameters}
use Rattle.snd_layout.specs.declared.codec.Codec.{Codec}
use Rattle.snd_layout.specs.Blocks.{block_align, is_adpcm}
use Rattle.snd_edits.specs.Bytes.{numbers_in}
use Rattle.snd_edits.specs.Calls.{count_read}
use Rattle.snd_edits.specs.Editing.{Editing, moved_by}
use Rattle.snd_edits.specs.Known.{Known}
use Rattle.snd_edits.specs.Reading.{bytes_to_read}
use Rattle.snd_file.specs.Handle.{Stands, channels_of, codec_of, disk_of, known_of}
use Rattle.snd_output.specs.Appended.{left_in, read_on}
use Rattle.snd_output.specs.Made.{IsMaking}
use Rattle.snd_output.specs.Widths.{change_numbers}
use Rattle.snd_output.proofs.Passing.{align_least, fixed_frames_are}
use Rattle.snd_output.proofs.Public.{asked_all, asked_before, asked_by, asked_none, asked_on, bad_ahead, changed_as, count_fits, left_later, longer_as, longer_none, longer_then, moved_none, moved_twice, none_left, one_fits, read_none, read_twice}
use Rattle.snd_rack.specs.Held.{Held}
use Rattle.snd_rack.specs.Passing.{later}
use Rattle.snd_racking.specs.Appending.{MayAppendRacked, frames_of_bytes, next_passed, rack_at}
use Rattle.snd_racking.proofs.Racks.{may_go_on, rack_later, racked_all, racked_none, racked_so_far, racked_twice}
use Rattle.snd_racking.proofs.Taken.{places_frames, places_numbers, places_whole}
use Rattle.snd_racking.proofs.bytes.append_bytes.Goals as goal

pub loop-count-init : goal.loop-count-init
loop-count-init g c =
    let from = known_of c.args.from.now in
    let to = known_of c.args.to.now in
    let nothing : from.place - from.place ≡ 0 = omega arith in
    record {
      loan = refl;
      to_loan = refl;
      read = read_none from.place from;
      written = longer_as 0 (from.place - from.place) to to (sym nothing) (longer_none to);
      within = omega arith;
      ended = λ one. absurd (omega (arith, one));
      stands = λ e stands. subst (λ (r : Editing). Stands g.D.Disk.state c.args.from.now r) (moved_none from.place e) stands;
      lengthens = λ kind p pieces xs r e reads stands making.
          (e, stands, subst (λ (l : List ℤ). IsMaking kind p pieces l e) (racked_none from.place c.args.rack.now (codec_of c.args.from.now) (codec_of c.args.to.now) xs r) making);
      states = c.requires.started ∙ ap (λ (n : ℕ). rack_at n (codec_of c.args.from.now) c.args.rack.now) (sym nothing);
      calm = refl;
      to_calm = refl;
      reads = search rules;
      tells = search rules;
      time = search rules;
      to_asked = refl;
      same_length = refl;
      many_bytes = search rules;
      many_coded = search rules;
      some = omega (arith, c.frames_first-frames.ensures);
      below = omega (arith, c.frames_first-frames.ensures, c.frames_of-most.ensures.one);
      asked = asked_none from.shape.params _ from.place (left_in from) 1 _;
    }

pub loop-count-preserved : goal.loop-count-preserved
loop-count-preserved g c =
    let first = known_of c.args.from.now in
    let now = known_of c.loop-count.from in
    let inv = c.loop-count.invariant in
    let n = c.loop-count.frames in
    let align = c.from-align.result in
    let held : List ℕ = take (n * align) c.loop-count.bytes in
    let params : now.shape.params ≡ first.shape.params = ap (λ (k : Known). k.shape.params) inv.read in
    let fixed : is_adpcm now.shape.params.codec ≡ false = ap (λ (p : Parameters). is_adpcm p.codec) params ∙ c.requires.pass.0 in
    let align_is : align ≡ block_align now.shape.params.channels now.shape.params.codec =
    c.from-align.ensures ∙ c.block_align.ensures ∙ ap (λ (p : Parameters). block_align p.channels p.codec) c.params-params.ensures ∙ ap (λ (p : Parameters). block_align p.channels p.codec) (sym params) in
    let room : n * align ≤ length c.loop-count.bytes = omega (arith, mul-le-mul_right align inv.below, c.frames_of-most.ensures.bytes, c.loop-count.invariant.many_bytes) in
    let some : 1 ≤ now.shape.params.channels = omega (arith, c.are_good.ensures.some_channel, ap (λ (p : Parameters). p.channels) c.params-params.ensures, ap (λ (p : Parameters). p.channels) params) in
    let places = length (numbers_in (codec_of c.loop-count.from) held) in
    let size : places ≡ n * now.shape.params.channels = places_numbers now.shape.params n align c.loop-count.bytes fixed align_is room in
    let to_first = known_of c.args.to.now in
    let to_now = known_of c.loop-count.to in
    let to_new = known_of c.pass_block.new.to in
    let one = c.in_ok-count.ensures in
    let count = c.in_ok-count.count in
    let j = now.place - first.place in
    let i = c.pass_block.new.from.read_place - first.place in
    let codec = codec_of c.args.from.now in
    let wanted = codec_of c.args.to.now in
    let items = c.args.rack.now in
    let here : now.place ≡ first.place + j = ap (λ (k : Known). k.place) inv.read in
    let frames : now.shape.frames ≡ first.shape.frames = ap (λ (k : Known). k.shape.frames) inv.read in
    let channels : now.shape.params.channels ≡ channels_of c.args.from.now = ap (λ (k : Known). k.shape.params.channels) inv.read in
    let next : c.pass_block.new.from.read_place ≡ now.place + count_read places now = ap (λ (k : Known). k.place) one.left.0 in
    let sum : i ≡ j + count = omega (arith, here, next, one.count) in
    let fits = count_fits now places count some (ap (λ (m : ℕ). m % now.shape.params.channels) size ∙ mul-mod_left n now.shape.params.channels) one.count in
    let from_codec : codec_of c.loop-count.from ≡ codec = ap (λ (k : Known). k.shape.params.codec) inv.read in
    let to_codec : codec_of c.loop-count.to ≡ wanted = ap (λ (s : Shape). s.params.codec) inv.written.shape in
    let few : j + count < 2 ^ 64 = omega (arith, inv.within, fits.0, here, frames, c.frames.ensures, c.frames.type_inv) in
    record {
      loan = one.loan ∙ inv.loan;
      to_loan = one.to_loan ∙ inv.to_loan;
      read = one.left.0 ∙ ap (λ (m : ℕ). read_on m now) (sym one.count) ∙ ap (read_on count) inv.read ∙ read_twice j count first ∙ ap (λ (m : ℕ). read_on m first) (sym sum);
      written = longer_as (j + count) i to_first to_new (sym sum) (longer_then j count to_first to_now to_new inv.written (longer_as (count_read places now) count to_now to_new (sym one.count) one.left.1));
      within = omega (arith, sum, fits.0, here, frames, inv.within);
      ended = λ none.
          let gone : left_in now ≡ 0 = none_left now places count some (omega (arith, size, mul-le-mul_right now.shape.params.channels inv.some)) one.count none in
          omega (arith, sum, none, gone, here, frames, inv.within);
      stands = λ e stands. subst (λ (r : Editing). Stands g.D.Disk.state c.pass_block.new.from r) (moved_twice j count i e sum) (one.stands (moved_by j e) (inv.stands e stands));
      lengthens = λ kind p pieces xs r e reads stands making.
          let before = inv.lengthens kind p pieces xs r e reads stands making in
          let hs = map (λ b. (goal.Stage-dyn g (b.vtable, b.value)).stage b.value) c.loop-count.stages in
          let so_far = xs ++ change_numbers codec wanted (racked_so_far items codec j r) in
          let then = one.lengthens kind p pieces so_far (moved_by j r) before.0 (inv.stands r reads) before.1 before.2 in
          let same : so_far ++ change_numbers (codec_of c.loop-count.from) (codec_of c.loop-count.to) (next_passed hs count (moved_by j r))
          ≡ xs ++ change_numbers codec wanted (racked_so_far items codec i r) =
          ap (λ (m : Codec). so_far ++ change_numbers m (codec_of c.loop-count.to) (next_passed hs count (moved_by j r))) from_codec
          ∙ ap (λ (m : Codec). so_far ++ change_numbers codec m (next_passed hs count (moved_by j r))) to_codec
          ∙ ap (λ (l : List Held). so_far ++ change_numbers codec wanted (next_passed l count (moved_by j r))) inv.states
          ∙ racked_twice items codec wanted xs r j count (omega (arith, inv.within, ap (λ (s : Shape). s.frames) reads.shape, reads.count, reads.place)) few
          ∙ ap (λ (m : ℕ). xs ++ change_numbers codec wanted (racked_so_far items codec m r)) (sym sum) in
          (then.0, then.1, subst (λ (l : List ℤ). IsMaking kind p pieces l then.0) same then.2);
      states = one.states ∙ ap (later count) inv.states ∙ rack_later items codec j count i sum few;
      calm = one.faults.0 ∙ inv.calm;
      to_calm = one.faults.1 ∙ inv.to_calm;
      reads = only_reads_then _ _ _ _ _ _ _ _ _ inv.reads one.reads;
      tells = search rules;
      time = goes_on_then _ _ _ _ _ _ inv.time one.time;
      to_asked = one.to_asked ∙ inv.to_asked;
      same_length = search rules;
      many_bytes =
          let back : length c.pass_block.new.bytes ≡ n * align = c.pass_block.auto.bytes ∙ length-take-le (n * align) c.loop-count.bytes room in
          omega (arith, length-append c.pass_block.new.bytes (drop (n * align) c.loop-count.bytes), back, length-drop (n * align) c.loop-count.bytes, room, inv.many_bytes);
      many_coded = c.pass_block.auto.coded ∙ inv.many_coded;
      some = c.frames_of-most.ensures.one;
      below = omega arith;
      asked =
          let each = length c.args.block.now / channels_of c.args.from.now in
          let many : 1 ≤ each = one_fits (length c.args.block.now) (channels_of c.args.from.now) (omega (arith, channels, some)) c.requires.places in
          let is : is_adpcm first.shape.params.codec ≡ true → count ≡ min each (left_in now) = λ blocks. absurd (let e : true ≡ false = sym blocks ∙ c.requires.pass.0 in cc) in
          let begun = (g.D.Disk.state (disk_of c.args.from.now)).asked in
          let mid = (g.D.Disk.state (disk_of c.loop-count.from)).asked in
          let end = (g.D.Disk.state (disk_of c.pass_block.new.from)).asked in
          let before = asked_before first.shape.params each j (left_in now) c.loop-count.count begun mid (omega (arith, c.loop-count-test.true)) inv.asked in
          let more = subst (λ (m : ℕ). AtMost mid (bytes_to_read now.shape.params m) end) (sym one.count) one.asked in
          let rest : left_in now - count ≡ left_in (known_of c.pass_block.new.from) = (let e : left_in now - count ≡ now.shape.frames - (now.place + count_read places now) = omega (arith, one.count) in e) ∙ sym (ap left_in one.left.0) in
          subst (λ (m : ℕ). AtMost begun (asked_by first.shape.params each i m count) end) rest
          (asked_on now first.shape.params each j (left_in now) count i begun mid end params many is sum before more);
    }

pub pass_block-requires-clause-may : goal.pass_block-requires-clause-may
pass_block-requires-clause-may g c =
    let first = known_of c.args.from.now in
    let inv = c.loop-count.invariant in
    let j = (known_of c.loop-count.from).place - first.place in
    let items = c.args.rack.now in
    let may = may_go_on items first (known_of c.args.to.now) (known_of c.loop-count.to) j c.requires.may (fixed_frames_are (codec_of c.args.to.now) c.requires.pass.1) c.requires.settled inv.within inv.written in
    let hs : List Held = map (λ b. (goal.Stage-dyn g (b.vtable, b.value)).stage b.value) c.loop-count.stages in
    subst (λ (k : Known). MayAppendRacked hs k (known_of c.loop-count.to)) (sym inv.read) (subst (λ (l : List Held). MayAppendRacked l (read_on j first) (known_of c.loop-count.to)) (sym inv.states) may)

pub pass_block-requires-clause-whole : goal.pass_block-requires-clause-whole
pass_block-requires-clause-whole g c =
    let first = known_of c.args.from.now in
    let now = known_of c.loop-count.from in
    let inv = c.loop-count.invariant in
    let n = c.loop-count.frames in
    let align = c.from-align.result in
    let held : List ℕ = take (n * align) c.loop-count.bytes in
    let params : now.shape.params ≡ first.shape.params = ap (λ (k : Known). k.shape.params) inv.read in
    let fixed : is_adpcm now.shape.params.codec ≡ false = ap (λ (p : Parameters). is_adpcm p.codec) params ∙ c.requires.pass.0 in
    let align_is : align ≡ block_align now.shape.params.channels now.shape.params.codec =
    c.from-align.ensures ∙ c.block_align.ensures ∙ ap (λ (p : Parameters). block_align p.channels p.codec) c.params-params.ensures ∙ ap (λ (p : Parameters). block_align p.channels p.codec) (sym params) in
    let room : n * align ≤ length c.loop-count.bytes = omega (arith, mul-le-mul_right align inv.below, c.frames_of-most.ensures.bytes, c.loop-count.invariant.many_bytes) in
    let some : 1 ≤ now.shape.params.channels = omega (arith, c.are_good.ensures.some_channel, ap (λ (p : Parameters). p.channels) c.params-params.ensures, ap (λ (p : Parameters). p.channels) params) in
    places_whole now.shape.params n align c.loop-count.bytes fixed align_is room

pub pass_block-requires-clause-places : goal.pass_block-requires-clause-places
pass_block-requires-clause-places g c =
    let inv = c.loop-count.invariant in
    let channels : channels_of c.loop-count.from ≡ channels_of c.args.from.now = ap (λ (k : Known). k.shape.params.channels) inv.read in
    omega (arith, channels, c.requires.places, inv.same_length)

pub pass_block-requires-clause-pass : goal.pass_block-requires-clause-pass
pass_block-requires-clause-pass g c =
    let inv = c.loop-count.invariant in
    let from_codec : codec_of c.loop-count.from ≡ codec_of c.args.from.now = ap (λ (k : Known). k.shape.params.codec) inv.read in
    let to_codec : codec_of c.loop-count.to ≡ codec_of c.args.to.now = ap (λ (s : Shape). s.params.codec) inv.written.shape in
    (ap is_adpcm from_codec ∙ c.requires.pass.0, ap is_adpcm to_codec ∙ c.requires.pass.1)

pub pass_block-requires-clause-fits : goal.pass_block-requires-clause-fits
pass_block-requires-clause-fits g c =
    let first = known_of c.args.from.now in
    let now = known_of c.loop-count.from in
    let inv = c.loop-count.invariant in
    let n = c.loop-count.frames in
    let align = c.from-align.result in
    let held : List ℕ = take (n * align) c.loop-count.bytes in
    let params : now.shape.params ≡ first.shape.params = ap (λ (k : Known). k.shape.params) inv.read in
    let fixed : is_adpcm now.shape.params.codec ≡ false = ap (λ (p : Parameters). is_adpcm p.codec) params ∙ c.requires.pass.0 in
    let align_is : align ≡ block_align now.shape.params.channels now.shape.params.codec =
    c.from-align.ensures ∙ c.block_align.ensures ∙ ap (λ (p : Parameters). block_align p.channels p.codec) c.params-params.ensures ∙ ap (λ (p : Parameters). block_align p.channels p.codec) (sym params) in
    let room : n * align ≤ length c.loop-count.bytes = omega (arith, mul-le-mul_right align inv.below, c.frames_of-most.ensures.bytes, c.loop-count.invariant.many_bytes) in
    let some : 1 ≤ now.shape.params.channels = omega (arith, c.are_good.ensures.some_channel, ap (λ (p : Parameters). p.channels) c.params-params.ensures, ap (λ (p : Parameters). p.channels) params) in
    let to = known_of c.args.to.now in
    let to_each = block_align (channels_of c.loop-count.to) (codec_of c.loop-count.to) in
    let frames : frames_of_bytes now.shape.params (length held) ≡ n = places_frames now.shape.params n align c.loop-count.bytes fixed align_is room some in
    let to_align : c.from.result ≡ to_each =
    c.from.ensures ∙ c.block_align-2.ensures ∙ ap (λ (p : Parameters). block_align p.channels p.codec) c.params-wanted.ensures ∙ ap (λ (s : Shape). block_align s.params.channels s.params.codec) (sym inv.written.shape) in
    let all : n * to_each ≤ 65536 = omega (arith, mul-le-mul_right to_each inv.below, ap (λ (i : ℕ). c.frames_of-most.result * i) to_align, c.frames_of-most.ensures.coded) in
    omega (arith, ap (λ (i : ℕ). i * to_each) frames, all, c.loop-count.invariant.many_coded)

pub slice_bounds-held-end : goal.slice_bounds-held-end
slice_bounds-held-end g c =
    let room : c.loop-count.frames * c.from-align.result ≤ length c.loop-count.bytes =
    omega (arith, mul-le-mul_right c.from-align.result c.loop-count.invariant.below, c.frames_of-most.ensures.bytes, c.loop-count.invariant.many_bytes) in
    sym (length-take-le (c.loop-count.frames * c.from-align.result) c.loop-count.bytes room)

pub frames_of-most-requires-clause-some : goal.frames_of-most-requires-clause-some
frames_of-most-requires-clause-some g c =
    let p = (known_of c.args.from.now).shape.params in
    let q = (known_of c.args.to.now).shape.params in
    let align : c.from-align.result ≡ block_align p.channels p.codec = c.from-align.ensures ∙ c.block_align.ensures ∙ ap (λ (p : Parameters). block_align p.channels p.codec) c.params-params.ensures in
    let to_align : c.from.result ≡ block_align q.channels q.codec = c.from.ensures ∙ c.block_align-2.ensures ∙ ap (λ (p : Parameters). block_align p.channels p.codec) c.params-wanted.ensures in
    let some : 1 ≤ p.channels = omega (arith, c.are_good.ensures.some_channel, ap (λ (p : Parameters). p.channels) c.params-params.ensures) in
    let to_some : 1 ≤ q.channels = omega (arith, c.are_good-2.ensures.some_channel, ap (λ (p : Parameters). p.channels) c.params-wanted.ensures) in
    (omega (arith, align, some, align_least p.codec p.channels c.requires.pass.0), omega (arith, to_align, to_some, align_least q.codec q.channels c.requires.pass.1))

pub returns-clause-left : goal.returns-clause-left
returns-clause-left g c =
    let inv = c.loop-count.invariant in
    let first = known_of c.args.from.now in
    let j = (known_of c.loop-count.from).place - first.place in
    let all : j ≡ left_in first = inv.ended (omega (arith, c.loop-count-test.false)) in
    (inv.read ∙ ap (λ (n : ℕ). read_on n first) all, longer_as j (left_in first) (known_of c.args.to.now) (known_of c.loop-count.to) all inv.written)

pub returns-clause-lengthens : goal.returns-clause-lengthens
returns-clause-lengthens g c = λ kind p pieces xs r e reads stands making.
    let inv = c.loop-count.invariant in
    let first = known_of c.args.from.now in
    let j = (known_of c.loop-count.from).place - first.place in
    let all : j ≡ left_in first = inv.ended (omega (arith, c.loop-count-test.false)) in
    let frames : first.shape.frames ≡ length r.frames = ap (λ (s : Shape). s.frames) reads.shape ∙ reads.count in
    let codec : codec_of c.args.from.now ≡ r.shape.params.codec = ap (λ (s : Shape). s.params.codec) reads.shape in
    let numbers = racked_all c.args.rack.now (codec_of c.args.from.now) r j (omega (arith, all, frames, reads.place)) codec in
    let got = inv.lengthens kind p pieces xs r e reads stands making in
    (got.0, got.1, subst (λ (l : List ℤ). IsMaking kind p pieces (xs ++ change_numbers (codec_of c.args.from.now) (codec_of c.args.to.now) l) got.0) numbers got.2)

pub returns-clause-asked : goal.returns-clause-asked
returns-clause-asked g c =
    let inv = c.loop-count.invariant in
    let first = known_of c.args.from.now in
    asked_all first.shape.params (length c.args.block.now / channels_of c.args.from.now) (left_in first) ((known_of c.loop-count.from).place - first.place) (left_in (known_of c.loop-count.from)) c.loop-count.count _ _ inv.within inv.asked

pub returns-in_err-count-clause-left : goal.returns-in_err-count-clause-left
returns-in_err-count-clause-left g c =
    left_later (left_in (known_of c.args.from.now)) (count_read (length (numbers_in (codec_of c.loop-count.from) (take (c.loop-count.frames * c.from-align.result) c.loop-count.bytes))) (known_of c.loop-count.from)) (known_of c.args.from.now) (known_of c.loop-count.from) (known_of c.pass_block.new.from)
    (known_of c.args.to.now) (known_of c.loop-count.to) (known_of c.pass_block.new.to) c.in_err-count.field-0.0 c.from_residual.result (search rules) (ap (λ (k : Known). k.shape) c.loop-count.invariant.read) c.in_err-count.ensures.left

pub returns-in_err-count-clause-changed : goal.returns-in_err-count-clause-changed
returns-in_err-count-clause-changed g c =
    let inv = c.loop-count.invariant in
    let j = (known_of c.loop-count.from).place - (known_of c.args.from.now).place in
    let k = count_read (length (numbers_in (codec_of c.loop-count.from) (take (c.loop-count.frames * c.from-align.result) c.loop-count.bytes))) (known_of c.loop-count.from) in
    changed_as _ _ c.in_err-count.field-0.0 c.from_residual.result (search rules)
    (λ bad e stands. bad_ahead e.frames e.place j k (bad (moved_by j e) (inv.stands e stands))) c.in_err-count.ensures.changed

pub returns-in_err-count-clause-asked : goal.returns-in_err-count-clause-asked
returns-in_err-count-clause-asked g c =
    let inv = c.loop-count.invariant in
    let first = known_of c.args.from.now in
    let now = known_of c.loop-count.from in
    let j = now.place - first.place in
    let places = length (numbers_in (codec_of c.loop-count.from) (take (c.loop-count.frames * c.from-align.result) c.loop-count.bytes)) in
    let k = count_read places now in
    let each = length c.args.block.now / channels_of c.args.from.now in
    let here : now.place ≡ first.place + j = ap (λ (k : Known). k.place) inv.read in
    let frames : now.shape.frames ≡ first.shape.frames = ap (λ (k : Known). k.shape.frames) inv.read in
    let params : now.shape.params ≡ first.shape.params = ap (λ (k : Known). k.shape.params) inv.read in
    let some : 1 ≤ channels_of c.args.from.now = omega (arith, c.are_good.ensures.some_channel, ap (λ (p : Parameters). p.channels) c.params-params.ensures) in
    let many : 1 ≤ each = one_fits (length c.args.block.now) (channels_of c.args.from.now) some c.requires.places in
    let is : is_adpcm first.shape.params.codec ≡ true → k ≡ min each (left_in now) = λ blocks. absurd (let e : true ≡ false = sym blocks ∙ c.requires.pass.0 in cc) in
    let few : k ≤ left_in now = omega arith in
    let before = asked_before first.shape.params each j (left_in now) c.loop-count.count _ _ (omega (arith, c.loop-count-test.true)) inv.asked in
    let asked = asked_on now first.shape.params each j (left_in now) k (j + k) _ _ _ params many is refl before c.in_err-count.ensures.asked in
    asked_all first.shape.params each (left_in first) (j + k) (left_in now - k) k _ _ (omega (arith, few, here, frames, inv.within)) asked

pub returns-in_err-count-clause-reads : goal.returns-in_err-count-clause-reads
returns-in_err-count-clause-reads g c = only_reads_then _ _ _ _ _ _ _ _ _ c.loop-count.invariant.reads c.in_err-count.ensures.reads
