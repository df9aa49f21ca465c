use Rattle.std.proofs.Common.{rules, ◌≡◌, ◌∙◌, ap, sym, subst, refl, ℕ, ◌+◌, ◌-◌, ◌*◌, ◌/◌, ◌%◌, ◌<◌, ◌≤◌, ℤ, List, ◌++◌, length, min, take, true, false, arith}
use Rattle.std.proofs.Math.Nat.{mul-div_cancel, mul-le-mul_right, mul-mod_left}
use Rattle.std.proofs.lemmas.List.{length-take-le}
use Rattle.snd_disk.proofs.Public.{goes_on_then, only_reads_then}
use Rattle.snd_disk.specs.State.{AtMost}
use Rattle.snd_layout.specs.Shape.{Shape}
use Rattle.snd_layout.specs.declared.codec.Codec.{Codec}
use Rattle.snd_edits.specs.Calls.{count_read}
use Rattle.snd_edits.specs.Editing.{Editing, moved_by}
use Rattle.snd_edits.specs.Known.{Known}
use Rattle.snd_file.specs.Handle.{Stands, channels_of, codec_of, disk_of, known_of}
use Rattle.snd_edits.specs.Reading.{bytes_of_frames, bytes_to_read}
use Rattle.snd_output.specs.Appended.{MayAppend, bytes_in, left_in, next_numbers, read_on}
use Rattle.snd_output.specs.Made.{IsMaking}
use Rattle.snd_output.specs.Widths.{change_numbers}
use Rattle.snd_output.proofs.Appending.{all_numbers, asked_all, asked_before, asked_by, asked_none, asked_on, bad_ahead, count_fits, left_later, longer_as, longer_none, longer_then, may_go_on, moved_none, moved_twice, none_left, numbers_none, one_fits, numbers_twice, read_none, read_twice}
use Rattle.snd_layout.specs.Blocks.{block_align, is_adpcm}
use Rattle.snd_output.proofs.Passing.{align_least, places_fit, within}
use Rattle.snd_output.proofs.Changing.{changed_as}
use Rattle.snd_output.proofs.blocks.append_bytes.Goals as goal

pub loop-count-init : goal.loop-count-init
loop-count-init g c =
    let from = known_of c.args.from.now in
    let to = known_of c.args.to.now in
    let nothing : from.place - from.place ≡ 0 = omega arith in
    record {
      loan = refl;
      to_loan = refl;
      read = read_none from.place from;
      written = longer_as 0 (from.place - from.place) to to (sym nothing) (longer_none to);
      within = omega arith;
      ended = λ one. absurd (omega (arith, one));
      stands = λ e stands. subst (λ (r : Editing). Stands g.D.Disk.state c.args.from.now r) (moved_none from.place e) stands;
      lengthens = λ kind p pieces xs r e reads stands making.
          (e, stands, subst (λ (l : List ℤ). IsMaking kind p pieces l e) (numbers_none from.place (codec_of c.args.from.now) (codec_of c.args.to.now) xs r) making);
      calm = refl;
      to_calm = refl;
      reads = search rules;
      tells = search rules;
      time = search rules;
      to_asked = refl;
      some = omega (arith, c.frames_first-frames.ensures);
      below = omega (arith, c.frames_first-frames.ensures, c.frames_of-most.ensures.one);
      asked = asked_none from.shape.params _ from.place (left_in from) 1 _;
    }

pub loop-count-preserved : goal.loop-count-preserved
loop-count-preserved g c =
    let first = known_of c.args.from.now in
    let to_first = known_of c.args.to.now in
    let now = known_of c.loop-count.from in
    let to_now = known_of c.loop-count.to in
    let to_new = known_of c.pass_block.new.to in
    let inv = c.loop-count.invariant in
    let one = c.in_ok-count.ensures in
    let count = c.in_ok-count.count in
    let j = now.place - first.place in
    let i = c.pass_block.new.from.read_place - first.place in
    let q = c.numbers_of-channels.result.0 in
    let frames_now = c.loop-count.frames in
    let places = length (take (frames_now * q) c.loop-count.numbers) in
    let size : places ≡ frames_now * q =
    length-take-le (frames_now * q) c.loop-count.numbers (omega (arith, within frames_now c.frames_of-most.result q _ inv.below c.frames_of-most.ensures.numbers, c.loop-count.auto.numbers)) in
    let alike : c.numbers_of-channels.result.0 ≡ channels_of c.args.from.now = c.numbers_of-channels.ensures.channels in
    let here : now.place ≡ first.place + j = ap (λ (k : Known). k.place) inv.read in
    let frames : now.shape.frames ≡ first.shape.frames = ap (λ (k : Known). k.shape.frames) inv.read in
    let channels : now.shape.params.channels ≡ first.shape.params.channels = ap (λ (k : Known). k.shape.params.channels) inv.read in
    let next : c.pass_block.new.from.read_place ≡ now.place + count_read places now = ap (λ (k : Known). k.place) one.left.0 in
    let sum : i ≡ j + count = omega (arith, here, next, one.count) in
    let some : 1 ≤ now.shape.params.channels = omega (arith, channels, c.numbers_of-channels.ensures.channels, c.numbers_of-channels.ensures.some) in
    let fits = count_fits now places count some (ap (λ (n : ℕ). places % n) channels ∙ ap (λ (n : ℕ). n % channels_of c.args.from.now) size ∙ ap (λ (n : ℕ). frames_now * q % n) (sym alike) ∙ mul-mod_left frames_now q) one.count in
    let from_codec : codec_of c.loop-count.from ≡ codec_of c.args.from.now = ap (λ (k : Known). k.shape.params.codec) inv.read in
    let to_codec : codec_of c.loop-count.to ≡ codec_of c.args.to.now = ap (λ (s : Shape). s.params.codec) inv.written.shape in
    record {
      loan = one.loan ∙ inv.loan;
      to_loan = one.to_loan ∙ inv.to_loan;
      read = one.left.0 ∙ ap (λ (n : ℕ). read_on n now) (sym one.count) ∙ ap (read_on count) inv.read ∙ read_twice j count first ∙ ap (λ (n : ℕ). read_on n first) (sym sum);
      written = longer_as (j + count) i to_first to_new (sym sum) (longer_then j count to_first to_now to_new inv.written (longer_as (count_read places now) count to_now to_new (sym one.count) one.left.1));
      within = omega (arith, sum, fits.0, here, frames, inv.within);
      ended = λ none.
          let gone : left_in now ≡ 0 = none_left now places count some (omega (arith, channels, size, alike, mul-le-mul_right q inv.some)) one.count none in
          omega (arith, sum, none, gone, here, frames, inv.within);
      stands = λ e stands. subst (λ (r : Editing). Stands g.D.Disk.state c.pass_block.new.from r) (moved_twice j count i e sum) (one.stands (moved_by j e) (inv.stands e stands));
      lengthens = λ kind p pieces xs r e reads stands making.
          let before = inv.lengthens kind p pieces xs r e reads stands making in
          let so_far = xs ++ change_numbers (codec_of c.args.from.now) (codec_of c.args.to.now) (next_numbers j r) in
          let then = one.lengthens kind p pieces so_far (moved_by j r) before.0 (inv.stands r reads) before.1 before.2 in
          let same : so_far ++ change_numbers (codec_of c.loop-count.from) (codec_of c.loop-count.to) (next_numbers count (moved_by j r))
          ≡ xs ++ change_numbers (codec_of c.args.from.now) (codec_of c.args.to.now) (next_numbers i r) =
          ap (λ (q : Codec). so_far ++ change_numbers q (codec_of c.loop-count.to) (next_numbers count (moved_by j r))) from_codec
          ∙ ap (λ (q : Codec). so_far ++ change_numbers (codec_of c.args.from.now) q (next_numbers count (moved_by j r))) to_codec
          ∙ numbers_twice (codec_of c.args.from.now) (codec_of c.args.to.now) xs r j count
          ∙ ap (λ (n : ℕ). xs ++ change_numbers (codec_of c.args.from.now) (codec_of c.args.to.now) (next_numbers n r)) (sym sum) in
          (then.0, then.1, subst (λ (l : List ℤ). IsMaking kind p pieces l then.0) same then.2);
      calm = one.faults.0 ∙ inv.calm;
      to_calm = one.faults.1 ∙ inv.to_calm;
      reads = only_reads_then _ _ _ _ _ _ _ _ _ inv.reads one.reads;
      tells = search rules;
      time = goes_on_then _ _ _ _ _ _ inv.time one.time;
      to_asked = one.to_asked ∙ inv.to_asked;
      some = c.frames_of-most.ensures.one;
      below = omega arith;
      asked =
          let each = length c.args.numbers.now / channels_of c.args.from.now in
          let many : 1 ≤ each = one_fits (length c.args.numbers.now) (channels_of c.args.from.now) (omega (arith, alike, c.numbers_of-channels.ensures.some)) c.requires.places in
          let is : is_adpcm first.shape.params.codec ≡ true → count ≡ min each (left_in now) = λ blocks. absurd (let e : true ≡ false = sym blocks ∙ c.requires.pass.0 in cc) in
          let params : now.shape.params ≡ first.shape.params = ap (λ (k : Known). k.shape.params) inv.read in
          let begun = (g.D.Disk.state (disk_of c.args.from.now)).asked in
          let mid = (g.D.Disk.state (disk_of c.loop-count.from)).asked in
          let end = (g.D.Disk.state (disk_of c.pass_block.new.from)).asked in
          let before = asked_before first.shape.params each j (left_in now) c.loop-count.count begun mid (omega (arith, c.loop-count-test.true)) inv.asked in
          let more = subst (λ (n : ℕ). AtMost mid (bytes_to_read now.shape.params n) end) (sym one.count) one.asked in
          let rest : left_in now - count ≡ left_in (known_of c.pass_block.new.from) = (let e : left_in now - count ≡ now.shape.frames - (now.place + count_read places now) = omega (arith, one.count) in e) ∙ sym (ap left_in one.left.0) in
          subst (λ (n : ℕ). AtMost begun (asked_by first.shape.params each i n count) end) rest
          (asked_on now first.shape.params each j (left_in now) count i begun mid end params many is sum before more);
    }

pub pass_block-requires-clause-may : goal.pass_block-requires-clause-may
pass_block-requires-clause-may g c =
    let first = known_of c.args.from.now in
    let inv = c.loop-count.invariant in
    subst (λ (k : Known). MayAppend k (known_of c.loop-count.to)) (sym inv.read)
    (may_go_on first (known_of c.args.to.now) (known_of c.loop-count.to) ((known_of c.loop-count.from).place - first.place) c.requires.may inv.within inv.written)

pub returns-clause-left : goal.returns-clause-left
returns-clause-left g c =
    let inv = c.loop-count.invariant in
    let first = known_of c.args.from.now in
    let j = (known_of c.loop-count.from).place - first.place in
    let all : j ≡ left_in first = inv.ended (omega (arith, c.loop-count-test.false)) in
    (inv.read ∙ ap (λ (n : ℕ). read_on n first) all, longer_as j (left_in first) (known_of c.args.to.now) (known_of c.loop-count.to) all inv.written)

pub returns-clause-lengthens : goal.returns-clause-lengthens
returns-clause-lengthens g c = λ kind p pieces xs r e reads stands making.
    let inv = c.loop-count.invariant in
    let first = known_of c.args.from.now in
    let j = (known_of c.loop-count.from).place - first.place in
    let all : j ≡ left_in first = inv.ended (omega (arith, c.loop-count-test.false)) in
    let frames : first.shape.frames ≡ length r.frames = ap (λ (s : Shape). s.frames) reads.shape ∙ reads.count in
    let numbers = all_numbers r j (omega (arith, all, frames, reads.place)) in
    let got = inv.lengthens kind p pieces xs r e reads stands making in
    (got.0, got.1, subst (λ (l : List ℤ). IsMaking kind p pieces (xs ++ change_numbers (codec_of c.args.from.now) (codec_of c.args.to.now) l) got.0) numbers got.2)

pub returns-clause-asked : goal.returns-clause-asked
returns-clause-asked g c =
    let inv = c.loop-count.invariant in
    let first = known_of c.args.from.now in
    asked_all first.shape.params (length c.args.numbers.now / channels_of c.args.from.now) (left_in first) ((known_of c.loop-count.from).place - first.place) (left_in (known_of c.loop-count.from)) c.loop-count.count _ _ inv.within inv.asked

pub returns-in_err-count-clause-left : goal.returns-in_err-count-clause-left
returns-in_err-count-clause-left g c =
    left_later (left_in (known_of c.args.from.now)) (count_read (length (take (c.loop-count.frames * c.numbers_of-channels.result.0) c.loop-count.numbers)) (known_of c.loop-count.from)) (known_of c.args.from.now) (known_of c.loop-count.from) (known_of c.pass_block.new.from)
    (known_of c.args.to.now) (known_of c.loop-count.to) (known_of c.pass_block.new.to) c.in_err-count.field-0.0 c.from_residual.result (search rules) (ap (λ (k : Known). k.shape) c.loop-count.invariant.read) c.in_err-count.ensures.left

pub returns-in_err-count-clause-changed : goal.returns-in_err-count-clause-changed
returns-in_err-count-clause-changed g c =
    let inv = c.loop-count.invariant in
    let j = (known_of c.loop-count.from).place - (known_of c.args.from.now).place in
    let k = count_read (length (take (c.loop-count.frames * c.numbers_of-channels.result.0) c.loop-count.numbers)) (known_of c.loop-count.from) in
    changed_as _ _ c.in_err-count.field-0.0 c.from_residual.result (search rules)
    (λ bad e stands. bad_ahead e.frames e.place j k (bad (moved_by j e) (inv.stands e stands))) c.in_err-count.ensures.changed

pub returns-in_err-count-clause-asked : goal.returns-in_err-count-clause-asked
returns-in_err-count-clause-asked g c =
    let inv = c.loop-count.invariant in
    let first = known_of c.args.from.now in
    let now = known_of c.loop-count.from in
    let j = now.place - first.place in
    let places = length (take (c.loop-count.frames * c.numbers_of-channels.result.0) c.loop-count.numbers) in
    let k = count_read places now in
    let each = length c.args.numbers.now / channels_of c.args.from.now in
    let here : now.place ≡ first.place + j = ap (λ (k : Known). k.place) inv.read in
    let frames : now.shape.frames ≡ first.shape.frames = ap (λ (k : Known). k.shape.frames) inv.read in
    let channels : now.shape.params.channels ≡ first.shape.params.channels = ap (λ (k : Known). k.shape.params.channels) inv.read in
    let params : now.shape.params ≡ first.shape.params = ap (λ (k : Known). k.shape.params) inv.read in
    let many : 1 ≤ each = one_fits (length c.args.numbers.now) (channels_of c.args.from.now) (omega (arith, c.numbers_of-channels.ensures.channels, c.numbers_of-channels.ensures.some)) c.requires.places in
    let is : is_adpcm first.shape.params.codec ≡ true → k ≡ min each (left_in now) = λ blocks. absurd (let e : true ≡ false = sym blocks ∙ c.requires.pass.0 in cc) in
    let few : k ≤ left_in now = omega arith in
    let before = asked_before first.shape.params each j (left_in now) c.loop-count.count _ _ (omega (arith, c.loop-count-test.true)) inv.asked in
    let asked = asked_on now first.shape.params each j (left_in now) k (j + k) _ _ _ params many is refl before c.in_err-count.ensures.asked in
    asked_all first.shape.params each (left_in first) (j + k) (left_in now - k) k _ _ (omega (arith, few, here, frames, inv.within)) asked

pub returns-in_err-count-clause-reads : goal.returns-in_err-count-clause-reads
returns-in_err-count-clause-reads g c = only_reads_then _ _ _ _ _ _ _ _ _ c.loop-count.invariant.reads c.in_err-count.ensures.reads

pub frames_of-most-requires-clause-some : goal.frames_of-most-requires-clause-some
frames_of-most-requires-clause-some g c =
    let from = known_of c.args.from.now in
    let align : c.from-align.result ≡ block_align from.shape.params.channels from.shape.params.codec = search rules in
    let least = align_least from.shape.params.codec from.shape.params.channels c.requires.pass.0 in
    (c.numbers_of-channels.ensures.some, omega (arith, align, least, c.numbers_of-channels.ensures.some, c.numbers_of-channels.ensures.channels))

pub frames_of-most-requires-clause-one : goal.frames_of-most-requires-clause-one
frames_of-most-requires-clause-one g c =
    let from = known_of c.args.from.now in
    let align : c.from-align.result ≡ block_align from.shape.params.channels from.shape.params.codec = search rules in
    (omega (arith, c.numbers_of-channels.ensures.channels, c.requires.places), omega (arith, align, c.requires.held))

pub overflow_mul-block : goal.overflow_mul-block
overflow_mul-block g c =
    let fits = within c.loop-count.frames c.frames_of-most.result c.numbers_of-channels.result.0 _ c.loop-count.invariant.below c.frames_of-most.ensures.numbers in
    omega (arith, fits, c.requires.few)

pub slice_bounds-block-end : goal.slice_bounds-block-end
slice_bounds-block-end g c =
    let fits = within c.loop-count.frames c.frames_of-most.result c.numbers_of-channels.result.0 _ c.loop-count.invariant.below c.frames_of-most.ensures.numbers in
    omega (arith, fits, c.loop-count.auto.numbers)

pub overflow_mul-held : goal.overflow_mul-held
overflow_mul-held g c =
    let fits = within c.loop-count.frames c.frames_of-most.result c.from-align.result _ c.loop-count.invariant.below c.frames_of-most.ensures.bytes in
    omega (arith, fits, c.requires.few_bytes)

pub slice_bounds-held-end : goal.slice_bounds-held-end
slice_bounds-held-end g c =
    let fits = within c.loop-count.frames c.frames_of-most.result c.from-align.result _ c.loop-count.invariant.below c.frames_of-most.ensures.bytes in
    omega (arith, fits, c.loop-count.auto.bytes)

pub pass_block-requires-clause-whole : goal.pass_block-requires-clause-whole
pass_block-requires-clause-whole g c =
    let inv = c.loop-count.invariant in
    let q = c.numbers_of-channels.result.0 in
    let n = c.loop-count.frames in
    let fits = within n c.frames_of-most.result q _ inv.below c.frames_of-most.ensures.numbers in
    let size = length-take-le (n * q) c.loop-count.numbers (omega (arith, fits, c.loop-count.auto.numbers)) in
    ap (λ (k : Known). length (take (n * q) c.loop-count.numbers) % k.shape.params.channels) inv.read ∙ ap (λ (i : ℕ). i % channels_of c.args.from.now) size
    ∙ ap (λ (i : ℕ). n * q % i) (sym c.numbers_of-channels.ensures.channels) ∙ mul-mod_left n q

pub pass_block-requires-clause-held : goal.pass_block-requires-clause-held
pass_block-requires-clause-held g c =
    let inv = c.loop-count.invariant in
    let q = c.numbers_of-channels.result.0 in
    let n = c.loop-count.frames in
    let from = known_of c.args.from.now in
    let align = c.from-align.result in
    let same : align ≡ block_align from.shape.params.channels from.shape.params.codec = search rules in
    let fits = within n c.frames_of-most.result q _ inv.below c.frames_of-most.ensures.numbers in
    let size = length-take-le (n * q) c.loop-count.numbers (omega (arith, fits, c.loop-count.auto.numbers)) in
    let room = within n c.frames_of-most.result align _ inv.below c.frames_of-most.ensures.bytes in
    let held = length-take-le (n * align) c.loop-count.bytes (omega (arith, room, c.loop-count.auto.bytes)) in
    let back : length (take (n * q) c.loop-count.numbers) / channels_of c.args.from.now ≡ n =
    ap (λ (i : ℕ). i / channels_of c.args.from.now) size ∙ ap (λ (i : ℕ). n * q / i) (sym c.numbers_of-channels.ensures.channels)
    ∙ mul-div_cancel n (let e : 0 < q = omega (arith, c.numbers_of-channels.ensures.some) in e) in
    held ∙ ap (λ (i : ℕ). i * align) (sym back) ∙ ap (λ (a : ℕ). length (take (n * q) c.loop-count.numbers) / channels_of c.args.from.now * a) same
    ∙ sym (ap (λ (k : Known). bytes_of_frames k.shape.params (length (take (n * q) c.loop-count.numbers) / k.shape.params.channels)) inv.read)

pub pass_block-requires-clause-few : goal.pass_block-requires-clause-few
pass_block-requires-clause-few g c =
    let inv = c.loop-count.invariant in
    let q = c.numbers_of-channels.result.0 in
    let n = c.loop-count.frames in
    let fits = within n c.frames_of-most.result q _ inv.below c.frames_of-most.ensures.numbers in
    let size = length-take-le (n * q) c.loop-count.numbers (omega (arith, fits, c.loop-count.auto.numbers)) in
    omega (arith, size, fits, c.requires.few)

pub pass_block-requires-clause-fits : goal.pass_block-requires-clause-fits
pass_block-requires-clause-fits g c =
    let inv = c.loop-count.invariant in
    let q = c.numbers_of-channels.result.0 in
    let n = c.loop-count.frames in
    let fits = within n c.frames_of-most.result q _ inv.below c.frames_of-most.ensures.numbers in
    let size = length-take-le (n * q) c.loop-count.numbers (omega (arith, fits, c.loop-count.auto.numbers)) in
    let codec : codec_of c.loop-count.to ≡ codec_of c.args.to.now = ap (λ (s : Shape). s.params.codec) inv.written.shape in
    let room = places_fit (codec_of c.args.to.now) (n * q) (length c.args.numbers.now) c.requires.pass.1 fits in
    omega (arith, ap (bytes_in (codec_of c.loop-count.to)) size, ap (λ (o : Codec). bytes_in o (n * q)) codec, room, c.requires.fits, c.loop-count.auto.coded)
