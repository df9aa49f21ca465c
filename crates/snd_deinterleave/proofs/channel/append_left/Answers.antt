use Rattle.std.proofs.Common.{rules, ◌≡◌, ◌∙◌, ap, sym, subst, refl, ℕ, ◌+◌, ◌-◌, ◌/◌, ◌%◌, ◌≤◌, ℤ, List, ◌++◌, length, min, take, true, arith}
use Rattle.std.proofs.lemmas.List.{length-take-le}
use Rattle.snd_disk.proofs.Public.{goes_on_then, only_reads_then}
use Rattle.snd_disk.specs.State.{AtMost}
use Rattle.snd_layout.specs.Shape.{Shape}
use Rattle.snd_layout.specs.Blocks.{is_adpcm}
use Rattle.snd_edits.specs.Calls.{count_read}
use Rattle.snd_edits.specs.Editing.{Editing, moved_by}
use Rattle.snd_edits.specs.Known.{Known}
use Rattle.snd_edits.specs.Reading.{bytes_to_read}
use Rattle.snd_file.specs.Handle.{Stands, channels_of, disk_of, known_of}
use Rattle.snd_output.specs.Appended.{left_in, read_on}
use Rattle.snd_output.specs.Made.{IsMaking}
use Rattle.snd_output.proofs.Public.{asked_all, asked_before, asked_by, asked_none, asked_on, bad_ahead, changed_as, count_fits, each_whole, left_later, longer_as, longer_none, longer_then, moved_none, moved_twice, none_left, one_fits, read_none, read_twice, whole_places}
use Rattle.snd_deinterleave.specs.Passing.{MayPut, next_channel}
use Rattle.snd_deinterleave.proofs.ChannelPutting.{all_channel, channel_none, channel_twice, may_go_on}
use Rattle.snd_deinterleave.proofs.channel.append_left.Goals as goal

pub loop-count-init : goal.loop-count-init
loop-count-init g c =
    let from = known_of c.args.from.now in
    let to = known_of c.args.to.now in
    let nothing : from.place - from.place ≡ 0 = omega arith in
    record {
      loan = refl;
      to_loan = refl;
      read = read_none from.place from;
      written = longer_as 0 (from.place - from.place) to to (sym nothing) (longer_none to);
      within = omega arith;
      ended = λ one. absurd (omega (arith, one));
      stands = λ e stands. subst (λ (r : Editing). Stands g.D.Disk.state c.args.from.now r) (moved_none from.place e) stands;
      lengthens = λ kind p pieces xs r e reads stands making.
          (e, stands, subst (λ (l : List ℤ). IsMaking kind p pieces l e) (channel_none c.args.which from.place xs r) making);
      calm = refl;
      to_calm = refl;
      reads = search rules;
      tells = search rules;
      time = search rules;
      to_asked = refl;
      same_length = refl;
      as_many = refl;
      asked = asked_none from.shape.params _ from.place (left_in from) 1 _;
    }

pub loop-count-preserved : goal.loop-count-preserved
loop-count-preserved g c =
    let first = known_of c.args.from.now in
    let to_first = known_of c.args.to.now in
    let now = known_of c.loop-count.from in
    let to_now = known_of c.loop-count.to in
    let to_new = known_of c.append_block.new.to in
    let inv = c.loop-count.invariant in
    let one = c.in_ok-count.ensures in
    let count = c.in_ok-count.count in
    let j = now.place - first.place in
    let i = c.append_block.new.from.read_place - first.place in
    let n = length c.args.block.now in
    let q = c.numbers_of-channels.result.0 in
    let w = c.args.which in
    let alike : q ≡ channels_of c.args.from.now = c.numbers_of-channels.ensures.channels in
    let whole = whole_places n q c.numbers_of-channels.ensures.some (omega (arith, alike, c.requires.places)) in
    let places = length (take (n - n % q) c.loop-count.block) in
    let size : places ≡ n - n % q = length-take-le (n - n % q) c.loop-count.block (omega (arith, inv.same_length)) in
    let here : now.place ≡ first.place + j = ap (λ (k : Known). k.place) inv.read in
    let frames : now.shape.frames ≡ first.shape.frames = ap (λ (k : Known). k.shape.frames) inv.read in
    let channels : now.shape.params.channels ≡ channels_of c.args.from.now = ap (λ (k : Known). k.shape.params.channels) inv.read in
    let next : c.append_block.new.from.read_place ≡ now.place + count_read places now = ap (λ (k : Known). k.place) one.left.0 in
    let sum : i ≡ j + count = omega (arith, here, next, one.count) in
    let some : 1 ≤ now.shape.params.channels = omega (arith, channels, alike, c.numbers_of-channels.ensures.some) in
    let fits = count_fits now places count some (ap (λ (m : ℕ). places % m) (channels ∙ sym alike) ∙ ap (λ (m : ℕ). m % q) size ∙ whole.1) one.count in
    record {
      loan = one.loan ∙ inv.loan;
      to_loan = one.to_loan ∙ inv.to_loan;
      read = one.left.0 ∙ ap (λ (m : ℕ). read_on m now) (sym one.count) ∙ ap (read_on count) inv.read ∙ read_twice j count first ∙ ap (λ (m : ℕ). read_on m first) (sym sum);
      written = longer_as (j + count) i to_first to_new (sym sum) (longer_then j count to_first to_now to_new inv.written (longer_as (count_read places now) count to_now to_new (sym one.count) one.left.1));
      within = omega (arith, sum, fits.0, here, frames, inv.within);
      ended = λ none.
          let gone : left_in now ≡ 0 = none_left now places count some (omega (arith, channels, alike, size, whole.0)) one.count none in
          omega (arith, sum, none, gone, here, frames, inv.within);
      stands = λ e stands. subst (λ (r : Editing). Stands g.D.Disk.state c.append_block.new.from r) (moved_twice j count i e sum) (one.stands (moved_by j e) (inv.stands e stands));
      lengthens = λ kind p pieces xs r e reads stands making.
          let before = inv.lengthens kind p pieces xs r e reads stands making in
          let then = one.lengthens kind p pieces (xs ++ next_channel w j r) (moved_by j r) before.0 (inv.stands r reads) before.1 before.2 in
          (then.0, then.1, subst (λ (l : List ℤ). IsMaking kind p pieces l then.0) (channel_twice w xs r j count i sum) then.2);
      calm = one.faults.0 ∙ inv.calm;
      to_calm = one.faults.1 ∙ inv.to_calm;
      reads = only_reads_then _ _ _ _ _ _ _ _ _ inv.reads one.reads;
      tells = search rules;
      time = goes_on_then _ _ _ _ _ _ inv.time one.time;
      to_asked = one.to_asked ∙ inv.to_asked;
      same_length = search rules;
      as_many = search rules;
      asked =
          let each = n / channels_of c.args.from.now in
          let many : 1 ≤ each = one_fits n (channels_of c.args.from.now) (omega (arith, alike, c.numbers_of-channels.ensures.some)) c.requires.places in
          let is : is_adpcm first.shape.params.codec ≡ true → count ≡ min each (left_in now) =
          λ blocks. one.count ∙ ap (λ (m : ℕ). min (places / m) (left_in now)) (channels ∙ sym alike) ∙ ap (λ (m : ℕ). min (m / q) (left_in now)) size
          ∙ ap (λ (m : ℕ). min m (left_in now)) (each_whole n q c.numbers_of-channels.ensures.some) ∙ ap (λ (m : ℕ). min (n / m) (left_in now)) alike in
          let params : now.shape.params ≡ first.shape.params = ap (λ (k : Known). k.shape.params) inv.read in
          let begun = (g.D.Disk.state (disk_of c.args.from.now)).asked in
          let mid = (g.D.Disk.state (disk_of c.loop-count.from)).asked in
          let end = (g.D.Disk.state (disk_of c.append_block.new.from)).asked in
          let before = asked_before first.shape.params each j (left_in now) c.loop-count.count begun mid (omega (arith, c.loop-count-test.true)) inv.asked in
          let more = subst (λ (m : ℕ). AtMost mid (bytes_to_read now.shape.params m) end) (sym one.count) one.asked in
          let rest : left_in now - count ≡ left_in (known_of c.append_block.new.from) = (let e : left_in now - count ≡ now.shape.frames - (now.place + count_read places now) = omega (arith, one.count) in e) ∙ sym (ap left_in one.left.0) in
          subst (λ (m : ℕ). AtMost begun (asked_by first.shape.params each i m count) end) rest
          (asked_on now first.shape.params each j (left_in now) count i begun mid end params many is sum before more);
    }

pub append_block-requires-clause-may : goal.append_block-requires-clause-may
append_block-requires-clause-may g c =
    let first = known_of c.args.from.now in
    let inv = c.loop-count.invariant in
    let j = (known_of c.loop-count.from).place - first.place in
    subst (λ (k : Known). MayPut c.args.which k (known_of c.loop-count.to)) (sym inv.read)
    (may_go_on c.args.which first (known_of c.args.to.now) (known_of c.loop-count.to) j c.requires.may inv.within inv.written)

pub append_block-requires-clause-whole : goal.append_block-requires-clause-whole
append_block-requires-clause-whole g c =
    let inv = c.loop-count.invariant in
    let n = length c.args.block.now in
    let q = c.numbers_of-channels.result.0 in
    let alike : q ≡ channels_of c.args.from.now = c.numbers_of-channels.ensures.channels in
    let size = length-take-le (n - n % q) c.loop-count.block (omega (arith, inv.same_length)) in
    ap (λ (k : Known). length (take (n - n % q) c.loop-count.block) % k.shape.params.channels) inv.read ∙ ap (λ (m : ℕ). m % channels_of c.args.from.now) size
    ∙ ap (λ (m : ℕ). (n - n % q) % m) (sym alike) ∙ (whole_places n q c.numbers_of-channels.ensures.some (omega (arith, alike, c.requires.places))).1

pub append_block-requires-clause-fits : goal.append_block-requires-clause-fits
append_block-requires-clause-fits g c =
    let inv = c.loop-count.invariant in
    let n = length c.args.block.now in
    let q = c.numbers_of-channels.result.0 in
    let size = length-take-le (n - n % q) c.loop-count.block (omega (arith, inv.same_length)) in
    omega (arith, size, inv.as_many, c.requires.fits)

pub returns-clause-left : goal.returns-clause-left
returns-clause-left g c =
    let inv = c.loop-count.invariant in
    let first = known_of c.args.from.now in
    let j = (known_of c.loop-count.from).place - first.place in
    let all : j ≡ left_in first = inv.ended (omega (arith, c.loop-count-test.false)) in
    (inv.read ∙ ap (λ (n : ℕ). read_on n first) all, longer_as j (left_in first) (known_of c.args.to.now) (known_of c.loop-count.to) all inv.written)

pub returns-clause-lengthens : goal.returns-clause-lengthens
returns-clause-lengthens g c = λ kind p pieces xs r e reads stands making.
    let inv = c.loop-count.invariant in
    let first = known_of c.args.from.now in
    let j = (known_of c.loop-count.from).place - first.place in
    let all : j ≡ left_in first = inv.ended (omega (arith, c.loop-count-test.false)) in
    let frames : first.shape.frames ≡ length r.frames = ap (λ (s : Shape). s.frames) reads.shape ∙ reads.count in
    let numbers = all_channel c.args.which r j (omega (arith, all, frames, reads.place)) in
    let got = inv.lengthens kind p pieces xs r e reads stands making in
    (got.0, got.1, subst (λ (l : List ℤ). IsMaking kind p pieces (xs ++ l) got.0) numbers got.2)

pub returns-clause-stands : goal.returns-clause-stands
returns-clause-stands g c = λ e stands.
    let inv = c.loop-count.invariant in
    let first = known_of c.args.from.now in
    let all : (known_of c.loop-count.from).place - first.place ≡ left_in first = inv.ended (omega (arith, c.loop-count-test.false)) in
    subst (λ (n : ℕ). Stands g.D.Disk.state c.loop-count.from (moved_by n e)) all (inv.stands e stands)

pub returns-clause-asked : goal.returns-clause-asked
returns-clause-asked g c =
    let inv = c.loop-count.invariant in
    let first = known_of c.args.from.now in
    asked_all first.shape.params (length c.args.block.now / channels_of c.args.from.now) (left_in first) ((known_of c.loop-count.from).place - first.place) (left_in (known_of c.loop-count.from)) c.loop-count.count _ _ inv.within inv.asked

pub returns-in_err-count-clause-left : goal.returns-in_err-count-clause-left
returns-in_err-count-clause-left g c =
    let n = length c.args.block.now in
    let q = c.numbers_of-channels.result.0 in
    left_later (left_in (known_of c.args.from.now)) (count_read (length (take (n - n % q) c.loop-count.block)) (known_of c.loop-count.from)) (known_of c.args.from.now) (known_of c.loop-count.from) (known_of c.append_block.new.from)
    (known_of c.args.to.now) (known_of c.loop-count.to) (known_of c.append_block.new.to) c.in_err-count.field-0.0 c.from_residual.result (search rules) (ap (λ (k : Known). k.shape) c.loop-count.invariant.read) c.in_err-count.ensures.left

pub returns-in_err-count-clause-changed : goal.returns-in_err-count-clause-changed
returns-in_err-count-clause-changed g c =
    let inv = c.loop-count.invariant in
    let n = length c.args.block.now in
    let q = c.numbers_of-channels.result.0 in
    let j = (known_of c.loop-count.from).place - (known_of c.args.from.now).place in
    let k = count_read (length (take (n - n % q) c.loop-count.block)) (known_of c.loop-count.from) in
    changed_as _ _ c.in_err-count.field-0.0 c.from_residual.result (search rules)
    (λ bad e stands. bad_ahead e.frames e.place j k (bad (moved_by j e) (inv.stands e stands))) c.in_err-count.ensures.changed

pub returns-in_err-count-clause-asked : goal.returns-in_err-count-clause-asked
returns-in_err-count-clause-asked g c =
    let inv = c.loop-count.invariant in
    let first = known_of c.args.from.now in
    let now = known_of c.loop-count.from in
    let j = now.place - first.place in
    let n = length c.args.block.now in
    let q = c.numbers_of-channels.result.0 in
    let alike : q ≡ channels_of c.args.from.now = c.numbers_of-channels.ensures.channels in
    let places = length (take (n - n % q) c.loop-count.block) in
    let size : places ≡ n - n % q = length-take-le (n - n % q) c.loop-count.block (omega (arith, inv.same_length)) in
    let k = count_read places now in
    let each = n / channels_of c.args.from.now in
    let here : now.place ≡ first.place + j = ap (λ (k : Known). k.place) inv.read in
    let frames : now.shape.frames ≡ first.shape.frames = ap (λ (k : Known). k.shape.frames) inv.read in
    let channels : now.shape.params.channels ≡ channels_of c.args.from.now = ap (λ (k : Known). k.shape.params.channels) inv.read in
    let params : now.shape.params ≡ first.shape.params = ap (λ (k : Known). k.shape.params) inv.read in
    let many : 1 ≤ each = one_fits n (channels_of c.args.from.now) (omega (arith, alike, c.numbers_of-channels.ensures.some)) c.requires.places in
    let is : is_adpcm first.shape.params.codec ≡ true → k ≡ min each (left_in now) =
    λ blocks. ap (λ (m : ℕ). min (places / m) (left_in now)) (channels ∙ sym alike) ∙ ap (λ (m : ℕ). min (m / q) (left_in now)) size
    ∙ ap (λ (m : ℕ). min m (left_in now)) (each_whole n q c.numbers_of-channels.ensures.some) ∙ ap (λ (m : ℕ). min (n / m) (left_in now)) alike in
    let few : k ≤ left_in now = omega arith in
    let before = asked_before first.shape.params each j (left_in now) c.loop-count.count _ _ (omega (arith, c.loop-count-test.true)) inv.asked in
    let asked = asked_on now first.shape.params each j (left_in now) k (j + k) _ _ _ params many is refl before c.in_err-count.ensures.asked in
    asked_all first.shape.params each (left_in first) (j + k) (left_in now - k) k _ _ (omega (arith, few, here, frames, inv.within)) asked

pub returns-in_err-count-clause-reads : goal.returns-in_err-count-clause-reads
returns-in_err-count-clause-reads g c = only_reads_then _ _ _ _ _ _ _ _ _ c.loop-count.invariant.reads c.in_err-count.ensures.reads
