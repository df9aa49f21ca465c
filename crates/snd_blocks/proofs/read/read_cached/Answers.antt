use Rattle.std.proofs.Common.{rules, true, ◌≡◌, ◌∙◌, ap, sym, subst, refl, ◌+◌, ◌-◌, ◌*◌, ◌/◌, ◌≤◌, ℕ, All, drop, length, max, arith}
use Rattle.std.proofs.Math.Nat.{mul-div-le, mul-le-mul_right}
use Rattle.std.proofs.lemmas.List.Elements.{All-drop, All-take}
use Rattle.std.proofs.lemmas.List.{length-take, take_all}
use Rattle.snd_ima_adpcm.specs.Frames.{Is16Bit}
use Rattle.snd_disk.specs.Device.{Tells}
use Rattle.snd_disk.proofs.Public.{only_reads_then}
use Rattle.snd_layout.specs.Blocks.{block_align, block_frames}
use Rattle.snd_layout.specs.Shape.{end}
use Rattle.snd_pcm.specs.Groups.{first_groups}
use Rattle.snd_blocks.specs.Cache.{block_numbers, samples_cached}
use Rattle.snd_blocks.specs.Calls.{IsBlock, block_at}
use Rattle.snd_blocks.specs.Frames.{has_bad, wanted_frames}
use Rattle.snd_blocks.specs.Spans.{count_before}
use Rattle.snd_blocks.proofs.Places.{all_before, begins_before, ends_behind, first_before_last, none_before, whole_product}
use Rattle.snd_blocks.proofs.Fetches.{asked_then}
use Rattle.snd_blocks.proofs.ReadSpans.{bad_span, no_bad_span, no_span, whole_span}
use Rattle.snd_blocks.proofs.read.read_cached.Goals as goal

pub loop-number-init : goal.loop-number-init
loop-number-init g c =
    let s = c.args.layout.now in
    let per = block_frames s.params.codec in
    let count = length c.args.into.now / c.channels_of.result in
    let first = c.args.place / c.from.result in
    let size : per ≡ c.from.result = search rules in
    let none : count_before per c.args.place count first ≡ 0 =
    subst (λ (m : ℕ). count_before per c.args.place count (c.args.place / m) ≡ 0) size (none_before per c.args.place count c.keeps_blocks.ensures.some_frames) in
    record {
      told = λ b told. no_span b s c.args.place count (c.args.place / c.from.result) c.args.into.now none;
      range = λ k d lt. absurd (omega (arith, lt, length-take (s.params.channels * count_before per c.args.place count (c.args.place / c.from.result)) c.args.into.now, ap (λ (m : ℕ). s.params.channels * m) none));
      calm = refl;
      reads = search rules;
      asked = record { later = omega arith; most = omega arith };
      begun = λ n from until. c.next_missing.ensures.kept n from (omega (arith, until, c.min-start.ensures));
      past = omega arith;
      fetched = record {
        right = λ b told n begun left. absurd (omega (arith, begun, left));
        room = omega (arith, ap (λ (m : ℕ). m * block_align s.params.channels s.params.codec) (let e : c.min-start.result - c.min-start.result ≡ 0 = omega arith in e));
        most = omega (arith, c.min-start.ensures, c.last_block-last.ensures, c.read_limit-limit.ensures.wanted);
      };
      cached = c.requires.cached;
    }

pub put_span-requires-clause-begins : goal.put_span-requires-clause-begins
put_span-requires-clause-begins g c =
    begins_before (block_frames c.args.layout.now.params.codec) c.args.place (length c.args.into.now / c.channels_of.result) c.loop-number.number
    (omega (arith, c.if-count-eq0.false)) (omega (arith, c.loop-number-test.true, c.last_block-last.ensures))

pub put_span-requires-clause-ends : goal.put_span-requires-clause-ends
put_span-requires-clause-ends g c =
    let per = block_frames c.args.layout.now.params.codec in
    let size : per ≡ c.from.result = search rules in
    let from : c.args.place / c.from.result ≤ c.loop-number.number = omega (arith, c.loop-number.auto.number) in
    ends_behind per c.args.place c.loop-number.number c.keeps_blocks.ensures.some_frames (subst (λ (m : ℕ). c.args.place / m ≤ c.loop-number.number) (sym size) from)

pub put_span-requires-clause-range : goal.put_span-requires-clause-range
put_span-requires-clause-range g c =
    let s = c.args.layout.now in
    let samples = samples_cached c.load.new.cache in
    let at = (c.loop-number.number - c.load.new.cache.first) * block_numbers s in
    subst (All Is16Bit) (sym c.block.ensures.value)
    (All-take Is16Bit (block_numbers s) (drop at samples) (All-drop Is16Bit at samples (c.load.ensures.cached.range c.loop-number.number c.in_ok-fetched.ensures.loaded)))

pub loop-number-preserved : goal.loop-number-preserved
loop-number-preserved g c =
    let s = c.args.layout.now in
    let align = block_align s.params.channels s.params.codec in
    let n = c.loop-number.number in
    let before = max n c.loop-number.fetched.next in
    let now = max (n + 1) c.in_ok-fetched.fetched.next in
    let start = c.min-start.result in
    let sum : (before - start) * align + (now - before) * align ≡ (now - start) * align =
    asked_then start before now align (omega (arith, c.loop-number.invariant.past)) (omega (arith, c.in_ok-fetched.ensures.later)) in
    record {
      told = λ b told.
          let fits : end s s.frames ≤ length b = omega (arith, c.requires.held, g.met.D.Disk.size_told c.args.disk.now b told) in
          let here : Tells g.D.Disk.state c.load.new.disk b = c.load.ensures.reads.keeps.contents ∙ c.loop-number.invariant.reads.keeps.contents ∙ told in
          c.put_span.ensures.told b fits (subst (IsBlock s.params (block_at b s n)) (sym c.block.ensures.value) (c.load.ensures.cached.right n b c.in_ok-fetched.ensures.loaded here)) (c.loop-number.invariant.told b told);
      range = c.put_span.ensures.range c.loop-number.invariant.range;
      calm = search rules;
      reads = only_reads_then _ _ _ _ _ _ _ _ _ c.loop-number.invariant.reads c.load.ensures.reads;
      asked = record {
        later = omega (arith, c.loop-number.invariant.asked.later, c.in_ok-fetched.ensures.asked.later);
        most = omega (arith, sum, c.loop-number.invariant.asked.most, c.in_ok-fetched.ensures.asked.most);
      };
      begun = c.in_ok-fetched.ensures.begun;
      past = omega (arith, c.loop-number.invariant.past, c.in_ok-fetched.ensures.later);
      fetched = c.in_ok-fetched.ensures.fetched;
      cached = c.load.ensures.cached;
    }

pub returns-in_err-fetched-clause-bad : goal.returns-in_err-fetched-clause-bad
returns-in_err-fetched-clause-bad g c = λ is b told.
    let s = c.args.layout.now in
    let n = c.loop-number.number in
    let count = length c.args.into.now / c.channels_of.result in
    let fits : end s s.frames ≤ length b = omega (arith, c.requires.held, g.met.D.Disk.size_told c.args.disk.now b told) in
    let here : Tells g.D.Disk.state c.loop-number.disk b = c.loop-number.invariant.reads.keeps.contents ∙ told in
    let per = block_frames s.params.codec in
    let some : 1 ≤ count = omega (arith, c.if-count-eq0.false) in
    let size : per ≡ c.from.result = search rules in
    let begins = begins_before per c.args.place count n some (omega (arith, c.loop-number-test.true, c.last_block-last.ensures)) in
    let ends = ends_behind per c.args.place n c.keeps_blocks.ensures.some_frames (subst (λ (m : ℕ). c.args.place / m ≤ n) (sym size) (omega (arith, c.loop-number.auto.number))) in
    let bad = bad_span b s c.args.place count n c.keeps_blocks.ensures fits (search rules) begins ends some (search (rules, c.in_err-fetched.ensures.bad)) in
    subst (λ (m : ℕ). has_bad (wanted_frames b s c.args.place (length c.args.into.now / m)) ≡ true) c.channels_of.ensures.value bad

pub returns-in_err-fetched-clause-asked : goal.returns-in_err-fetched-clause-asked
returns-in_err-fetched-clause-asked g c =
    let s = c.args.layout.now in
    let k = s.params.channels in
    let per = block_frames s.params.codec in
    let align = block_align k s.params.codec in
    let count = length c.args.into.now / c.channels_of.result in
    let limit = c.read_limit-limit.result in
    let start = c.min-start.result in
    let before = max c.loop-number.number c.loop-number.fetched.next in
    let sum : (before - start) * align + (limit - before) * align ≡ (limit - start) * align =
    asked_then start before limit align (omega (arith, c.loop-number.invariant.past))
    (omega (arith, c.loop-number-test.true, c.last_block-last.ensures, c.read_limit-limit.ensures.wanted, c.loop-number.invariant.fetched.most)) in
    let all : (limit - start) * align ≤ (count / per + 2) * align = mul-le-mul_right align c.read_limit-limit.ensures.most in
    let wanted : (count / per + 2) * align ≡ (length c.args.into.now / k / per + 2) * align = ap (λ (m : ℕ). (length c.args.into.now / m / per + 2) * align) c.channels_of.ensures.value in
    record {
      later = omega (arith, c.loop-number.invariant.asked.later, c.load.ensures.most.later);
      most = omega (arith, sum, all, wanted, c.loop-number.invariant.asked.most, c.load.ensures.most.most);
    }

pub returns-clause-told : goal.returns-clause-told
returns-clause-told g c = λ b told.
    let s = c.args.layout.now in
    let k = s.params.channels in
    let per = block_frames s.params.codec in
    let count = length c.args.into.now / c.channels_of.result in
    let some : 1 ≤ count = omega (arith, c.if-count-eq0.false) in
    let into = c.loop-number.into in
    let all : count_before per c.args.place count c.loop-number.number ≡ count =
    all_before per c.args.place count c.loop-number.number c.keeps_blocks.ensures.some_frames some (omega (arith, c.loop-number-test.false, c.last_block-last.ensures)) in
    let same : first_groups k count into ≡ wanted_frames b s c.args.place count = whole_span b s c.args.place count c.loop-number.number into all (c.loop-number.invariant.told b told) in
    let size : count ≡ length into / k =
    ap (λ (m : ℕ). length c.args.into.now / m) c.channels_of.ensures.value ∙ ap (λ (m : ℕ). m / k) (sym c.loop-number.auto.into) in
    let frames = subst (λ (m : ℕ). first_groups k m into ≡ wanted_frames b s c.args.place m) size same in
    record {
      good = no_bad_span b s c.args.place (length into / k) into (omega (arith, c.channels_of.ensures.value, c.channels_of.ensures.some)) (mul-div-le (length into) k) frames;
      frames = frames;
    }

pub returns-clause-range : goal.returns-clause-range
returns-clause-range g c =
    let s = c.args.layout.now in
    let k = s.params.channels in
    let per = block_frames s.params.codec in
    let count = length c.args.into.now / c.channels_of.result in
    let some : 1 ≤ count = omega (arith, c.if-count-eq0.false) in
    let into = c.loop-number.into in
    let all : count_before per c.args.place count c.loop-number.number ≡ count =
    all_before per c.args.place count c.loop-number.number c.keeps_blocks.ensures.some_frames some (omega (arith, c.loop-number-test.false, c.last_block-last.ensures)) in
    let channels = c.channels_of.ensures.value in
    let whole : length c.args.into.now ≡ k * count =
    whole_product (length c.args.into.now) k (omega (arith, channels, c.channels_of.ensures.some)) c.requires.whole
    ∙ ap (λ (m : ℕ). k * (length c.args.into.now / m)) (sym channels) in
    subst (All Is16Bit) (take_all (k * count_before per c.args.place count c.loop-number.number) into (omega (arith, whole, c.loop-number.auto.into, ap (λ (m : ℕ). k * m) all))) c.loop-number.invariant.range

pub returns-clause-asked : goal.returns-clause-asked
returns-clause-asked g c =
    let s = c.args.layout.now in
    let k = s.params.channels in
    let per = block_frames s.params.codec in
    let align = block_align k s.params.codec in
    let count = length c.args.into.now / c.channels_of.result in
    let some : 1 ≤ count = omega (arith, c.if-count-eq0.false) in
    let size : per ≡ c.from.result = search rules in
    let reach = max c.loop-number.number c.loop-number.fetched.next in
    let within : reach ≤ c.read_limit-limit.result =
    omega (
      arith,
      c.loop-number.invariant.fetched.most,
      c.loop-number.auto.number-end,
      c.last_block-last.ensures,
      c.read_limit-limit.ensures.wanted,
      subst (λ (m : ℕ). c.args.place / m ≤ (c.args.place + count - 1) / per + 1) size (first_before_last per c.args.place count c.keeps_blocks.ensures.some_frames some),
    ) in
    let all : (reach - c.min-start.result) * align ≤ (count / per + 2) * align =
    mul-le-mul_right align (omega (arith, within, c.read_limit-limit.ensures.most)) in
    let wanted : (count / per + 2) * align ≡ (length c.args.into.now / k / per + 2) * align = ap (λ (m : ℕ). (length c.args.into.now / m / per + 2) * align) c.channels_of.ensures.value in
    record {
      later = c.loop-number.invariant.asked.later;
      most = omega (arith, all, wanted, c.loop-number.invariant.asked.most);
    }
