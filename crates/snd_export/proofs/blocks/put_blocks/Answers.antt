use Rattle.std.proofs.Common.{rules, ◌≡◌, ◌∙◌, ap, sym, subst, refl, inl, inr, ◌⊎◌, ℕ, ◌+◌, ◌-◌, ◌*◌, ◌/◌, ◌<◌, ◌≤◌, List, [], ◌++◌, append_assoc, length, min, take, drop, arith}
use Rattle.std.proofs.lemmas.Bool.{cases_lt}
use Rattle.std.proofs.lemmas.List.{length-append, length-take-le, take_at}
use Rattle.std.proofs.Math.Nat.{mul-le-mul_right}
use Rattle.snd_disk.proofs.Public.{goes_on_then, only_reads_then}
use Rattle.snd_disk.specs.Device.{Tells}
use Rattle.snd_vox.specs.Vox.{vox_start}
use Rattle.snd_layout.specs.Shape.{Shape}
use Rattle.snd_output.proofs.Public.{changed_as, unchanged_as}
use Rattle.snd_export.specs.Coding.{bytes_by, count_by, numbers_at, state_by}
use Rattle.snd_export.specs.declared.target.Target.{Target}
use Rattle.snd_export.proofs.Asking.{asks_all, asks_first, asks_next}
use Rattle.snd_export.proofs.Coded.{Stands, count_first, count_within, mono_of, none_first, stands_first}
use Rattle.snd_export.proofs.Counts.{first_stops, second_stops}
use Rattle.snd_export.proofs.Gains.{bytes_first, bytes_next, count_next, numbers_next, places_fit, some_each, stands_next, state_first, state_next}
use Rattle.snd_export.proofs.blocks.put_blocks.Goals as goal

pub loop-place-init : goal.loop-place-init
loop-place-init g c =
    let h = c.args.layout.now in
    let t = c.args.target in
    record {
      within = omega arith;
      stands = λ before. stands_first t h.params.channels;
      size = c.requires.at_end;
      at_is = omega (arith, count_first t h.params.channels);
      count = λ b told. none_first h.params.channels;
      behind = λ b told. c.new-writer.ensures ∙ state_first t b h;
      put = λ b x told told'. subst (λ (l : List ℕ). Tells g.E.Disk.state c.args.to.now l) (bytes_first t b h x) told';
      blocks = c.requires.blocks;
      cached = c.requires.cached;
      calm = refl;
      to_calm = refl;
      reads = search rules;
      tells = search rules;
      time = search rules;
      asked = asks_first h (16384 / h.params.channels) _;
      unasked = refl;
    }

pub loop-place-preserved : goal.loop-place-preserved
loop-place-preserved g c =
    let h = c.args.layout.now in
    let t = c.args.target in
    let inv = c.loop-place.invariant in
    let one = c.in_ok-size.ensures in
    let two = c.in_ok-put_behind.ensures in
    let k = c.frames_ahead-count.result in
    let n = c.loop-place.place in
    let each : 16384 / c.channels_of-each.result ≡ 16384 / h.params.channels = ap (λ (n : ℕ). 16384 / n) c.channels_of-each.ensures.value in
    let before : n < h.frames = omega (arith, c.loop-place-test.true, c.frames_of-frames.ensures) in
    let is : k ≡ min (16384 / h.params.channels) (h.frames - n) = c.frames_ahead-count.ensures.count ∙ ap (λ (m : ℕ). min m (h.frames - n)) each in
    let stands = inv.stands before in
    let size : length (take c.in_ok-size.size c.code_block.new.coded) ≡ c.in_ok-size.size = length-take-le c.in_ok-size.size c.code_block.new.coded one.coded.fits in
    record {
      within = omega (arith, is, before);
      stands = λ lt. stands_next t h n k (mono_of t h c.requires.channels) is stands lt;
      size = omega (arith, inv.size, two.gains.size, size);
      at_is = omega (arith, inv.at_is, one.coded.count_is, count_next t h n k stands);
      count = λ b told. numbers_next b h n k (inv.count b told) (one.coded.numbers b (inv.reads.keeps.contents ∙ told));
      behind = λ b told. state_next t b h n k c.loop-place.writer [] (inv.behind b told) (subst (Stands t) (sym (inv.count b told)) stands) c.code_block.new.writer (one.coded.behind b (inv.reads.keeps.contents ∙ told));
      put = λ b x told told'.
          subst (λ (l : List ℕ). Tells g.E.Disk.state c.put_behind.new.to (x ++ l))
          (bytes_next t b h n k c.loop-place.writer _ (inv.behind b told) (subst (Stands t) (sym (inv.count b told)) stands) (one.coded.bytes b (inv.reads.keeps.contents ∙ told)))
          (subst (λ (l : List ℕ). Tells g.E.Disk.state c.put_behind.new.to l) (append_assoc x _ _) (two.gains.told _ (inv.put b x told told')));
      blocks = one.blocks;
      cached = one.cached;
      calm = one.faults ∙ inv.calm;
      to_calm = two.faults ∙ inv.to_calm;
      reads = only_reads_then _ _ _ _ _ _ _ _ _ inv.reads one.reads;
      tells = search rules;
      time = goes_on_then _ _ _ _ _ _ inv.time two.time;
      asked = asks_next h (16384 / h.params.channels) n k _ _ _ (some_each h.params.channels c.keeps_rules.ensures.params.some_channel c.keeps_rules.ensures.params.most_channels) before is inv.asked one.asked;
      unasked = two.unasked ∙ inv.unasked;
    }

pub code_block-requires-clause-room : goal.code_block-requires-clause-room
code_block-requires-clause-room g c =
    let h = c.args.layout.now in
    let each : 16384 / c.channels_of-each.result ≡ 16384 / h.params.channels = ap (λ (n : ℕ). 16384 / n) c.channels_of-each.ensures.value in
    let fits = places_fit h.params.channels (16384 / c.channels_of-each.result) (h.frames - c.loop-place.place) c.frames_ahead-count.result c.keeps_rules.ensures.params.some_channel each c.frames_ahead-count.ensures.count in
    omega (arith, fits, c.requires.numbers, c.loop-place.auto.numbers)

pub put_behind-requires-clause-fits : goal.put_behind-requires-clause-fits
put_behind-requires-clause-fits g c =
    let h = c.args.layout.now in
    let t = c.args.target in
    let inv = c.loop-place.invariant in
    let n = c.loop-place.place in
    let k = c.frames_ahead-count.result in
    let one = c.in_ok-size.ensures.coded in
    let size : length (take c.in_ok-size.size c.code_block.new.coded) ≡ c.in_ok-size.size = length-take-le c.in_ok-size.size c.code_block.new.coded one.fits in
    let both = count_next t h n k (inv.stands (omega (arith, c.loop-place-test.true, c.frames_of-frames.ensures))) in
    let all = count_within t h (n + k) c.requires.plain c.requires.channels (omega (arith, c.frames_ahead-count.ensures.count, inv.within)) in
    omega (arith, inv.at_is, one.count_is, size, both, all, c.requires.fits)

pub returns-clause-gains : goal.returns-clause-gains
returns-clause-gains g c = λ b x told told'.
    let h = c.args.layout.now in
    let inv = c.loop-place.invariant in
    let all : c.loop-place.place ≡ h.frames = omega (arith, inv.within, c.loop-place-test.false, c.frames_of-frames.ensures) in
    subst (λ (n : ℕ). Tells g.E.Disk.state c.loop-place.to (x ++ bytes_by c.args.target vox_start h.params.codec (numbers_at b h 0 n))) all (inv.put b x told told')

pub returns-clause-asked : goal.returns-clause-asked
returns-clause-asked g c =
    let h = c.args.layout.now in
    let inv = c.loop-place.invariant in
    asks_all h (16384 / h.params.channels) c.loop-place.place (h.frames - c.loop-place.place) 1 _ _ inv.within inv.asked refl

pub returns-in_err-size-clause-faults : goal.returns-in_err-size-clause-faults
returns-in_err-size-clause-faults g c =
    first_stops (Unit {0}) ℕ c.in_err-size.field-0.0 c.from_residual.result (search rules) _ _ _ _ _ c.loop-place.invariant.calm c.loop-place.invariant.to_calm c.in_err-size.ensures.faults

pub returns-in_err-size-clause-changed : goal.returns-in_err-size-clause-changed
returns-in_err-size-clause-changed g c =
    changed_as _ _ c.in_err-size.field-0.0 c.from_residual.result (search rules) (λ bad b told. bad b (c.loop-place.invariant.reads.keeps.contents ∙ told)) c.in_err-size.ensures.changed

pub returns-in_err-size-clause-reads : goal.returns-in_err-size-clause-reads
returns-in_err-size-clause-reads g c = only_reads_then _ _ _ _ _ _ _ _ _ c.loop-place.invariant.reads c.in_err-size.ensures.reads

pub returns-in_err-size-clause-asked : goal.returns-in_err-size-clause-asked
returns-in_err-size-clause-asked g c =
    let h = c.args.layout.now in
    let inv = c.loop-place.invariant in
    let n = c.loop-place.place in
    let k = c.frames_ahead-count.result in
    let each : 16384 / c.channels_of-each.result ≡ 16384 / h.params.channels = ap (λ (n : ℕ). 16384 / n) c.channels_of-each.ensures.value in
    let before : n < h.frames = omega (arith, c.loop-place-test.true, c.frames_of-frames.ensures) in
    let is : k ≡ min (16384 / h.params.channels) (h.frames - n) = c.frames_ahead-count.ensures.count ∙ ap (λ (m : ℕ). min m (h.frames - n)) each in
    asks_all h (16384 / h.params.channels) (n + k) (h.frames - (n + k)) 1 _ _ (omega (arith, is, before))
    (asks_next h (16384 / h.params.channels) n k _ _ _ (some_each h.params.channels c.keeps_rules.ensures.params.some_channel c.keeps_rules.ensures.params.most_channels) before is inv.asked c.in_err-size.ensures.asked) refl

pub returns-in_err-put_behind-clause-faults : goal.returns-in_err-put_behind-clause-faults
returns-in_err-put_behind-clause-faults g c =
    second_stops (Unit {0}) (Unit {0}) c.in_err-put_behind.field-0.0 c.from_residual-in_err-put_behind.result (search rules) _ _ _ _ _ (c.in_ok-size.ensures.faults ∙ c.loop-place.invariant.calm) c.loop-place.invariant.to_calm c.in_err-put_behind.ensures.faults

pub returns-in_err-put_behind-clause-changed : goal.returns-in_err-put_behind-clause-changed
returns-in_err-put_behind-clause-changed g c = unchanged_as _ c.in_err-put_behind.field-0.0 c.from_residual-in_err-put_behind.result (search rules) c.in_err-put_behind.ensures.unchanged

pub returns-in_err-put_behind-clause-reads : goal.returns-in_err-put_behind-clause-reads
returns-in_err-put_behind-clause-reads g c = only_reads_then _ _ _ _ _ _ _ _ _ c.loop-place.invariant.reads c.in_ok-size.ensures.reads

pub returns-in_err-put_behind-clause-asked : goal.returns-in_err-put_behind-clause-asked
returns-in_err-put_behind-clause-asked g c =
    let h = c.args.layout.now in
    let inv = c.loop-place.invariant in
    let n = c.loop-place.place in
    let k = c.frames_ahead-count.result in
    let each : 16384 / c.channels_of-each.result ≡ 16384 / h.params.channels = ap (λ (n : ℕ). 16384 / n) c.channels_of-each.ensures.value in
    let before : n < h.frames = omega (arith, c.loop-place-test.true, c.frames_of-frames.ensures) in
    let is : k ≡ min (16384 / h.params.channels) (h.frames - n) = c.frames_ahead-count.ensures.count ∙ ap (λ (m : ℕ). min m (h.frames - n)) each in
    asks_all h (16384 / h.params.channels) (n + k) (h.frames - (n + k)) 1 _ _ (omega (arith, is, before))
    (asks_next h (16384 / h.params.channels) n k _ _ _ (some_each h.params.channels c.keeps_rules.ensures.params.some_channel c.keeps_rules.ensures.params.most_channels) before is inv.asked c.in_ok-size.ensures.asked) refl

pub returns-in_err-put_behind-clause-time : goal.returns-in_err-put_behind-clause-time
returns-in_err-put_behind-clause-time g c = goes_on_then _ _ _ _ _ _ c.loop-place.invariant.time c.in_err-put_behind.ensures.time
