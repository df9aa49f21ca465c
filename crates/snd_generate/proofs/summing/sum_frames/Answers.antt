use Rattle.std.proofs.Common.{◌≡◌, ◌∙◌, ap, sym, subst, ℕ, ◌+◌, ◌-◌, ◌%◌, ◌≤◌, length, take, arith, rules}
use Rattle.snd_disk.proofs.Public.{only_reads_then}
use Rattle.snd_edits.specs.Calls.{count_read}
use Rattle.snd_edits.specs.Editing.{Editing}
use Rattle.snd_edits.specs.Known.{Known}
use Rattle.snd_file.specs.Handle.{Stands, channels_of, known_of}
use Rattle.snd_output.proofs.Public.{count_fits, moved_twice, none_left, read_twice, whole_places}
use Rattle.snd_output.specs.Appended.{left_in, read_on}
use Rattle.snd_generate.proofs.Sums.{fed_on}
use Rattle.snd_generate.proofs.summing.sum_frames.Goals as goal

pub loop-count-preserved : goal.loop-count-preserved
loop-count-preserved g c =
    let first = known_of c.args.file.now in
    let now = known_of c.loop-count.file in
    let inv = c.loop-count.invariant in
    let one = c.in_ok-count.ensures in
    let count = c.in_ok-count.count in
    let j = now.place in
    let i = c.feed_block.new.file.read_place in
    let q = c.from.result in
    let is : q ≡ channels_of c.args.file.now = search rules in
    let least : 1 ≤ q = search rules in
    let most : q ≤ 256 = search rules in
    let whole = whole_places 16384 q least (omega (arith, most)) in
    let size : length (take (16384 - 16384 % q) c.loop-count.block) ≡ 16384 - 16384 % q = search rules in
    let places = 16384 - 16384 % q in
    let frames : now.shape.frames ≡ first.shape.frames = ap (λ (k : Known). k.shape.frames) inv.read in
    let channels : now.shape.params.channels ≡ q = ap (λ (k : Known). k.shape.params.channels) inv.read ∙ sym is in
    let count_is = one.left.count ∙ ap (λ (n : ℕ). count_read n now) size in
    let sum : i ≡ j + count = ap (λ (k : Known). k.place) one.left.on in
    let some : 1 ≤ now.shape.params.channels = omega (arith, channels, least) in
    let fits = count_fits now places count some (ap (λ (n : ℕ). places % n) channels ∙ whole.1) count_is in
    let begins = λ (e : Editing) (st : Stands g.E.Disk.state c.args.file.now e). sym st.place ∙ c.requires.first in
    record {
      loan = one.loan ∙ inv.loan;
      read = one.left.on ∙ ap (read_on count) inv.read ∙ read_twice j count first ∙ ap (λ (n : ℕ). read_on n first) (sym sum);
      within = omega (arith, sum, fits.0, frames, inv.within);
      ended = λ none.
          let gone : left_in now ≡ 0 = none_left now places count some (omega (arith, channels, whole.0)) count_is none in
          omega (arith, sum, none, gone, frames, inv.within);
      stands = λ e st. subst (λ (r : Editing). Stands g.E.Disk.state c.feed_block.new.file r) (moved_twice j count i e sum) (one.stands _ (inv.stands e st));
      peak = λ e st. fed_on e j count i _ _ _ (begins e st) sum (inv.peak e st) (one.fed _ (inv.stands e st)).peak;
      energy = λ e st. fed_on e j count i _ _ _ (begins e st) sum (inv.energy e st) (one.fed _ (inv.stands e st)).energy;
      working = one.broken;
      calm = one.faults ∙ inv.calm;
      reads = only_reads_then _ _ _ _ _ _ _ _ _ inv.reads one.reads;
    }

pub feed_block-requires-clause-whole : goal.feed_block-requires-clause-whole
feed_block-requires-clause-whole g c =
    let now = known_of c.loop-count.file in
    let q = c.from.result in
    let is : q ≡ channels_of c.args.file.now = search rules in
    let least : 1 ≤ q = search rules in
    let most : q ≤ 256 = search rules in
    let size : length (take (16384 - 16384 % q) c.loop-count.block) ≡ 16384 - 16384 % q = search rules in
    let channels : now.shape.params.channels ≡ q = ap (λ (k : Known). k.shape.params.channels) c.loop-count.invariant.read ∙ sym is in
    ap (λ (n : ℕ). n % now.shape.params.channels) size ∙ ap (λ (n : ℕ). (16384 - 16384 % q) % n) channels ∙ (whole_places 16384 q least (omega (arith, most))).1
