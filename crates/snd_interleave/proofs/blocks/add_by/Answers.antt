use Rattle.std.proofs.Common.{rules, ◌≡◌, ◌∙◌, ap, sym, subst, refl, ℕ, ◌+◌, ◌*◌, ◌≤◌, ℤ, List, ◌++◌, length, Err, arith}
use Rattle.std.proofs.lemmas.List.{append-nil}
use Rattle.snd_disk.proofs.Public.{goes_on_then}
use Rattle.snd_layout.specs.declared.codec.Codec.{Codec}
use Rattle.snd_file.specs.Handle.{codec_of, disk_of, known_of}
use Rattle.snd_layout.specs.Shape.{Shape}
use Rattle.snd_output.proofs.Public.{at_end_then, changed_as, longer_none, longer_then}
use Rattle.snd_output.specs.Made.{IsMaking}
use Rattle.snd_interleave.specs.Asking.{bytes_upto}
use Rattle.snd_interleave.specs.Beside.{frames_from}
use Rattle.snd_interleave.specs.Channels.{CountsWith}
use Rattle.snd_interleave.specs.Held.{AllSuit}
use Rattle.snd_interleave.specs.Interleave.{channels_in}
use Rattle.snd_interleave.proofs.Adding.{numbers_on, room_on}
use Rattle.snd_interleave.proofs.Asking.{each_next, each_none, each_once, ends_of}
use Rattle.snd_interleave.proofs.Counts.{adding_then, calm_itself, calm_then}
use Rattle.snd_interleave.proofs.Filling.{still_suit}
use Rattle.snd_interleave.proofs.Inputs.{all_unread, hold_still, read_then, still_mono}
use Rattle.snd_interleave.proofs.Places.{most_in_block, same_samples, some_places, some_samples, taken}
use Rattle.snd_interleave.proofs.blocks.add_by.Goals as goal

pub loop-place-init : goal.loop-place-init
loop-place-init g c = record {
  loan = refl;
  known = longer_none (known_of c.args.to.now);
  within = omega arith;
  some = c.count_first-most.ensures.some;
  few = c.count_first-most.ensures.few;
  whole = c.count_first-most.ensures.whole;
  lengthens = λ kind p pieces xs es e hold stands making. (e, stands, subst (λ (l : List ℤ). IsMaking kind p pieces l e) (sym (append-nil xs)) making);
  calm = calm_itself g.D.Disk.state c.args.inputs.now;
  to_calm = refl;
  reads = all_unread g.D.Disk c.args.inputs.now;
  asked = each_none g.D.Disk.state (bytes_upto 0) c.args.inputs.now;
  unasked = refl;
  tells = search rules;
  time = search rules;
}

pub count_first-most-requires : goal.count_first-most-requires
count_first-most-requires g c = c.requires.suit.itself

pub add_block-requires-clause-mono : goal.add_block-requires-clause-mono
add_block-requires-clause-mono g c =
    still_mono g.D.Disk c.args.inputs.now c.loop-place.inputs c.loop-place.invariant.reads c.requires.mono

pub add_block-requires-clause-suit : goal.add_block-requires-clause-suit
add_block-requires-clause-suit g c =
    let inv = c.loop-place.invariant in
    let codec : codec_of c.loop-place.to ≡ codec_of c.args.to.now = ap (λ (h : Shape). h.params.codec) inv.known.shape in
    subst (λ (q : Codec). AllSuit g.U.Held.suits q c.loop-place.inputs) (sym codec) (still_suit g.D.Disk c.args.inputs.now c.loop-place.inputs g.U.Held.suits (codec_of c.args.to.now) inv.reads c.requires.suit)

pub add_block-requires-clause-at_end : goal.add_block-requires-clause-at_end
add_block-requires-clause-at_end g c = at_end_then c.loop-place.place (known_of c.args.to.now) (known_of c.loop-place.to) c.requires.at_end c.loop-place.invariant.known

pub add_block-requires-clause-alike : goal.add_block-requires-clause-alike
add_block-requires-clause-alike g c = ap (λ (h : Shape). h.params.channels) c.loop-place.invariant.known.shape ∙ c.requires.alike ∙ sym c.loop-place.auto.inputs

pub add_block-requires-clause-room : goal.add_block-requires-clause-room
add_block-requires-clause-room g c =
    let inv = c.loop-place.invariant in
    let few : c.loop-place.place + c.min-count.result ≤ c.args.frames = omega (arith, c.min-count.ensures, inv.within) in
    room_on (known_of c.args.to.now) (known_of c.loop-place.to) c.args.frames c.loop-place.place c.min-count.result c.numbers_of-channels.ensures.frames few c.requires.room inv.known

pub loop-place-preserved : goal.loop-place-preserved
loop-place-preserved g c =
    let inv = c.loop-place.invariant in
    let one = c.in_ok-add_block.ensures in
    let first = c.args.inputs.now in
    let now = c.loop-place.inputs in
    let new = c.add_block.new.inputs in
    let known = known_of c.args.to.now in
    let n = c.loop-place.place in
    let k = c.min-count.result in
    let to_codec : codec_of c.loop-place.to ≡ codec_of c.args.to.now = ap (λ (h : Shape). h.params.codec) inv.known.shape in
    record {
      loan = one.loan ∙ inv.loan;
      known = longer_then n k known (known_of c.loop-place.to) (known_of c.add_block.new.to) inv.known one.left;
      within = omega (arith, c.min-count.ensures, inv.within);
      some = omega (arith, c.MOST-most.ensures, g.met.U.Held.some);
      few = omega arith;
      whole = λ own suits blocks. c.MOST-most.ensures ∙ g.met.U.Held.whole (codec_of c.args.to.now) own suits blocks;
      lengthens = λ kind p pieces xs es e hold stands making.
          let channels = channels_in (codec_of c.args.to.now) es in
          let before = inv.lengthens kind p pieces xs es e hold stands making in
          let so_far : List ℤ = xs ++ frames_from channels 0 n in
          let still = hold_still g.D.Disk first now es inv.reads hold in
          let then = one.lengthens kind p pieces so_far es before.0 still before.1 before.2 in
          let same : so_far ++ frames_from (channels_in (codec_of c.loop-place.to) es) n k ≡ xs ++ frames_from channels 0 (n + k) =
          ap (λ (q : Codec). so_far ++ frames_from (channels_in q es) n k) to_codec ∙ numbers_on channels xs n k in
          (then.0, then.1, subst (λ (l : List ℤ). IsMaking kind p pieces l then.0) same then.2);
      calm = calm_then g.D.Disk.state first now new c.loop-place.auto.inputs inv.calm one.faults.0;
      to_calm = one.faults.1 ∙ inv.to_calm;
      reads = read_then g.D.Disk first now new inv.reads one.reads;
      asked = each_next g.D.Disk.state n k first now new inv.reads (ends_of g.U.Held.suits (codec_of c.args.to.now) c.args.frames n c.loop-place.most k first c.requires.suit inv.whole c.requires.all c.min-count.ensures inv.within) inv.asked one.asked;
      unasked = one.unasked ∙ inv.unasked;
      tells = search rules;
      time = goes_on_then _ _ _ _ _ _ inv.time one.time;
    }

pub returns-in_err-add_block-clause-faults : goal.returns-in_err-add_block-clause-faults
returns-in_err-add_block-clause-faults g c =
    let inv = c.loop-place.invariant in
    let stop = c.in_err-add_block.field-0.0 in
    let failed : c.from_residual.result ≡ Err stop = search rules in
    subst (CountsWith g.D.Disk.state c.args.inputs.now c.add_block.new.inputs (g.E.Disk.state (disk_of c.args.to.now)).faults (g.E.Disk.state (disk_of c.add_block.new.to)).faults) (sym failed)
    (adding_then g.D.Disk.state c.args.inputs.now c.loop-place.inputs c.add_block.new.inputs c.loop-place.auto.inputs {T = Unit {0}} (Err stop) _ _ _ inv.calm inv.to_calm c.in_err-add_block.ensures.faults)

pub returns-in_err-add_block-clause-reads : goal.returns-in_err-add_block-clause-reads
returns-in_err-add_block-clause-reads g c =
    read_then g.D.Disk c.args.inputs.now c.loop-place.inputs c.add_block.new.inputs c.loop-place.invariant.reads c.add_block.ensures.reads

pub returns-clause-lengthens : goal.returns-clause-lengthens
returns-clause-lengthens g c = λ kind p pieces xs es e hold stands making.
    let inv = c.loop-place.invariant in
    let got = inv.lengthens kind p pieces xs es e hold stands making in
    let all : c.loop-place.place ≡ c.args.frames = omega (arith, inv.within, c.loop-place-test.false) in
    (got.0, got.1, subst (λ (n : ℕ). IsMaking kind p pieces (xs ++ frames_from (channels_in (codec_of c.args.to.now) es) 0 n) got.0) all got.2)

pub returns-in_err-add_block-clause-asked : goal.returns-in_err-add_block-clause-asked
returns-in_err-add_block-clause-asked g c =
    let inv = c.loop-place.invariant in
    let first = c.args.inputs.now in
    let n = c.loop-place.place in
    let k = c.min-count.result in
    each_once g.D.Disk.state (n + k) first c.add_block.new.inputs c.requires.mono
    (each_next g.D.Disk.state n k first c.loop-place.inputs c.add_block.new.inputs inv.reads
    (ends_of g.U.Held.suits (codec_of c.args.to.now) c.args.frames n c.loop-place.most k first c.requires.suit inv.whole c.requires.all c.min-count.ensures inv.within) inv.asked c.add_block.ensures.asked)

pub returns-in_err-add_block-clause-changed : goal.returns-in_err-add_block-clause-changed
returns-in_err-add_block-clause-changed g c =
    changed_as _ _ c.in_err-add_block.field-0.0 c.from_residual.result (search rules)
    (λ bad es hold none. bad es (hold_still g.D.Disk c.args.inputs.now c.loop-place.inputs es c.loop-place.invariant.reads hold) none) c.in_err-add_block.ensures.changed

pub returns-in_err-add_block-clause-unasked : goal.returns-in_err-add_block-clause-unasked
returns-in_err-add_block-clause-unasked g c = c.add_block.ensures.unasked ∙ c.loop-place.invariant.unasked

pub returns-clause-asked : goal.returns-clause-asked
returns-clause-asked g c = each_once g.D.Disk.state c.loop-place.place c.args.inputs.now c.loop-place.inputs c.requires.mono c.loop-place.invariant.asked

pub overflow_mul-size-in-loop-place : goal.overflow_mul-size-in-loop-place
overflow_mul-size-in-loop-place g c =
    let few : c.min-count.result ≤ g.U.Held.MOST = omega (arith, c.min-count.ensures, c.loop-place.invariant.few) in
    let n = c.numbers_of-channels.result.0 in
    omega (
      arith,
      some_samples c.PER.result g.U.Held.PER c.min-count.result g.U.Held.MOST n n (g.U.Held.PER * (g.U.Held.MOST * n)) c.PER.ensures few refl refl,
      most_in_block g.U.Held.PER g.U.Held.MOST n g.met.U.Held.small g.met.U.Held.few c.numbers_of-channels.ensures.most,
    )

pub slice_bounds-add_block-end-in-loop-place-4 : goal.slice_bounds-add_block-end-in-loop-place-4
slice_bounds-add_block-end-in-loop-place-4 g c =
    some_samples c.PER.result g.U.Held.PER c.min-count.result g.U.Held.MOST c.numbers_of-channels.result.0 (length c.args.inputs.now) (length c.loop-place.block) c.PER.ensures (omega (arith, c.min-count.ensures, c.loop-place.invariant.few))
    (c.numbers_of-channels.ensures.channels ∙ c.requires.alike) (c.loop-place.auto.block ∙ c.requires.block)

pub slice_bounds-add_block-end-in-loop-place-5 : goal.slice_bounds-add_block-end-in-loop-place-5
slice_bounds-add_block-end-in-loop-place-5 g c =
    let within = some_samples c.PER.result g.U.Held.PER c.min-count.result g.U.Held.MOST c.numbers_of-channels.result.0 (length c.args.inputs.now) (length c.loop-place.block) c.PER.ensures (omega (arith, c.min-count.ensures, c.loop-place.invariant.few))
    (c.numbers_of-channels.ensures.channels ∙ c.requires.alike) (c.loop-place.auto.block ∙ c.requires.block) in
    sym (taken (c.PER.result * c.min-count.result * c.numbers_of-channels.result.0) c.loop-place.block within)

pub add_block-requires-clause-size : goal.add_block-requires-clause-size
add_block-requires-clause-size g c =
    let within = some_places c.PER.result g.U.Held.PER c.min-count.result g.U.Held.MOST (length c.loop-place.buffer) c.PER.ensures (omega (arith, c.min-count.ensures, c.loop-place.invariant.few)) (c.loop-place.auto.buffer ∙ c.requires.size) in
    taken (c.PER.result * c.min-count.result) c.loop-place.buffer within ∙ ap (λ p. p * c.min-count.result) c.PER.ensures

pub add_block-requires-clause-two : goal.add_block-requires-clause-two
add_block-requires-clause-two g c =
    let within = some_places c.PER.result g.U.Held.PER c.min-count.result g.U.Held.MOST (length c.loop-place.second) c.PER.ensures (omega (arith, c.min-count.ensures, c.loop-place.invariant.few)) (c.loop-place.auto.second ∙ c.requires.two) in
    taken (c.PER.result * c.min-count.result) c.loop-place.second within ∙ ap (λ p. p * c.min-count.result) c.PER.ensures

pub add_block-requires-clause-all : goal.add_block-requires-clause-all
add_block-requires-clause-all g c =
    let many : c.numbers_of-channels.result.0 ≡ length c.args.inputs.now = c.numbers_of-channels.ensures.channels ∙ c.requires.alike in
    let within = some_samples c.PER.result g.U.Held.PER c.min-count.result g.U.Held.MOST c.numbers_of-channels.result.0 (length c.args.inputs.now) (length c.loop-place.block) c.PER.ensures (omega (arith, c.min-count.ensures, c.loop-place.invariant.few))
    many (c.loop-place.auto.block ∙ c.requires.block) in
    taken (c.PER.result * c.min-count.result * c.numbers_of-channels.result.0) c.loop-place.block within
    ∙ same_samples c.PER.result g.U.Held.PER c.min-count.result c.numbers_of-channels.result.0 (length c.loop-place.inputs) c.PER.ensures (many ∙ sym c.loop-place.auto.inputs)
