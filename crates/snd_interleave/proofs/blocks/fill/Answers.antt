use Rattle.std.proofs.Common.{rules, ◌≡◌, ◌∙◌, refl, sym, subst, ◌+◌, ◌<◌, pos, get_or, length, set, Ok, Err, arith}
use Rattle.std.proofs.lemmas.List.{get_or_default}
use Rattle.snd_output.proofs.Public.{changed_as}
use Rattle.snd_interleave.specs.Asking.{bytes_from}
use Rattle.snd_interleave.specs.Beside.{frame_at}
use Rattle.snd_interleave.specs.Channels.{CountsInputs}
use Rattle.snd_interleave.specs.Interleave.{channels_in}
use Rattle.snd_interleave.proofs.Asking.{first_each, first_more, first_none}
use Rattle.snd_interleave.proofs.Bad.{one_bad}
use Rattle.snd_interleave.proofs.ChannelNumbers.{numbers_more}
use Rattle.snd_interleave.proofs.Counts.{calm_itself, calm_then, counts_one, inputs_then}
use Rattle.snd_interleave.proofs.Filling.{block_is, channel_is, still_suit}
use Rattle.snd_interleave.proofs.Frames.{each_place}
use Rattle.snd_interleave.proofs.Inputs.{all_unread, hold_still, one_read, read_then, still_mono}
use Rattle.snd_interleave.proofs.blocks.fill.Goals as goal

pub loop-i-init : goal.loop-i-init
loop-i-init g c = record {
  filled = λ es hold j k below lt. absurd (omega (arith, lt));
  fit = λ j k below lt. absurd (omega (arith, lt));
  calm = calm_itself g.D.Disk.state c.args.inputs.now;
  reads = all_unread g.D.Disk c.args.inputs.now;
  asked = first_none g.D.Disk.state (bytes_from c.args.place c.args.count) c.args.inputs.now;
}

pub read-requires : goal.read-requires
read-requires g c =
    let within : c.loop-i.i < length c.loop-i.inputs = omega (arith, c.loop-i-test.true, c.loop-i.auto.inputs) in
    let reads = c.loop-i.invariant.reads in
    record {
      mono = still_mono g.D.Disk c.args.inputs.now c.loop-i.inputs reads c.requires.mono c.loop-i.i c.index-inputs-i.result within;
      served = (still_suit g.D.Disk c.args.inputs.now c.loop-i.inputs g.U.Held.suits c.args.codec reads c.requires.suit).each c.loop-i.i c.index-inputs-i.result within;
      size = c.loop-i.auto.buffer ∙ c.requires.size;
    }

pub put-requires : goal.put-requires
put-requires g c = record {
  within = c.loop-i-test.true;
  size = c.read.auto.into ∙ c.loop-i.auto.buffer ∙ c.requires.size;
  room = c.loop-i.auto.block ∙ c.requires.room;
}

pub loop-i-preserved : goal.loop-i-preserved
loop-i-preserved g c =
    let inv = c.loop-i.invariant in
    let first = c.args.inputs.now in
    let now = c.loop-i.inputs in
    let i = c.loop-i.i in
    let n = length first in
    let codec = c.args.codec in
    let count = c.args.count in
    let x = get_or now i c.index-inputs-i.result in
    let y = c.read.new.input in
    let xs = g.U.Held.numbers codec c.read.new.into in
    let block = g.U.Held.numbers codec c.loop-i.block in
    let block' = g.U.Held.numbers codec c.put.new.block in
    let within : i < length now = omega (arith, c.loop-i-test.true, c.loop-i.auto.inputs) in
    let is : x ≡ get_or now i x = get_or_default now i c.index-inputs-i.result x within in
    let got = c.in_ok-read.ensures in
    let put = c.put.ensures.put codec c.requires.suit.itself in
    let others = c.put.ensures.others codec c.requires.suit.itself in
    record {
      filled = λ es hold.
          numbers_more n i count block block' xs c.loop-i-test.true put others (λ j k z. z ≡ get_or (frame_at (channels_in codec es) (c.args.place + j)) k (pos 0)) (inv.filled es hold)
          (channel_is g.D.Disk first now codec c.args.place count es hold inv.reads i x xs within is got.read);
      fit = numbers_more n i count block block' xs c.loop-i-test.true put others (λ j k z. g.U.Held.fits codec z) inv.fit got.in_range;
      calm = calm_then g.D.Disk.state first now (set now i y) c.loop-i.auto.inputs inv.calm (counts_one g.D.Disk.state now i x y within is {T = Unit {0}} (Ok (tt {0})) got.faults);
      reads = read_then g.D.Disk first now (set now i y) inv.reads (one_read g.D.Disk now i x y within is got.reads);
      asked = first_more g.D.Disk.state (bytes_from c.args.place count) first now i x y within is inv.reads c.read.ensures.asked inv.asked;
    }

pub returns-in_err-read-clause-faults : goal.returns-in_err-read-clause-faults
returns-in_err-read-clause-faults g c =
    let inv = c.loop-i.invariant in
    let first = c.args.inputs.now in
    let now = c.loop-i.inputs in
    let i = c.loop-i.i in
    let x = get_or now i c.index-inputs-i.result in
    let y = c.read.new.input in
    let within : i < length now = omega (arith, c.loop-i-test.true, c.loop-i.auto.inputs) in
    let is : x ≡ get_or now i x = get_or_default now i c.index-inputs-i.result x within in
    let stop = c.in_err-read.field-0.0 in
    let failed : c.from_residual.result ≡ Err stop = search rules in
    subst (CountsInputs g.D.Disk.state first (set now i y)) (sym failed)
    (inputs_then g.D.Disk.state first now (set now i y) c.loop-i.auto.inputs {T = Unit {0}} (Err stop) inv.calm (counts_one g.D.Disk.state now i x y within is {T = Unit {0}} (Err stop) c.in_err-read.ensures.faults))

pub returns-in_err-read-clause-reads : goal.returns-in_err-read-clause-reads
returns-in_err-read-clause-reads g c =
    let first = c.args.inputs.now in
    let now = c.loop-i.inputs in
    let i = c.loop-i.i in
    let x = get_or now i c.index-inputs-i.result in
    let y = c.read.new.input in
    let within : i < length now = omega (arith, c.loop-i-test.true, c.loop-i.auto.inputs) in
    let is : x ≡ get_or now i x = get_or_default now i c.index-inputs-i.result x within in
    read_then g.D.Disk first now (set now i y) c.loop-i.invariant.reads (one_read g.D.Disk now i x y within is c.read.ensures.reads)

pub returns-in_err-read-clause-asked : goal.returns-in_err-read-clause-asked
returns-in_err-read-clause-asked g c =
    let inv = c.loop-i.invariant in
    let first = c.args.inputs.now in
    let now = c.loop-i.inputs in
    let i = c.loop-i.i in
    let x = get_or now i c.index-inputs-i.result in
    let y = c.read.new.input in
    let within : i < length now = omega (arith, c.loop-i-test.true, c.loop-i.auto.inputs) in
    let is : x ≡ get_or now i x = get_or_default now i c.index-inputs-i.result x within in
    first_each g.D.Disk.state (i + 1) (bytes_from c.args.place c.args.count) first (set now i y)
    (first_more g.D.Disk.state (bytes_from c.args.place c.args.count) first now i x y within is inv.reads c.read.ensures.asked inv.asked)

pub returns-in_err-read-clause-changed : goal.returns-in_err-read-clause-changed
returns-in_err-read-clause-changed g c =
    let inv = c.loop-i.invariant in
    let now = c.loop-i.inputs in
    let i = c.loop-i.i in
    let x = get_or now i c.index-inputs-i.result in
    let within : i < length now = omega (arith, c.loop-i-test.true, c.loop-i.auto.inputs) in
    let is : x ≡ get_or now i x = get_or_default now i c.index-inputs-i.result x within in
    changed_as _ _ c.in_err-read.field-0.0 c.from_residual.result (search rules)
    (λ bad es hold none. one_bad g.D.Disk.state now es i x within is (hold_still g.D.Disk c.args.inputs.now now es inv.reads hold) none bad)
    c.in_err-read.ensures.changed

pub returns-clause-filled : goal.returns-clause-filled
returns-clause-filled g c = λ es hold.
    let n = length c.args.inputs.now in
    block_is g.D.Disk c.args.inputs.now c.loop-i.inputs c.args.codec c.args.place c.args.count es hold n (g.U.Held.numbers c.args.codec c.loop-i.block) refl (c.are_counted.ensures c.args.codec c.requires.suit.itself)
    (λ j k below lt. c.loop-i.invariant.filled es hold j k below (omega (arith, lt, c.loop-i-test.false)))

pub returns-clause-in_range : goal.returns-clause-in_range
returns-clause-in_range g c =
    each_place (g.U.Held.fits c.args.codec) (length c.args.inputs.now) c.args.count (g.U.Held.numbers c.args.codec c.loop-i.block)
    (λ j k below lt. c.loop-i.invariant.fit j k below (omega (arith, lt, c.loop-i-test.false)))

pub returns-clause-asked : goal.returns-clause-asked
returns-clause-asked g c = first_each g.D.Disk.state c.loop-i.i (bytes_from c.args.place c.args.count) c.args.inputs.now c.loop-i.inputs c.loop-i.invariant.asked
