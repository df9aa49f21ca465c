use Rattle.std.proofs.Common.{rules, ◌≡◌, sym, subst, set, Ok, Err}
use Rattle.snd_output.proofs.Public.{changed_as}
use Rattle.snd_interleave.specs.Asking.{bytes_from}
use Rattle.snd_interleave.specs.Channels.{CountsInputs}
use Rattle.snd_interleave.proofs.Bad.{one_bad}
use Rattle.snd_interleave.proofs.ChannelNumbers.{each_of_two}
use Rattle.snd_interleave.proofs.Filling.{two_filled}
use Rattle.snd_interleave.proofs.Frames.{each_place}
use Rattle.snd_interleave.proofs.Inputs.{hold_still}
use Rattle.snd_interleave.proofs.TwoReads.{asked_both, asked_head, both_read, counts_both, head, head_is, head_read, head_within, last, last_is, last_within, mid}
use Rattle.snd_interleave.proofs.blocks.fill_two.Goals as goal

pub returns-in_err-read-clause-reads : goal.returns-in_err-read-clause-reads
returns-in_err-read-clause-reads g c = head_read g.D.Disk c.args.inputs.now c.requires.two c.index-inputs-0.result c.read.new.input c.read.ensures.reads

pub returns-in_err-read-clause-asked : goal.returns-in_err-read-clause-asked
returns-in_err-read-clause-asked g c = asked_head g.D.Disk c.args.inputs.now c.requires.two c.index-inputs-0.result c.read.new.input (bytes_from c.args.place c.args.count) c.read.ensures.asked

pub returns-in_err-read-clause-changed : goal.returns-in_err-read-clause-changed
returns-in_err-read-clause-changed g c =
    changed_as _ _ c.in_err-read.field-0.0 c.from_residual.result (search rules)
    (λ bad es hold none. one_bad g.D.Disk.state c.args.inputs.now es 0 (head g.D.Disk c.args.inputs.now c.requires.two c.index-inputs-0.result c.read.new.input) (head_within g.D.Disk c.args.inputs.now c.requires.two c.index-inputs-0.result c.read.new.input) (head_is g.D.Disk c.args.inputs.now c.requires.two c.index-inputs-0.result c.read.new.input) hold none bad)
    c.in_err-read.ensures.changed

pub returns-in_err-read-2-clause-faults : goal.returns-in_err-read-2-clause-faults
returns-in_err-read-2-clause-faults g c =
    let first = c.args.inputs.now in
    let y = c.read.new.input in
    let z = c.read-2.new.input in
    let stop = c.in_err-read-2.field-0.0 in
    let failed : c.from_residual-in_err-read-2.result ≡ Err stop = search rules in
    subst (CountsInputs g.D.Disk.state first (set (set first 0 y) 1 z)) (sym failed)
    (counts_both g.D.Disk c.args.inputs.now c.requires.two c.index-inputs-0.result c.read.new.input c.index-inputs-1.result z {T = Unit {0}} (Err stop) c.in_ok-read.ensures.faults c.in_err-read-2.ensures.faults)

pub returns-in_err-read-2-clause-reads : goal.returns-in_err-read-2-clause-reads
returns-in_err-read-2-clause-reads g c = both_read g.D.Disk c.args.inputs.now c.requires.two c.index-inputs-0.result c.read.new.input c.index-inputs-1.result c.read-2.new.input c.read.ensures.reads c.read-2.ensures.reads

pub returns-in_err-read-2-clause-asked : goal.returns-in_err-read-2-clause-asked
returns-in_err-read-2-clause-asked g c =
    asked_both g.D.Disk c.args.inputs.now c.requires.two c.index-inputs-0.result c.read.new.input c.index-inputs-1.result c.read-2.new.input (bytes_from c.args.place c.args.count) c.read.ensures.reads c.read.ensures.asked c.read-2.ensures.asked

pub returns-in_err-read-2-clause-changed : goal.returns-in_err-read-2-clause-changed
returns-in_err-read-2-clause-changed g c =
    let first = c.args.inputs.now in
    let now = mid g.D.Disk c.args.inputs.now c.requires.two c.index-inputs-0.result c.read.new.input in
    changed_as _ _ c.in_err-read-2.field-0.0 c.from_residual-in_err-read-2.result (search rules)
    (λ bad es hold none.
    one_bad g.D.Disk.state now es 1 (last g.D.Disk c.args.inputs.now c.requires.two c.index-inputs-0.result c.read.new.input c.index-inputs-1.result c.read-2.new.input) (last_within g.D.Disk c.args.inputs.now c.requires.two c.index-inputs-0.result c.read.new.input c.index-inputs-1.result c.read-2.new.input) (last_is g.D.Disk c.args.inputs.now c.requires.two c.index-inputs-0.result c.read.new.input c.index-inputs-1.result c.read-2.new.input) (hold_still g.D.Disk first now es (head_read g.D.Disk c.args.inputs.now c.requires.two c.index-inputs-0.result c.read.new.input c.read.ensures.reads) hold) none bad)
    c.in_err-read-2.ensures.changed

pub returns-clause-filled : goal.returns-clause-filled
returns-clause-filled g c =
    let first = c.args.inputs.now in
    let codec = c.args.codec in
    let itself = c.requires.suit.itself in
    two_filled g.D.Disk first (mid g.D.Disk c.args.inputs.now c.requires.two c.index-inputs-0.result c.read.new.input) codec c.args.place c.args.count (head g.D.Disk c.args.inputs.now c.requires.two c.index-inputs-0.result c.read.new.input) (last g.D.Disk c.args.inputs.now c.requires.two c.index-inputs-0.result c.read.new.input c.index-inputs-1.result c.read-2.new.input) (g.U.Held.numbers codec c.read.new.into) (g.U.Held.numbers codec c.read-2.new.into) (g.U.Held.numbers codec c.join.new.block)
    c.requires.two (head_read g.D.Disk c.args.inputs.now c.requires.two c.index-inputs-0.result c.read.new.input c.read.ensures.reads) (head_is g.D.Disk c.args.inputs.now c.requires.two c.index-inputs-0.result c.read.new.input) (last_is g.D.Disk c.args.inputs.now c.requires.two c.index-inputs-0.result c.read.new.input c.index-inputs-1.result c.read-2.new.input) c.in_ok-read.ensures.read c.in_ok-read-2.ensures.read
    (c.join.ensures.left codec itself) (c.join.ensures.right codec itself) (c.are_counted.ensures codec itself)

pub returns-clause-in_range : goal.returns-clause-in_range
returns-clause-in_range g c =
    let codec = c.args.codec in
    let itself = c.requires.suit.itself in
    let left = g.U.Held.numbers codec c.read.new.into in
    let right = g.U.Held.numbers codec c.read-2.new.into in
    let block = g.U.Held.numbers codec c.join.new.block in
    each_place (g.U.Held.fits codec) 2 c.args.count block
    (each_of_two c.args.count (λ j k z. g.U.Held.fits codec z) left right block (c.join.ensures.left codec itself) (c.join.ensures.right codec itself) c.in_ok-read.ensures.in_range c.in_ok-read-2.ensures.in_range)

pub returns-clause-faults : goal.returns-clause-faults
returns-clause-faults g c = counts_both g.D.Disk c.args.inputs.now c.requires.two c.index-inputs-0.result c.read.new.input c.index-inputs-1.result c.read-2.new.input {T = Unit {0}} (Ok (tt {0})) c.in_ok-read.ensures.faults c.in_ok-read-2.ensures.faults

pub returns-clause-reads : goal.returns-clause-reads
returns-clause-reads g c = both_read g.D.Disk c.args.inputs.now c.requires.two c.index-inputs-0.result c.read.new.input c.index-inputs-1.result c.read-2.new.input c.read.ensures.reads c.read-2.ensures.reads

pub returns-clause-asked : goal.returns-clause-asked
returns-clause-asked g c =
    asked_both g.D.Disk c.args.inputs.now c.requires.two c.index-inputs-0.result c.read.new.input c.index-inputs-1.result c.read-2.new.input (bytes_from c.args.place c.args.count) c.read.ensures.reads c.read.ensures.asked c.read-2.ensures.asked
