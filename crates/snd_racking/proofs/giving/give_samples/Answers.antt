use Rattle.std.proofs.Common.{rules, subst, ◌≤◌, ℕ}
use Rattle.std.proofs.lemmas.Result.{on_ok_weaker}
use Rattle.snd_edits.specs.Bytes.{sources_in}
use Rattle.snd_file.specs.Handle.{codec_of, known_of}
use Rattle.snd_output.specs.Appended.{LeavesFile}
use Rattle.snd_racking.proofs.SameBytes.{as_many, frames_given, gains_as, may_pass, same_coded}
use Rattle.snd_racking.proofs.giving.give_samples.Goals as goal

pub give_bytes-requires : goal.give_bytes-requires
give_bytes-requires g c =
    let to = known_of c.args.to.now in
    let some : 1 ≤ to.shape.params.channels = search rules in
    record { may = may_pass to c.args.bytes.now c.requires.fixed some c.requires.whole c.requires.at_end c.requires.room }

pub returns-clause-left : goal.returns-clause-left
returns-clause-left g c =
    let to = c.args.to.now in
    let some : 1 ≤ (known_of to).shape.params.channels = search rules in
    subst (λ (n : ℕ). LeavesFile n to c.give_bytes.new.to c.give_bytes.result) (frames_given (known_of to) c.args.bytes.now c.requires.fixed some c.requires.whole) c.give_bytes.ensures.left

pub returns-clause-gains : goal.returns-clause-gains
returns-clause-gains g c = λ xs is fit.
    let to = c.args.to.now in
    let bytes = c.args.bytes.now in
    let some : 1 ≤ (known_of to).shape.params.channels = search rules in
    on_ok_weaker c.give_bytes.result
    (λ gains. gains_as g.E.Disk.state to c.give_bytes.new.to (sources_in (codec_of to) bytes) xs c.requires.fixed
    (as_many (known_of to) bytes c.requires.fixed some c.requires.whole xs is)
    (same_coded (known_of to) bytes c.requires.fixed some c.requires.whole xs is) fit gains)
    c.give_bytes.ensures.gains
