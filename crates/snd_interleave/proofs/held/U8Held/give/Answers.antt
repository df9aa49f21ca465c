use Rattle.std.proofs.Common.{◌≤◌, ap, subst, ℤ, List, ◌++◌, arith}
use Rattle.std.proofs.lemmas.Result.{on_ok_weaker}
use Rattle.snd_layout.specs.Params.{Parameters}
use Rattle.snd_edits.specs.Bytes.{sources_in}
use Rattle.snd_file.specs.Handle.{channels_of, codec_of, known_of}
use Rattle.snd_output.proofs.Public.{frames_are}
use Rattle.snd_output.specs.Made.{IsMaking}
use Rattle.snd_interleave.proofs.Adding.{given_so_many, given_works}
use Rattle.snd_interleave.proofs.PairNumbers.{block_sources, may_pass, pairs_stand}
use Rattle.snd_interleave.proofs.held.U8Held.give.Goals as goal

pub give_bytes-requires : goal.give_bytes-requires
give_bytes-requires g c =
    let to = known_of c.args.to.now in
    let some : 1 ≤ channels_of c.args.to.now = omega (arith, ap (λ (q : Parameters). q.channels) c.params.ensures, c.are_good.ensures.some_channel) in
    record { may = may_pass c.args.block.now c.args._count to c.requires.served.0 some c.requires.size c.requires.at_end c.requires.room }

pub returns-clause-left : goal.returns-clause-left
returns-clause-left g c =
    let to = known_of c.args.to.now in
    let block = c.args.block.now in
    let some : 1 ≤ channels_of c.args.to.now = omega (arith, ap (λ (q : Parameters). q.channels) c.params.ensures, c.are_good.ensures.some_channel) in
    given_so_many _ c.args._count to (known_of c.give_bytes.new.to) c.give_bytes.result
    (frames_are (sources_in (codec_of c.args.to.now) block) c.args._count to some (block_sources (codec_of c.args.to.now) block c.args._count (channels_of c.args.to.now) c.requires.served.0 c.requires.size)) c.give_bytes.ensures.left

pub returns-clause-works : goal.returns-clause-works
returns-clause-works g c = given_works _ _ _ (known_of c.args.to.now) (known_of c.give_bytes.new.to) c.give_bytes.result c.requires.at_end c.give_bytes.ensures.left c.give_bytes.ensures.faults

pub returns-clause-gains : goal.returns-clause-gains
returns-clause-gains g c =
    on_ok_weaker c.give_bytes.result
    (λ gains kind p pieces xs e stands making.
    let more = gains kind p pieces xs e stands making in
    (more.0, more.1, subst (λ (l : List ℤ). IsMaking kind p pieces (xs ++ l) more.0) (pairs_stand (codec_of c.args.to.now) c.requires.served.0 c.args.block.now) more.2))
    c.give_bytes.ensures.gains
