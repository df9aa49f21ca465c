use Rattle.std.proofs.Common.{◌≡◌, ◌≤◌, ◌*◌, ap, subst, All, length, pos, arith}
use Rattle.std.proofs.lemmas.List.{get_or_default}
use Rattle.snd_layout.specs.Params.{Parameters}
use Rattle.snd_file.specs.Handle.{channels_of, codec_of, known_of}
use Rattle.snd_output.proofs.Public.{frames_are, may_give, width_fits}
use Rattle.snd_output.specs.Widths.{width_of}
use Rattle.snd_pcm.specs.Width.{HasWidth}
use Rattle.snd_interleave.proofs.Adding.{given_so_many, given_works}
use Rattle.snd_interleave.proofs.held.I32Held.give.Goals as goal

pub give-requires : goal.give-requires
give-requires g c =
    let to = known_of c.args.to.now in
    let block = c.args.block.now in
    let width = width_of (codec_of c.args.to.now) in
    let some : 1 ≤ channels_of c.args.to.now = omega (arith, ap (λ (q : Parameters). q.channels) c.params.ensures, c.are_good.ensures.some_channel) in
    let size : length block ≡ c.args._count * channels_of c.args.to.now = omega (arith, c.requires.size) in
    let fit : All (HasWidth width) block = λ k d lt. subst (HasWidth width) (get_or_default block k (pos 0) d lt) (c.requires.in_range k (omega (arith, lt, size))) in
    record { may = may_give block c.args._count to some size c.requires.at_end c.requires.room (width_fits (codec_of c.args.to.now) block fit) }

pub returns-clause-left : goal.returns-clause-left
returns-clause-left g c =
    let to = known_of c.args.to.now in
    let block = c.args.block.now in
    let some : 1 ≤ channels_of c.args.to.now = omega (arith, ap (λ (q : Parameters). q.channels) c.params.ensures, c.are_good.ensures.some_channel) in
    let size : length block ≡ c.args._count * channels_of c.args.to.now = omega (arith, c.requires.size) in
    given_so_many _ c.args._count to (known_of c.give.new.to) c.give.result (frames_are block c.args._count to some size) c.give.ensures.left

pub returns-clause-works : goal.returns-clause-works
returns-clause-works g c = given_works _ _ _ (known_of c.args.to.now) (known_of c.give.new.to) c.give.result c.requires.at_end c.give.ensures.left c.give.ensures.faults
