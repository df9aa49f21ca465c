use Rattle.std.proofs.Common.{◌≡◌, ◌∙◌, ◌*◌, ap, sym, ℕ, arith}
use Rattle.snd_interleave.proofs.PairNumbers.{channel_put, channels_kept}
use Rattle.snd_interleave.proofs.held.U8Held.put.Goals as goal

pub put_pairs-requires-clause-size : goal.put_pairs-requires-clause-size
put_pairs-requires-clause-size c =
    let turn : 2 * (c.args._count * c.args.channels) ≡ 2 * c.args._count * c.args.channels = omega arith in
    c.requires.room ∙ turn ∙ ap (λ (n : ℕ). n * c.args.channels) (sym c.requires.size)

pub returns-clause-put : goal.returns-clause-put
returns-clause-put c = λ codec served.
    let turn : 2 * (c.args._count * c.args.channels) ≡ 2 * c.args._count * c.args.channels = omega arith in
    let size = c.requires.room ∙ turn ∙ ap (λ (n : ℕ). n * c.args.channels) (sym c.requires.size) in
    channel_put codec served.0 c.args.channels c.args.which c.args._count c.args.from.now c.put_pairs.new.block c.requires.within c.requires.size (c.put_pairs.auto.block ∙ size) c.put_pairs.ensures.put

pub returns-clause-others : goal.returns-clause-others
returns-clause-others c = λ codec served.
    let turn : 2 * (c.args._count * c.args.channels) ≡ 2 * c.args._count * c.args.channels = omega arith in
    let size = c.requires.room ∙ turn ∙ ap (λ (n : ℕ). n * c.args.channels) (sym c.requires.size) in
    channels_kept codec served.0 c.args.channels c.args.which c.args._count c.args.from.now c.put_pairs.new.block c.args.block.now c.requires.within c.requires.size (c.put_pairs.auto.block ∙ size) (sym c.put_pairs.auto.block) c.put_pairs.ensures.others
