use Rattle.std.proofs.Common.{◌≡◌, ◌∙◌, ◌*◌, subst, sym, ap, ℕ, length, arith}
use Rattle.snd_interleave.specs.Beside.{HasChannel, KeepsChannels}
use Rattle.snd_interleave.proofs.held.I32Held.put.Goals as goal

pub put_numbers-requires-clause-size : goal.put_numbers-requires-clause-size
put_numbers-requires-clause-size c =
    let size : length c.args.from.now ≡ c.args._count = omega (arith, c.requires.size) in
    let room : length c.args.block.now ≡ c.args._count * c.args.channels = omega (arith, c.requires.room) in
    room ∙ ap (λ (n : ℕ). n * c.args.channels) (sym size)

pub returns-clause-put : goal.returns-clause-put
returns-clause-put c = λ codec served.
    let size : length c.args.from.now ≡ c.args._count = omega (arith, c.requires.size) in
    subst (λ (n : ℕ). HasChannel c.args.channels c.args.which n c.args.from.now c.put_numbers.new.block) size c.put_numbers.ensures.put

pub returns-clause-others : goal.returns-clause-others
returns-clause-others c = λ codec served.
    let size : length c.args.from.now ≡ c.args._count = omega (arith, c.requires.size) in
    subst (λ (n : ℕ). KeepsChannels c.args.channels c.args.which n c.args.block.now c.put_numbers.new.block) size c.put_numbers.ensures.others
