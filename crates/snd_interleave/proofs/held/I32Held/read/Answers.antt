use Rattle.std.proofs.Common.{◌≡◌, subst, ℕ, length, pos, arith}
use Rattle.std.proofs.lemmas.Result.{on_ok_weaker}
use Rattle.snd_interleave.specs.Asking.{AsksInput, bytes_from}
use Rattle.snd_interleave.specs.Reading.{HasChannelOf}
use Rattle.snd_interleave.proofs.held.I32Held.read.Goals as goal

pub returns-clause-read : goal.returns-clause-read
returns-clause-read g c =
    let size : length c.args.into.now ≡ c.args._count = omega (arith, c.requires.size) in
    on_ok_weaker c.read_numbers.result (λ read. subst (λ (n : ℕ). HasChannelOf g.D.Disk.state c.args.input.now c.args.codec c.args.place n c.read_numbers.new.into) size read) c.read_numbers.ensures.read

pub returns-clause-in_range : goal.returns-clause-in_range
returns-clause-in_range g c =
    on_ok_weaker c.read_numbers.result (λ fit j lt. fit j (pos 0) (omega (arith, lt, c.requires.size, c.read_numbers.auto.into))) c.read_numbers.ensures.in_range

pub returns-clause-asked : goal.returns-clause-asked
returns-clause-asked g c =
    let size : length c.args.into.now ≡ c.args._count = omega (arith, c.requires.size) in
    subst (λ (n : ℕ). AsksInput g.D.Disk.state (bytes_from c.args.place n) c.args.input.now c.read_numbers.new.input) size c.read_numbers.ensures.asked
