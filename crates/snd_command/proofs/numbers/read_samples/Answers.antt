use Rattle.std.proofs.Common.{◌≡◌, suc, ap, length, arith}
use Rattle.snd_command.specs.Words.{words}
use Rattle.snd_command.proofs.Counts.{few}
use Rattle.snd_command.proofs.numbers.read_samples.Goals as goal

pub push-requires : goal.push-requires
push-requires c =
    let one : length (words c.loop-word.rest.now) ≡ suc (length (words c.in-Some.behind.now)) = ap length c.in-Some.ensures.words in
    (omega arith, omega (arith, few c.args.args.now))
