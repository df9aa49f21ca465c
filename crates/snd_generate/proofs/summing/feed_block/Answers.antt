use Rattle.std.proofs.Common.{◌≡◌, ◌∙◌, ap, subst, ℕ, ◌*◌, ◌≤◌, ℤ, List, length, arith, rules}
use Rattle.snd_file.specs.Handle.{channels_of, known_of}
use Rattle.snd_output.proofs.Public.{count_fits}
use Rattle.snd_pcm.specs.Groups.{first_groups}
use Rattle.snd_generate.specs.Steps.{FedOn}
use Rattle.snd_generate.proofs.Sums.{front_groups}
use Rattle.snd_generate.proofs.summing.feed_block.Goals as goal

pub returns-in-Ok-clause-fed : goal.returns-in-Ok-clause-fed
returns-in-Ok-clause-fed g c = λ e stands.
    let k = c.in-Ok.count in
    let q = c.from-channels.result in
    let xs = c.read_frames.new.into in
    let same : q ≡ channels_of c.args.file.now = search rules in
    let some : 1 ≤ channels_of c.args.file.now = search rules in
    let fits = count_fits (known_of c.args.file.now) (length c.args.block.now) k some c.requires.whole c.in-Ok.ensures.left.1 in
    let turned : k * q ≡ k * channels_of c.args.file.now = ap (λ (n : ℕ). k * n) same in
    let all = front_groups q k xs (omega (arith, same, some)) (omega (arith, turned, fits.1, c.read_frames.auto.into)) ∙ ap (λ (n : ℕ). first_groups n k xs) same ∙ (c.in-Ok.ensures.read e stands).frames in
    subst (λ (l : List (List ℤ)). FedOn l c.args.meters.now c.feed.new.self) all c.feed.ensures
