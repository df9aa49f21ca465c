use Rattle.std.proofs.Common.{◌≡◌, ◌∙◌, ap, ℕ, ◌+◌, ◌-◌, ◌*◌, ◌≤◌, length, take, drop, arith}
use Rattle.std.proofs.lemmas.List.{places}
use Rattle.snd_container.specs.Fixed.{InRange, byte_count, samples}
use Rattle.snd_frames.proofs.Runs.{all_more, samples_more}
use Rattle.snd_frames.proofs.reads.read_next.Goals as goal

pub returns-clause-told : goal.returns-clause-told
returns-clause-told g c = λ b told so_far.
    let done = c.args.done in
    let count = c.min-count.result in
    let within : done + count ≤ length c.args.into.now = omega arith in
    let room : length (take (done + count - done) (drop done c.args.into.now)) ≡ count = grind (arith, places) in
    let size : length c.read_block.new.into ≡ count = omega (arith, room, c.read_block.auto.into) in
    let fits : c.args.at + byte_count c.args.form * (done + count) ≤ length b = grind (arith, within, c.requires.held, g.met.D.Disk.size_told c.args.disk.now b told) in
    samples_more c.args.into.now c.read_block.new.into done count _ (omega arith) size c.args.form b c.args.at _ size fits so_far
    (c.in_ok-read_block.ensures.told b told ∙ ap (λ (m : ℕ). samples c.args.form (take (byte_count c.args.form * length c.read_block.new.into) (drop (c.args.at + m * done) b))) c.bytes-width.ensures)

pub returns-clause-in_range : goal.returns-clause-in_range
returns-clause-in_range g c = λ so_far.
    let done = c.args.done in
    let count = c.min-count.result in
    let room : length (take (done + count - done) (drop done c.args.into.now)) ≡ count = grind (arith, places) in
    let size : length c.read_block.new.into ≡ count = omega (arith, room, c.read_block.auto.into) in
    all_more c.args.into.now c.read_block.new.into done count _ (omega arith) size (InRange c.args.form) c.in_ok-read_block.ensures.in_range so_far
