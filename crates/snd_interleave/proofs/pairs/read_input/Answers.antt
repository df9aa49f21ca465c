use Rattle.std.proofs.Common.{◌≡◌, ◌∙◌, ◌*◌, ◌/◌, ap, sym, drop, length, take, arith}
use Rattle.std.proofs.lemmas.List.{length-append, length-take, take-append-le}
use Rattle.snd_blocks.specs.Sound.{frames_in}
use Rattle.snd_edits.specs.Bytes.{numbers_in}
use Rattle.snd_edits.specs.Editing.{Editing}
use Rattle.snd_interleave.specs.Interleave.{numbers_of}
use Rattle.snd_interleave.proofs.PairNumbers.{pairs_counted, same_front}
use Rattle.snd_interleave.proofs.Reading.{numbers_read}
use Rattle.snd_interleave.proofs.pairs.read_input.Goals as goal

pub returns-in-Ok-clause-read : goal.returns-in-Ok-clause-read
returns-in-Ok-clause-read g c = λ e holds.
    let h = c.args.input.now.layout in
    let codec = h.params.codec in
    let k = c.frames_ahead-count.result in
    let new = c.read_raw.new.into in
    let rest = drop (2 * k) c.args.into.now in
    let size : length new ≡ 2 * k = omega (arith, c.read_raw.auto.into, c.frames_ahead-count.ensures.count, length-take (2 * k) c.args.into.now) in
    let half : length new / 2 ≡ k = omega (arith, size) in
    let count : length (numbers_in codec new) ≡ k = pairs_counted codec c.requires.pairs new ∙ half in
    same_front codec c.requires.pairs _ new k (omega (arith, size, length-append new rest)) (omega (arith, size)) (take-append-le (2 * k) new rest (omega (arith, size)))
    ∙ numbers_read c.args.place k h.params.channels (numbers_in codec new) (frames_in e.bytes h) c.requires.mono (omega (arith, count)) (c.in-Ok.ensures.told e.bytes holds.bytes)
    ∙ ap (λ (f : Editing). take k (drop c.args.place (numbers_of f))) (sym holds.opened)
