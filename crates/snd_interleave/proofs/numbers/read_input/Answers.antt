use Rattle.std.proofs.Common.{rules, ◌∙◌, ◌≤◌, ap, sym, drop, length, take, arith}
use Rattle.std.proofs.lemmas.List.{length-take, take-append-le}
use Rattle.snd_blocks.proofs.Public.{has_bad_part}
use Rattle.snd_blocks.specs.Sound.{frames_in}
use Rattle.snd_edits.specs.Editing.{Editing}
use Rattle.snd_inputs.specs.Inputs.{is_bad}
use Rattle.snd_interleave.specs.Interleave.{numbers_of}
use Rattle.snd_interleave.proofs.Reading.{numbers_read}
use Rattle.snd_interleave.proofs.numbers.read_input.Goals as goal

pub returns-in-Ok-read_any-clause-read : goal.returns-in-Ok-read_any-clause-read
returns-in-Ok-read_any-clause-read g c = λ e holds.
    let h = c.args.input.now.layout in
    let k = c.frames_ahead-count.result in
    let new = c.read_any.new.into in
    let rest = drop k c.args.into.now in
    let fits : k ≤ length new = omega (arith, c.read_any.auto.into, c.frames_ahead-count.ensures.count, length-take k c.args.into.now) in
    take-append-le k new rest fits
    ∙ numbers_read c.args.place k h.params.channels new (frames_in e.bytes h) c.requires.mono fits (c.in-Ok-read_any.ensures.told e.bytes holds.bytes)
    ∙ ap (λ (f : Editing). take k (drop c.args.place (numbers_of f))) (sym holds.opened)

pub returns-in-Err-BadBlock-clause-changed : goal.returns-in-Err-BadBlock-clause-changed
returns-in-Err-BadBlock-clause-changed g c = λ e holds.
    let h = c.args.input.now.layout in
    let k = c.frames_ahead-count.result in
    ap is_bad holds.opened ∙ has_bad_part (frames_in e.bytes h) c.args.place k (c.in-Err-BadBlock.ensures.bad (search rules) e.bytes holds.bytes)
