use Rattle.std.proofs.Common.{rules, ◌≡◌, ◌∙◌, ◌*◌, ap, length, arith}
use Rattle.snd_blocks.proofs.Public.{has_bad_part}
use Rattle.snd_blocks.specs.Sound.{frames_in}
use Rattle.snd_output.specs.Widths.{change_numbers}
use Rattle.snd_export.proofs.Found.{numbers_of}
use Rattle.snd_export.proofs.coding.read_numbers.Goals as goal

pub returns-in-Ok-clause-read : goal.returns-in-Ok-clause-read
returns-in-Ok-clause-read g c = λ b told.
    let h = c.args.layout.now in
    let size : length c.read_any.new.into ≡ c.args.count * h.params.channels = c.read_any.auto.into ∙ c.requires.room in
    c.change_numbers.ensures.changed ∙ ap (λ q. change_numbers q c.args.codec c.read_any.new.into) c.codec_of-own.ensures ∙ ap (change_numbers h.params.codec c.args.codec) (numbers_of b h c.args.place c.args.count c.read_any.new.into size (c.in-Ok.ensures.told b told))

pub returns-in-Err-BadBlock-clause-changed : goal.returns-in-Err-BadBlock-clause-changed
returns-in-Err-BadBlock-clause-changed g c = λ b told.
    has_bad_part (frames_in b c.args.layout.now) c.args.place c.args.count (c.in-Err-BadBlock.ensures.bad (search rules) b told)
