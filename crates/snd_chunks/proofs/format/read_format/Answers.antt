use Rattle.std.proofs.Common.{rules, ◌≡◌, ◌∙◌, Ok, Err, sym, drop, arith}
use Rattle.snd_layout.specs.Format.{format_of}
use Rattle.snd_layout.proofs.Answered.{refusal_found}
use Rattle.snd_chunks.proofs.Formats.{part_fits, part_tells}
use Rattle.snd_chunks.specs.Parts.{body_of}
use Rattle.snd_chunks.proofs.format.read_format.Goals as goal

pub returns-clause-told : goal.returns-clause-told
returns-clause-told g c = λ b told.
    let is : Ok c.in_ok-read_fmt.field-0 ≡ c.read_fmt.result = search rules in
    sym (is ∙ c.read_fmt.ensures ∙ part_tells c.min-count.result c.args.format.len c.fill.new.into _ (drop c.args.format.at b) (c.in_ok-fill.ensures.told b told) c.fill.auto.into c.min-count.ensures (omega arith))

pub returns-clause-fits : goal.returns-clause-fits
returns-clause-fits g c = part_fits c.min-count.result c.fill.new.into _ c.in_ok-read_fmt.field-0 c.read_fmt.result c.fill.auto.into c.read_fmt.ensures (search rules)

pub returns-in_err-read_fmt-clause-told : goal.returns-in_err-read_fmt-clause-told
returns-in_err-read_fmt-clause-told g c =
    refusal_found g.D.Disk.state c.args.disk.now (λ b. format_of (body_of b c.args.format)) c.in_err-read_fmt.field-0.0 c.from_residual-in_err-read_fmt.result (search rules) (λ b told.
    let is : Err c.in_err-read_fmt.field-0.0 ≡ c.read_fmt.result = search rules in
    sym (is ∙ c.read_fmt.ensures ∙ part_tells c.min-count.result c.args.format.len c.fill.new.into _ (drop c.args.format.at b) (c.in_ok-fill.ensures.told b told) c.fill.auto.into c.min-count.ensures (omega arith)))
