use Rattle.std.proofs.Common.{◌≡◌, ◌∙◌, ap, take, drop}
use Rattle.snd_layout.specs.Format.{format_of}
use Rattle.snd_search.specs.Search.{fixed_format}
use Rattle.snd_search.proofs.Fixed.{fixed_fits, fixed_is}
use Rattle.snd_search.proofs.Marks.{judged}
use Rattle.snd_search.proofs.format.judge_body.Goals as goal

pub returns-clause-told : goal.returns-clause-told
returns-clause-told g c = λ b told.
    let read : c.fill.new.into ≡ take 64 (take c.args.len (drop c.args.at b)) = judged c.min-count.result c.args.len c.fill.new.into _ (drop c.args.at b) (c.in_ok-fill.ensures.told b told) c.min-count.ensures in
    c.fixed_format.ensures ∙ ap fixed_format (c.read_fmt.ensures ∙ ap format_of read)

pub returns-clause-fits : goal.returns-clause-fits
returns-clause-fits g c = fixed_fits c.fill.new.into c.fixed_format.result (c.fixed_format.ensures ∙ ap fixed_format c.read_fmt.ensures)

pub returns-clause-is_fixed : goal.returns-clause-is_fixed
returns-clause-is_fixed g c = fixed_is c.fill.new.into c.fixed_format.result (c.fixed_format.ensures ∙ ap fixed_format c.read_fmt.ensures)
