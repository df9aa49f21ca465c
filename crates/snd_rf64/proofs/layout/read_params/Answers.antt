use Rattle.std.proofs.Common.{rules, ap}
use Rattle.snd_layout.specs.Format.{format_of}
use Rattle.snd_layout.proofs.Answered.{passed_on}
use Rattle.snd_chunks.specs.Parts.{body_of}
use Rattle.snd_rf64.specs.Layout.{fitted}
use Rattle.snd_rf64.proofs.layout.read_params.Goals as goal

pub returns-in_err-params-clause-told : goal.returns-in_err-params-clause-told
returns-in_err-params-clause-told g c =
    passed_on g.D.Disk.state c.args.disk.now (λ b. format_of (body_of b c.args.format)) (λ b. fitted (format_of (body_of b c.args.format))) c.from_residual.result c.in_err-params.field-0.0 (search rules)
    (λ b refusal is. ap fitted is) c.in_err-params.ensures.told
