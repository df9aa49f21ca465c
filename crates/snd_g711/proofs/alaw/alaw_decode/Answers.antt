use Rattle.snd_g711.specs.Alaw.{alaw_value}
use Rattle.snd_g711.proofs.Widths.{narrowed, fits_wide}
use Rattle.snd_g711.proofs.AlawLemmas.{alaw_value_fits}
use Rattle.snd_g711.proofs.alaw.alaw_decode.Goals as goal

pub overflow_cast-result : goal.overflow_cast-result
overflow_cast-result c = fits_wide c.value_of.result (alaw_value c.args.byte) c.value_of.ensures (alaw_value_fits c.args.byte)

pub returns : goal.returns
returns c = narrowed c.value_of.result (alaw_value c.args.byte) c.value_of.ensures (alaw_value_fits c.args.byte)
