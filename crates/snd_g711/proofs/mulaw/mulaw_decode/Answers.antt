use Rattle.snd_g711.specs.Mulaw.{mulaw_value}
use Rattle.snd_g711.proofs.Widths.{narrowed, fits_wide}
use Rattle.snd_g711.proofs.MulawLemmas.{mulaw_value_fits}
use Rattle.snd_g711.proofs.mulaw.mulaw_decode.Goals as goal

pub overflow_cast-result : goal.overflow_cast-result
overflow_cast-result c = fits_wide c.value_of.result (mulaw_value c.args.byte) c.value_of.ensures (mulaw_value_fits c.args.byte)

pub returns : goal.returns
returns c = narrowed c.value_of.result (mulaw_value c.args.byte) c.value_of.ensures (mulaw_value_fits c.args.byte)
