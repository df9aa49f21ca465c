use Rattle.snd_output.proofs.Likeness.{same_channels}
use Rattle.snd_output.proofs.codec.params_like.Goals as goal

pub returns-clause-channels : goal.returns-clause-channels
returns-clause-channels c = same_channels c.args.channels c.from-rate.result c.codec_like-codec.result c.in_ok-params.params c.in_ok-params.ensures
