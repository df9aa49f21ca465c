use Rattle.snd_rules.proofs.Makings.{make_works}
use Rattle.snd_rules.proofs.work.make_of.Goals as goal

pub returns : goal.returns
returns c = rw c.codec_of.ensures (make_works c.args.kind c.args.word c.args.channels c.args.rate c.args.name)
