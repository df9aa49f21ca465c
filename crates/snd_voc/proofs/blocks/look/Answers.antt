use Rattle.snd_voc.proofs.Walking.{look_is}
use Rattle.snd_voc.proofs.blocks.look.Goals as goal

pub returns-clause-told : goal.returns-clause-told
returns-clause-told g c = λ b told.
    look_is b c.read_from.new.into c.args.place c.u24_at.result c.seen_of.result (c.in_ok-read_from.ensures.told b told) c.u24_at.ensures c.seen_of.ensures.value
