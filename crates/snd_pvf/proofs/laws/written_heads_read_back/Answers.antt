use Rattle.snd_pvf.proofs.ReadsBack.{heads_read_back}
use Rattle.snd_pvf.proofs.laws.written_heads_read_back.Goals as goal

pub returns : goal.returns
returns c = heads_read_back
