use Rattle.std.proofs.Common.{subst}
use Rattle.snd_layout.specs.Params.{AreParams}
use Rattle.snd_file.specs.Handle.{known_of}
use Rattle.snd_output.proofs.Giving.{some_frames}
use Rattle.snd_output.proofs.blocks.numbers_of.Goals as goal

pub returns-clause-frames : goal.returns-clause-frames
returns-clause-frames g c = some_frames (known_of c.args.file.now).shape c.keeps_rule.ensures (subst AreParams c.params-params.ensures c.are_good.ensures)
