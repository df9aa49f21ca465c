use Rattle.std.proofs.Common.{true}
use Rattle.snd_inputs.proofs.Reading.{now_out}
use Rattle.snd_tools.proofs.Public.{stayed_changes}
use Rattle.snd_inputs.proofs.output.take_output.Goals as goal

pub returns-in-Err-Failed-clause-changes : goal.returns-in-Err-Failed-clause-changes
returns-in-Err-Failed-clause-changes g c = stayed_changes g.S.Shelf c.args.name.now true _ _ c.in-Err-Failed.ensures.stays c.in-Err-Failed.ensures.same_images c.take.ensures.others

pub returns-in-Err-Memory-clause-changes : goal.returns-in-Err-Memory-clause-changes
returns-in-Err-Memory-clause-changes g c = stayed_changes g.S.Shelf c.args.name.now true _ _ c.in-Err-Memory.ensures.stays c.in-Err-Memory.ensures.same_images c.take.ensures.others

pub returns-in-Ok-clause-out : goal.returns-in-Ok-clause-out
returns-in-Ok-clause-out g c = record {
  takes = c.in-Ok.ensures.taken;
  taken = now_out _ _ c.args.name.now true _ c.in-Ok.ensures.taken;
  images = c.in-Ok.ensures.images;
  others = c.take.ensures.others;
  bytes = c.take.ensures.bytes;
}
