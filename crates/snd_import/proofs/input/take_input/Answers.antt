use Rattle.std.proofs.Common.{false, rules}
use Rattle.snd_inputs.proofs.Reading.{not_handed, now_out}
use Rattle.snd_import.proofs.input.take_input.Goals as goal

pub returns-in-Ok-clause-taken : goal.returns-in-Ok-clause-taken
returns-in-Ok-clause-taken g c = record {
  takes = c.in-Ok.ensures.taken;
  taken = now_out _ _ c.args.name.now false _ c.in-Ok.ensures.taken;
  images = c.in-Ok.ensures.images;
  others = c.take.ensures.others;
  bytes = c.take.ensures.bytes;
}

pub returns-in-Err-Missing-clause-taken : goal.returns-in-Err-Missing-clause-taken
returns-in-Err-Missing-clause-taken g c = (
  not_handed g.S.Shelf c.args.name.now _ _ c.in-Err-Missing.ensures.stays c.in-Err-Missing.ensures.same_images c.take.ensures.others c.take.ensures.bytes,
  (c.in-Err-Missing.ensures.missing (search rules)).missing,
)

pub returns-in-Err-Failed-clause-taken : goal.returns-in-Err-Failed-clause-taken
returns-in-Err-Failed-clause-taken g c = not_handed g.S.Shelf c.args.name.now _ _ c.in-Err-Failed.ensures.stays c.in-Err-Failed.ensures.same_images c.take.ensures.others c.take.ensures.bytes

pub returns-in-Err-Memory-clause-taken : goal.returns-in-Err-Memory-clause-taken
returns-in-Err-Memory-clause-taken g c = not_handed g.S.Shelf c.args.name.now _ _ c.in-Err-Memory.ensures.stays c.in-Err-Memory.ensures.same_images c.take.ensures.others c.take.ensures.bytes
