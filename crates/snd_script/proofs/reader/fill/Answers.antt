use Rattle.std.proofs.Common.{drop, arith}
use Rattle.snd_script.proofs.Parts.{taken_front}
use Rattle.snd_script.proofs.reader.fill.Goals as goal

pub returns-clause-told : goal.returns-clause-told
returns-clause-told g c = λ s told.
    let taken = c.in_ok-count.ensures.taken in (
      drop c.in_ok-count.count s,
      taken.left s told,
      taken_front c.in_ok-count.count c.take.new.into _ s (omega (arith, c.in_ok-count.ensures.fits, c.take.auto.into)) (taken.front s told),
    )
