use Rattle.snd_output.proofs.Begun.{begun_is_making}
use Rattle.snd_output.proofs.Carried.{put_is_making}
use Rattle.snd_output.proofs.Encoding.{encoded_is_making, filled_is_made}
use Rattle.snd_output.proofs.Finished.{sealed_is_made}
use Rattle.snd_output.proofs.Lengthened.{written_is_making}
use Rattle.snd_output.proofs.laws.files_are_made.Goals as goal

pub returns-clause-begun : goal.returns-clause-begun
returns-clause-begun c = begun_is_making

pub returns-clause-carried : goal.returns-clause-carried
returns-clause-carried c = put_is_making

pub returns-clause-written : goal.returns-clause-written
returns-clause-written c = written_is_making

pub returns-clause-sealed : goal.returns-clause-sealed
returns-clause-sealed c = sealed_is_made

pub returns-clause-encoded : goal.returns-clause-encoded
returns-clause-encoded c = encoded_is_making

pub returns-clause-filled : goal.returns-clause-filled
returns-clause-filled c = filled_is_made
