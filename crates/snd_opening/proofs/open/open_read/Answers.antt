use Rattle.std.proofs.Common.{◌∙◌}
use Rattle.snd_edits.specs.Editing.{first_editing}
use Rattle.snd_edits.proofs.Public.{opening_ok, opening_refused}
use Rattle.snd_opening.proofs.open.open_read.Goals as goal

pub returns-in-Err-clause-opened : goal.returns-in-Err-clause-opened
returns-in-Err-clause-opened g c = λ r b is told. opening_refused b r (c.in-Err.ensures.opened r b is told)

pub returns-in-Ok-cache_for-clause-opened : goal.returns-in-Ok-cache_for-clause-opened
returns-in-Ok-cache_for-clause-opened g c = λ b told. (
  first_editing b c.in-Ok.layout,
  opening_ok b c.in-Ok.layout (c.in-Ok.ensures.opened b told),
  c.at_first_frame.ensures.stands b (c.open_layout.ensures.reads.keeps.contents ∙ told),
)
