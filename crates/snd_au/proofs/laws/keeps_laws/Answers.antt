use Rattle.snd_fields.specs.declared.field.Order.TheVariants.{Little, Big}
use Rattle.snd_au.proofs.Made as made
use Rattle.snd_au.proofs.laws.keeps_laws.Goals as goal

pub returns-clause-big : goal.returns-clause-big
returns-clause-big c = made.keeps_laws Big

pub returns-clause-little : goal.returns-clause-little
returns-clause-little c = made.keeps_laws Little
