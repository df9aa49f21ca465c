use Rattle.std.proofs.Common.{subst}
use Rattle.snd_rack.specs.Passing.{AllSettled}
use Rattle.snd_rack.specs.Spec.{parts}
use Rattle.snd_rack.proofs.Settled.{all_settled}
use Rattle.snd_rack.proofs.spec.RackSpec.are_settled.Goals as goal

pub returns : goal.returns
returns c = subst AllSettled c.self.view_is (all_settled (parts 44 c.self.inside.text.now))
