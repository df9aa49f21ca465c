use Rattle.snd_meta.proofs.Keys.{same_clones}
use Rattle.snd_meta.proofs.info.InfoList.duplicate.Goals as goal

pub returns-clause-equal : goal.returns-clause-equal
returns-clause-equal c =
    same_clones c.self.inside.texts c.in_ok-clone.field-0 c.args.self.now c.self.view_is c.in_ok-clone.ensures.cases (λ t u h. h) (λ t h. h) (λ u h. h)
