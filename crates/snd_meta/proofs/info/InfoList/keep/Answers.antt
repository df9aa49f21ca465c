use Rattle.std.proofs.Common.{refl, ap, ◌∙◌}
use Rattle.snd_meta.specs.Info.{with_text}
use Rattle.snd_meta.proofs.Keys.{held_info, text_put}
use Rattle.snd_meta.proofs.info.InfoList.keep.Goals as goal

pub returns-clause-kept : goal.returns-clause-kept
returns-clause-kept c =
    text_put c.self.inside.texts c.args.self.now c.args.key c.place.result c.in_ok-text.text c.self.view_is c.self.invariant c.place.ensures.value
    ∙ ap (λ text. with_text c.args.key text c.args.self.now) c.in_ok-text.ensures

pub returns-clause-info : goal.returns-clause-info
returns-clause-info c = held_info _ _ refl
