use Rattle.std.proofs.Common.{sym, ◌∙◌}
use Rattle.std.specs.Option.{option_copied}
use Rattle.snd_meta.proofs.Keys.{held_info, text_held, read_text}
use Rattle.snd_meta.proofs.info.InfoList.held.Goals as goal

pub returns-clause-value : goal.returns-clause-value
returns-clause-value c =
    read_text c.as_ref.result
    ∙ sym (text_held c.self.inside.texts c.args.self.now c.args.key c.place.result c.index-self-place.result (option_copied c.as_ref.result) c.self.view_is c.self.invariant
    c.place.ensures.value (sym c.as_ref.ensures.value))

pub returns-clause-info : goal.returns-clause-info
returns-clause-info c = held_info c.self.inside.texts c.args.self.now c.self.view_is
