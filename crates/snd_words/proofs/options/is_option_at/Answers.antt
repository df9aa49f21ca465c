use Rattle.std.proofs.Common.{rules, ◌≡◌, [], None, slice_get, slice_index_or, refl, sym, ap, ◌∙◌}
use Rattle.std.specs.Option.{unwrap_or}
use Rattle.std.proofs.lemmas.Option.{unwrap_or-slice_get}
use Rattle.snd_words.proofs.options.is_option_at.Goals as goal

pub returns-in-None : goal.returns-in-None
returns-in-None c =
    let none : slice_get c.args.words.now c.args.at ≡ None = search rules in
    let empty : slice_index_or c.args.words.now c.args.at [] ≡ [] = sym (unwrap_or-slice_get c.args.words.now c.args.at []) ∙ ap (λ o. unwrap_or o []) none in
    rw empty refl
