use Rattle.std.proofs.Common.{rules, ◌≡◌, ◌+◌, ◌*◌, Some, None, option_map, slice_get, sym, ap, ◌∙◌}
use Rattle.std.specs.Option.{option_and_then}
use Rattle.snd_words.specs.Metadata.{stated_pair}
use Rattle.snd_words.specs.Setting.{stated}
use Rattle.snd_words.proofs.Coupled.{pair_words}
use Rattle.snd_words.proofs.Runs.{both}
use Rattle.snd_words.proofs.pairs.setting_at.Goals as goal

pub returns-in_err-option : goal.returns-in_err-option
returns-in_err-option c =
    let none : slice_get c.args.words.now (2 * c.args.at + 1) ≡ None = search rules in
    ap (option_map stated) c.from_residual.ensures
    ∙ sym (ap (option_and_then stated_pair) (pair_words c.args.words.now c.args.at c.requires.there ∙ ap (λ o. both o (slice_get c.args.words.now (2 * c.args.at + 2))) none))

pub returns-in_err-text : goal.returns-in_err-text
returns-in_err-text c =
    let option : slice_get c.args.words.now (2 * c.args.at + 1) ≡ Some c.in_ok-option.option.now = search rules in
    let none : slice_get c.args.words.now (2 * c.args.at + 2) ≡ None = search rules in
    ap (option_map stated) c.from_residual-in_err-text.ensures
    ∙ sym (ap (option_and_then stated_pair) (pair_words c.args.words.now c.args.at c.requires.there ∙ ap (λ o. both o (slice_get c.args.words.now (2 * c.args.at + 2))) option
    ∙ ap (both (Some c.in_ok-option.option.now)) none))

pub returns : goal.returns
returns c =
    let option : slice_get c.args.words.now (2 * c.args.at + 1) ≡ Some c.in_ok-option.option.now = search rules in
    let text : slice_get c.args.words.now (2 * c.args.at + 2) ≡ Some c.in_ok-text.text.now = search rules in
    c.stated_by.ensures
    ∙ sym (ap (option_and_then stated_pair) (pair_words c.args.words.now c.args.at c.requires.there ∙ ap (λ o. both o (slice_get c.args.words.now (2 * c.args.at + 2))) option
    ∙ ap (both (Some c.in_ok-option.option.now)) text))
