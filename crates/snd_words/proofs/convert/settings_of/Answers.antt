use Rattle.std.proofs.Common.{rules, ◌≡◌, ◌+◌, Some, None, [], ◌∷◌, slice_get, sym, ap, ◌∙◌}
use Rattle.std.specs.List.{slice_range}
use Rattle.std.specs.Option.{option_and_then}
use Rattle.snd_words.specs.Convert.{setting_of, settled_on}
use Rattle.snd_words.specs.Options.{all_of}
use Rattle.snd_words.proofs.Runs.{range_next}
use Rattle.snd_words.proofs.Together.{next_setting, unknown_setting}
use Rattle.snd_words.proofs.convert.settings_of.Goals as goal

pub returns-in_err-setting : goal.returns-in_err-setting
returns-in_err-setting c =
    let there : slice_get c.args.words.now c.loop-at.at ≡ Some c.in_ok-get.field-0.now = search rules in
    let unknown : setting_of c.in_ok-get.field-0.now ≡ None = search rules in
    let was : c.from_residual-in_err-setting.result ≡ None = search rules in
    was
    ∙ sym (ap (λ l. option_and_then (settled_on c.loop-at.settings) (all_of setting_of l)) (range_next c.args.words.now c.loop-at.at c.args.end _ c.loop-at-test.true there)
    ∙ unknown_setting c.loop-at.settings setting_of _ _ unknown)
    ∙ c.loop-at.invariant

pub returns-in_err-settings : goal.returns-in_err-settings
returns-in_err-settings c =
    let there : slice_get c.args.words.now c.loop-at.at ≡ Some c.in_ok-get.field-0.now = search rules in
    let known : setting_of c.in_ok-get.field-0.now ≡ Some c.in_ok-setting.setting = search rules in
    let twice : settled_on c.loop-at.settings (c.in_ok-setting.setting ∷ []) ≡ None = search rules in
    let was : c.from_residual-in_err-settings.result ≡ None = search rules in
    was
    ∙ sym (ap (λ l. option_and_then (settled_on c.loop-at.settings) (all_of setting_of l)) (range_next c.args.words.now c.loop-at.at c.args.end _ c.loop-at-test.true there)
    ∙ next_setting c.loop-at.settings setting_of _ _ _ known
    ∙ ap (option_and_then (λ t. option_and_then (settled_on t) (all_of setting_of (slice_range c.args.words.now (c.loop-at.at + 1) c.args.end)))) twice)
    ∙ c.loop-at.invariant

pub loop-at-preserved : goal.loop-at-preserved
loop-at-preserved c =
    let there : slice_get c.args.words.now c.loop-at.at ≡ Some c.in_ok-get.field-0.now = search rules in
    let known : setting_of c.in_ok-get.field-0.now ≡ Some c.in_ok-setting.setting = search rules in
    let once : settled_on c.loop-at.settings (c.in_ok-setting.setting ∷ []) ≡ Some c.in_ok-settings.settings = search rules in
    sym (ap (λ l. option_and_then (settled_on c.loop-at.settings) (all_of setting_of l)) (range_next c.args.words.now c.loop-at.at c.args.end _ c.loop-at-test.true there)
    ∙ next_setting c.loop-at.settings setting_of _ _ _ known
    ∙ ap (option_and_then (λ t. option_and_then (settled_on t) (all_of setting_of (slice_range c.args.words.now (c.loop-at.at + 1) c.args.end)))) once)
    ∙ c.loop-at.invariant
