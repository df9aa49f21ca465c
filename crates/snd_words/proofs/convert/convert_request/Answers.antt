use Rattle.std.proofs.Common.{◌≡◌, ◌-◌, Some, None, Option, ℕ, List, take, drop, refl, sym, ap, ◌∙◌, arith}
use Rattle.std.proofs.lemmas.List.{drop-drop}
use Rattle.snd_words.specs.declared.convert.Settings.{Settings}
use Rattle.snd_words.specs.Asked.{Asked}
use Rattle.snd_words.specs.Convert.{convert_asked, convert_with, settings_of}
use Rattle.snd_words.specs.Names.{two_names}
use Rattle.snd_words.specs.Options.{option_count}
use Rattle.snd_words.specs.Request.{asked_by}
use Rattle.snd_words.proofs.convert.convert_request.Goals as goal

without_settings : (s : Option Settings) (names : Option (List ℕ × List ℕ)) → None ≡ s → Asked.nothing ≡ convert_with s names
without_settings None names none = refl
without_settings (Some s) names none = cc

without_names : (s : Option Settings) (names : Option (List ℕ × List ℕ)) → None ≡ names → Asked.nothing ≡ convert_with s names
without_names None names none = refl
without_names (Some s) None none = refl
without_names (Some s) (Some (one, two)) none = cc

pub returns-in_err-settings-clause-words : goal.returns-in_err-settings-clause-words
unfolding convert_asked
returns-in_err-settings-clause-words c =
    let words : List (List ℕ) = drop 1 c.args.words.now in
    let count : c.options_end-end.result - 1 ≡ option_count words = omega (arith, c.options_end-end.ensures.end) in
    let none : None ≡ settings_of (take (option_count words) words) = c.in_err-settings.ensures ∙ ap (λ n. settings_of (take n words)) count in
    ap asked_by c.from_residual.ensures ∙ without_settings _ (two_names (drop (option_count words) words)) none

pub returns-in_err-input-clause-words : goal.returns-in_err-input-clause-words
unfolding convert_asked
returns-in_err-input-clause-words c =
    let words : List (List ℕ) = drop 1 c.args.words.now in
    let names : drop c.options_end-end.result c.args.words.now ≡ drop (option_count words) words
    = ap (λ n. drop n c.args.words.now) c.options_end-end.ensures.end ∙ sym (drop-drop (option_count words) 1 c.args.words.now) in
    let none : None ≡ two_names (drop (option_count words) words) = c.in_err-input.ensures ∙ ap two_names names in
    ap asked_by c.from_residual-in_err-input.ensures ∙ without_names (settings_of (take (option_count words) words)) _ none
