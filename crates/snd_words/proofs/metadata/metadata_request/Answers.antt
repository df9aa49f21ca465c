use Rattle.std.proofs.Common.{◌≡◌, ◌+◌, ◌*◌, ◌&&◌, ℕ, Bool, true, false, List, Option, Some, None, length, drop, nat_le, if◌then◌else◌, refl, sym, ap, ◌∙◌, arith, rules}
use Rattle.std.proofs.lemmas.List.{drop-drop}
use Rattle.snd_words.specs.Asked.{Asked}
use Rattle.snd_words.specs.Metadata.{all_stated, are_distinct, metadata_asked, option_pairs, options_in, set_with}
use Rattle.snd_words.specs.Names.{two_names}
use Rattle.snd_words.specs.Request.{asked_by}
use Rattle.snd_words.specs.Stated.{Stated}
use Rattle.snd_words.proofs.Stating.{all_are_stated}
use Rattle.snd_words.proofs.metadata.metadata_request.Goals as goal

without_names : (s : Option (List Stated)) (n : Option (List ℕ × List ℕ)) → None ≡ n → Asked.nothing ≡ set_with s n
without_names None n none = refl
without_names (Some s) None none = refl
without_names (Some s) (Some (one, two)) none = cc

either_way : (b : Bool) (asked : Asked) → Asked.nothing ≡ asked → Asked.nothing ≡ (if b then asked else Asked.nothing)
either_way true asked e = e
either_way false asked e = refl

pub returns-in_err-input-clause-words : goal.returns-in_err-input-clause-words
unfolding metadata_asked
returns-in_err-input-clause-words c =
    let words : List (List ℕ) = drop 1 c.args.words.now in
    let ps : List (List ℕ × List ℕ) = option_pairs words in
    let place : 2 * c.count_pairs-count.result + 1 ≡ 1 + 2 * length ps = omega (arith, c.count_pairs-count.ensures.count) in
    let names : drop (2 * c.count_pairs-count.result + 1) c.args.words.now ≡ drop (2 * length ps) words
    = ap (λ n. drop n c.args.words.now) place ∙ sym (drop-drop (2 * length ps) 1 c.args.words.now) in
    let none : None ≡ two_names (drop (2 * length ps) words) = c.in_err-input.ensures ∙ ap two_names names in
    ap asked_by c.from_residual.ensures ∙ either_way (nat_le 1 (length ps) && are_distinct (options_in ps)) _ (without_names (all_stated ps) _ none)

pub returns-clause-good : goal.returns-clause-good
returns-clause-good c = all_are_stated (option_pairs (drop 1 c.args.words.now)) c.in_ok-settings.settings (search rules)
