use Rattle.std.proofs.Common.{◌≡◌, ◌<◌, ℕ, List, length, Option, Some, None, false, option_map, drop, slice_get, refl, sym, ap, ◌∙◌, arith}
use Rattle.std.specs.Option.{is_some, option_and_then}
use Rattle.snd_words.specs.Metadata.{all_stated, option_pairs, stated_pair}
use Rattle.snd_words.specs.Setting.{stated}
use Rattle.snd_words.proofs.Coupled.{all_more, all_none}
use Rattle.snd_words.proofs.pairs.MetadataSettings.read.Goals as goal

nothing : {T : Type 0} (o : Option T) → is_some o ≡ false → None ≡ o
nothing None e = refl
nothing (Some x) e = cc

pub returns-in_default : goal.returns-in_default
returns-in_default c =
    let ps : List (List ℕ × List ℕ) = option_pairs (drop 1 c.args.words.now) in
    let none : option_and_then stated_pair (slice_get ps c.loop-at.at) ≡ None = sym c.setting_at.ensures ∙ ap (option_map stated) c.in_default.is in
    let within : c.loop-at.at < length ps = omega (arith, c.requires.all, c.loop-at-test.true) in
    nothing (all_stated ps) (sym c.loop-at.invariant ∙ all_none stated_pair ps c.loop-at.at within none)

pub loop-at-preserved : goal.loop-at-preserved
loop-at-preserved c =
    let ps : List (List ℕ × List ℕ) = option_pairs (drop 1 c.args.words.now) in
    let some : option_and_then stated_pair (slice_get ps c.loop-at.at) ≡ Some (stated c.in-Some.field-0) = sym c.setting_at.ensures ∙ ap (option_map stated) c.in-Some.is in
    sym (all_more stated_pair ps c.loop-at.at (stated c.in-Some.field-0) some) ∙ c.loop-at.invariant
