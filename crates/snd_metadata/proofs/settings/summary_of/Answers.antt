use Rattle.std.proofs.Common.{rules, ◌≡◌, ◌∙◌, ap, sym, ◌||◌, Bool, Some, List}
use Rattle.std.specs.Prelude.{slice_get}
use Rattle.snd_words.specs.Setting.{stated}
use Rattle.snd_words.specs.Stated.{Stated}
use Rattle.snd_metadata.specs.Settings.{is_too_long, sets_field, sets_text}
use Rattle.snd_metadata.proofs.Lists.{any_more}
use Rattle.snd_metadata.proofs.settings.summary_of.Goals as goal

pub loop-at-preserved : goal.loop-at-preserved
loop-at-preserved c =
    let settings : List Stated = c.args.settings.now in
    let at = c.loop-at.at in
    let x : Stated = stated c.in-Some.setting in
    let there : slice_get settings at ≡ Some x = search rules in
    let was = c.loop-at.invariant in
    record {
      fields = c.with_one-summary.ensures.fields ∙ ap (λ (t : Bool). t || sets_field x) was.fields ∙ sym (any_more settings at x there sets_field);
      texts = c.with_one-summary.ensures.texts ∙ ap (λ (t : Bool). t || sets_text x) was.texts ∙ sym (any_more settings at x there sets_text);
      too_long = c.with_one-summary.ensures.too_long ∙ ap (λ (t : Bool). t || is_too_long x) was.too_long ∙ sym (any_more settings at x there is_too_long);
    }
