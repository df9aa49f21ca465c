use Rattle.std.proofs.Common.{rules, ◌≡◌, ◌∙◌, ap, sym, ◌+◌, Some, List, ◌∷◌, drop}
use Rattle.std.specs.Prelude.{slice_get}
use Rattle.snd_meta.specs.Broadcast.{Broadcast}
use Rattle.snd_meta.specs.Info.{Entry}
use Rattle.snd_words.specs.Setting.{stated}
use Rattle.snd_words.specs.Stated.{Stated}
use Rattle.snd_metadata.specs.Settings.{is_too_long, with_entries, with_fields}
use Rattle.snd_metadata.proofs.Lists.{drop_here, not_this}
use Rattle.snd_metadata.proofs.settings.put_settings.Goals as goal

pub put_setting-requires-clause-fits : goal.put_setting-requires-clause-fits
put_setting-requires-clause-fits c =
    let there : slice_get c.args.settings.now c.loop-at.at ≡ Some (stated c.in-Some.setting) = search rules in
    not_this c.args.settings.now c.loop-at.at (stated c.in-Some.setting) there is_too_long c.requires.fit

pub loop-at-preserved : goal.loop-at-preserved
loop-at-preserved c =
    let x : Stated = stated c.in-Some.setting in
    let rest : List Stated = drop (c.loop-at.at + 1) c.args.settings.now in
    let there : slice_get c.args.settings.now c.loop-at.at ≡ Some x = search rules in
    let here : drop c.loop-at.at c.args.settings.now ≡ x ∷ rest = drop_here c.args.settings.now c.loop-at.at x there in
    let was = c.loop-at.invariant in
    record {
      extension = ap (λ (d : Broadcast). with_fields rest d) c.in_ok-put_setting.ensures.put.0 ∙ sym (ap (λ (l : List Stated). with_fields l c.loop-at.drafts.extension) here) ∙ was.extension;
      texts = ap (λ (d : List Entry). with_entries rest d) c.in_ok-put_setting.ensures.put.1 ∙ sym (ap (λ (l : List Stated). with_entries l c.loop-at.drafts.texts) here) ∙ was.texts;
    }
