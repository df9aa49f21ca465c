use Rattle.std.proofs.Common.{◌≡◌, drop}
use Rattle.snd_metadata.specs.Settings.{with_entries, with_fields}
use Rattle.snd_metadata.proofs.settings.put_settings.Given as goal

abbrev pub invariant-loop-at : goal.invariant-loop-at
invariant-loop-at l = record {
  extension : with_fields (drop l.at l.settings) l.drafts.extension ≡ with_fields l.settings l.fn.drafts.extension;
  texts : with_entries (drop l.at l.settings) l.drafts.texts ≡ with_entries l.settings l.fn.drafts.texts;
}
