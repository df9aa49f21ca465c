use Rattle.std.proofs.Common.{◌≡◌, take}
use Rattle.snd_metadata.specs.Settings.{are_too_long, set_fields, set_texts}
use Rattle.snd_metadata.proofs.settings.summary_of.Given as goal

abbrev pub invariant-loop-at : goal.invariant-loop-at
invariant-loop-at l = record {
  fields : l.summary.fields ≡ set_fields (take l.at l.settings);
  texts : l.summary.texts ≡ set_texts (take l.at l.settings);
  too_long : l.summary.too_long ≡ are_too_long (take l.at l.settings);
}
