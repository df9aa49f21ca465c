use Rattle.std.proofs.Common.{◌∙◌, ap, sym}
use Rattle.snd_app.specs.Help.{usage_of}
use Rattle.snd_app.proofs.help.usage_of.Goals as goal

pub returns-in-Convert : goal.returns-in-Convert
returns-in-Convert c = c.convert_usage.ensures ∙ ap usage_of (sym c.in-Convert.is)

pub returns-in-Deinterleave : goal.returns-in-Deinterleave
returns-in-Deinterleave c = c.deinterleave_usage.ensures ∙ ap usage_of (sym c.in-Deinterleave.is)

pub returns-in-Import : goal.returns-in-Import
returns-in-Import c = c.import_usage.ensures ∙ ap usage_of (sym c.in-Import.is)

pub returns-in-Export : goal.returns-in-Export
returns-in-Export c = c.export_usage.ensures ∙ ap usage_of (sym c.in-Export.is)
