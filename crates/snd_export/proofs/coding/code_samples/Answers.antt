use Rattle.snd_output.proofs.Public.{if_unchanged}
use Rattle.snd_export.proofs.coding.code_samples.Goals as goal

pub returns-then-stay-clause-changed : goal.returns-then-stay-clause-changed
returns-then-stay-clause-changed g c = if_unchanged _ c.keep_samples.result c.keep_samples.ensures.unchanged

pub returns-clause-changed : goal.returns-clause-changed
returns-clause-changed g c = if_unchanged _ c.pass_samples.result c.pass_samples.ensures.unchanged
