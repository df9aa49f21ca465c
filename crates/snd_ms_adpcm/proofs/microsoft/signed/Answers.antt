use Rattle.std.proofs.Common.{arith}
use Rattle.std.proofs.lemmas.Int.{ints}
use Rattle.snd_ms_adpcm.specs.Microsoft.{signed_code}
use Rattle.snd_ima_adpcm.proofs.Public.{table_entry}
use Rattle.snd_ms_adpcm.proofs.Numbers.{abs_of_code}
use Rattle.snd_ms_adpcm.proofs.microsoft.signed.Goals as goal

pub returns-clause-value : goal.returns-clause-value
returns-clause-value c = table_entry (λ k. signed_code k) 16 c.args.code c.from.result c.requires c.from.ensures (grind (arith, ints)) (grind (arith, ints))

pub returns-clause-bound : goal.returns-clause-bound
returns-clause-bound c = abs_of_code c.args.code _ c.requires (returns-clause-value c)
