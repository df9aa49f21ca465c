use Rattle.std.proofs.Common.{arith}
use Rattle.snd_fields.proofs.Numbers.{all_from_bytes}
use Rattle.snd_export.proofs.coding.are_bytes.Goals as goal

pub returns-clause-bytes : goal.returns-clause-bytes
returns-clause-bytes c = all_from_bytes c.args.bytes.now (λ k. omega (arith, c.type_inv.bytes k))
