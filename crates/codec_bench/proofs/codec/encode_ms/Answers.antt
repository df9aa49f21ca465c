use Rattle.std.proofs.Common.{rules, lit≤}
use Rattle.codec_bench.proofs.codec.encode_ms.Goals as goal

pub encode-requires-clause-whole : goal.encode-requires-clause-whole
encode-requires-clause-whole c = record { align = 1024; accepted = search rules; room = lit≤ tt; whole = search rules }
