use Rattle.std.proofs.Common.{◌≡◌, ◌++◌, drop}
use Rattle.snd_meta.specs.Info.{info_body}
use Rattle.snd_meta.proofs.Bodies.{bytes_under}
use Rattle.snd_meta.proofs.info.InfoList.body.Given as goal

abbrev pub invariant-loop-key : goal.invariant-loop-key
invariant-loop-key l = l.body.items ++ bytes_under (drop l.key-index l.key-items) l.self ≡ info_body l.self
