use Rattle.std.proofs.Common.{◌/◌, get_or, cond, arith, rules}
use Rattle.std.specs.Prelude.{nat_lt}
use Rattle.std.proofs.lemmas.List.FromFn.{map-range_with_len_more}
use Rattle.snd_memory.proofs.memory.with_sectors.Goals as goal

pub loop-i-preserved : goal.loop-i-preserved
loop-i-preserved c =
    let more = map-range_with_len_more (λ i. cond (nat_lt (i / 512) c.args.sectors) (get_or c.args.new.now i 0) (get_or c.args.old.now i 0)) 0 c.loop-i.i c.loop-i.i (omega arith) in
    search (rules, more)
