use Rattle.std.proofs.Common.{◌/◌, get_or, cond, eqb, arith, rules}
use Rattle.std.proofs.lemmas.List.FromFn.{map-range_with_len_more}
use Rattle.snd_memory.proofs.images.with_sector.Goals as goal

pub loop-i-preserved : goal.loop-i-preserved
loop-i-preserved c =
    let more = map-range_with_len_more (λ i. cond (eqb (i / 512) c.args.sector) (get_or c.args.z.now i 0) (get_or c.args.x.now i 0)) 0 c.loop-i.i c.loop-i.i (omega arith) in
    search (rules, more)
