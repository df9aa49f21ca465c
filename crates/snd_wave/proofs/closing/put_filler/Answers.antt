use Rattle.std.proofs.Common.{◌≡◌, true, false, rules}
use Rattle.snd_wave.proofs.Putting.{filler_put, no_filler_put}
use Rattle.snd_wave.proofs.closing.put_filler.Goals as goal

pub returns-then-not-one_sector-clause-items : goal.returns-then-not-one_sector-clause-items
returns-then-not-one_sector-clause-items g c =
    let apart : c.one_sector.result ≡ false = search rules in
    filler_put c.args.order c.args.field.at c.args.field.size c.one_sector.result c.args.into.now.items c.put_all.new.into.items c.put_number.new.into.items c.put_all-then-not-one_sector.new.into.items c.one_sector.ensures apart c.put_all.ensures.items c.put_number.ensures.items c.put_all-then-not-one_sector.ensures.items

pub returns-else-not-one_sector-clause-items : goal.returns-else-not-one_sector-clause-items
returns-else-not-one_sector-clause-items g c =
    let within : c.one_sector.result ≡ true = search rules in
    no_filler_put c.args.order c.args.field.at c.args.field.size c.one_sector.result c.args.into.now.items c.one_sector.ensures within
