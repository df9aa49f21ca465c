use Rattle.std.proofs.Common.{sym, rules}
use Rattle.snd_meters.proofs.Firsts.{start_taken, start_missing, start_found, started_taken, started_missing, started_found}
use Rattle.snd_meters.proofs.meters.Meters.start.Goals as goal

pub returns-in-Some-clause-answer : goal.returns-in-Some-clause-answer
returns-in-Some-clause-answer g c = sym (start_taken _ c.args.kind c.args.self.now.slots.items _ c.in-Some.ensures)

pub returns-in-Some-clause-after : goal.returns-in-Some-clause-after
returns-in-Some-clause-after g c =
    sym (started_taken _ c.args.kind c.args.self.now.slots.items c.args.low c.args.high _ c.in-Some.ensures)

pub returns-in_default-find-clause-answer : goal.returns-in_default-find-clause-answer
returns-in_default-find-clause-answer g c =
    sym (start_missing _ c.args.kind c.args.self.now.slots.items c.in_default.ensures c.in_default-find.ensures)

pub returns-in_default-find-clause-after : goal.returns-in_default-find-clause-after
returns-in_default-find-clause-after g c =
    sym (started_missing _ c.args.kind c.args.self.now.slots.items c.args.low c.args.high c.in_default.ensures c.in_default-find.ensures)

pub returns-clause-answer : goal.returns-clause-answer
returns-clause-answer g c = sym (start_found _ c.args.kind c.args.self.now.slots.items c.in-Some-find.at c.in_default.ensures c.in-Some-find.ensures)

pub returns-clause-after : goal.returns-clause-after
returns-clause-after g c =
    sym (started_found _ c.args.kind c.args.self.now.slots.items c.args.low c.args.high c.in-Some-find.at c.index_mut.result.now c.start.new.self
    c.in_default.ensures c.in-Some-find.ensures c.index_mut.ensures.value (search rules))
