use Rattle.std.proofs.Common.{sym, ap, take, drop}
use Rattle.snd_script.proofs.Parts.{found_moves, none_moves, past_start}
use Rattle.snd_script.proofs.reader.ScriptLines.move_part.Goals as goal

pub returns-in-Some-clause-moved : goal.returns-in-Some-clause-moved
returns-in-Some-clause-moved c =
    found_moves _ c.self.inside.block _ _ _ c.self.inside.start c.self.inside.end c.self.inside.room c.min.result c.in-Some.count c.self.view_is c.self.invariant.0 c.self.invariant.1 c.min.ensures
    (ap (λ m. take m (drop c.self.inside.start c.self.inside.block)) (past_start c.self.inside.start c.min.result)) (sym c.in-Some.ensures) c.keep.ensures

pub returns-in-None-clause-moved : goal.returns-in-None-clause-moved
returns-in-None-clause-moved c =
    none_moves _ c.self.inside.block _ _ _ c.self.inside.start c.self.inside.end c.self.inside.room c.min.result c.self.view_is c.self.invariant.0 c.self.invariant.1 c.min.ensures
    (ap (λ m. take m (drop c.self.inside.start c.self.inside.block)) (past_start c.self.inside.start c.min.result)) (sym c.in-None.ensures) c.keep-in-None.ensures
