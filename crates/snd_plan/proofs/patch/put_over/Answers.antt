use Rattle.snd_plan.proofs.Bytes.{put_apart, put_within}
use Rattle.std.proofs.Common.{arith}
use Rattle.snd_plan.proofs.patch.put_over.Goals as goal

pub returns-then-first-last : goal.returns-then-first-last
returns-then-first-last c = λ b has.
    put_within b c.args.into.now c.args.bytes.now c.args.at c.args.place has c.max-first.result _ c.max-first.ensures
    (omega (arith, c.max-first.ensures, c.min-last.ensures, c.if-first-last.true)) c.put_at.new.into c.put_at.ensures

pub returns-else-first-last : goal.returns-else-first-last
returns-else-first-last c = λ b has.
    put_apart b c.args.into.now c.args.bytes.now c.args.at c.args.place has (omega (arith, c.max-first.ensures, c.min-last.ensures, c.if-first-last.false))
