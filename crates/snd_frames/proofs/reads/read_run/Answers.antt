use Rattle.std.proofs.Common.{rules, refl, subst, All, arith}
use Rattle.std.proofs.lemmas.List.{take_all}
use Rattle.snd_container.specs.Fixed.{InRange}
use Rattle.snd_frames.proofs.Runs.{no_samples}
use Rattle.snd_frames.proofs.reads.read_run.Goals as goal

pub loop-done-init : goal.loop-done-init
loop-done-init g c = record {
  within = omega arith;
  told = λ b told. no_samples c.args.form _;
  in_range = λ k d lt. absurd (omega arith);
  calm = refl;
  reads = search rules;
  asked = search rules;
}

pub returns-clause-in_range : goal.returns-clause-in_range
returns-clause-in_range g c = subst (All (InRange c.args.form)) (take_all c.loop-done.done c.loop-done.into (omega arith)) c.loop-done.invariant.in_range
