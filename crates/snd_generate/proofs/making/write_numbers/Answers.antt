use Rattle.std.proofs.Common.{◌≡◌, ◌∙◌, ap, sym, subst, refl, ℕ, ◌+◌, ◌*◌, ◌-◌, ◌++◌, ℤ, List, [], length, take, arith, rules}
use Rattle.snd_layout.specs.declared.kind.Kind.TheVariants.{Wave}
use Rattle.snd_output.specs.Made.{IsMaking}
use Rattle.snd_generate.specs.Edited.{params}
use Rattle.snd_generate.specs.Numbers.{numbers_from, state_after}
use Rattle.snd_generate.specs.Steps.{Lengthens}
use Rattle.snd_generate.proofs.Calling.{calls_as, calls_then}
use Rattle.snd_generate.proofs.Generator.{numbers_none, numbers_then, state_then}
use Rattle.snd_generate.proofs.making.write_numbers.Goals as goal

pub loop-left-init : goal.loop-left-init
loop-left-init g c =
    let all = 2 * c.args.generation.now.frames in
    let seed = c.args.generation.now.seed in
    let none : all - all ≡ 0 = omega arith in
    record {
      loan = refl;
      few = omega arith;
      state = ap (λ (n : ℕ). state_after n seed) (sym none);
      small = c.requires.asked.seed;
      lengthens = λ xs e stands making. (e, stands, subst (λ (l : List ℤ). IsMaking Wave params [] l e) (sym (numbers_none xs (all - all) seed none)) making);
      calls = record { broken = c.requires.working; faults = refl; tells = search rules; time = search rules };
    }

pub loop-left-preserved : goal.loop-left-preserved
loop-left-preserved g c =
    let inv = c.loop-left.invariant in
    let one = c.in_ok-state.ensures in
    let seed = c.args.generation.now.seed in
    let all = 2 * c.args.generation.now.frames in
    let k = c.min-count.result in
    let j = all - c.loop-left.left in
    let i = all - (c.loop-left.left - k) in
    let sum : i ≡ j + k = omega (arith, inv.few, c.min-count.ensures) in
    let size : length (take k c.loop-left.block) ≡ k = search rules in
    let state : c.in_ok-state.state ≡ state_after k c.loop-left.state = one.state.0 ∙ ap (λ (n : ℕ). state_after n c.loop-left.state) size in
    let more : Lengthens g.E.Disk.state (numbers_from k c.loop-left.state) c.loop-left.file c.write_block.new.file =
    subst (λ (n : ℕ). Lengthens g.E.Disk.state (numbers_from n c.loop-left.state) c.loop-left.file c.write_block.new.file) size one.lengthens in
    record {
      loan = one.loan ∙ inv.loan;
      few = omega (arith, inv.few);
      state = state_then j k i seed c.loop-left.state c.in_ok-state.state inv.state sum state;
      small = one.state.1;
      lengthens = λ xs e stands making.
          let before = inv.lengthens xs e stands making in
          let then = more (xs ++ numbers_from j seed) before.0 before.1 before.2 in
          (then.0, then.1, subst (λ (l : List ℤ). IsMaking Wave params [] l then.0) (numbers_then xs j k i seed c.loop-left.state inv.state sum) then.2);
      calls = calls_as g.E.Disk.state g.E.Disk.left_between _ _ _ (tt {0}) (calls_then g.E.Disk.state g.E.Disk.left_between _ _ _ _ _ inv.calls one.calls);
    }

pub returns-clause-lengthens : goal.returns-clause-lengthens
returns-clause-lengthens g c =
    let all = 2 * c.args.generation.now.frames in
    let done : all - c.loop-left.left ≡ all = omega (arith, c.loop-left-test.false) in
    subst (λ (n : ℕ). Lengthens g.E.Disk.state (numbers_from n c.args.generation.now.seed) c.args.file.now c.loop-left.file) done c.loop-left.invariant.lengthens
