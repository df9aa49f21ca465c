use Rattle.std.proofs.Common.{◌≡◌, ◌*◌, ◌-◌, ◌<◌, ◌≤◌, ◌^◌, Ok}
use Rattle.snd_file.specs.Handle.{loan_of}
use Rattle.snd_generate.specs.Numbers.{numbers_from, state_after}
use Rattle.snd_generate.specs.Steps.{Calls, Lengthens}
use Rattle.snd_generate.proofs.making.write_numbers.Given as goal

abbrev pub invariant-loop-left : goal.invariant-loop-left
invariant-loop-left g l =
    let all = 2 * l.fn.generation.frames in
    record {
      loan : loan_of l.file ≡ loan_of l.fn.file;
      few : l.left ≤ all;
      state : l.state ≡ state_after (all - l.left) l.fn.generation.seed;
      small : l.state < 2 ^ 32;
      lengthens : Lengthens g.E.Disk.state (numbers_from (all - l.left) l.fn.generation.seed) l.fn.file l.file;
      calls : Calls g.E.Disk.state g.E.Disk.left_between l.fn.file l.file (Ok (tt {0}));
    }

abbrev pub decreases-loop-left : goal.decreases-loop-left
decreases-loop-left g l = l.left
