use Rattle.std.proofs.Common.{◌≡◌, ◌+◌, ◌++◌, replicate}
use Rattle.arrayvec.specs.ArrayVec.{array_vec_len}
use Rattle.snd_w64.proofs.put.put_zeros.Given as goal

abbrev pub invariant-loop-i : goal.invariant-loop-i
invariant-loop-i g l =
    record {
      so_far : l.into.items ≡ l.fn.into.items ++ replicate l._i 0;
      len : array_vec_len l.into ≡ array_vec_len l.fn.into + l._i;
    }
