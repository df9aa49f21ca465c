use Rattle.std.proofs.Common.{◌≡◌, ◌+◌, ◌++◌, take}
use Rattle.arrayvec.specs.ArrayVec.{array_vec_len}
use Rattle.snd_fields.proofs.put.put_all.Given as goal

abbrev pub invariant-loop-byte : goal.invariant-loop-byte
invariant-loop-byte g l =
    record {
      so_far : l.into.items ≡ l.fn.into.items ++ take l.byte-index l.bytes;
      len : array_vec_len l.into ≡ array_vec_len l.fn.into + l.byte-index;
    }
