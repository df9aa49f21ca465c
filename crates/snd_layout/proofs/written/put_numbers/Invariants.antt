use Rattle.std.proofs.Common.{◌≡◌, ◌+◌, ◌*◌, ◌++◌, take}
use Rattle.std.specs.List.{flat_map}
use Rattle.arrayvec.specs.ArrayVec.{array_vec_len}
use Rattle.snd_fields.specs.Field.{bytes_of}
use Rattle.snd_fields.specs.declared.field.Order.TheVariants.{Little}
use Rattle.snd_layout.proofs.written.put_numbers.Given as goal

abbrev pub invariant-loop-number : goal.invariant-loop-number
invariant-loop-number l =
    record {
      so_far : l.into.items ≡ l.fn.into.items ++ flat_map (bytes_of Little 2) (take l.number-index l.numbers);
      len : array_vec_len l.into ≡ array_vec_len l.fn.into + 2 * l.number-index;
    }
