-- What is done to a file, and what that makes of its bytes and of its length.
use Rattle.std.specs.Prelude.{ℕ, ◌+◌, List, [], ◌∷◌, length, take, drop, max, min, Bool, true, nat_le, ◌&&◌}
use Rattle.snd_disk.specs.Bytes.{over}
use Rattle.snd_plan.specs.declared.planned.Planned.{Planned}
use Rattle.snd_plan.specs.declared.planned.Planned.TheVariants.{Write, Cut, Sync}

-- Bytes are put at a place; or the file is shortened to a length; or what it holds is made stable.
pub data Operation : Type 0 where
  write : ℕ → List ℕ → Operation
  cut : ℕ → Operation
  sync : Operation

-- the bytes of a file after one operation, and after a list of them in its order
abbrev pub carried_out : Operation → List ℕ → List ℕ
carried_out (Operation.write at bytes) b = over b at bytes
carried_out (Operation.cut len) b = take len b
carried_out Operation.sync b = b

abbrev pub all_carried_out : List Operation → List ℕ → List ℕ
all_carried_out [] b = b
all_carried_out (o ∷ os) b = all_carried_out os (carried_out o b)

-- .. and its length
abbrev pub length_after : Operation → ℕ → ℕ
length_after (Operation.write at bytes) n = max n (at + length bytes)
length_after (Operation.cut len) n = min len n
length_after Operation.sync n = n

abbrev pub length_after_all : List Operation → ℕ → ℕ
length_after_all [] n = n
length_after_all (o ∷ os) n = length_after_all os (length_after o n)

-- whether no cut of a list is to a length that the file does not have by then
abbrev pub shortens : Operation → ℕ → Bool
shortens (Operation.write at bytes) n = true
shortens (Operation.cut len) n = nat_le len n
shortens Operation.sync n = true

abbrev pub all_shorten : List Operation → ℕ → Bool
all_shorten [] n = true
all_shorten (o ∷ os) n = shortens o n && all_shorten os (length_after o n)

-- an operation as it is noted beside a tape, which has the bytes of all writes
abbrev pub operation_of : List ℕ → Planned → Operation
operation_of tape (Write at from len) = Operation.write at (take len (drop from tape))
operation_of tape (Cut len) = Operation.cut len
operation_of tape Sync = Operation.sync

-- where its bytes end on the tape, and in the file
abbrev pub tape_end : Planned → ℕ
tape_end (Write at from len) = from + len
tape_end (Cut len) = 0
tape_end Sync = 0

abbrev pub file_end : Planned → ℕ
file_end (Write at from len) = at + len
file_end (Cut len) = 0
file_end Sync = 0
