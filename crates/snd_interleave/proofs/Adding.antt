-- Frames of inputs that are put behind those of a file that is made.
use Rattle.std.proofs.Common.{◌≡◌, ◌∙◌, ap, sym, ℕ, ◌+◌, ◌*◌, ◌≤◌, ℤ, List, ◌++◌, Result, Ok, Err, OnOk, arith}
use Rattle.std.proofs.lemmas.List.{append_assoc}
use Rattle.snd_layout.specs.Blocks.{block_frames}
use Rattle.snd_edits.specs.Known.{Known}
use Rattle.snd_output.proofs.Public.{longer_as, room_fewer, room_then}
use Rattle.snd_output.specs.Appended.{CountsFault, GiveLeaves, HasRoom, IsAtEnd, IsLonger}
use Rattle.snd_output.specs.Ends.{BreaksByFault}
use Rattle.snd_output.specs.declared.stop.Stop.{Stop}
use Rattle.snd_output.specs.declared.stop.Stop.TheVariants.{Changed, Fault, Memory}
use Rattle.snd_interleave.specs.Beside.{frames_from}
use Rattle.snd_interleave.proofs.Frames.{frames_on}

-- a block has so many frames of a file with some channels
pub some_channel : {m c : ℕ} → m ≡ c → 1 ≤ m → 1 ≤ c
some_channel is some = omega (arith, is, some)

pub block_count : {a b m c : ℕ} (n : ℕ) → a ≡ b → b ≡ n * m → c ≡ m → a ≡ n * c
block_count n same size alike = same ∙ size ∙ ap (λ (m : ℕ). n * m) (sym alike)

-- once some are put there, the room that was for all is for those that are left
pub room_on : (to now : Known) (all n k : ℕ) → 1 ≤ block_frames to.shape.params.codec → n + k ≤ all → HasRoom all to → IsLonger n to now → HasRoom k now
room_on to now all n k some within roomy is = room_then n k to now (room_fewer to (n + k) all some within roomy) is

-- what is known of a file to which they were given
pub given_so_many : {T : Type 0} (n m : ℕ) (to to' : Known) (r : Result T Stop) → n ≡ m → GiveLeaves n to to' r → OnOk r (IsLonger m to to')
given_so_many n m to to' (Ok t) same left = longer_as n m to to' same left
given_so_many n m to to' (Err stop) same left = tt

pub given_works : {T : Type 0} (n a b : ℕ) (to to' : Known) (r : Result T Stop) → IsAtEnd to → GiveLeaves n to to' r → CountsFault a b r → BreaksByFault to' r
given_works n a b to to' (Ok t) at_end left counts = left.working ∙ at_end.working
given_works n a b to to' (Err Fault) at_end left counts = tt
given_works n a b to to' (Err Memory) at_end left counts = absurd counts
given_works n a b to to' (Err Changed) at_end left counts = absurd counts

pub numbers_on : (channels : List (List ℤ)) (xs : List ℤ) (n k : ℕ) → (xs ++ frames_from channels 0 n) ++ frames_from channels n k ≡ xs ++ frames_from channels 0 (n + k)
numbers_on channels xs n k = append_assoc xs (frames_from channels 0 n) (frames_from channels n k) ∙ ap (λ (l : List ℤ). xs ++ l) (frames_on channels n k)
