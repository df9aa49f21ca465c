-- What is known of a disk, and how a call may change it.
use Rattle.std.specs.Prelude.{◌≡◌, ◌⊎◌, ℕ, ◌+◌, ◌<◌, ◌≤◌, List, length, take, drop, max, Option, Some, option_map, Result, OnOk, OnErr}
use Rattle.snd_disk.specs.Bytes.{Mix, over}

pub record State : Type 0 where
  -- the length
  pub size : ℕ
  -- the bytes, where the disk tells them
  pub contents : Option (List ℕ)
  -- the name under which a shelf gave the disk, where one did
  pub name : Option (List ℕ)
  -- how many calls have failed so far
  pub faults : ℕ
  -- how many bytes were passed to writes so far
  pub written : ℕ
  -- how many bytes reads have asked for so far
  pub asked : ℕ
  -- a number that never falls, and rises with what a crash may leave
  pub clock : ℕ

-- a count rises, or stands at the last value that 64 bits have
abbrev pub Rises : ℕ → ℕ → Type 0
Rises old new = (old < new) ⊎ (new ≡ 18446744073709551615)

-- a count rises where a call fails, and there alone
pub record Counts {T E : Type 0} (old new : ℕ) (result : Result T E) : Type 0 where
  pub later : old ≤ new
  pub ok : OnOk result (new ≡ old)
  pub err : OnErr result (Rises old new)

-- n is added to a count, which stops at the last value that 64 bits have
pub record Adds (old n new : ℕ) : Type 0 where
  pub later : old ≤ new
  pub most : new ≤ old + n
  pub least : (old + n ≤ new) ⊎ (new ≡ 18446744073709551615)

-- nothing is changed but counts
pub record Keeps (old new : State) : Type 0 where
  pub size : new.size ≡ old.size
  pub contents : new.contents ≡ old.contents
  pub name : new.name ≡ old.name

-- n bytes were read from a place on into the front of a slice
pub record ReadsFrom (disk : State) (at n : ℕ) (old new : List ℕ) : Type 0 where
  pub front : (b : List ℕ) → disk.contents ≡ Some b → take n new ≡ take n (drop at b)
  pub rest : drop n new ≡ drop n old

-- the contents are those that the call meant to leave
pub record IsMeant (end : ℕ) (meant : List ℕ → List ℕ) (old new : State) : Type 0 where
  pub size : new.size ≡ end
  pub contents : new.contents ≡ option_map meant old.contents
  pub name : new.name ≡ old.name

-- the contents are a mix of the old ones and of those that the call meant to leave
pub record IsBetween (end : ℕ) (meant : List ℕ → List ℕ) (old new : State) : Type 0 where
  pub size : (new.size ≡ old.size) ⊎ (new.size ≡ end)
  pub contents : (b : List ℕ) → old.contents ≡ Some b → (x : List ℕ) × (new.contents ≡ Some x) × Mix b (meant b) x
  pub told : (x : List ℕ) → new.contents ≡ Some x → (b : List ℕ) × (old.contents ≡ Some b)
  pub name : new.name ≡ old.name

-- bytes were put at a place; or a call that was to do so has failed
abbrev pub IsWritten : ℕ → List ℕ → State → State → Type 0
IsWritten at bytes old new = IsMeant (max old.size (at + length bytes)) (λ b. over b at bytes) old new

abbrev pub IsPartlyWritten : ℕ → List ℕ → State → State → Type 0
IsPartlyWritten at bytes old new = IsBetween (max old.size (at + length bytes)) (λ b. over b at bytes) old new

-- a disk was shortened to a length; or a call that was to do so has failed
abbrev pub IsCut : ℕ → State → State → Type 0
IsCut len old new = IsMeant len (take len) old new

abbrev pub IsPartlyCut : ℕ → State → State → Type 0
IsPartlyCut len old new = IsBetween len (take len) old new

-- a crash may leave the same
pub record SameImages (before after : List ℕ → Type 0) : Type 0 where
  pub no_more : (x : List ℕ) → after x → before x
  pub no_fewer : (x : List ℕ) → before x → after x

-- a crash may leave the same, and may have left the same, at the same time
pub record KeepsImages (clock clock' : ℕ) (before after : List ℕ → Type 0) (past since : ℕ → ℕ → List ℕ → Type 0) : Type 0 where
  pub same_time : clock' ≡ clock
  pub now : SameImages before after
  pub no_more : (s t : ℕ) (x : List ℕ) → since s t x → past s t x
  pub no_fewer : (s t : ℕ) (x : List ℕ) → past s t x → since s t x

-- each image is a mix of an earlier one and of what the call meant to leave
abbrev pub Mixes : Option (List ℕ) → (List ℕ → List ℕ) → (List ℕ → Type 0) → (List ℕ → Type 0) → Type 0
Mixes contents meant before after =
    (x : List ℕ) → after x → (b y : List ℕ) × (contents ≡ Some b) × before y × Mix y (meant b) x

-- each such mix is an image
abbrev pub MixesAll : Option (List ℕ) → (List ℕ → List ℕ) → (List ℕ → Type 0) → (List ℕ → Type 0) → Type 0
MixesAll contents meant before after =
    (b y x : List ℕ) → contents ≡ Some b → before y → Mix y (meant b) x → after x

-- Time goes on. What a crash may have left at past moments stays as it was, and this moment is added.
pub record Passes (old new : ℕ) (past since : ℕ → ℕ → List ℕ → Type 0) (after : List ℕ → Type 0) : Type 0 where
  pub later : old ≤ new
  pub same : (s t : ℕ) (x : List ℕ) → t ≤ old → since s t x → past s t x
  pub kept : (s t : ℕ) (x : List ℕ) → past s t x → since s t x
  pub nothing_else : (s t : ℕ) (x : List ℕ) → since s t x → past s t x ⊎ after x

-- Time has gone on: the clock has not fallen, and what a crash may have left at past moments stays.
pub record GoesOn (old new : ℕ) (past since : ℕ → ℕ → List ℕ → Type 0) : Type 0 where
  pub later : old ≤ new
  pub same : (s t : ℕ) (x : List ℕ) → t ≤ old → since s t x → past s t x
  pub kept : (s t : ℕ) (x : List ℕ) → past s t x → since s t x

-- a count of bytes rises by no more than this
pub record AtMost (old n new : ℕ) : Type 0 where
  pub later : old ≤ new
  pub most : new ≤ old + n

-- calls that only read: nothing changes but the counts of faults and of bytes asked
pub record OnlyReads (old new : State) (before after : List ℕ → Type 0) (past since : ℕ → ℕ → List ℕ → Type 0) : Type 0 where
  pub keeps : Keeps old new
  pub images : KeepsImages old.clock new.clock before after past since
  pub written : new.written ≡ old.written
