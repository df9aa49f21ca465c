-- A file that was open to be read and came back: what was done meanwhile is done, and the shelf is as that left it.
use Rattle.std.proofs.Common.{◌≡◌, ◌∙◌, ap, ℕ, List, Bool, cond, false, true, inl, inr, Result, Ok, Err, refl, subst, sym, arith}
use Rattle.std.specs.Str.{bytes_eq}
use Rattle.snd_disk.proofs.Public.{only_reads_then}
use Rattle.snd_disk.specs.declared.disk.Disk.{Ghosts}
use Rattle.snd_disk.specs.declared.shelf.Shelf.{Ghosts as ShelfMeaning}
use Rattle.snd_disk.specs.Device.{OnlyReadsOn}
use Rattle.snd_disk.specs.Shelf.{Files, Gives}
use Rattle.snd_disk.specs.Shelves.{KeepsOthers, TakesBack, TellsFiles}
use Rattle.snd_disk.specs.State.{Adds}
use Rattle.snd_output.specs.declared.stop.Stop.{Stop}
use Rattle.snd_output.specs.declared.stop.Stop.TheVariants.{Changed, Fault, Memory}
use Rattle.snd_output.specs.Ends.{CountsOneOf, CountsStop}
use Rattle.snd_tools.proofs.Public.{counts_back, counts_given, held_changes, held_files, MakesOnly}
use Rattle.snd_tools.specs.Done.{Done, files_after}
use Rattle.snd_tools.specs.Shelves.{ChangesOne, CountsOneOf as CountsOne, HasFiles}
use Rattle.snd_inputs.specs.Looking.{ReadsFiles}
use Rattle.snd_inputs.specs.Opening.{IsOpen}
use Rattle.snd_inputs.specs.declared.input.Input.{Input}
use Rattle.snd_inputs.proofs.Reading.{handed_back}

counts_same : {T : Type 0} (r : Result T Stop) (a b c d : ℕ) → CountsOneOf a b c d r → CountsOne a b c d r
counts_same (Ok x) a b c d counts = counts
counts_same (Err Fault) a b c d counts = counts
counts_same (Err Memory) a b c d counts = counts
counts_same (Err Changed) a b c d counts = counts

counts_other : {T : Type 0} (r : Result T Stop) (a b c d : ℕ) → CountsOneOf a b c d r → CountsOne c d a b r
counts_other (Ok x) a b c d counts = (counts.1, counts.0)
counts_other (Err Fault) a b c d counts = (counts.1, counts.0, elim counts.2 [ inl rose ↦ inr rose | inr rose ↦ inl rose ])
counts_other (Err Memory) a b c d counts = (counts.1, counts.0)
counts_other (Err Changed) a b c d counts = (counts.1, counts.0)

counts_back_same : {T : Type 0} (r : Result T Stop) (a b c d : ℕ) → CountsOne a b c d r → CountsOneOf a b c d r
counts_back_same (Ok x) a b c d counts = counts
counts_back_same (Err Fault) a b c d counts = counts
counts_back_same (Err Memory) a b c d counts = counts
counts_back_same (Err Changed) a b c d counts = counts

counts_alone : {T : Type 0} (r : Result T Stop) (a b c : ℕ) → CountsStop a b r → CountsOne a b c c r
counts_alone (Ok x) a b c counts = (counts, refl)
counts_alone (Err Fault) a b c counts = (counts.0, omega arith, inl counts.1)
counts_alone (Err Memory) a b c counts = (counts, refl)
counts_alone (Err Changed) a b c counts = (counts, refl)

-- a disk was only read, wherever it is
reads_as : {D : Type 0} (d : Ghosts D) (x x' y y' : D) → x ≡ x' → y' ≡ y → OnlyReadsOn d.state d.may_leave d.left_between x y → OnlyReadsOn d.state d.may_leave d.left_between x' y'
reads_as {D = D} d x x' y y' from to reads =
    subst (λ (z : D). OnlyReadsOn d.state d.may_leave d.left_between z y') from (subst (λ (z : D). OnlyReadsOn d.state d.may_leave d.left_between x z) (sym to) reads)

module _ {S D : Type 0} (s : ShelfMeaning S D) (d : Ghosts D) (old mid : S) (input : Input D d) (name : List ℕ) (opens : IsOpen s d name old mid input) where
  -- another name is in, where it was
  pub still_in : (n : List ℕ) → bytes_eq n name ≡ false → (s.state old).out n ≡ false → (s.state mid).out n ≡ false
  still_in n other was = opens.out.takes.out n ∙ ap (λ (t : Bool). cond t true ((s.state old).out n)) other ∙ was

module _ {S D : Type 0} (s : ShelfMeaning S D) (d : Ghosts D) (old mid mid' new : S) (input : Input D d) (from to given : D) (name : List ℕ) (opens : IsOpen s d name old mid input)
    (from_is : from ≡ input.disk) (to_is : given ≡ to) (reads : OnlyReadsOn d.state d.may_leave d.left_between from to) (gives : Gives (s.state mid') (s.state new) name (d.state given)) where
  since : OnlyReadsOn d.state d.may_leave d.left_between opens.handed given
  since = only_reads_then _ _ _ _ _ _ _ _ _ opens.reads (reads_as d from input.disk to given from_is to_is reads)

  fresh : (d.state from).faults ≡ 0
  fresh = ap (λ (x : D). (d.state x).faults) from_is ∙ opens.calm

  adds : Adds (s.state mid').faults (d.state to).faults (s.state new).faults
  adds = subst (λ (y : D). Adds (s.state mid').faults (d.state y).faults (s.state new).faults) to_is gives.faults

  -- one of the two counts rose, and the disk's is added to the shelf's
  pub held_counts : {T : Type 0} (r : Result T Stop) → (s.state mid).faults ≡ (s.state old).faults
      → CountsOneOf (d.state from).faults (d.state to).faults (s.state mid).faults (s.state mid').faults r → CountsStop (s.state old).faults (s.state new).faults r
  held_counts r same counts =
      counts_back (s.state old).faults (s.state mid).faults (d.state from).faults (d.state to).faults (s.state new).faults same fresh r (s.state mid').faults (counts_same r _ _ _ _ counts) adds

  module _ (output : List ℕ) (apart : bytes_eq name output ≡ false) where
    pub held_done : (todo : Done) (files : Files) (told : TellsFiles s.state old files) → MakesOnly output todo
        → HasFiles s.state mid' (files_after todo (opens.out.takes.files files told).0) → HasFiles s.state new (files_after todo files)
    held_done todo files told only has = held_files s d old mid mid' new opens.handed given name output opens.out.takes since.keeps.contents gives apart todo files told only has

    pub held_one : TakesBack s.state s.may_leave s.left_between d.state d.may_leave d.left_between name new given → KeepsOthers s.state s.may_leave s.left_between name mid' new
        → ChangesOne s output mid mid' → (s.state old).out name ≡ false → ChangesOne s output old new
    held_one back others changes was =
        held_changes s d old mid mid' new opens.handed given name output opens.out.takes since.keeps.contents gives apart opens.out.images back opens.out.others others since.images changes was

-- The shelf was left alone meanwhile.
module _ {S D : Type 0} (s : ShelfMeaning S D) (d : Ghosts D) (old mid new : S) (input : Input D d) (from to given : D) (name : List ℕ) (opens : IsOpen s d name old mid input)
    (from_is : from ≡ input.disk) (to_is : given ≡ to) (reads : OnlyReadsOn d.state d.may_leave d.left_between from to) (gives : Gives (s.state mid) (s.state new) name (d.state given)) where
  pub only_read : TakesBack s.state s.may_leave s.left_between d.state d.may_leave d.left_between name new given → KeepsOthers s.state s.may_leave s.left_between name mid new
      → (s.state old).out name ≡ false → ReadsFiles s old new
  only_read back others was =
      handed_back s d name old mid new opens.handed given opens.out.takes gives (only_reads_then _ _ _ _ _ _ _ _ _ opens.reads (reads_as d from input.disk to given from_is to_is reads)) opens.out.images back opens.out.others others opens.out.bytes was

  -- the count of the disk, or another one, rose
  pub held_beside : {T : Type 0} (r : Result T Stop) (file file' : ℕ) → (s.state mid).faults ≡ (s.state old).faults
      → CountsOneOf (d.state from).faults (d.state to).faults file file' r → CountsOneOf file file' (s.state old).faults (s.state new).faults r
  held_beside r file file' same counts =
      counts_back_same r _ _ _ _
      (counts_given (s.state old).faults (s.state mid).faults (d.state from).faults (d.state to).faults (s.state new).faults same (ap (λ (x : D). (d.state x).faults) from_is ∙ opens.calm) r file file' (counts_other r _ _ _ _ counts)
      (subst (λ (y : D). Adds (s.state mid).faults (d.state y).faults (s.state new).faults) to_is gives.faults))

  -- .. or that of the disk alone
  pub held_counts_alone : {T : Type 0} (r : Result T Stop) → (s.state mid).faults ≡ (s.state old).faults → CountsStop (d.state from).faults (d.state to).faults r → CountsStop (s.state old).faults (s.state new).faults r
  held_counts_alone r same counts =
      counts_back (s.state old).faults (s.state mid).faults (d.state from).faults (d.state to).faults (s.state new).faults same (ap (λ (x : D). (d.state x).faults) from_is ∙ opens.calm) r (s.state mid).faults
      (counts_alone r _ _ (s.state mid).faults counts) (subst (λ (y : D). Adds (s.state mid).faults (d.state y).faults (s.state new).faults) to_is gives.faults)
