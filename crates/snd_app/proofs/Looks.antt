-- What stands under a name that was taken out.
use Rattle.std.proofs.Common.{◌≡◌, ℕ, List, [], false, Some, unwrap_or, Result, Ok, Err, IfOk, refl, sym, ◌∙◌, ap, subst, arith}
use Rattle.snd_disk.specs.State.{Adds, Rises, State}
use Rattle.snd_disk.specs.Shelf.{Files, ShelfState, Takes}
use Rattle.snd_container.specs.Sound.{layout_of}
use Rattle.snd_app.specs.declared.look.Found.{Found}
use Rattle.snd_output.specs.declared.stop.Stop.{Stop}
use Rattle.snd_output.specs.declared.stop.Stop.TheVariants.{Changed, Fault, Memory}
use Rattle.snd_output.specs.Ends.{CountsStop}
use Rattle.snd_tools.proofs.Public.{rises_with}
use Rattle.snd_app.specs.Outcome.{found_in, found_of}

-- the file's bytes are the disk's
pub found_there : (old mid : ShelfState) (files : Files) (name : List ℕ) (disk : State) (found : Found) → Takes old mid name false disk → old.files ≡ Some files
    → ((b : List ℕ) → disk.contents ≡ Some b → found ≡ found_of b (layout_of b)) → found ≡ found_in (files name)
found_there old mid files name disk found takes told is =
    let there = takes.there files told refl in
    let bytes : disk.contents ≡ Some there.0 = takes.contents files told ∙ ap (λ o. Some (unwrap_or o [])) there.1 in
    is there.0 bytes ∙ sym (ap found_in there.1)

-- what holds of an answer, told otherwise
pub if_ok : {T E : Type 0} (r : Result T E) (P Q : T → Type 0) → ((x : T) → P x → Q x) → IfOk r P → IfOk r Q
if_ok (Ok x) P Q f p = f x p
if_ok (Err e) P Q f p = p

-- a shelf's count is that of before and that of a disk that was fresh when it was taken
pub counts_given : {T : Type 0} (r : Result T Stop) (old mid fresh disk new : ℕ) → mid ≡ old → fresh ≡ 0 → CountsStop fresh disk r → Adds mid disk new → CountsStop old new r
counts_given (Ok x) old mid fresh disk new same none counts adds = omega (arith, adds.later, adds.most)
counts_given (Err Memory) old mid fresh disk new same none counts adds = omega (arith, adds.later, adds.most)
counts_given (Err Changed) old mid fresh disk new same none counts adds = omega (arith, adds.later, adds.most)
counts_given (Err Fault) old mid fresh disk new same none counts adds =
    (omega (arith, adds.later), subst (λ (m : ℕ). Rises m new) same (rises_with mid disk new (subst (λ (z : ℕ). Rises z disk) none counts.1) adds))
