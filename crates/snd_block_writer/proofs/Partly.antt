-- What a crash leaves while bytes are put on a disk, call by call.
use Rattle.std.proofs.Common.{◌≡◌, ◌∙◌, sym, subst, inl, inr, ⊎_elim, ℕ, ◌+◌, ◌-◌, ◌<◌, ◌≤◌, List, [], ◌∷◌, ◌++◌, length, get_or, Some, arith}
use Rattle.std.proofs.lemmas.Bool.{cases_lt}
use Rattle.std.proofs.lemmas.List.{length-append, places}
use Rattle.snd_disk.proofs.Public.{length-over, byte_from}
use Rattle.snd_disk.specs.Bytes.{over}
use Rattle.snd_disk.specs.Device.{Tells}
use Rattle.snd_disk.specs.Runs.{ComesFrom, HasAt, IsMade, IsSource, Since}
use Rattle.snd_disk.specs.declared.disk.Disk.{Ghosts}
use Rattle.snd_patch.proofs.Public.{leaves_by, leaves_made, leaves_then, leaves_weaker, over_beside, still}
use Rattle.snd_block_writer.specs.Puts.{IsPartly, LeavesPartly}

-- bytes are there where they were put
pub over_has : (b : List ℕ) (at : ℕ) (s : List ℕ) → HasAt (over b at s) at s
over_has b at s j lt = grind (arith, places)

-- .. and so are the two parts of them
pub has_front : (c : List ℕ) (at : ℕ) (s t : List ℕ) → HasAt c at (s ++ t) → HasAt c at s
has_front c at s t has j lt = has j (grind (arith, places, lt)) ∙ (let byte : get_or (s ++ t) j 0 ≡ get_or s j 0 = grind (arith, places, lt) in byte)

pub has_back : (c : List ℕ) (at next : ℕ) (s t : List ℕ) → next ≡ at + length s → HasAt c at (s ++ t) → HasAt c next t
has_back c at next s t is has j lt =
    let place : at + (length s + j) ≡ next + j = omega (arith, is) in
    let byte : get_or (s ++ t) (length s + j) 0 ≡ get_or t j 0 = grind (arith, places, lt) in
    subst (λ (k : ℕ). get_or c k 0 ≡ get_or t j 0) place (has (length s + j) (grind (arith, places, lt)) ∙ byte)

module _ (b c : List ℕ) where
  -- bytes that c has are put
  pub partly_over : (y : List ℕ) (at : ℕ) (s : List ℕ) → HasAt c at s → at + length s ≤ length c → IsPartly b c y → IsPartly b c (over y at s)
  partly_over y at s has within part = record {
    least = omega (arith, part.least, length-over y at s);
    most = omega (arith, part.most, within, length-over y at s);
    each = λ i. elim (cases_lt i at) [
      | inl lt ↦ ⊎_elim (λ old. inl (over_beside y at s i (inl lt) ∙ old)) (λ new. inr (over_beside y at s i (inl lt) ∙ new)) (part.each i)
      | inr from ↦ elim (cases_lt i (at + length s)) [
        | inl to ↦ inr (put_there i from to)
        | inr past ↦ ⊎_elim (λ old. inl (over_beside y at s i (inr past) ∙ old)) (λ new. inr (over_beside y at s i (inr past) ∙ new)) (part.each i)
      ]
    ];
  }
    where
      put_there : (i : ℕ) → at ≤ i → i < at + length s → get_or (over y at s) i 0 ≡ get_or c i 0
      put_there i from to =
          let j = i - at in
          let is : at + j ≡ i = omega (arith, from) in
          let lt : j < length s = omega (arith, from, to) in
          subst (λ (k : ℕ). get_or (over y at s) k 0 ≡ get_or c k 0) is (over_has y at s j lt ∙ sym (has j lt))

  -- what comes from lists that are so is so
  partly_from : (source : List ℕ → Type 0) → ((y : List ℕ) → source y → IsPartly b c y) → (x : List ℕ) → ComesFrom source x → IsPartly b c x
  partly_from source each x from =
      let whole = each from.size.0 from.size.1 in
      record {
        least = omega (arith, whole.least, from.size.2);
        most = omega (arith, whole.most, from.size.2);
        each = λ i. let byte = byte_from source x from i in ⊎_elim (λ old. inl (byte.2 ∙ old)) (λ new. inr (byte.2 ∙ new)) ((each byte.0 byte.1).each i);
      }

  pub partly_made : (before : List ℕ → Type 0) (l : List ℕ) (at : ℕ) (s : List ℕ) → HasAt c at s → at + length s ≤ length c → before l → ((y : List ℕ) → before y → IsPartly b c y)
      → (x : List ℕ) → IsMade before (over l at s ∷ []) x → IsPartly b c x
  partly_made before l at s has within of_l each x made =
      partly_from (IsSource before (over l at s ∷ [])) source x made
    where
      source : (y : List ℕ) → IsSource before (over l at s ∷ []) y → IsPartly b c y
      source y (inl is) = subst (IsPartly b c) (sym is) (partly_over l at s has within (each l of_l))
      source y (inr was) = each y was

module _ {D : Type 0} (d : Ghosts D) where
  -- one call
  pub call_partly : ((disk : D) (l : List ℕ) → (d.state disk).contents ≡ Some l → d.may_leave disk l) → (old new : D) (at : ℕ) (s : List ℕ)
      → ((l : List ℕ) → (d.state old).contents ≡ Some l → Since d.state d.may_leave d.left_between old new (over l at s ∷ [])) → LeavesPartly d at s old new
  call_partly is_left old new at s run b c l has within told each =
      leaves_by d old new (over l at s ∷ []) (IsPartly b c) (λ x made. partly_made b c (d.may_leave old) l at s has within (is_left old l told) each x made) (run l told)

  -- two calls, one after the other
  pub partly_then : (at next : ℕ) (s t : List ℕ) (one two three : D) → next ≡ at + length s → ((l : List ℕ) → Tells d.state one l → (m : List ℕ) × Tells d.state two m)
      → LeavesPartly d at s one two → LeavesPartly d next t two three → LeavesPartly d at (s ++ t) one three
  partly_then at next s t one two three is tells first second b c l has fits told each =
      let sum = length-append s t in
      let leaves = first b c l (has_front c at s t has) (omega (arith, fits, sum)) told each in
      let then = tells l told in
      leaves_then d one two three (IsPartly b c) leaves (second b c then.0 (has_back c at next s t is has) (omega (arith, fits, sum, is)) then.1 leaves.now)

  -- fewer bytes than might have been
  pub partly_more : (at : ℕ) (s t : List ℕ) (one two : D) → LeavesPartly d at s one two → LeavesPartly d at (s ++ t) one two
  partly_more at s t one two first b c l has fits told each =
      first b c l (has_front c at s t has) (omega (arith, fits, length-append s t)) told each

  -- no call
  pub none_partly : ((disk : D) (s t : ℕ) (x : List ℕ) → (d.state disk).clock ≤ s → d.left_between disk s t x → d.may_leave disk x) → (at : ℕ) (s : List ℕ) (a : D) → LeavesPartly d at s a a
  none_partly only_now at s a b c l has fits told each =
      leaves_weaker d a a (d.may_leave a) (IsPartly b c) each (leaves_made d a a [] (still d.state d.may_leave d.left_between only_now a))
