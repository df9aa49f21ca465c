-- What a crash leaves while frames are put on a disk, call by call.
use Rattle.std.proofs.Common.{◌≡◌, ◌∙◌, ap, sym, subst, inl, inr, ⊎_elim, ℕ, ◌+◌, ◌-◌, ◌*◌, ◌<◌, ◌≤◌, ℤ, List, [], ◌∷◌, ◌++◌, length, take, drop, get_or, Some, arith}
use Rattle.std.proofs.lemmas.Bool.{cases_lt}
use Rattle.std.proofs.lemmas.List.{length-drop, length-take-le, places, same_lists}
use Rattle.snd_disk.proofs.Public.{length-over, byte_from}
use Rattle.snd_disk.specs.Bytes.{over}
use Rattle.snd_disk.specs.Device.{Tells}
use Rattle.snd_disk.specs.Runs.{ComesFrom, HasAt, IsMade, IsSource, Since}
use Rattle.snd_disk.specs.State.{State}
use Rattle.snd_disk.specs.declared.disk.Disk.{Ghosts}
use Rattle.snd_patch.proofs.Public.{leaves_by, leaves_made, leaves_then, leaves_weaker, over_beside, still}
use Rattle.snd_patch.specs.Images.{LeavesEach}
use Rattle.snd_container.proofs.Public.{bytes_of_joined, count_of_bytes}
use Rattle.snd_container.specs.Fixed.{byte_count, samples_bytes}
use Rattle.snd_container.specs.declared.fixed.Fixed.{Fixed}
use Rattle.snd_block_writer.specs.Puts.{IsPartly, LeavesPartly}
use Rattle.snd_frames.specs.Writing.{PutsAt}

-- bytes are there where they were put
pub over_has : (b : List ℕ) (at : ℕ) (s : List ℕ) → HasAt (over b at s) at s
over_has b at s j lt = grind (arith, places)

-- .. and so is a part of them
has_part : (c : List ℕ) (at : ℕ) (p s q : List ℕ) → HasAt c at (p ++ s ++ q) → HasAt c (at + length p) s
has_part c at p s q has j lt =
    let place : at + (length p + j) ≡ at + length p + j = omega arith in
    let byte : get_or (p ++ s ++ q) (length p + j) 0 ≡ get_or s j 0 = grind (arith, places, lt) in
    subst (λ (k : ℕ). get_or c k 0 ≡ get_or s j 0) place (has (length p + j) (grind (arith, places, lt)) ∙ byte)

module _ (form : Fixed) (c : List ℕ) (at : ℕ) (xs : List ℤ) (done n : ℕ) (within : done + n ≤ length xs) where
  abbrev part : List ℤ
  part = take n (drop done xs)

  parts_are : samples_bytes form (take done xs) ++ samples_bytes form part ++ samples_bytes form (drop n (drop done xs)) ≡ samples_bytes form xs
  parts_are =
      ap (λ (l : List ℕ). l ++ samples_bytes form (drop n (drop done xs))) (sym (bytes_of_joined form (take done xs) part))
      ∙ sym (bytes_of_joined form (take done xs ++ part) (drop n (drop done xs)))
      ∙ ap (samples_bytes form) (let e : take done xs ++ part ++ drop n (drop done xs) ≡ xs = same_lists _ _ (grind (arith, places)) (λ k d lt. grind (arith, places)) in e)

  pub has_samples : HasAt c at (samples_bytes form xs) → HasAt c (at + byte_count form * done) (samples_bytes form part)
  has_samples has =
      let front : length (samples_bytes form (take done xs)) ≡ byte_count form * done = (count_of_bytes form (take done xs)).0 ∙ ap (λ (m : ℕ). byte_count form * m) (length-take-le done xs (omega (arith, within))) in
      subst (λ (m : ℕ). HasAt c (at + m) (samples_bytes form part)) front
      (has_part c at (samples_bytes form (take done xs)) (samples_bytes form part) (samples_bytes form (drop n (drop done xs))) (subst (HasAt c at) (sym parts_are) has))

  pub samples_within : at + length (samples_bytes form xs) ≤ length c → at + byte_count form * done + length (samples_bytes form part) ≤ length c
  samples_within fits =
      let all = (count_of_bytes form xs).0 in
      let some = (count_of_bytes form part).0 in
      let size : length part ≡ n = length-take-le n (drop done xs) (omega (arith, within, length-drop done xs)) in
      let few : byte_count form * done + byte_count form * n ≤ byte_count form * length xs = grind (arith, within) in
      omega (arith, fits, all, some, ap (λ (m : ℕ). byte_count form * m) size, few)

module _ (b c : List ℕ) where
  -- bytes that c has are put
  pub partly_over : (y : List ℕ) (at : ℕ) (s : List ℕ) → HasAt c at s → at + length s ≤ length c → IsPartly b c y → IsPartly b c (over y at s)
  partly_over y at s has within part = record {
    least = omega (arith, part.least, length-over y at s);
    most = omega (arith, part.most, within, length-over y at s);
    each = λ i. elim (cases_lt i at) [
      | inl lt ↦ ⊎_elim (λ old. inl (over_beside y at s i (inl lt) ∙ old)) (λ new. inr (over_beside y at s i (inl lt) ∙ new)) (part.each i)
      | inr from ↦ elim (cases_lt i (at + length s)) [
        | inl to ↦ inr (put_there i from to)
        | inr past ↦ ⊎_elim (λ old. inl (over_beside y at s i (inr past) ∙ old)) (λ new. inr (over_beside y at s i (inr past) ∙ new)) (part.each i)
      ]
    ];
  }
    where
      put_there : (i : ℕ) → at ≤ i → i < at + length s → get_or (over y at s) i 0 ≡ get_or c i 0
      put_there i from to =
          let j = i - at in
          let is : at + j ≡ i = omega (arith, from) in
          let lt : j < length s = omega (arith, from, to) in
          subst (λ (k : ℕ). get_or (over y at s) k 0 ≡ get_or c k 0) is (over_has y at s j lt ∙ sym (has j lt))

  -- what comes from lists that are so is so
  partly_from : (source : List ℕ → Type 0) → ((y : List ℕ) → source y → IsPartly b c y) → (x : List ℕ) → ComesFrom source x → IsPartly b c x
  partly_from source each x from =
      let whole = each from.size.0 from.size.1 in
      record {
        least = omega (arith, whole.least, from.size.2);
        most = omega (arith, whole.most, from.size.2);
        each = λ i. let byte = byte_from source x from i in ⊎_elim (λ old. inl (byte.2 ∙ old)) (λ new. inr (byte.2 ∙ new)) ((each byte.0 byte.1).each i);
      }

  pub partly_made : (before : List ℕ → Type 0) (l : List ℕ) (at : ℕ) (s : List ℕ) → HasAt c at s → at + length s ≤ length c → before l → ((y : List ℕ) → before y → IsPartly b c y)
      → (x : List ℕ) → IsMade before (over l at s ∷ []) x → IsPartly b c x
  partly_made before l at s has within of_l each x made =
      partly_from (IsSource before (over l at s ∷ [])) source x made
    where
      source : (y : List ℕ) → IsSource before (over l at s ∷ []) y → IsPartly b c y
      source y (inl is) = subst (IsPartly b c) (sym is) (partly_over l at s has within (each l of_l))
      source y (inr was) = each y was

module _ {D : Type 0} (d : Ghosts D) (is_left : (disk : D) (l : List ℕ) → (d.state disk).contents ≡ Some l → d.may_leave disk l) where
  -- one call
  pub puts_partly : (old new : D) (at : ℕ) (s : List ℕ) → ((l : List ℕ) → (d.state old).contents ≡ Some l → Since d.state d.may_leave d.left_between old new (over l at s ∷ [])) → LeavesPartly d at s old new
  puts_partly old new at s run b c l has within told each =
      leaves_by d old new (over l at s ∷ []) (IsPartly b c) (λ x made. partly_made b c (d.may_leave old) l at s has within (is_left old l told) each x made) (run l told)

-- bytes put on a disk leave it telling what it holds
pub tells_put : {D : Type 0} (state : D → State) (left_between : D → ℕ → ℕ → List ℕ → Type 0) (at n : ℕ) (a b : D) → PutsAt state left_between at n a b → (l : List ℕ) → Tells state a l → (m : List ℕ) × Tells state b m
tells_put state left_between at n a b puts l told = let then = puts.beside l told in (then.0, then.1)

module _ {D : Type 0} (d : Ghosts D) where
  -- so it is with some of the samples
  pub part_partly : (form : Fixed) (at : ℕ) (xs : List ℤ) (done n : ℕ) (a b : D) → done + n ≤ length xs
      → LeavesPartly d (at + byte_count form * done) (samples_bytes form (take n (drop done xs))) a b → LeavesPartly d at (samples_bytes form xs) a b
  part_partly form at xs done n a b within some old c l has fits told each =
      some old c l (has_samples form c at xs done n within has) (samples_within form c at xs done n within fits) told each

  -- two calls, one after the other
  pub partly_then : (at : ℕ) (s : List ℕ) (a b c : D) → ((l : List ℕ) → Tells d.state a l → (m : List ℕ) × Tells d.state b m) → LeavesPartly d at s a b → LeavesPartly d at s b c → LeavesPartly d at s a c
  partly_then at s a b c tells one two old new l has fits told each =
      let first = one old new l has fits told each in
      leaves_then d a b c (IsPartly old new) first (two old new (tells l told).0 has fits (tells l told).1 first.now)

  -- no call
  pub leaves_still : ((disk : D) (s t : ℕ) (x : List ℕ) → (d.state disk).clock ≤ s → d.left_between disk s t x → d.may_leave disk x) → (a : D) → LeavesEach d a a (d.may_leave a)
  leaves_still only_now a = leaves_made d a a [] (still d.state d.may_leave d.left_between only_now a)

  pub none_partly : ((disk : D) (s t : ℕ) (x : List ℕ) → (d.state disk).clock ≤ s → d.left_between disk s t x → d.may_leave disk x) → (at : ℕ) (s : List ℕ) (a : D) → LeavesPartly d at s a a
  none_partly only_now at s a b c l has fits told each = leaves_weaker d a a (d.may_leave a) (IsPartly b c) each (leaves_still only_now a)
