-- What a crash leaves at each moment of a promotion.
use Rattle.std.proofs.Common.{◌≡◌, ◌⊎◌, ⊎_elim, ℕ, ◌+◌, ◌-◌, ◌≤◌, List, [], ◌∷◌, option_map, length, get_or, refl, sym, ap, subst, ◌∙◌, inl, inr, arith}
use Rattle.snd_disk.proofs.Public.{byte_from, field_from, over_in, same_some}
use Rattle.snd_disk.specs.Bytes.{over}
use Rattle.snd_disk.specs.Device.{IsStable, Tells}
use Rattle.snd_disk.specs.Runs.{HasAt, HasFieldOf, IsInOneSector, IsMade, IsPatching, IsSource}
use Rattle.snd_disk.specs.declared.disk.Disk.{Ghosts}
use Rattle.snd_layout.specs.Shape.{Shape}
use Rattle.snd_patch.proofs.Public.{leaves_by, leaves_then, leaves_weaker, over_beside}
use Rattle.snd_patch.specs.Images.{LeavesEach, LeavesSealing}
use Rattle.snd_patch.specs.Sealed.{counted, sealed}
use Rattle.snd_patch.specs.Steps.{Becomes}
use Rattle.snd_promote.proofs.Contents.{front_counted}
use Rattle.snd_ds64.proofs.Public.{length-new_front, length-new_size}
use Rattle.snd_ds64.proofs.Public.{both, both_first, both_length, both_second, first_length}
use Rattle.snd_ds64.specs.Moments.{IsPromoting}
use Rattle.snd_promote.specs.Images.{IsSealing, LeavesConverting, LeavesPromoting}
use Rattle.snd_ds64.specs.Promoted.{new_front, new_size}
use Rattle.snd_promote.specs.Steps.{HasPut, Puts}

-- ---- what is made of one list and of another that was held

module _ (before : List ℕ → Type 0) (c m : List ℕ) (only : (y : List ℕ) → before y → y ≡ c) (x : List ℕ) (from : IsMade before (m ∷ []) x) where
  each : (P : List ℕ → Type 0) → P c → P m → (y : List ℕ) → IsSource before (m ∷ []) y → P y
  each P of_c of_m y (inl is) = subst P (sym is) of_m
  each P of_c of_m y (inr is) = subst P (sym (only y is)) of_c

  same_size : (k : ℕ) → length c ≡ k → length m ≡ k → length x ≡ k
  same_size k one two = from.size.2 ∙ each (λ y. length y ≡ k) one two from.size.0 from.size.1

  same_byte : (i v : ℕ) → get_or c i 0 ≡ v → get_or m i 0 ≡ v → get_or x i 0 ≡ v
  same_byte i v one two =
      let byte = byte_from (IsSource before (m ∷ [])) x from i in
      byte.2 ∙ each (λ y. get_or y i 0 ≡ v) one two byte.0 byte.1

  whole_field : (at k : ℕ) → IsInOneSector at k → at + k ≤ length c → at + k ≤ length m → HasFieldOf x c at k ⊎ HasFieldOf x m at k
  whole_field at k one in_c in_m =
      let field = field_from (IsSource before (m ∷ [])) at k one (each (λ y. at + k ≤ length y) in_c in_m) x from in
      each (λ y. HasFieldOf x y at k → HasFieldOf x c at k ⊎ HasFieldOf x m at k) (λ has. inl has) (λ has. inr has) field.0 field.1 field.2

-- ---- the two writes

module _ (b f s : List ℕ) (at : ℕ) (apart : length f ≤ at) (within : at + length s ≤ length b) (before : List ℕ → Type 0) (x : List ℕ) where
  pub first_way : ((y : List ℕ) → before y → y ≡ b) → IsMade before (over b 0 f ∷ []) x → IsPatching b 0 f at s x
  first_way only made = record {
    size = same_size before b (over b 0 f) only x made (length b) refl (first_length b f s at apart within);
    beside = λ i one two. same_byte before b (over b 0 f) only x made i (get_or b i 0) refl (over_beside b 0 f i one);
    first = λ one. ⊎_elim (λ old. inl old) (λ new. inr (λ j lt. new j lt ∙ over_in b 0 f (omega (arith, apart, within)) j lt))
        (whole_field before b (over b 0 f) only x made 0 (length f) one (omega (arith, apart, within)) (omega (arith, apart, within, first_length b f s at apart within)));
    second = λ one. inl old;
    ordered = inl old;
  }
    where
      old : HasFieldOf x b at (length s)
      old j lt = same_byte before b (over b 0 f) only x made (at + j) (get_or b (at + j) 0) refl (over_beside b 0 f (at + j) (inr (omega (arith, apart))))

  pub second_way : ((y : List ℕ) → before y → y ≡ over b 0 f) → IsMade before (both b f s at apart within ∷ []) x → IsPatching b 0 f at s x
  second_way only made = record {
    size = same_size before (over b 0 f) (both b f s at apart within) only x made (length b) (first_length b f s at apart within) (both_length b f s at apart within);
    beside = λ i one two. same_byte before (over b 0 f) (both b f s at apart within) only x made i (get_or b i 0) (over_beside b 0 f i one) (over_beside (over b 0 f) at s i two ∙ over_beside b 0 f i one);
    first = λ one. inr new;
    second = λ one. ⊎_elim (λ old. inl (λ j lt. old j lt ∙ over_beside b 0 f (at + j) (inr (omega (arith, apart))))) (λ is. inr (λ j lt. is j lt ∙ both_second b f s at apart within j lt))
        (whole_field before (over b 0 f) (both b f s at apart within) only x made at (length s) one (omega (arith, within, first_length b f s at apart within)) (omega (arith, within, both_length b f s at apart within)));
    ordered = inr new;
  }
    where
      new : HasAt x 0 f
      new j lt = same_byte before (over b 0 f) (both b f s at apart within) only x made (0 + j) (get_or f j 0) (over_in b 0 f (omega (arith, apart, within)) j lt) (both_first b f s at apart within j lt)

-- ---- the calls

module _ {D : Type 0} (d : Ghosts D) (h : Shape) (n : ℕ) (old mid : D) (b : List ℕ) (early : 56 ≤ h.start) (there : h.start ≤ length b) (told : Tells d.state old b) (stable : IsStable d.state d.may_leave old) (puts : Puts d 0 (new_front h n) old mid) where
  apart : length (new_front h n) ≤ h.start - 4
  apart = omega (arith, early, length-new_front h n)

  within : h.start - 4 + length new_size ≤ length b
  within = omega (arith, early, there, length-new_size)

  pub front_leaves : LeavesEach d old mid (IsPromoting b h n)
  front_leaves =
      leaves_by d old mid (over b 0 (new_front h n) ∷ []) (IsPromoting b h n)
      (λ x made. first_way b (new_front h n) new_size (h.start - 4) apart within (d.may_leave old) x (λ y left. same_some y b (sym (stable y left) ∙ told)) made) (puts.run b told)

  pub size_leaves : (new : D) → HasPut d 0 (new_front h n) old mid → Puts d (h.start - 4) new_size mid new → LeavesEach d old new (IsPromoting b h n)
  size_leaves new put puts' =
      let then : Tells d.state mid (over b 0 (new_front h n)) = put.contents ∙ ap (option_map (λ l. over l 0 (new_front h n))) told in
      leaves_then d old mid new (IsPromoting b h n) front_leaves
      (leaves_by d mid new (both b (new_front h n) new_size (h.start - 4) apart within ∷ []) (IsPromoting b h n)
      (λ x made. second_way b (new_front h n) new_size (h.start - 4) apart within (d.may_leave mid) x (λ y left. same_some y (over b 0 (new_front h n)) (sym (put.stable y left) ∙ then)) made)
      (puts'.run (over b 0 (new_front h n)) then))

module _ {D : Type 0} (d : Ghosts D) (h : Shape) (n : ℕ) (old mid : D) (leaves : LeavesSealing d h n old mid) where
  pub seal_leaves : LeavesPromoting d h n old mid
  seal_leaves apart b told =
      leaves_weaker d old mid (IsSealing d old b h n) (λ x. IsSealing d old b h n x ⊎ IsPromoting (sealed b h n) h n x) (λ x is. inl is) (leaves apart b told)

  pub promotion_leaves : (new : D) → Becomes d.state (λ b. sealed b h n) old mid → IsStable d.state d.may_leave mid → LeavesConverting d (counted h n) n mid new → LeavesPromoting d h n old new
  promotion_leaves new contents stable converting apart b told =
      let then : Tells d.state mid (sealed b h n) = contents ∙ ap (option_map (λ l. sealed l h n)) told in
      leaves_then d old mid new (λ x. IsSealing d old b h n x ⊎ IsPromoting (sealed b h n) h n x) (seal_leaves apart b told)
      (leaves_weaker d mid new (IsPromoting (sealed b h n) (counted h n) n) (λ x. IsSealing d old b h n x ⊎ IsPromoting (sealed b h n) h n x)
      (λ x is. inr (subst (λ (f : List ℕ). IsPatching (sealed b h n) 0 f (h.start - 4) new_size x) (front_counted h n n) is))
      (converting (sealed b h n) then stable))
