-- One call, and two runs one after the other, as a run.
use Rattle.std.proofs.Common.{◌≡◌, inl, inr, ⊎_elim, ℕ, ◌+◌, ◌≤◌, List, [], ◌∷◌, ◌++◌, length, get_or, Some, refl, sym, ◌∙◌, subst, arith}
use Rattle.std.specs.List.{All}
use Rattle.snd_disk.specs.Bytes.{Mix}
use Rattle.snd_disk.specs.Device.{IsStable}
use Rattle.snd_disk.specs.State.{State, Keeps, SameImages, KeepsImages, Mixes, Passes}
use Rattle.snd_disk.specs.Runs.{IsSource, ComesFrom, IsMade, Since, IsInOneSector, HasFieldOf}
use Rattle.snd_disk.proofs.Sources.{comes_of_mix, comes_itself, byte_from, made_comes, made_front, made_back, same_place, same_field}
use Rattle.snd_disk.proofs.Fields.{field_from}

pub same_some : (x y : List ℕ) → Some x ≡ Some y → x ≡ y
same_some x y is = cc

module _ {D : Type 0} (state : D → State) (may_leave : D → List ℕ → Type 0) (left_between : D → ℕ → ℕ → List ℕ → Type 0) where
  module _ (only_now : (d : D) (s t : ℕ) (x : List ℕ) → (state d).clock ≤ s → left_between d s t x → may_leave d x) where
    -- a call after which each image is made of those before and of what was held
    run_of : (old new : D) (held : List (List ℕ)) → ((x : List ℕ) → may_leave old x → IsMade (may_leave old) held x) → ((x : List ℕ) → may_leave new x → IsMade (may_leave old) held x)
        → Passes (state old).clock (state new).clock (left_between old) (left_between new) (may_leave new) → Since state may_leave left_between old new held
    run_of old new held was made passes = record {
      later = passes.later;
      now = made;
      between = λ t x left. ⊎_elim (λ past. was x (only_now old (state old).clock t x (omega arith) past)) (made x) (passes.nothing_else (state old).clock t x left);
      earlier = λ s t x left. ⊎_elim (λ past. inl past) (λ here. inr (made x here)) (passes.nothing_else s t x left);
      same = passes.same;
      kept = passes.kept;
    }

    pub change_is_run : (old new : D) (meant : List ℕ → List ℕ) (b : List ℕ) → (state old).contents ≡ Some b → Mixes (state old).contents meant (may_leave old) (may_leave new)
        → Passes (state old).clock (state new).clock (left_between old) (left_between new) (may_leave new) → Since state may_leave left_between old new (meant b ∷ [])
    change_is_run old new meant b told mixes passes =
        run_of old new (meant b ∷ []) (λ x left. comes_itself (IsSource (may_leave old) (meant b ∷ [])) x (inr left)) comes passes
      where
        comes : (x : List ℕ) → may_leave new x → ComesFrom (IsSource (may_leave old) (meant b ∷ [])) x
        comes x left =
            let mixed = mixes x left in
            let is : mixed.0 ≡ b = same_some mixed.0 b (sym mixed.2 ∙ told) in
            comes_of_mix (IsSource (may_leave old) (meant b ∷ [])) mixed.1 (meant b) x (inr mixed.3) (inl refl) (subst (λ (c : List ℕ). Mix mixed.1 (meant c) x) is mixed.4)

    pub failed_sync_is_run : (old new : D) → SameImages (may_leave old) (may_leave new) → Passes (state old).clock (state new).clock (left_between old) (left_between new) (may_leave new) → Since state may_leave left_between old new []
    failed_sync_is_run old new same passes = run_of old new [] (λ x left. left) same.no_more passes

    pub sync_is_run : ((d : D) (b : List ℕ) → (state d).contents ≡ Some b → may_leave d b) → (old new : D) → Keeps (state old) (state new) → IsStable state may_leave new
        → Passes (state old).clock (state new).clock (left_between old) (left_between new) (may_leave new) → Since state may_leave left_between old new []
    sync_is_run is_left old new keeps only passes = run_of old new [] (λ x left. left) (λ x left. is_left old x (sym keeps.contents ∙ only x left)) passes

    pub read_is_run : (old new : D) → KeepsImages (state old).clock (state new).clock (may_leave old) (may_leave new) (left_between old) (left_between new) → Since state may_leave left_between old new []
    read_is_run old new keeps = record {
      later = omega (arith, keeps.same_time);
      now = keeps.now.no_more;
      between = λ t x left. only_now old (state old).clock t x (omega arith) (keeps.no_more (state old).clock t x left);
      earlier = λ s t x left. inl (keeps.no_more s t x left);
      same = λ s t x le left. keeps.no_more s t x left;
      kept = keeps.no_fewer;
    }

  pub runs_join : (a b c : D) (h k : List (List ℕ)) → Since state may_leave left_between a b h → Since state may_leave left_between b c k → Since state may_leave left_between a c (h ++ k)
  runs_join a b c h k one two = record {
    later = omega (arith, one.later, two.later);
    now = λ x left. second x (two.now x left);
    between = λ t x left. ⊎_elim (λ past. made_front (may_leave a) h k x (one.between t x past)) (second x) (two.earlier (state a).clock t x left);
    earlier = λ s t x left. ⊎_elim (λ past. ⊎_elim (λ was. inl was) (λ made. inr (made_front (may_leave a) h k x made)) (one.earlier s t x past)) (λ made. inr (second x made)) (two.earlier s t x left);
    same = λ s t x le left. one.same s t x le (two.same s t x (omega (arith, le, one.later)) left);
    kept = λ s t x left. two.kept s t x (one.kept s t x left);
  }
    where
      second : (x : List ℕ) → IsMade (may_leave b) k x → IsMade (may_leave a) (h ++ k) x
      second x made = made_back (may_leave a) (may_leave b) h k one.now x made

  module _ (is_left : (d : D) (b : List ℕ) → (state d).contents ≡ Some b → may_leave d b) where
    pub sync_settles : (old new : D) (b : List ℕ) → (state old).contents ≡ Some b → Keeps (state old) (state new) → IsStable state may_leave new
        → ((state new).contents ≡ Some b) × may_leave new b × ((x : List ℕ) → may_leave new x → x ≡ b)
    sync_settles old new b told keeps only = (keeps.contents ∙ told, is_left new b (keeps.contents ∙ told), λ x left. same_some x b (sym (only x left) ∙ keeps.contents ∙ told))

    pub place_stays : (old : D) (b : List ℕ) (held : List (List ℕ)) (i : ℕ) → (state old).contents ≡ Some b → All (λ h. get_or h i 0 ≡ get_or b i 0) held
        → (x : List ℕ) → IsMade (may_leave old) held x → (y : List ℕ) × may_leave old y × (get_or x i 0 ≡ get_or y i 0)
    place_stays old b held i told all x made =
        let byte = byte_from (IsSource (may_leave old) held) x (made_comes (may_leave old) held x made) i in
        let same = same_place (may_leave old) b i (is_left old b told) held all byte.0 byte.1 in
        (same.0, same.1, byte.2 ∙ same.2)

    pub field_stays : (old : D) (b : List ℕ) (held : List (List ℕ)) (at n : ℕ) → (state old).contents ≡ Some b → IsInOneSector at n
        → ((y : List ℕ) → IsSource (may_leave old) held y → at + n ≤ length y) → All (λ h. HasFieldOf h b at n) held
        → (x : List ℕ) → IsMade (may_leave old) held x → (y : List ℕ) × may_leave old y × HasFieldOf x y at n
    field_stays old b held at n told one within all x made =
        let field = field_from (IsSource (may_leave old) held) at n one within x (made_comes (may_leave old) held x made) in
        let same = same_field (may_leave old) b at n (is_left old b told) held all field.0 field.1 in
        (same.0, same.1, λ j lt. field.2 j lt ∙ same.2 j lt)
