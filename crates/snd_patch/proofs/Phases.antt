-- The phases of an update of the fields, one after the other.
use Rattle.std.proofs.Common.{◌≡◌, ◌⊎◌, inl, inr, ℕ, ◌≤◌, List, [], ◌∷◌, length}
use Rattle.snd_disk.specs.Runs.{Since}
use Rattle.snd_disk.specs.declared.disk.Disk.{Ghosts}
use Rattle.snd_layout.specs.Shape.{KeepsRule, Shape}
use Rattle.snd_patch.specs.Images.{AllLieApart, IsGrowing, IsShrinking, LeavesEach}
use Rattle.snd_patch.specs.Sealed.{held_others, with_inner, with_others}
use Rattle.snd_patch.proofs.Images.{growing_inner, growing_others, shrinking_inner, shrinking_others}
use Rattle.snd_patch.proofs.Moments.{leaves_by, leaves_then}

module _ {D : Type 0} (d : Ghosts D) (start : D) (b : List ℕ) (h : Shape) (n : ℕ) (rule : KeepsRule h) (apart : AllLieApart h) (there : h.start ≤ length b) where
  abbrev Growing : List ℕ → Type 0
  Growing x = d.may_leave start x ⊎ IsGrowing b h n x

  abbrev Shrinking : List ℕ → Type 0
  Shrinking x = d.may_leave start x ⊎ IsShrinking b h n x

  -- the first sync
  pub raise_settled : (s : D) → Since d.state d.may_leave d.left_between start s [] → LeavesEach d start s Growing
  raise_settled s run = leaves_by d start s [] Growing (λ x made. inl made) run

  pub lower_settled : (s : D) → Since d.state d.may_leave d.left_between start s [] → LeavesEach d start s Shrinking
  lower_settled s run = leaves_by d start s [] Shrinking (λ x made. inl made) run

  -- each step behind it, from a start that is stable
  pub raise_inner : (s t : D) → LeavesEach d start s Growing → ((y : List ℕ) → d.may_leave s y → y ≡ b) → Since d.state d.may_leave d.left_between s t (with_inner b h n ∷ []) → LeavesEach d start t Growing
  raise_inner s t so_far only run = leaves_then d start s t Growing so_far (leaves_by d s t (with_inner b h n ∷ []) Growing (λ x made. inr (growing_inner b h n rule apart there (d.may_leave s) x only made)) run)

  pub raise_others : (s t : D) → LeavesEach d start s Growing → ((y : List ℕ) → d.may_leave s y → y ≡ with_inner b h n) → Since d.state d.may_leave d.left_between s t (held_others (with_inner b h n) h n) → LeavesEach d start t Growing
  raise_others s t so_far only run = leaves_then d start s t Growing so_far (leaves_by d s t (held_others (with_inner b h n) h n) Growing (λ x made. inr (growing_others b h n rule apart there (d.may_leave s) x only made)) run)

  pub lower_others : (s t : D) → LeavesEach d start s Shrinking → ((y : List ℕ) → d.may_leave s y → y ≡ b) → Since d.state d.may_leave d.left_between s t (held_others b h n) → LeavesEach d start t Shrinking
  lower_others s t so_far only run = leaves_then d start s t Shrinking so_far (leaves_by d s t (held_others b h n) Shrinking (λ x made. inr (shrinking_others b h n rule apart there (d.may_leave s) x only made)) run)

  pub lower_inner : (s t : D) → LeavesEach d start s Shrinking → ((y : List ℕ) → d.may_leave s y → y ≡ with_others b h n) → Since d.state d.may_leave d.left_between s t (with_inner (with_others b h n) h n ∷ []) → LeavesEach d start t Shrinking
  lower_inner s t so_far only run = leaves_then d start s t Shrinking so_far (leaves_by d s t (with_inner (with_others b h n) h n ∷ []) Shrinking (λ x made. inr (shrinking_inner b h n rule apart there (d.may_leave s) x only made)) run)
