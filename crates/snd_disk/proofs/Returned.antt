-- What a shelf is like once a file was taken out, used, and given back.
use Rattle.std.specs.Prelude.{◌≡◌, ℕ, List, [], false, true, Option, Some, None, unwrap_or, refl}
use Rattle.std.specs.Str.{bytes_eq}
use Rattle.std.proofs.Common.{cond, sym, ◌∙◌, ap, subst, inl, inr}
use Rattle.std.proofs.lemmas.Bool.{cases_Bool}
use Rattle.snd_disk.specs.State.{State, GoesOn, KeepsImages}
use Rattle.snd_disk.specs.Device.{KeepsImagesOn}
use Rattle.snd_disk.specs.Shelf.{Files, ShelfState, SameFiles, KeepsFiles, Takes, Gives, HandsOver, put}
use Rattle.snd_disk.specs.Shelves.{ChangesOnly, HandsOut, HandsOutNone, KeepsFileImages, KeepsImagesOf, KeepsOthers, TakesBack, TellsFiles}
use Rattle.snd_disk.proofs.Chains.{goes_on_kept, goes_on_then, keeps_images_then}
use Rattle.snd_disk.proofs.Names.{same_name}

module _ (old mid new : ShelfState) (name : List ℕ) (disk disk' : State) (takes : Takes old mid name false disk) (same : disk'.contents ≡ disk.contents) (gives : Gives mid new name disk') where
  -- the names that are taken out are those of before
  pub returned_out : old.out name ≡ false → (n : List ℕ) → new.out n ≡ old.out n
  returned_out was n = elim (cases_Bool (bytes_eq n name)) [
    | inl is ↦ gives.out n ∙ ap (λ t. cond t false (mid.out n)) is ∙ sym (ap old.out (same_name n name is) ∙ was)
    | inr other ↦ gives.out n ∙ ap (λ t. cond t false (mid.out n)) other ∙ takes.out n ∙ ap (λ t. cond t true (old.out n)) other
  ]

  -- so are the files
  pub returned_files : KeepsFiles old new
  returned_files f told =
      let there = takes.there f told refl in
      let bytes : disk'.contents ≡ Some there.0 = same ∙ takes.contents f told ∙ ap (λ o. Some (unwrap_or o [])) there.1 in
      let out = takes.files f told in
      let back = gives.files there.0 bytes out.0 out.1 in
      (back.0, back.1, λ n. back.2 n ∙ restored f out.0 there.0 there.1 out.2 n)
    where
      restored : (f f' : Files) (b : List ℕ) → f name ≡ Some b → SameFiles (put f name None) f' → (n : List ℕ) → cond (bytes_eq n name) (Some b) (f' n) ≡ f n
      restored f f' b is out n = elim (cases_Bool (bytes_eq n name)) [
        | inl named ↦ ap (λ t. cond t (Some b) (f' n)) named ∙ sym (ap f (same_name n name named) ∙ is)
        | inr other ↦ ap (λ t. cond t (Some b) (f' n)) other ∙ out n ∙ ap (λ t. cond t None (f n)) other
      ]

pub handed_there : (file : Option (List ℕ)) (b : List ℕ) (clock clock' : ℕ) (before after : List ℕ → Type 0) (past since : ℕ → ℕ → List ℕ → Type 0) → file ≡ Some b
    → HandsOver file clock clock' before after past since → KeepsImages clock clock' before after past since
handed_there file b clock clock' before after past since is handed = subst (λ (o : Option (List ℕ)). HandsOver o clock clock' before after past since) is handed

module _ {S : Type 0} (state : S → ShelfState) (may_leave : S → List ℕ → List ℕ → Type 0) (left_between : S → List ℕ → ℕ → ℕ → List ℕ → Type 0) (name : List ℕ) where
  -- the file of the name, and each other file
  pub kept_at_each : (old new : S) → ((f : Files) (b : List ℕ) → TellsFiles state old f → f name ≡ Some b → KeepsImagesOf state may_leave left_between name old new)
      → KeepsOthers state may_leave left_between name old new → KeepsFileImages state may_leave left_between old new
  kept_at_each old new at_name others f n b told is = elim (cases_Bool (bytes_eq n name)) [
    | inl named ↦ subst (λ (m : List ℕ). KeepsImagesOf state may_leave left_between m old new) (sym (same_name n name named)) (at_name f b told (ap f (sym (same_name n name named)) ∙ is))
    | inr other ↦ others n other
  ]

  -- nothing was handed out
  pub stayed_images : (old new : S) → HandsOutNone state may_leave left_between name old new → KeepsOthers state may_leave left_between name old new → KeepsFileImages state may_leave left_between old new
  stayed_images old new handed others = kept_at_each old new (λ f b told is. handed_there (f name) b _ _ _ _ _ _ is (handed f told)) others

  pub others_then : (old mid new : S) → KeepsOthers state may_leave left_between name old mid → KeepsOthers state may_leave left_between name mid new → KeepsOthers state may_leave left_between name old new
  others_then old mid new first second n other =
      keeps_images_then ((state old).clock n) ((state mid).clock n) ((state new).clock n) (may_leave old n) (may_leave mid n) (may_leave new n) (left_between old n) (left_between mid n) (left_between new n) (first n other) (second n other)

  module _ {D : Type 0} (disk_state : D → State) (disk_left : D → List ℕ → Type 0) (disk_between : D → ℕ → ℕ → List ℕ → Type 0) (old mid new : S) (taken given : D)
      (handed : HandsOut state may_leave left_between disk_state disk_left disk_between name old taken) (back : TakesBack state may_leave left_between disk_state disk_left disk_between name new given)
      (others : KeepsOthers state may_leave left_between name old mid) (others' : KeepsOthers state may_leave left_between name mid new) where
    -- a file was handed out, its disk kept its images, and came back
    pub returned_images : KeepsImagesOn disk_state disk_left disk_between taken given → KeepsFileImages state may_leave left_between old new
    returned_images same =
        kept_at_each old new
        (λ f b told is. keeps_images_then ((state old).clock name) (disk_state taken).clock ((state new).clock name) (may_leave old name) (disk_left taken) (may_leave new name) (left_between old name) (disk_between taken) (left_between new name)
        (handed_there (f name) b ((state old).clock name) (disk_state taken).clock (may_leave old name) (disk_left taken) (left_between old name) (disk_between taken) is (handed f told))
        (keeps_images_then (disk_state taken).clock (disk_state given).clock ((state new).clock name) (disk_left taken) (disk_left given) (may_leave new name) (disk_between taken) (disk_between given) (left_between new name) same back))
        (others_then old mid new others others')

    -- .. or time went on for its disk
    pub gone_on : GoesOn (disk_state taken).clock (disk_state given).clock (disk_between taken) (disk_between given) → ChangesOnly state may_leave left_between name old new
    gone_on goes = record {
      file = λ f b told is.
          goes_on_then ((state old).clock name) (disk_state taken).clock ((state new).clock name) (left_between old name) (disk_between taken) (left_between new name)
          (goes_on_kept _ _ (may_leave old name) (disk_left taken) _ _ (handed_there (f name) b ((state old).clock name) (disk_state taken).clock (may_leave old name) (disk_left taken) (left_between old name) (disk_between taken) is (handed f told)))
          (goes_on_then (disk_state taken).clock (disk_state given).clock ((state new).clock name) (disk_between taken) (disk_between given) (left_between new name) goes (goes_on_kept _ _ (disk_left given) (may_leave new name) _ _ back));
      others = others_then old mid new others others';
    }
