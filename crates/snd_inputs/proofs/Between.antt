-- A shelf from which a file was taken that came back changed, while others were only read.
use Rattle.std.proofs.Common.{◌≡◌, inl, inr, ℕ, List, [], Bool, false, true, Option, None, Some, cond, sym, ◌∙◌, ap}
use Rattle.std.specs.Prelude.{is_none, unwrap_or}
use Rattle.std.specs.Str.{bytes_eq}
use Rattle.std.proofs.lemmas.Bool.{cases_Bool}
use Rattle.snd_disk.proofs.Public.{goes_on_kept, goes_on_then, keeps_images_then, same_bytes, same_name, handed_there}
use Rattle.snd_disk.specs.declared.disk.Disk.{Ghosts as DiskMeaning}
use Rattle.snd_disk.specs.declared.shelf.Shelf.{Ghosts as ShelfMeaning}
use Rattle.snd_disk.specs.Device.{GoesOnFrom}
use Rattle.snd_disk.specs.Shelf.{Files, Gives, Takes, put}
use Rattle.snd_disk.specs.Shelves.{HandsOut, KeepsOthers, TakesBack, TellsFiles}
use Rattle.snd_tools.proofs.Public.{given_files, put_at, put_beside, some_of}
use Rattle.snd_tools.specs.Shelves.{ChangesOne, HasFiles}
use Rattle.snd_inputs.specs.Looking.{ReadsFiles}

module _ {S D : Type 0} (s : ShelfMeaning S D) (d : DiskMeaning D) (old mid mid' new : S) (taken given : D) (name : List ℕ) (make : Bool)
    (takes : Takes (s.state old) (s.state mid) name make (d.state taken)) (reads : ReadsFiles s mid mid') (gives : Gives (s.state mid') (s.state new) name (d.state given)) where
  -- as though it had been taken out then
  taken_then : Takes (s.state old) (s.state mid') name make (d.state taken)
  taken_then = record {
    out = λ n. reads.back n ∙ takes.out n;
    files = λ f told.
        let out = takes.files f told in
        let read = reads.files out.0 out.1 in
        (read.0, read.1, λ n. read.2 n ∙ out.2 n);
    named = takes.named;
    contents = takes.contents;
    there = takes.there;
    fresh = takes.fresh;
  }

  pub between_files : (files : Files) (b : List ℕ) → TellsFiles s.state old files → (d.state given).contents ≡ Some b → HasFiles s.state new (put files name (Some b))
  between_files files b told bytes = given_files s d old mid' new taken given name make taken_then gives files b told bytes

  out_back : (s.state old).out name ≡ false → (n : List ℕ) → (s.state new).out n ≡ (s.state old).out n
  out_back was n = elim (cases_Bool (bytes_eq n name)) [
    | inl is ↦ gives.out n ∙ ap (λ (t : Bool). cond t false ((s.state mid').out n)) is ∙ sym (ap (s.state old).out (same_name n name is) ∙ was)
    | inr other ↦ gives.out n ∙ ap (λ (t : Bool). cond t false ((s.state mid').out n)) other ∙ reads.back n ∙ takes.out n ∙ ap (λ (t : Bool). cond t true ((s.state old).out n)) other
  ]

  module _ (handed : HandsOut s.state s.may_leave s.left_between d.state d.may_leave d.left_between name old taken) (back : TakesBack s.state s.may_leave s.left_between d.state d.may_leave d.left_between name new given)
      (others : KeepsOthers s.state s.may_leave s.left_between name old mid) (others' : KeepsOthers s.state s.may_leave s.left_between name mid' new) where
    pub between_changes : (s.state old).out name ≡ false → ((b : List ℕ) → (d.state taken).contents ≡ Some b → (b' : List ℕ) × ((d.state given).contents ≡ Some b'))
        → GoesOnFrom d.state d.left_between taken given → ChangesOne s name old new
    between_changes was tells goes = record {
      back = out_back was;
      files = λ f told.
          let bytes = tells (unwrap_or (f name) []) (takes.contents f told) in
          let has = between_files f bytes.0 told bytes.1 in
          (has.0, has.1, λ n other. has.2 n ∙ put_beside f name n (Some bytes.0) other, λ there. ap (λ (o : Option (List ℕ)). is_none o) (has.2 name ∙ put_at f name name (Some bytes.0) (same_bytes name)));
      time = λ f told there.
          let is = some_of (f name) there in
          goes_on_then ((s.state old).clock name) (d.state taken).clock ((s.state new).clock name) (s.left_between old name) (d.left_between taken) (s.left_between new name)
          (goes_on_kept _ _ (s.may_leave old name) (d.may_leave taken) _ _
          (handed_there (f name) is.0 ((s.state old).clock name) (d.state taken).clock (s.may_leave old name) (d.may_leave taken) (s.left_between old name) (d.left_between taken) is.1 (handed f told)))
          (goes_on_then (d.state taken).clock (d.state given).clock ((s.state new).clock name) (d.left_between taken) (d.left_between given) (s.left_between new name) goes
          (goes_on_kept _ _ (d.may_leave given) (s.may_leave new name) _ _ back));
      others = λ f n told there other.
          let is = some_of (f n) there in
          let out = takes.files f told in
          keeps_images_then ((s.state old).clock n) ((s.state mid).clock n) ((s.state new).clock n) (s.may_leave old n) (s.may_leave mid n) (s.may_leave new n) (s.left_between old n) (s.left_between mid n) (s.left_between new n) (others n other)
          (keeps_images_then ((s.state mid).clock n) ((s.state mid').clock n) ((s.state new).clock n) (s.may_leave mid n) (s.may_leave mid' n) (s.may_leave new n) (s.left_between mid n) (s.left_between mid' n) (s.left_between new n)
          (reads.images out.0 n is.0 out.1 (out.2 n ∙ put_beside f name n None other ∙ is.1)) (others' n other));
    }

-- Files were only read, and then one has changed.
pub changes_after : {S D : Type 0} (s : ShelfMeaning S D) (name : List ℕ) (old mid new : S) → ReadsFiles s old mid → ChangesOne s name mid new → ChangesOne s name old new
changes_after s name old mid new reads changes = record {
  back = λ n. changes.back n ∙ reads.back n;
  files = λ f told.
      let read = reads.files f told in
      let part = changes.files read.0 read.1 in
      (part.0, part.1, λ n other. part.2 n other ∙ read.2 n, λ there. part.3 (ap (λ (o : Option (List ℕ)). is_none o) (read.2 name) ∙ there));
  time = λ f told there.
      let is = some_of (f name) there in
      let read = reads.files f told in
      goes_on_then ((s.state old).clock name) ((s.state mid).clock name) ((s.state new).clock name) (s.left_between old name) (s.left_between mid name) (s.left_between new name)
      (goes_on_kept _ _ (s.may_leave old name) (s.may_leave mid name) _ _ (reads.images f name is.0 told is.1)) (changes.time read.0 read.1 (ap (λ (o : Option (List ℕ)). is_none o) (read.2 name) ∙ there));
  others = λ f n told there other.
      let is = some_of (f n) there in
      let read = reads.files f told in
      keeps_images_then ((s.state old).clock n) ((s.state mid).clock n) ((s.state new).clock n) (s.may_leave old n) (s.may_leave mid n) (s.may_leave new n) (s.left_between old n) (s.left_between mid n) (s.left_between new n)
      (reads.images f n is.0 told is.1) (changes.others read.0 n read.1 (ap (λ (o : Option (List ℕ)). is_none o) (read.2 n) ∙ there) other);
}
