-- A shelf of which files are only read: where none was handed out, where one came back as it was, and where one thing follows another.
use Rattle.std.proofs.Common.{◌≡◌, ℕ, List, [], false, true, None, Some, inl, inr, ◌⊎◌, ◌∙◌, refl, arith, Bool, cond, ap}
use Rattle.snd_disk.proofs.Public.{keeps_images_then, same_bytes, returned_files, returned_images, returned_out, stayed_images}
use Rattle.snd_disk.specs.declared.disk.Disk.{Ghosts as DiskMeaning}
use Rattle.snd_disk.specs.declared.shelf.Shelf.{Ghosts as ShelfMeaning}
use Rattle.snd_disk.specs.Device.{OnlyReadsOn}
use Rattle.snd_disk.specs.Shelf.{Files, Gives, KeepsBytes, SameFiles, ShelfState, Stays, Takes, put}
use Rattle.snd_disk.specs.Shelves.{HandsOut, HandsOutNone, KeepsOthers, TakesBack, TellsFiles}
use Rattle.snd_disk.specs.State.{State}
use Rattle.snd_tools.proofs.Public.{kept_changes}
use Rattle.snd_tools.specs.Shelves.{ChangesOne}
use Rattle.snd_inputs.specs.Looking.{ReadsFiles}

-- a name that was taken out is out
pub now_out : (old new : ShelfState) (name : List ℕ) (make : Bool) (disk : State) → Takes old new name make disk → new.out name ≡ true
now_out old new name make disk takes = takes.out name ∙ ap (λ (t : Bool). cond t true (old.out name)) (same_bytes name)

-- a disk of which nothing was asked
pub reads_none : {D : Type 0} (state : D → State) (may_leave : D → List ℕ → Type 0) (left_between : D → ℕ → ℕ → List ℕ → Type 0) (d : D) → OnlyReadsOn state may_leave left_between d d
reads_none state may_leave left_between d = record {
  keeps = record { size = refl; contents = refl; name = refl };
  images = record { same_time = refl; now = record { no_more = λ x left. left; no_fewer = λ x left. left }; no_more = λ s t x left. left; no_fewer = λ s t x left. left };
  written = refl;
}

module _ {S D : Type 0} (s : ShelfMeaning S D) where
  pub reads_itself : (old : S) → ReadsFiles s old old
  reads_itself old = record {
    back = λ n. refl;
    files = λ f told. (f, told, λ n. refl);
    images = λ f n b told is. record { same_time = refl; now = record { no_more = λ x left. left; no_fewer = λ x left. left }; no_more = λ t t' x left. left; no_fewer = λ t t' x left. left };
    written = refl;
  }

  pub reads_then : (a b c : S) → ReadsFiles s a b → ReadsFiles s b c → ReadsFiles s a c
  reads_then a b c first second = record {
    back = λ n. second.back n ∙ first.back n;
    files = λ f told.
        let mid = first.files f told in
        let last = second.files mid.0 mid.1 in
        (last.0, last.1, λ n. last.2 n ∙ mid.2 n);
    images = λ f n bytes told is.
        let mid = first.files f told in
        keeps_images_then ((s.state a).clock n) ((s.state b).clock n) ((s.state c).clock n) (s.may_leave a n) (s.may_leave b n) (s.may_leave c n) (s.left_between a n) (s.left_between b n) (s.left_between c n)
        (first.images f n bytes told is) (second.images mid.0 n bytes mid.1 (mid.2 n ∙ is));
    written = second.written ∙ first.written;
  }

  -- a shelf of which files were only read has no file changed
  pub reads_changes : (name : List ℕ) (old new : S) → ReadsFiles s old new → ChangesOne s name old new
  reads_changes name old new reads = kept_changes s name old new reads.back reads.files reads.images

  -- no disk was handed out
  pub not_handed : (name : List ℕ) (old new : S) → Stays (s.state old) (s.state new) name false → HandsOutNone s.state s.may_leave s.left_between name old new
      → KeepsOthers s.state s.may_leave s.left_between name old new → KeepsBytes (s.state old) (s.state new) → ReadsFiles s old new
  not_handed name old new stays handed others bytes = record {
    back = stays.out;
    files = λ f told. same_files f told (stays.files f told);
    images = stayed_images s.state s.may_leave s.left_between name old new handed others;
    written = bytes.written;
  }
    where
      same_files : (f : Files) → TellsFiles s.state old f → (f' : Files) × ((s.state new).files ≡ Some f') × (SameFiles f f' ⊎ ((false ≡ true) × (f name ≡ None) × SameFiles (put f name (Some [])) f'))
          → (f' : Files) × ((s.state new).files ≡ Some f') × SameFiles f f'
      same_files f told (f', is, inl same) = (f', is, same)
      same_files f told (f', is, inr (made, none, with_it)) = absurd (cc)

  -- one was, and came back as it was
  module _ (d : DiskMeaning D) (name : List ℕ) (old mid new : S) (taken given : D) (takes : Takes (s.state old) (s.state mid) name false (d.state taken))
      (gives : Gives (s.state mid) (s.state new) name (d.state given)) (reads : OnlyReadsOn d.state d.may_leave d.left_between taken given) where
    pub handed_back : HandsOut s.state s.may_leave s.left_between d.state d.may_leave d.left_between name old taken → TakesBack s.state s.may_leave s.left_between d.state d.may_leave d.left_between name new given
        → KeepsOthers s.state s.may_leave s.left_between name old mid → KeepsOthers s.state s.may_leave s.left_between name mid new → KeepsBytes (s.state old) (s.state mid)
        → (s.state old).out name ≡ false → ReadsFiles s old new
    handed_back handed back others others' bytes was = record {
      back = returned_out (s.state old) (s.state mid) (s.state new) name (d.state taken) (d.state given) takes reads.keeps.contents gives was;
      files = returned_files (s.state old) (s.state mid) (s.state new) name (d.state taken) (d.state given) takes reads.keeps.contents gives;
      images = returned_images s.state s.may_leave s.left_between name d.state d.may_leave d.left_between old mid new taken given handed back others others' reads.images;
      written = omega (arith, bytes.written, gives.written.later, gives.written.most, reads.written, takes.fresh.1);
    }
