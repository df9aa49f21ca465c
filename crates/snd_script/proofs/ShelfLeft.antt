-- How a shelf is left: where nothing was handed out, once a file came back, and after one step and then another.
use Rattle.std.proofs.Common.{◌≡◌, inl, inr, ⊎_elim, ℕ, List, [], Bool, false, true, Option, None, Some, cond, refl, sym, ◌∙◌, ap, subst, arith}
use Rattle.std.specs.Prelude.{is_none, is_some, unwrap_or}
use Rattle.std.specs.Str.{bytes_eq}
use Rattle.std.proofs.lemmas.Bool.{cases_Bool}
use Rattle.snd_disk.proofs.Public.{goes_on_kept, goes_on_then, same_name, gone_on, stayed_images}
use Rattle.snd_disk.specs.Shelf.{Files, Gives, SameFiles, ShelfState, Stays, Takes, put}
use Rattle.snd_disk.specs.Shelves.{ChangesOnly, HandsOut, HandsOutNone, KeepsOthers, TakesBack, TellsFiles}
use Rattle.snd_disk.specs.State.{GoesOn, State}
use Rattle.snd_meters.specs.Gauge.{Gauge}
use Rattle.snd_patch.specs.Steps.{StillTells}
use Rattle.snd_rules.specs.Desk.{Desk, Store, closed_desk, files_closed}
use Rattle.snd_script.specs.Served.{HasStore, LeavesShelf, none_lost}
use Rattle.snd_script.specs.Serving.{DiskStands, ShelfStands}

-- a file that is there has its bytes
pub some_of : (o : Option (List ℕ)) → is_none o ≡ false → (b : List ℕ) × (o ≡ Some b)
some_of None is = absurd (cc)
some_of (Some b) is = (b, refl)

told_of : (o o' : Option (List ℕ)) (b : List ℕ) → is_some o' ≡ is_some o → o ≡ Some b → (b' : List ℕ) × (o' ≡ Some b')
told_of o (Some b') b same is = (b', refl)
told_of o None b same is = absurd (let e : false ≡ true = same ∙ ap (λ (x : Option (List ℕ)). is_some x) is in cc)

-- a disk that told its bytes tells them
pub still_told : (old new : State) (b : List ℕ) → StillTells old new → old.contents ≡ Some b → (b' : List ℕ) × (new.contents ≡ Some b')
still_told old new b still is = told_of old.contents new.contents b still.told is

-- a file that is there stays, where another one is put under a name
there_with : (f f' : Files) (name b n : List ℕ) → SameFiles (put f name (Some b)) f' → is_none (f n) ≡ false → is_none (f' n) ≡ false
there_with f f' name b n same there = elim (cases_Bool (bytes_eq n name)) [
  | inl is ↦ ap (λ (o : Option (List ℕ)). is_none o) (same n ∙ ap (λ (t : Bool). cond t (Some b) (f n)) is)
  | inr other ↦ ap (λ (o : Option (List ℕ)). is_none o) (same n ∙ ap (λ (t : Bool). cond t (Some b) (f n)) other) ∙ there
]

-- .. or taken from there and put back
back_with : (f f' f'' : Files) (name b n : List ℕ) → SameFiles (put f name None) f' → SameFiles (put f' name (Some b)) f'' → f'' n ≡ put f name (Some b) n
back_with f f' f'' name b n out back = elim (cases_Bool (bytes_eq n name)) [
  | inl is ↦ back n ∙ ap (λ (t : Bool). cond t (Some b) (f' n)) is ∙ sym (ap (λ (t : Bool). cond t (Some b) (f n)) is)
  | inr other ↦ back n ∙ ap (λ (t : Bool). cond t (Some b) (f' n)) other ∙ out n ∙ ap (λ (t : Bool). cond t None (f n)) other ∙ sym (ap (λ (t : Bool). cond t (Some b) (f n)) other)
]

-- a file that is handed out and not made is there, with the bytes of its disk
some_unwrapped : (o : Option (List ℕ)) (b : List ℕ) → o ≡ Some b → o ≡ Some (unwrap_or o [])
some_unwrapped o b is = is ∙ ap (λ (x : Option (List ℕ)). Some (unwrap_or x [])) (sym is)

pub taken_there : (old mid : ShelfState) (name : List ℕ) (make : Bool) (disk : State) (files f : Files) → Takes old mid name make disk → old.files ≡ Some f → SameFiles files f → make ≡ false → files name ≡ Some (unwrap_or (f name) [])
taken_there old mid name make disk files f takes told same make_not =
    let is = takes.there f told make_not in
    sym (same name) ∙ some_unwrapped (f name) is.0 is.1

module _ {S : Type 0} (state : S → ShelfState) (may_leave : S → List ℕ → List ℕ → Type 0) (left_between : S → List ℕ → ℕ → ℕ → List ℕ → Type 0) where
  -- nothing was handed out
  pub stayed : (name : List ℕ) (make : Bool) (old new : S) → Stays (state old) (state new) name make → HandsOutNone state may_leave left_between name old new → KeepsOthers state may_leave left_between name old new
      → LeavesShelf state left_between old new
  stayed name make old new stays handed others = record {
    back = stays.out;
    files = λ f told.
        let is = stays.files f told in (
          is.0,
          is.1,
          λ n there. ⊎_elim
              (λ same. ap (λ (o : Option (List ℕ)). is_none o) (same n) ∙ there)
              (λ made. there_with f is.0 name [] n made.2 there) is.2,
        );
    time = λ f n told there.
        let is = some_of (f n) there in
        goes_on_kept ((state old).clock n) ((state new).clock n) (may_leave old n) (may_leave new n) (left_between old n) (left_between new n)
        (stayed_images state may_leave left_between name old new handed others f n is.0 told is.1);
  }

  -- one step after another
  pub leaves_shelf_then : (a b c : S) → LeavesShelf state left_between a b → LeavesShelf state left_between b c → LeavesShelf state left_between a c
  leaves_shelf_then a b c first second = record {
    back = λ n. second.back n ∙ first.back n;
    files = λ f told.
        let mid = first.files f told in
        let end = second.files mid.0 mid.1 in
        (end.0, end.1, λ n there. end.2 n (mid.2 n there));
    time = λ f n told there.
        let mid = first.files f told in
        goes_on_then ((state a).clock n) ((state b).clock n) ((state c).clock n) (left_between a n) (left_between b n) (left_between c n)
        (first.time f n told there) (second.time mid.0 n mid.1 (mid.2 n there));
  }

  pub leaves_shelf_same : (a : S) → LeavesShelf state left_between a a
  leaves_shelf_same a = record {
    back = λ n. refl;
    files = λ f told. (f, told, λ n there. there);
    time = λ f n told there. record { later = omega arith; same = λ s t x le left. left; kept = λ s t x left. left };
  }

  module _ {D : Type 0} (disk_state : D → State) (disk_left : D → List ℕ → Type 0) (disk_between : D → ℕ → ℕ → List ℕ → Type 0) (name : List ℕ) (make : Bool) (old mid new : S) (taken given : D)
      (takes : Takes (state old) (state mid) name make (disk_state taken)) (gives : Gives (state mid) (state new) name (disk_state given)) (still : StillTells (disk_state taken) (disk_state given)) where
    -- the files are those of before, with what the disk tells under the name
    pub given_files : (f : Files) → TellsFiles state old f → (f' : Files) × (b : List ℕ) × TellsFiles state new f' × ((disk_state given).contents ≡ Some b) × SameFiles (put f name (Some b)) f'
    given_files f told =
        let bytes = still_told (disk_state taken) (disk_state given) (unwrap_or (f name) []) still (takes.contents f told) in
        let out = takes.files f told in
        let back = gives.files bytes.0 bytes.1 out.0 out.1 in
        (back.0, bytes.0, back.1, bytes.1, λ n. back_with f out.0 back.0 name bytes.0 n out.2 back.2)

    given_out : (state old).out name ≡ false → (n : List ℕ) → (state new).out n ≡ (state old).out n
    given_out was n = elim (cases_Bool (bytes_eq n name)) [
      | inl is ↦ gives.out n ∙ ap (λ t. cond t false ((state mid).out n)) is ∙ sym (ap (state old).out (same_name n name is) ∙ was)
      | inr other ↦ gives.out n ∙ ap (λ t. cond t false ((state mid).out n)) other ∙ takes.out n ∙ ap (λ t. cond t true ((state old).out n)) other
    ]

    -- time goes on for the file that changed, and for the others
    gone_at : ChangesOnly state may_leave left_between name old new → (f : Files) (n b : List ℕ) → TellsFiles state old f → f n ≡ Some b → GoesOn ((state old).clock n) ((state new).clock n) (left_between old n) (left_between new n)
    gone_at changes f n b told is = elim (cases_Bool (bytes_eq n name)) [
      | inl named ↦ subst (λ (m : List ℕ). GoesOn ((state old).clock m) ((state new).clock m) (left_between old m) (left_between new m)) (sym (same_name n name named))
          (changes.file f b told (ap f (sym (same_name n name named)) ∙ is))
      | inr other ↦ goes_on_kept ((state old).clock n) ((state new).clock n) (may_leave old n) (may_leave new n) (left_between old n) (left_between new n) (changes.others n other)
    ]

    -- a file was handed out, time went on for its disk, and it came back
    pub came_back : (state old).out name ≡ false → HandsOut state may_leave left_between disk_state disk_left disk_between name old taken → TakesBack state may_leave left_between disk_state disk_left disk_between name new given
        → KeepsOthers state may_leave left_between name old mid → KeepsOthers state may_leave left_between name mid new
        → GoesOn (disk_state taken).clock (disk_state given).clock (disk_between taken) (disk_between given) → LeavesShelf state left_between old new
    came_back was handed back others others' goes = record {
      back = given_out was;
      files = λ f told.
          let is = given_files f told in
          (is.0, is.2, λ n there. there_with f is.0 name is.1 n is.4 there);
      time = λ f n told there.
          let is = some_of (f n) there in
          gone_at (gone_on state may_leave left_between name disk_state disk_left disk_between old mid new taken given handed back others others' goes) f n is.0 told is.1;
    }

    -- what stands with the disk taken out stands on the shelf
    pub stands_on_shelf : (store : Store) (taps taps' : List Gauge) → HasStore state old taps store → (lost : List ℕ → Bool) (desk : Desk) → DiskStands disk_state store name taps' given lost desk → ShelfStands state new taps' lost desk
    stands_on_shelf store taps taps' (f, told, same, are) lost desk stands =
        let is = given_files f told in (
          is.0,
          is.2,
          λ n kept. elim (cases_Bool (bytes_eq n name)) [
            | inl named ↦
                let at : n ≡ name = same_name n name named in
                let here = stands.holds (ap lost (sym at) ∙ kept) in
                let bytes : is.1 ≡ here.0 = some_same _ _ _ is.3 here.1 in
                is.4 n ∙ ap (λ (t : Bool). cond t (Some is.1) (f n)) named ∙ ap Some bytes ∙ sym here.2 ∙ ap (files_closed desk) (sym at)
            | inr other ↦ is.4 n ∙ ap (λ (t : Bool). cond t (Some is.1) (f n)) other ∙ same n ∙ sym (stands.others n other)
          ],
          stands.are,
        )
      where
        some_same : (o : Option (List ℕ)) (b c : List ℕ) → o ≡ Some b → o ≡ Some c → b ≡ c
        some_same o b c is is' = cc

  -- a shelf that handed nothing out: only a name that is lost may have changed
  pub stayed_stands : (name : List ℕ) (make : Bool) (old new : S) → Stays (state old) (state new) name make → (store : Store) (taps taps' : List Gauge) → taps' ≡ taps → HasStore state old taps store → (lost : List ℕ → Bool)
      → (make ≡ true → (n : List ℕ) → lost n ≡ false → bytes_eq n name ≡ false) → ShelfStands state new taps' lost (closed_desk store)
  stayed_stands name make old new stays store taps taps' still (f, told, same, are) lost meant =
      let is = stays.files f told in (
        is.0,
        is.1,
        λ n kept. ⊎_elim
            (λ same'. same' n ∙ same n)
            (λ made. made.2 n ∙ ap (λ (t : Bool). cond t (Some []) (f n)) (meant made.0 n kept) ∙ same n) is.2,
        are ∙ sym still,
      )

-- .. or that nothing was asked of
pub still_stands : {S : Type 0} (state : S → ShelfState) (shelf : S) (store : Store) (taps taps' : List Gauge) → taps' ≡ taps → HasStore state shelf taps store → ShelfStands state shelf taps' none_lost (closed_desk store)
still_stands state shelf store taps taps' kept (f, told, same, are) = (f, told, λ n found. same n, are ∙ sym kept)

-- where none is open and no name is lost, the shelf has the files, and the run its taps
pub has_store : {S : Type 0} (state : S → ShelfState) (shelf : S) (store : Store) (taps : List Gauge) → ShelfStands state shelf taps none_lost (closed_desk store) → HasStore state shelf taps store
has_store state shelf store taps (f, told, same, are) = (f, told, λ n. same n refl, are)
