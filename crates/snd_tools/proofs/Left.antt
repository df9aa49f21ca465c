-- How a shelf is left where the file of one name changes: where no file was handed out, where it came back changed, and where
-- another one was held meanwhile.
use Rattle.std.proofs.Common.{◌≡◌, ◌⊎◌, inl, inr, ⊎_elim, ℕ, List, [], Bool, false, true, Option, None, Some, cond, refl, sym, ◌∙◌, ap, subst}
use Rattle.std.specs.Prelude.{is_none, unwrap_or}
use Rattle.std.specs.Str.{bytes_eq}
use Rattle.std.proofs.lemmas.Bool.{cases_Bool}
use Rattle.snd_disk.proofs.Public.{goes_on_kept, goes_on_then, keeps_images_then, same_bytes, same_name, gone_on, handed_there, stayed_images}
use Rattle.snd_disk.specs.declared.disk.Disk.{Ghosts as DiskMeaning}
use Rattle.snd_disk.specs.declared.shelf.Shelf.{Ghosts as ShelfMeaning}
use Rattle.snd_disk.specs.Device.{GoesOnFrom, KeepsImagesOn}
use Rattle.snd_disk.specs.Shelf.{Files, Gives, KeepsFiles, SameFiles, ShelfState, Stays, Takes, put}
use Rattle.snd_disk.specs.Shelves.{HandsOut, HandsOutNone, KeepsFileImages, KeepsImagesOf, KeepsOthers, TakesBack, TellsFiles}
use Rattle.snd_disk.specs.State.{GoesOn, KeepsImages, State}
use Rattle.snd_tools.specs.Done.{Done, files_after}
use Rattle.snd_tools.specs.Shelves.{ChangesOne, HasFiles}
use Rattle.snd_tools.proofs.Names.{MakesOnly, after_beside, after_same, apart_back, back_with, put_at, put_beside, some_of}

-- the names that are out are those of before, once a disk is back
out_back : (old mid mid' new : ShelfState) (name : List ℕ) (make : Bool) (disk disk' : State) → Takes old mid name make disk → ((n : List ℕ) → mid'.out n ≡ mid.out n) → Gives mid' new name disk'
    → old.out name ≡ false → (n : List ℕ) → new.out n ≡ old.out n
out_back old mid mid' new name make disk disk' takes same gives was n = elim (cases_Bool (bytes_eq n name)) [
  | inl is ↦ gives.out n ∙ ap (λ (t : Bool). cond t false (mid'.out n)) is ∙ sym (ap old.out (same_name n name is) ∙ was)
  | inr other ↦ gives.out n ∙ ap (λ (t : Bool). cond t false (mid'.out n)) other ∙ same n ∙ takes.out n ∙ ap (λ (t : Bool). cond t true (old.out n)) other
]

module _ {S D : Type 0} (s : ShelfMeaning S D) where
  kept_itself : (old : S) (n : List ℕ) → KeepsImagesOf s.state s.may_leave s.left_between n old old
  kept_itself old n = record { same_time = refl; now = record { no_more = λ x left. left; no_fewer = λ x left. left }; no_more = λ t t' x left. left; no_fewer = λ t t' x left. left }

  kept_then : (old mid new : S) (n : List ℕ) → KeepsImagesOf s.state s.may_leave s.left_between n old mid → KeepsImagesOf s.state s.may_leave s.left_between n mid new
      → KeepsImagesOf s.state s.may_leave s.left_between n old new
  kept_then old mid new n first second =
      keeps_images_then ((s.state old).clock n) ((s.state mid).clock n) ((s.state new).clock n) (s.may_leave old n) (s.may_leave mid n) (s.may_leave new n)
      (s.left_between old n) (s.left_between mid n) (s.left_between new n) first second

  time_kept : (old new : S) (n : List ℕ) → KeepsImagesOf s.state s.may_leave s.left_between n old new → GoesOn ((s.state old).clock n) ((s.state new).clock n) (s.left_between old n) (s.left_between new n)
  time_kept old new n kept = goes_on_kept ((s.state old).clock n) ((s.state new).clock n) (s.may_leave old n) (s.may_leave new n) (s.left_between old n) (s.left_between new n) kept

  -- no file has changed
  pub kept_changes : (name : List ℕ) (old new : S) → ((n : List ℕ) → (s.state new).out n ≡ (s.state old).out n) → KeepsFiles (s.state old) (s.state new)
      → KeepsFileImages s.state s.may_leave s.left_between old new → ChangesOne s name old new
  kept_changes name old new back files images = record {
    back = back;
    files = λ f told. let is = files f told in (is.0, is.1, λ n other. is.2 n, λ there. ap (λ (o : Option (List ℕ)). is_none o) (is.2 name) ∙ there);
    time = λ f told there. let is = some_of (f name) there in time_kept old new name (images f name is.0 told is.1);
    others = λ f n told there other. let is = some_of (f n) there in images f n is.0 told is.1;
  }

  pub unchanged : (name : List ℕ) (old : S) → ChangesOne s name old old
  unchanged name old = kept_changes name old old (λ n. refl) (λ f told. (f, told, λ n. refl)) (λ f n b told is. kept_itself old n)

  -- .. since the one of another name was not there
  pub not_taken_changes : (name input : List ℕ) (old new : S) → Stays (s.state old) (s.state new) input false → HandsOutNone s.state s.may_leave s.left_between input old new
      → KeepsOthers s.state s.may_leave s.left_between input old new → ChangesOne s name old new
  not_taken_changes name input old new stays handed others =
      kept_changes name old new stays.out (λ f told. same_files f told (stays.files f told)) (stayed_images s.state s.may_leave s.left_between input old new handed others)
    where
      same_files : (f : Files) → TellsFiles s.state old f → (f' : Files) × ((s.state new).files ≡ Some f') × (SameFiles f f' ⊎ ((false ≡ true) × (f input ≡ None) × SameFiles (put f input (Some [])) f'))
          → (f' : Files) × ((s.state new).files ≡ Some f') × SameFiles f f'
      same_files f told (f', is, inl same) = (f', is, same)
      same_files f told (f', is, inr (made, none, with_it)) = absurd (cc)

  -- no file was handed out
  pub stayed_changes : (name : List ℕ) (make : Bool) (old new : S) → Stays (s.state old) (s.state new) name make → HandsOutNone s.state s.may_leave s.left_between name old new
      → KeepsOthers s.state s.may_leave s.left_between name old new → ChangesOne s name old new
  stayed_changes name make old new stays handed others = record {
    back = stays.out;
    files = λ f told.
        let is = stays.files f told in (
          is.0,
          is.1,
          λ n other. ⊎_elim (λ same. same n) (λ made. made.2 n ∙ put_beside f name n (Some []) other) is.2,
          λ there. ⊎_elim (λ same. ap (λ (o : Option (List ℕ)). is_none o) (same name) ∙ there)
              (λ made. ap (λ (o : Option (List ℕ)). is_none o) (made.2 name ∙ put_at f name name (Some []) (same_bytes name))) is.2,
        );
    time = λ f told there.
        let is = some_of (f name) there in
        time_kept old new name (handed_there (f name) is.0 ((s.state old).clock name) ((s.state new).clock name) (s.may_leave old name) (s.may_leave new name) (s.left_between old name) (s.left_between new name) is.1 (handed f told));
    others = λ f n told there other. others n other;
  }

  module _ (d : DiskMeaning D) (old mid new : S) (taken given : D) (name : List ℕ) (make : Bool) (takes : Takes (s.state old) (s.state mid) name make (d.state taken))
      (gives : Gives (s.state mid) (s.state new) name (d.state given)) where
    -- the files once one came back with these bytes
    pub given_files : (files : Files) (b : List ℕ) → TellsFiles s.state old files → (d.state given).contents ≡ Some b → HasFiles s.state new (put files name (Some b))
    given_files files b told bytes =
        let out = takes.files files told in
        let back = gives.files b bytes out.0 out.1 in
        (back.0, back.1, back_with files out.0 back.0 name b out.2 back.2)

    module _ (handed : HandsOut s.state s.may_leave s.left_between d.state d.may_leave d.left_between name old taken) (back : TakesBack s.state s.may_leave s.left_between d.state d.may_leave d.left_between name new given)
        (others : KeepsOthers s.state s.may_leave s.left_between name old mid) (others' : KeepsOthers s.state s.may_leave s.left_between name mid new) where
      -- it came back, and time has gone on for its disk
      pub given_changes : (s.state old).out name ≡ false → ((b : List ℕ) → (d.state taken).contents ≡ Some b → (b' : List ℕ) × ((d.state given).contents ≡ Some b'))
          → GoesOnFrom d.state d.left_between taken given → ChangesOne s name old new
      given_changes was tells goes =
          let only = gone_on s.state s.may_leave s.left_between name d.state d.may_leave d.left_between old mid new taken given handed back others others' goes in
          record {
            back = out_back (s.state old) (s.state mid) (s.state mid) (s.state new) name make (d.state taken) (d.state given) takes (λ n. refl) gives was;
            files = λ f told.
                let bytes = tells (unwrap_or (f name) []) (takes.contents f told) in
                let has = given_files f bytes.0 told bytes.1 in
                (has.0, has.1, λ n other. has.2 n ∙ put_beside f name n (Some bytes.0) other, λ there. ap (λ (o : Option (List ℕ)). is_none o) (has.2 name ∙ put_at f name name (Some bytes.0) (same_bytes name)));
            time = λ f told there. let is = some_of (f name) there in only.file f is.0 told is.1;
            others = λ f n told there other. only.others n other;
          }

  -- A file was held, and came back as it was; meanwhile that of another name has changed.
  module _ (d : DiskMeaning D) (old mid mid' new : S) (taken given : D) (input output : List ℕ) (takes : Takes (s.state old) (s.state mid) input false (d.state taken))
      (same : (d.state given).contents ≡ (d.state taken).contents) (gives : Gives (s.state mid') (s.state new) input (d.state given)) (apart : bytes_eq input output ≡ false) where
    bytes_back : (f : Files) (b : List ℕ) → TellsFiles s.state old f → f input ≡ Some b → (d.state given).contents ≡ Some b
    bytes_back f b told is = same ∙ takes.contents f told ∙ ap (λ (o : Option (List ℕ)). Some (unwrap_or o [])) is

    -- what was done beside it is done
    pub held_files : (todo : Done) (f : Files) (told : TellsFiles s.state old f) → MakesOnly output todo
        → HasFiles s.state mid' (files_after todo (takes.files f told).0) → HasFiles s.state new (files_after todo f)
    held_files todo f told only has =
        let there = takes.there f told refl in
        let end = gives.files there.0 (bytes_back f there.0 told there.1) has.0 has.1 in
        (end.0, end.1, λ n. restored (takes.files f told).0 has.0 end.0 there.0 there.1 (takes.files f told).2 has.2 end.2 n)
      where
        restored : (f' f'' f''' : Files) (b : List ℕ) → f input ≡ Some b → SameFiles (put f input None) f' → ((n : List ℕ) → f'' n ≡ files_after todo f' n) → SameFiles (put f'' input (Some b)) f''' → (n : List ℕ) → f''' n ≡ files_after todo f n
        restored f' f'' f''' b is out done back n = elim (cases_Bool (bytes_eq n input)) [
          | inl named ↦ back n ∙ put_at f'' input n (Some b) named ∙ sym (after_beside output todo f n only (ap (λ (m : List ℕ). bytes_eq m output) (same_name n input named) ∙ apart) ∙ ap f (same_name n input named) ∙ is)
          | inr other ↦ back n ∙ put_beside f'' input n (Some b) other ∙ done n ∙ after_same todo f f' n (out n ∙ put_beside f input n None other)
        ]

    module _ (handed : HandsOut s.state s.may_leave s.left_between d.state d.may_leave d.left_between input old taken) (back : TakesBack s.state s.may_leave s.left_between d.state d.may_leave d.left_between input new given)
        (others : KeepsOthers s.state s.may_leave s.left_between input old mid) (others' : KeepsOthers s.state s.may_leave s.left_between input mid' new)
        (images : KeepsImagesOn d.state d.may_leave d.left_between taken given) (changes : ChangesOne s output mid mid') where
      -- what is held keeps its images
      input_kept : (f : Files) (b : List ℕ) → TellsFiles s.state old f → f input ≡ Some b → KeepsImagesOf s.state s.may_leave s.left_between input old new
      input_kept f b told is =
          keeps_images_then ((s.state old).clock input) (d.state taken).clock ((s.state new).clock input) (s.may_leave old input) (d.may_leave taken) (s.may_leave new input) (s.left_between old input) (d.left_between taken) (s.left_between new input)
          (handed_there (f input) b ((s.state old).clock input) (d.state taken).clock (s.may_leave old input) (d.may_leave taken) (s.left_between old input) (d.left_between taken) is (handed f told))
          (keeps_images_then (d.state taken).clock (d.state given).clock ((s.state new).clock input) (d.may_leave taken) (d.may_leave given) (s.may_leave new input) (d.left_between taken) (d.left_between given) (s.left_between new input) images back)

      there_out : (f f' : Files) (n : List ℕ) → SameFiles (put f input None) f' → bytes_eq n input ≡ false → is_none (f n) ≡ false → is_none (f' n) ≡ false
      there_out f f' n out other there = ap (λ (o : Option (List ℕ)). is_none o) (out n ∙ put_beside f input n None other) ∙ there

      pub held_changes : (s.state old).out input ≡ false → ChangesOne s output old new
      held_changes was = record {
        back = out_back (s.state old) (s.state mid) (s.state mid') (s.state new) input false (d.state taken) (d.state given) takes changes.back gives was;
        files = λ f told.
            let there = takes.there f told refl in
            let out = takes.files f told in
            let part = changes.files out.0 out.1 in
            let end = gives.files there.0 (bytes_back f there.0 told there.1) part.0 part.1 in (
              end.0,
              end.1,
              beside f out.0 part.0 end.0 there.0 there.1 out.2 part.2 end.2,
              λ is. ap (λ (o : Option (List ℕ)). is_none o) (end.2 output ∙ put_beside part.0 input output (Some there.0) (apart_back input output apart)) ∙ part.3 (there_out f out.0 output out.2 (apart_back input output apart) is),
            );
        time = λ f told there.
            let out = takes.files f told in
            goes_on_then ((s.state old).clock output) ((s.state mid).clock output) ((s.state new).clock output) (s.left_between old output) (s.left_between mid output) (s.left_between new output)
            (time_kept old mid output (others output (apart_back input output apart)))
            (goes_on_then ((s.state mid).clock output) ((s.state mid').clock output) ((s.state new).clock output) (s.left_between mid output) (s.left_between mid' output) (s.left_between new output)
            (changes.time out.0 out.1 (there_out f out.0 output out.2 (apart_back input output apart) there)) (time_kept mid' new output (others' output (apart_back input output apart))));
        others = λ f n told there other.
            elim (cases_Bool (bytes_eq n input)) [
              | inl named ↦ kept_named f n told named
              | inr beside ↦
                  let out = takes.files f told in
                  kept_then old mid new n (others n beside) (kept_then mid mid' new n (changes.others out.0 n out.1 (there_out f out.0 n out.2 beside there) other) (others' n beside))
            ];
      }
        where
          beside : (f f' f'' f''' : Files) (b : List ℕ) → f input ≡ Some b → SameFiles (put f input None) f' → ((n : List ℕ) → bytes_eq n output ≡ false → f'' n ≡ f' n) → SameFiles (put f'' input (Some b)) f'''
              → (n : List ℕ) → bytes_eq n output ≡ false → f''' n ≡ f n
          beside f f' f'' f''' b is out part end n other = elim (cases_Bool (bytes_eq n input)) [
            | inl named ↦ end n ∙ put_at f'' input n (Some b) named ∙ sym (ap f (same_name n input named) ∙ is)
            | inr apart' ↦ end n ∙ put_beside f'' input n (Some b) apart' ∙ part n other ∙ out n ∙ put_beside f input n None apart'
          ]

          kept_named : (f : Files) (n : List ℕ) → TellsFiles s.state old f → bytes_eq n input ≡ true → KeepsImagesOf s.state s.may_leave s.left_between n old new
          kept_named f n told named =
              let there = takes.there f told refl in
              subst (λ (m : List ℕ). KeepsImagesOf s.state s.may_leave s.left_between m old new) (sym (same_name n input named)) (input_kept f there.0 told there.1)
