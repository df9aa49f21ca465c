-- How a shelf is left where the files of several names change: where no file was handed out, where one came back changed, and where
-- another one was held meanwhile.
use Rattle.std.proofs.Common.{◌≡◌, ◌∙◌, ap, sym, refl, subst, inl, inr, ℕ, Bool, true, false, cond, List, [], ◌∷◌, ◌++◌, Option, None, Some, length}
use Rattle.std.proofs.lemmas.Bool.{cases_Bool}
use Rattle.std.specs.Prelude.{is_none, unwrap_or}
use Rattle.std.specs.Str.{bytes_eq}
use Rattle.snd_disk.proofs.Public.{goes_on_kept, goes_on_then, handed_there, keeps_images_then, same_name}
use Rattle.snd_disk.specs.declared.disk.Disk.{Ghosts as DiskMeaning}
use Rattle.snd_disk.specs.declared.shelf.Shelf.{Ghosts as ShelfMeaning}
use Rattle.snd_disk.specs.Device.{GoesOnFrom, KeepsImagesOn}
use Rattle.snd_disk.specs.Shelf.{Files, Gives, SameFiles, ShelfState, Takes, put}
use Rattle.snd_disk.specs.Shelves.{HandsOut, KeepsImagesOf, KeepsOthers, TakesBack, TellsFiles}
use Rattle.snd_disk.specs.State.{GoesOn, State}
use Rattle.snd_inputs.specs.Looking.{ReadsFiles}
use Rattle.snd_tools.proofs.Public.{put_at, put_beside, some_of}
use Rattle.snd_tools.specs.Shelves.{ChangesOne, HasFiles}
use Rattle.snd_deinterleave.specs.Among.{ChangesAmong, is_among}
use Rattle.snd_deinterleave.specs.Outputs.{puts}
use Rattle.snd_deinterleave.proofs.Putting.{puts_back}
use Rattle.snd_deinterleave.proofs.Repeating.{among_more, other_than}

-- the names that are out are those of before, once a disk is back
out_back : (old mid mid' new : ShelfState) (name : List ℕ) (make : Bool) (disk disk' : State) → Takes old mid name make disk → ((n : List ℕ) → mid'.out n ≡ mid.out n) → Gives mid' new name disk'
    → old.out name ≡ false → (n : List ℕ) → new.out n ≡ old.out n
out_back old mid mid' new name make disk disk' takes same gives was n = elim (cases_Bool (bytes_eq n name)) [
  | inl is ↦ gives.out n ∙ ap (λ (t : Bool). cond t false (mid'.out n)) is ∙ sym (ap old.out (same_name n name is) ∙ was)
  | inr other ↦ gives.out n ∙ ap (λ (t : Bool). cond t false (mid'.out n)) other ∙ same n ∙ takes.out n ∙ ap (λ (t : Bool). cond t true (old.out n)) other
]

-- a file that is there is there still once one of another name was taken out
there_out : (name : List ℕ) (f f' : Files) (n : List ℕ) → SameFiles (put f name None) f' → bytes_eq n name ≡ false → is_none (f n) ≡ false → is_none (f' n) ≡ false
there_out name f f' n out other there = ap (λ (o : Option (List ℕ)). is_none o) (out n ∙ put_beside f name n None other) ∙ there

-- and it is there once that one came back
there_back : (name : List ℕ) (b : List ℕ) (f f' f'' f''' : Files) (n : List ℕ) → SameFiles (put f name None) f' → (is_none (f' n) ≡ false → is_none (f'' n) ≡ false)
    → SameFiles (put f'' name (Some b)) f''' → is_none (f n) ≡ false → is_none (f''' n) ≡ false
there_back name b f f' f'' f''' n out stays back there = elim (cases_Bool (bytes_eq n name)) [
  | inl is ↦ ap (λ (o : Option (List ℕ)). is_none o) (back n ∙ put_at f'' name n (Some b) is)
  | inr other ↦ ap (λ (o : Option (List ℕ)). is_none o) (back n ∙ put_beside f'' name n (Some b) other) ∙ stays (there_out name f f' n out other there)
]

module _ {S D : Type 0} (s : ShelfMeaning S D) where
  kept_then : (old mid new : S) (n : List ℕ) → KeepsImagesOf s.state s.may_leave s.left_between n old mid → KeepsImagesOf s.state s.may_leave s.left_between n mid new
      → KeepsImagesOf s.state s.may_leave s.left_between n old new
  kept_then old mid new n first second =
      keeps_images_then ((s.state old).clock n) ((s.state mid).clock n) ((s.state new).clock n) (s.may_leave old n) (s.may_leave mid n) (s.may_leave new n)
      (s.left_between old n) (s.left_between mid n) (s.left_between new n) first second

  -- time goes on for the file of a name
  GoesOnAt : S → S → List ℕ → Type 0
  GoesOnAt old new n = GoesOn ((s.state old).clock n) ((s.state new).clock n) (s.left_between old n) (s.left_between new n)

  time_kept : (old new : S) (n : List ℕ) → KeepsImagesOf s.state s.may_leave s.left_between n old new → GoesOnAt old new n
  unfolding GoesOnAt
  time_kept old new n kept = goes_on_kept ((s.state old).clock n) ((s.state new).clock n) (s.may_leave old n) (s.may_leave new n) (s.left_between old n) (s.left_between new n) kept

  time_then : (old mid new : S) (n : List ℕ) → GoesOnAt old mid n → GoesOnAt mid new n → GoesOnAt old new n
  unfolding GoesOnAt
  time_then old mid new n first second =
      goes_on_then ((s.state old).clock n) ((s.state mid).clock n) ((s.state new).clock n) (s.left_between old n) (s.left_between mid n) (s.left_between new n) first second

  time_as : (old new : S) (n m : List ℕ) → n ≡ m → GoesOnAt old new m → GoesOnAt old new n
  time_as old new n m same goes = subst (GoesOnAt old new) (sym same) goes

  -- files were only read
  pub reads_among : (names : List (List ℕ)) (old new : S) → ReadsFiles s old new → ChangesAmong s names old new
  unfolding GoesOnAt
  reads_among names old new reads = record {
    back = reads.back;
    files = λ f told. let is = reads.files f told in (is.0, is.1, λ n other. is.2 n, λ n there. ap (λ (o : Option (List ℕ)). is_none o) (is.2 n) ∙ there);
    time = λ f n told there. let is = some_of (f n) there in time_kept old new n (reads.images f n is.0 told is.1);
    others = λ f n told there other. let is = some_of (f n) there in reads.images f n is.0 told is.1;
  }

  -- one of the files has changed
  pub one_among : (names : List (List ℕ)) (name : List ℕ) (old new : S) → is_among names name ≡ true → ChangesOne s name old new → ChangesAmong s names old new
  unfolding GoesOnAt
  one_among names name old new among changes = record {
    back = changes.back;
    files = λ f told.
        let is = changes.files f told in
        (is.0, is.1, λ n none. is.2 n (other_than names name n among none), λ n there. stays f is.0 n is.2 is.3 there);
    time = λ f n told there.
        elim (cases_Bool (bytes_eq n name)) [
          | inl same ↦ time_as old new n name (same_name n name same) (changes.time f told (sym (ap (λ (m : List ℕ). is_none (f m)) (same_name n name same)) ∙ there))
          | inr other ↦ time_kept old new n (changes.others f n told there other)
        ];
    others = λ f n told there none. changes.others f n told there (other_than names name n among none);
  }
    where
      stays : (f f' : Files) (n : List ℕ) → ((n : List ℕ) → bytes_eq n name ≡ false → f' n ≡ f n) → (is_none (f name) ≡ false → is_none (f' name) ≡ false) → is_none (f n) ≡ false → is_none (f' n) ≡ false
      stays f f' n others own there = elim (cases_Bool (bytes_eq n name)) [
        | inl same ↦ ap (λ (m : List ℕ). is_none (f' m)) (same_name n name same) ∙ own (sym (ap (λ (m : List ℕ). is_none (f m)) (same_name n name same)) ∙ there)
        | inr other ↦ ap (λ (o : Option (List ℕ)). is_none o) (others n other) ∙ there
      ]

  -- files were only read, and then some have changed
  pub among_after : (names : List (List ℕ)) (old mid new : S) → ReadsFiles s old mid → ChangesAmong s names mid new → ChangesAmong s names old new
  unfolding GoesOnAt
  among_after names old mid new reads changes = record {
    back = λ n. changes.back n ∙ reads.back n;
    files = λ f told.
        let read = reads.files f told in
        let part = changes.files read.0 read.1 in
        (part.0, part.1, λ n none. part.2 n none ∙ read.2 n, λ n there. part.3 n (still f read.0 n read.2 there));
    time = λ f n told there.
        let is = some_of (f n) there in
        let read = reads.files f told in
        time_then old mid new n (time_kept old mid n (reads.images f n is.0 told is.1)) (changes.time read.0 n read.1 (still f read.0 n read.2 there));
    others = λ f n told there none.
        let is = some_of (f n) there in
        let read = reads.files f told in
        kept_then old mid new n (reads.images f n is.0 told is.1) (changes.others read.0 n read.1 (still f read.0 n read.2 there) none);
  }
    where
      still : (f f' : Files) (n : List ℕ) → SameFiles f f' → is_none (f n) ≡ false → is_none (f' n) ≡ false
      still f f' n same there = ap (λ (o : Option (List ℕ)). is_none o) (same n) ∙ there

  -- A file was taken out, and came back changed; meanwhile those of other names have changed.
  module _ (d : DiskMeaning D) (names : List (List ℕ)) (old mid mid' new : S) (taken given : D) (name : List ℕ) (make : Bool) (takes : Takes (s.state old) (s.state mid) name make (d.state taken))
      (changes : ChangesAmong s names mid mid') (gives : Gives (s.state mid') (s.state new) name (d.state given)) where
    -- all of them are made
    pub given_puts : (file : ℕ → List ℕ) (files : Files) (told : TellsFiles s.state old files) → is_among names name ≡ false → (d.state given).contents ≡ Some (file (length names))
        → HasFiles s.state mid' (puts names file 0 (takes.files files told).0) → HasFiles s.state new (puts (names ++ name ∷ []) file 0 files)
    given_puts file files told none bytes has =
        let out = takes.files files told in
        let end = gives.files (file (length names)) bytes has.0 has.1 in
        (end.0, end.1, puts_back names name file files out.0 has.0 end.0 none out.2 has.2 end.2)

    module _ (handed : HandsOut s.state s.may_leave s.left_between d.state d.may_leave d.left_between name old taken) (back : TakesBack s.state s.may_leave s.left_between d.state d.may_leave d.left_between name new given)
        (others : KeepsOthers s.state s.may_leave s.left_between name old mid) (others' : KeepsOthers s.state s.may_leave s.left_between name mid' new) (goes : GoesOnFrom d.state d.left_between taken given) where
      time_named : (f : Files) (b : List ℕ) → TellsFiles s.state old f → f name ≡ Some b → GoesOnAt old new name
      unfolding GoesOnAt
      time_named f b told is =
          goes_on_then ((s.state old).clock name) (d.state taken).clock ((s.state new).clock name) (s.left_between old name) (d.left_between taken) (s.left_between new name)
          (goes_on_kept _ _ (s.may_leave old name) (d.may_leave taken) _ _
          (handed_there (f name) b ((s.state old).clock name) (d.state taken).clock (s.may_leave old name) (d.may_leave taken) (s.left_between old name) (d.left_between taken) is (handed f told)))
          (goes_on_then (d.state taken).clock (d.state given).clock ((s.state new).clock name) (d.left_between taken) (d.left_between given) (s.left_between new name) goes
          (goes_on_kept _ _ (d.may_leave given) (s.may_leave new name) _ _ back))

      pub given_among : (s.state old).out name ≡ false → ((b : List ℕ) → (d.state taken).contents ≡ Some b → (b' : List ℕ) × ((d.state given).contents ≡ Some b')) → ChangesAmong s (names ++ name ∷ []) old new
      unfolding GoesOnAt
      given_among was tells = record {
        back = out_back (s.state old) (s.state mid) (s.state mid') (s.state new) name make (d.state taken) (d.state given) takes changes.back gives was;
        files = λ f told.
            let out = takes.files f told in
            let part = changes.files out.0 out.1 in
            let bytes = tells (unwrap_or (f name) []) (takes.contents f told) in
            let end = gives.files bytes.0 bytes.1 part.0 part.1 in (
              end.0,
              end.1,
              λ n none.
                  let both = among_more names name n none in
                  end.2 n ∙ put_beside part.0 name n (Some bytes.0) both.1 ∙ part.2 n both.0 ∙ out.2 n ∙ put_beside f name n None both.1,
              λ n there. there_back name bytes.0 f out.0 part.0 end.0 n out.2 (part.3 n) end.2 there,
            );
        time = λ f n told there.
            elim (cases_Bool (bytes_eq n name)) [
              | inl same ↦
                  let is = some_of (f name) (sym (ap (λ (m : List ℕ). is_none (f m)) (same_name n name same)) ∙ there) in
                  time_as old new n name (same_name n name same) (time_named f is.0 told is.1)
              | inr other ↦
                  let out = takes.files f told in
                  time_then old mid new n (time_kept old mid n (others n other))
                  (time_then mid mid' new n (changes.time out.0 n out.1 (there_out name f out.0 n out.2 other there)) (time_kept mid' new n (others' n other)))
            ];
        others = λ f n told there none.
            let both = among_more names name n none in
            let out = takes.files f told in
            kept_then old mid new n (others n both.1) (kept_then mid mid' new n (changes.others out.0 n out.1 (there_out name f out.0 n out.2 both.1 there) both.0) (others' n both.1));
      }

  -- A file was held, and came back as it was; meanwhile those of other names have changed.
  module _ (d : DiskMeaning D) (names : List (List ℕ)) (old mid mid' new : S) (taken given : D) (input : List ℕ) (takes : Takes (s.state old) (s.state mid) input false (d.state taken))
      (same : (d.state given).contents ≡ (d.state taken).contents) (gives : Gives (s.state mid') (s.state new) input (d.state given)) where
    bytes_back : (f : Files) (b : List ℕ) → TellsFiles s.state old f → f input ≡ Some b → (d.state given).contents ≡ Some b
    bytes_back f b told is = same ∙ takes.contents f told ∙ ap (λ (o : Option (List ℕ)). Some (unwrap_or o [])) is

    -- what was done beside it is done
    pub held_puts : (after : Files → Files) (f : Files) (told : TellsFiles s.state old f) → ((f f' : Files) (n : List ℕ) → f' n ≡ f n → after f' n ≡ after f n) → after f input ≡ f input
        → HasFiles s.state mid' (after (takes.files f told).0) → HasFiles s.state new (after f)
    held_puts after f told rests beside has =
        let there = takes.there f told refl in
        let end = gives.files there.0 (bytes_back f there.0 told there.1) has.0 has.1 in
        (end.0, end.1, λ n. restored (takes.files f told).0 has.0 end.0 there.0 there.1 (takes.files f told).2 has.2 end.2 n)
      where
        restored : (f' f'' f''' : Files) (b : List ℕ) → f input ≡ Some b → SameFiles (put f input None) f' → ((n : List ℕ) → f'' n ≡ after f' n) → SameFiles (put f'' input (Some b)) f''' → (n : List ℕ) → f''' n ≡ after f n
        restored f' f'' f''' b is out done back n = elim (cases_Bool (bytes_eq n input)) [
          | inl named ↦ back n ∙ put_at f'' input n (Some b) named ∙ sym (ap (after f) (same_name n input named) ∙ beside ∙ is)
          | inr other ↦ back n ∙ put_beside f'' input n (Some b) other ∙ done n ∙ rests f f' n (out n ∙ put_beside f input n None other)
        ]

    module _ (handed : HandsOut s.state s.may_leave s.left_between d.state d.may_leave d.left_between input old taken) (back : TakesBack s.state s.may_leave s.left_between d.state d.may_leave d.left_between input new given)
        (others : KeepsOthers s.state s.may_leave s.left_between input old mid) (others' : KeepsOthers s.state s.may_leave s.left_between input mid' new)
        (images : KeepsImagesOn d.state d.may_leave d.left_between taken given) (changes : ChangesAmong s names mid mid') where
      -- what is held keeps its images
      input_kept : (f : Files) (b : List ℕ) → TellsFiles s.state old f → f input ≡ Some b → KeepsImagesOf s.state s.may_leave s.left_between input old new
      input_kept f b told is =
          keeps_images_then ((s.state old).clock input) (d.state taken).clock ((s.state new).clock input) (s.may_leave old input) (d.may_leave taken) (s.may_leave new input) (s.left_between old input) (d.left_between taken) (s.left_between new input)
          (handed_there (f input) b ((s.state old).clock input) (d.state taken).clock (s.may_leave old input) (d.may_leave taken) (s.left_between old input) (d.left_between taken) is (handed f told))
          (keeps_images_then (d.state taken).clock (d.state given).clock ((s.state new).clock input) (d.may_leave taken) (d.may_leave given) (s.may_leave new input) (d.left_between taken) (d.left_between given) (s.left_between new input) images back)

      kept_named : (f : Files) (n : List ℕ) → TellsFiles s.state old f → bytes_eq n input ≡ true → KeepsImagesOf s.state s.may_leave s.left_between n old new
      kept_named f n told named =
          let there = takes.there f told refl in
          subst (λ (m : List ℕ). KeepsImagesOf s.state s.may_leave s.left_between m old new) (sym (same_name n input named)) (input_kept f there.0 told there.1)

      pub held_among : (s.state old).out input ≡ false → ChangesAmong s names old new
      unfolding GoesOnAt
      held_among was = record {
        back = out_back (s.state old) (s.state mid) (s.state mid') (s.state new) input false (d.state taken) (d.state given) takes changes.back gives was;
        files = λ f told.
            let there = takes.there f told refl in
            let out = takes.files f told in
            let part = changes.files out.0 out.1 in
            let end = gives.files there.0 (bytes_back f there.0 told there.1) part.0 part.1 in (
              end.0,
              end.1,
              beside f out.0 part.0 end.0 there.0 there.1 out.2 part.2 end.2,
              λ n is. there_back input there.0 f out.0 part.0 end.0 n out.2 (part.3 n) end.2 is,
            );
        time = λ f n told there.
            elim (cases_Bool (bytes_eq n input)) [
              | inl named ↦ time_kept old new n (kept_named f n told named)
              | inr other ↦
                  let out = takes.files f told in
                  time_then old mid new n (time_kept old mid n (others n other))
                  (time_then mid mid' new n (changes.time out.0 n out.1 (there_out input f out.0 n out.2 other there)) (time_kept mid' new n (others' n other)))
            ];
        others = λ f n told there none.
            elim (cases_Bool (bytes_eq n input)) [
              | inl named ↦ kept_named f n told named
              | inr other ↦
                  let out = takes.files f told in
                  kept_then old mid new n (others n other) (kept_then mid mid' new n (changes.others out.0 n out.1 (there_out input f out.0 n out.2 other there) none) (others' n other))
            ];
      }
        where
          beside : (f f' f'' f''' : Files) (b : List ℕ) → f input ≡ Some b → SameFiles (put f input None) f' → ((n : List ℕ) → is_among names n ≡ false → f'' n ≡ f' n) → SameFiles (put f'' input (Some b)) f'''
              → (n : List ℕ) → is_among names n ≡ false → f''' n ≡ f n
          beside f f' f'' f''' b is out part end n none = elim (cases_Bool (bytes_eq n input)) [
            | inl named ↦ end n ∙ put_at f'' input n (Some b) named ∙ sym (ap f (same_name n input named) ∙ is)
            | inr other ↦ end n ∙ put_beside f'' input n (Some b) other ∙ part n none ∙ out n ∙ put_beside f input n None other
          ]
