-- How the shelf is left where no file was changed, or some.
use Rattle.std.proofs.Common.{ℕ, List, [], ◌∷◌, Option, ◌≡◌, Bool, true, false, ◌∙◌, ◌||◌, inl, inr, refl, sym, ap, subst}
use Rattle.std.proofs.lemmas.Bool.{cases_Bool}
use Rattle.std.specs.Prelude.{is_none}
use Rattle.std.specs.Str.{bytes_eq}
use Rattle.snd_deinterleave.specs.Among.{ChangesAmong}
use Rattle.snd_disk.proofs.Public.{goes_on_kept, same_name}
use Rattle.snd_disk.specs.Shelf.{KeepsFiles, ShelfState}
use Rattle.snd_disk.specs.Shelves.{KeepsFileImages}
use Rattle.snd_disk.specs.State.{GoesOn}
use Rattle.snd_disk.specs.declared.shelf.Shelf.{Ghosts as ShelfMeaning}
use Rattle.snd_script.proofs.Public.{some_of}
use Rattle.snd_script.specs.Served.{LeavesShelf}
use Rattle.snd_tools.specs.Shelves.{ChangesOne, IsAllIn}

pub kept_leaves : {S : Type 0} (state : S → ShelfState) (may_leave : S → List ℕ → List ℕ → Type 0) (left_between : S → List ℕ → ℕ → ℕ → List ℕ → Type 0) (old new : S)
    → IsAllIn (state old) → IsAllIn (state new) → KeepsFiles (state old) (state new) → KeepsFileImages state may_leave left_between old new → LeavesShelf state left_between old new
kept_leaves state may_leave left_between old new all_in back files images = record {
  back = λ n. back n ∙ sym (all_in n);
  files = λ f told.
      let kept = files f told in
      (kept.0, kept.1, λ n there. ap (λ (o : Option (List ℕ)). is_none o) (kept.2 n) ∙ there);
  time = λ f n told there.
      let is = some_of (f n) there in
      goes_on_kept ((state old).clock n) ((state new).clock n) (may_leave old n) (may_leave new n) (left_between old n) (left_between new n) (images f n is.0 told is.1);
}

pub changed_leaves : {S D : Type 0} (s : ShelfMeaning S D) (names : List (List ℕ)) (old new : S) → ChangesAmong s names old new → LeavesShelf s.state s.left_between old new
changed_leaves s names old new changes = record {
  back = changes.back;
  files = λ f told. let kept = changes.files f told in (kept.0, kept.1, kept.3);
  time = changes.time;
}

-- what is none of one name is another, and the other way
is_alone : (b : Bool) → (b || false) ≡ false → b ≡ false
is_alone true none = none
is_alone false none = refl

alone_is : (b : Bool) → b ≡ false → (b || false) ≡ false
alone_is true other = other
alone_is false other = refl

-- One name is the case of a list of one.
module _ {S D : Type 0} (s : ShelfMeaning S D) (name : List ℕ) (old new : S) where
  abbrev Time : List ℕ → Type 0
  Time n = GoesOn ((s.state old).clock n) ((s.state new).clock n) (s.left_between old n) (s.left_between new n)

  pub one_among : ChangesOne s name old new → ChangesAmong s (name ∷ []) old new
  one_among changes = record {
    back = changes.back;
    files = λ f told.
        let kept = changes.files f told in (
          kept.0,
          kept.1,
          λ n other. kept.2 n (is_alone (bytes_eq n name) other),
          λ n there. elim (cases_Bool (bytes_eq n name)) [
            | inl is ↦
                let same = same_name n name is in
                subst (λ (m : List ℕ). is_none (kept.0 m) ≡ false) (sym same) (kept.3 (subst (λ (m : List ℕ). is_none (f m) ≡ false) same there))
            | inr other ↦ ap (λ (o : Option (List ℕ)). is_none o) (kept.2 n other) ∙ there
          ],
        );
    time = λ f n told there. elim (cases_Bool (bytes_eq n name)) [
      | inl is ↦
          let same = same_name n name is in
          subst Time (sym same) (changes.time f told (subst (λ (m : List ℕ). is_none (f m) ≡ false) same there))
      | inr other ↦ goes_on_kept ((s.state old).clock n) ((s.state new).clock n) (s.may_leave old n) (s.may_leave new n) (s.left_between old n) (s.left_between new n) (changes.others f n told there other)
    ];
    others = λ f n told there other. changes.others f n told there (is_alone (bytes_eq n name) other);
  }

  pub among_one : ChangesAmong s (name ∷ []) old new → ChangesOne s name old new
  among_one changes = record {
    back = changes.back;
    files = λ f told.
        let kept = changes.files f told in
        (kept.0, kept.1, λ n other. kept.2 n (alone_is (bytes_eq n name) other), kept.3 name);
    time = λ f told there. changes.time f name told there;
    others = λ f n told there other. changes.others f n told there (alone_is (bytes_eq n name) other);
  }
