-- The lines that are left after one step and then another, and the files that keep their images.
use Rattle.std.proofs.Common.{◌≡◌, ℕ, List, [], ◌∷◌, ◌++◌, Bool, true, false, ◌||◌, Option, Some, Result, Ok, Err, refl, sym, ◌∙◌, ap, append_assoc, subst}
use Rattle.std.specs.Str.{bytes_eq}
use Rattle.snd_command.specs.Line.{command_of}
use Rattle.snd_disk.proofs.Public.{keeps_images_then, others_then, returned_images, stayed_images}
use Rattle.snd_disk.specs.Shelf.{ShelfState}
use Rattle.snd_disk.specs.Shelves.{HandsOut, HandsOutNone, KeepsImagesOf, KeepsOthers, TakesBack}
use Rattle.snd_disk.specs.declared.disk.Disk.{Ghosts}
use Rattle.snd_disk.specs.declared.shelf.Shelf.{Ghosts as ShelfMeaning}
use Rattle.snd_script.specs.Kept.{IsTail, KeepsUnless, LeavesTail, how_writes, lines_to_serve}
use Rattle.snd_script.specs.Lines.{Reading}
use Rattle.snd_script.specs.Opened.{OnlyServes}
use Rattle.snd_rules.specs.Pinned.{run_writes}
use Rattle.snd_rules.specs.Script.{any_writes, by_writing, lines_within, most_bytes}
use Rattle.snd_script.specs.Served.{LeavesShelf}
use Rattle.snd_script.specs.Serving.{Brings}
use Rattle.snd_script.specs.declared.open.OpenAs.{OpenAs}
use Rattle.snd_script.specs.declared.open.OpenAs.TheVariants as how
use Rattle.snd_script.specs.declared.stop.Stop.{Stop}
use Rattle.snd_script.proofs.ShelfLeft.{some_of}

-- the lines that are left so far
abbrev pub TailSoFar : List (List ℕ) → Reading → Option (List ℕ) → Type 0
TailSoFar all at left = (s : List ℕ) × (left ≡ Some s) × IsTail all (lines_to_serve at s)

tail_then : (all mid left : List (List ℕ)) → IsTail all mid → IsTail mid left → IsTail all left
tail_then all mid left first second = (first.0 ++ second.0, first.1 ∙ ap (λ l. first.0 ++ l) second.1 ∙ sym (append_assoc first.0 second.0 left))

pub tail_none : (at : Reading) (s : List ℕ) (left : Option (List ℕ)) → left ≡ Some s → TailSoFar (lines_to_serve at s) at left
tail_none at s left is = (s, is, ([], refl))

-- a line came
tail_brings : (before came : Reading) (kept s s' : List ℕ) → Brings before.room (before.rest ++ s) kept came.room (came.rest ++ s') → IsTail (lines_to_serve before s) (lines_to_serve came s')
tail_brings before came kept s s' comes = (comes.line ∷ [], comes.lines)

-- .. behind those that came
pub tail_of_line : (all : List (List ℕ)) (at came after : Reading) (kept s' : List ℕ) (left left' : Option (List ℕ)) (so_far : TailSoFar all at left)
    → Brings at.room (at.rest ++ so_far.0) kept came.room (came.rest ++ s') → after ≡ came → left' ≡ Some s' → TailSoFar all after left'
tail_of_line all at came after kept s' left left' so_far comes same is =
    rw same ((s', is, tail_then all _ _ so_far.2 (tail_brings at came kept so_far.0 s' comes)))

-- it was served
pub tail_for_line : {T : Type 0} (r : Result T Stop) (before came after : Reading) (kept s s' : List ℕ) (left : Option (List ℕ))
    → Brings before.room (before.rest ++ s) kept came.room (came.rest ++ s') → LeavesTail r (lines_to_serve came s') after left → LeavesTail r (lines_to_serve before s) after left
tail_for_line (Ok x) before came after kept s s' left comes (t, is, tail) = (t, is, tail_then _ _ _ (tail_brings before came kept s s' comes) tail)
tail_for_line (Err stop) before came after kept s s' left comes tail = tt

-- the reading has not changed
pub tail_same : {T : Type 0} (r : Result T Stop) (before after : Reading) (s : List ℕ) (left : Option (List ℕ)) → left ≡ Some s → after ≡ before → LeavesTail r (lines_to_serve before s) after left
tail_same (Ok x) before after s left is same = rw same ((s, is, ([], refl)))
tail_same (Err stop) before after s left is same = tt

-- lines behind those that came
pub tail_on : (all : List (List ℕ)) (at after : Reading) (left left' : Option (List ℕ)) (so_far : TailSoFar all at left) → TailSoFar (lines_to_serve at so_far.0) after left' → TailSoFar all after left'
tail_on all at after left left' so_far (s, is, tail) = (s, is, tail_then all _ _ so_far.2 tail)

-- ---- names

or_left : (a b : Bool) → (a || b) ≡ false → a ≡ false
or_left true b is = is
or_left false b is = refl

or_right : (a b : Bool) → (a || b) ≡ false → b ≡ false
or_right true b is = absurd (cc)
or_right false b is = is

pub unwritten_tail : (n : List ℕ) (done left : List (List ℕ)) → any_writes (done ++ left) n ≡ false → any_writes left n ≡ false
unwritten_tail n [] left none = none
unwritten_tail n (line ∷ done) left none = unwritten_tail n done left (or_right (by_writing (command_of line) n) (any_writes (done ++ left) n) none)

unwritten_in : (n : List ℕ) (all left : List (List ℕ)) → IsTail all left → any_writes all n ≡ false → any_writes left n ≡ false
unwritten_in n all left tail none = unwritten_tail n tail.0 left (sym (ap (λ l. any_writes l n) tail.1) ∙ none)

-- a whole script
pub unwritten_from : (name : Option (List ℕ)) (reading : Reading) (s n : List ℕ) → reading ≡ record { rest = []; room = most_bytes } → run_writes name (lines_within most_bytes s) n ≡ false → run_writes name (lines_to_serve reading s) n ≡ false
unwritten_from name reading s n is none = subst (λ (r : Reading). run_writes name (lines_to_serve r s) n ≡ false) (sym is) none

module _ {S : Type 0} (state : S → ShelfState) (may_leave : S → List ℕ → List ℕ → Type 0) (left_between : S → List ℕ → ℕ → ℕ → List ℕ → Type 0) where
  pub keeps_same : (n : List ℕ) (a : S) → KeepsImagesOf state may_leave left_between n a a
  keeps_same n a = record {
    same_time = refl;
    now = record { no_more = λ x left. left; no_fewer = λ x left. left };
    no_more = λ s t x left. left;
    no_fewer = λ s t x left. left;
  }

  keeps_then : (n : List ℕ) (a b c : S) → KeepsImagesOf state may_leave left_between n a b → KeepsImagesOf state may_leave left_between n b c → KeepsImagesOf state may_leave left_between n a c
  keeps_then n a b c first second =
      keeps_images_then ((state a).clock n) ((state b).clock n) ((state c).clock n) (may_leave a n) (may_leave b n) (may_leave c n) (left_between a n) (left_between b n) (left_between c n) first second

module _ {S D : Type 0} (s : ShelfMeaning S D) where
  -- nothing was handed out
  pub stayed_unless : (name : List ℕ) (writes : List ℕ → Bool) (old new : S) → HandsOutNone s.state s.may_leave s.left_between name old new → KeepsOthers s.state s.may_leave s.left_between name old new
      → KeepsUnless s writes old new
  stayed_unless name writes old new handed others f n told there unless =
      let is = some_of (f n) there in
      stayed_images s.state s.may_leave s.left_between name old new handed others f n is.0 told is.1

  -- a line came that does not write the file, and was served
  pub keeps_for_line : (before came : Reading) (kept b b' : List ℕ) (old new : S) → Brings before.room (before.rest ++ b) kept came.room (came.rest ++ b')
      → KeepsUnless s (by_writing (command_of kept)) old new → KeepsUnless s (any_writes (lines_to_serve before b)) old new
  keeps_for_line before came kept b b' old new comes keeps f n told there none =
      let first : any_writes (comes.line ∷ lines_to_serve came b') n ≡ false = sym (ap (λ l. any_writes l n) comes.lines) ∙ none in
      keeps f n told there (ap (λ c. by_writing c n) comes.same ∙ or_left (by_writing (command_of comes.line) n) (any_writes (lines_to_serve came b') n) first)

  -- lines behind those that came
  pub keeps_on : (all : List (List ℕ)) (at : Reading) (left : Option (List ℕ)) (so_far : TailSoFar all at left) (old mid new : S) → LeavesShelf s.state s.left_between old mid
      → KeepsUnless s (any_writes all) old mid → KeepsUnless s (any_writes (lines_to_serve at so_far.0)) mid new → KeepsUnless s (any_writes all) old new
  keeps_on all at left so_far old mid new leaves first second f n told there none =
      let is = leaves.files f told in
      keeps_then s.state s.may_leave s.left_between n old mid new (first f n told there none) (second is.0 n is.1 (is.2 n there) (unwritten_in n all _ so_far.2 none))

  -- a file was handed out, and came back
  module _ (d : Ghosts D) (name : List ℕ) (old mid new : S) (taken given : D)
      (handed : HandsOut s.state s.may_leave s.left_between d.state d.may_leave d.left_between name old taken) (back : TakesBack s.state s.may_leave s.left_between d.state d.may_leave d.left_between name new given)
      (others : KeepsOthers s.state s.may_leave s.left_between name old mid) (others' : KeepsOthers s.state s.may_leave s.left_between name mid new) where
    other_file : (n : List ℕ) → bytes_eq n name ≡ false → KeepsImagesOf s.state s.may_leave s.left_between n old new
    other_file n other = others_then s.state s.may_leave s.left_between name old mid new others others' n other

    pub returned_unless : (opening : OpenAs) → OnlyServes d opening taken given → KeepsUnless s (how_writes opening name) old new
    returned_unless how.Read only f n told there unless =
        let is = some_of (f n) there in
        returned_images s.state s.may_leave s.left_between name d.state d.may_leave d.left_between old mid new taken given handed back others others' only.images f n is.0 told is.1
    returned_unless how.Update only f n told there unless = other_file n unless
    returned_unless (how.Make kind params) only f n told there unless = other_file n unless
