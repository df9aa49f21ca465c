-- A line while no file is open: it is refused, or the file that it opens is served and stands on the shelf again.
use Rattle.std.proofs.Common.{◌≡◌, inl, inr, ℕ, List, [], ◌∷◌, Bool, false, true, ◌&&◌, Option, None, Some, Result, Ok, Err, refl, sym, ◌∙◌, ap, subst}
use Rattle.std.specs.Str.{bytes_eq}
use Rattle.snd_disk.specs.Shelf.{Files, SameFiles}
use Rattle.snd_layout.specs.Blocks.{is_adpcm}
use Rattle.snd_layout.specs.declared.refusal.OpenRefusal.{OpenRefusal}
use Rattle.snd_edits.specs.Editing.{Editing}
use Rattle.snd_rules.specs.Desk.{Desk, Store, closed_desk, makes_name}
use Rattle.snd_rules.specs.Edit.{Edited, Opening, as_opened, open_edit, open_edit_of, opened_as}
use Rattle.snd_script.specs.Lines.{Reading}
use Rattle.snd_script.specs.Opened.{IsMakeable, is_making, opening_by, opens_edit}
use Rattle.snd_rules.specs.Replies.{Answer, nothing, refuses}
use Rattle.snd_script.specs.Served.{lost_at, made_next, none_lost}
use Rattle.snd_script.specs.Serving.{IsAnswered, IsServedOn, IsStopped, Moment, is_longer, moment, steps_from, steps_left}
use Rattle.snd_script.specs.declared.open.OpenAs.{OpenAs}
use Rattle.snd_script.specs.declared.open.OpenAs.TheVariants.{Read, Update, Make}
use Rattle.snd_lines.specs.declared.refusal.Refusal.TheVariants.{MissingFile}
use Rattle.snd_script.specs.declared.stop.Stop.{Stop}
use Rattle.snd_script.specs.declared.stop.Stop.TheVariants.{Ended, TooLong, Script, Sink, File, Memory}
use Rattle.snd_script.proofs.Chains.{appends_none, line_stops, or_none, serves_one}
use Rattle.snd_rules.proofs.Public.{made_makes}

-- ---- a line that leaves no file open and the files as they are

abbrev pub replied : Answer → Store → Edited
replied answer store = record { answer = answer; desk = closed_desk store }

refusal_stops : (T : Type 0) (stop : Stop) (longer : Bool) (store : Store) (answer : Answer) (left : List Edited) (m m' : Moment) (stands : (List ℕ → Bool) → Desk → Type 0)
    → IsAnswered {T = T} (Err stop) answer m.refused m'.refused m.told m'.told → stands none_lost (closed_desk store) → IsStopped stop longer (replied answer store ∷ left) (closed_desk store) m m' stands
refusal_stops T Sink longer store answer left m m' stands said here = line_stops Sink longer (replied answer store) left (closed_desk store) m m' stands (said, here)
refusal_stops T Ended longer store answer left m m' stands said here = absurd said
refusal_stops T TooLong longer store answer left m m' stands said here = absurd said
refusal_stops T Script longer store answer left m m' stands said here = absurd said
refusal_stops T File longer store answer left m m' stands said here = absurd said
refusal_stops T Memory longer store answer left m m' stands said here = absurd said

replied_at : {T : Type 0} (r : Result T Stop) (store : Store) (left : Option (List ℕ)) (reading : Reading) (refused refused' : Bool) (t t' : Option (List ℕ)) (s : List ℕ) (answer : Answer) (stands : (List ℕ → Bool) → Desk → Type 0)
    → left ≡ Some s → IsAnswered r answer refused refused' t t' → stands none_lost (closed_desk store)
    → IsServedOn r (is_longer (moment reading left refused t) s) (steps_from (replied answer store) (moment reading left refused t) s) (closed_desk store) (moment reading left refused t) (moment reading left refused' t') stands
replied_at (Ok x) store left reading refused refused' t t' s answer stands here said stand = (
  store,
  s,
  here,
  serves_one (replied answer store) (steps_left (closed_desk store) (moment reading left refused t) s) (closed_desk store) (moment reading left refused t) (moment reading left refused' t') said.0 said.1,
  stand,
  refl,
)
replied_at {T = T} (Err stop) store left reading refused refused' t t' s answer stands here said stand =
    refusal_stops T stop (is_longer (moment reading left refused t) s) store answer (steps_left (closed_desk store) (moment reading left refused t) s) (moment reading left refused t) (moment reading left refused' t') stands said stand

pub replied_closed : {T : Type 0} (r : Result T Stop) (store : Store) (left : Option (List ℕ)) (reading reading' : Reading) (refused refused' : Bool) (t t' : Option (List ℕ)) (s : List ℕ) (edited : Edited) (answer : Answer)
    (stands : (List ℕ → Bool) → Desk → Type 0) → edited ≡ replied answer store → reading' ≡ reading → left ≡ Some s → IsAnswered r answer refused refused' t t' → stands none_lost (closed_desk store)
    → IsServedOn r (is_longer (moment reading left refused t) s) (steps_from edited (moment reading left refused t) s) (closed_desk store) (moment reading left refused t) (moment reading' left refused' t') stands
replied_closed r store left reading reading' refused refused' t t' s edited answer stands is same here said stand =
    subst (λ (d : Edited). IsServedOn r (is_longer (moment reading left refused t) s) (steps_from d (moment reading left refused t) s) (closed_desk store) (moment reading left refused t) (moment reading' left refused' t') stands) (sym is)
    (subst (λ (x : Reading). IsServedOn r (is_longer (moment reading left refused t) s) (steps_from (replied answer store) (moment reading left refused t) s) (closed_desk store) (moment reading left refused t) (moment x left refused' t') stands) (sym same)
    (replied_at r store left reading refused refused' t t' s answer stands here said stand))

-- .. and says nothing
pub nothing_said : (store : Store) (left : Option (List ℕ)) (reading : Reading) (refused : Bool) (t : Option (List ℕ)) (s : List ℕ) (edited : Edited) (stands : (List ℕ → Bool) → Desk → Type 0)
    → edited ≡ replied nothing store → left ≡ Some s → stands none_lost (closed_desk store)
    → IsServedOn {T = ℕ} (Ok 0) (is_longer (moment reading left refused t) s) (steps_from edited (moment reading left refused t) s) (closed_desk store) (moment reading left refused t) (moment reading left refused t) stands
nothing_said store left reading refused t s edited stands is here stand =
    replied_closed {T = ℕ} (Ok 0) store left reading reading refused refused t t s edited nothing stands is refl here (sym (or_none refused), appends_none t t refl) stand

-- ---- the shelf did not hand the file out

-- there is none
opens_none : (store : Store) (name : List ℕ) (how : OpenAs) → is_making how ≡ false → store.files name ≡ None → opens_edit store name how ≡ replied (refuses MissingFile) store
opens_none store name Read make none = ap (open_edit store name Opening.for_reading) none
opens_none store name Update make none = ap (open_edit store name Opening.for_updating) none
opens_none store name (Make kind p) make none = absurd (cc)

pub made_not : (b : Bool) → b ≡ true → b ≡ false → ⊥
made_not b is not = cc

pub opens_missing : (store : Store) (text name : List ℕ) (how : OpenAs) (make : Bool) (f : Files) → text ≡ name → make ≡ is_making how → make ≡ false → SameFiles store.files f → f text ≡ None
    → opens_edit store name how ≡ replied (refuses MissingFile) store
opens_missing store text name how make f same making not_made has none = opens_none store name how (sym making ∙ not_made) (ap store.files (sym same) ∙ sym (has text) ∙ none)

-- the name of a file that is made
made_is_name : (store : Store) (name : List ℕ) (how : OpenAs) → IsMakeable how → is_making how ≡ true → (n : List ℕ) → makes_name (opens_edit store name how).desk.open_file n ≡ bytes_eq n name
made_is_name store name Read able make n = absurd (cc)
made_is_name store name Update able make n = absurd (cc)
made_is_name store name (Make kind p) able make n =
    ap (λ (r : Result Editing OpenRefusal). makes_name (open_edit_of store name (Opening.for_making kind p) (as_opened r)).desk.open_file n) able.1 ∙ ap (λ (b : Bool). b && bytes_eq n name) (made_makes (is_adpcm p.codec))

-- the file of the name may stand there, empty, where it was to be made
module _ (store : Store) (text name : List ℕ) (how : OpenAs) (make : Bool) (m : Moment) (s : List ℕ) (stands : (List ℕ → Bool) → Desk → Type 0) (same : text ≡ name) (making : make ≡ is_making how) (able : IsMakeable how)
    (here : (lost : List ℕ → Bool) → (make ≡ true → (n : List ℕ) → lost n ≡ false → bytes_eq n text ≡ false) → stands lost (closed_desk store)) where
  not_lost : make ≡ true → (n : List ℕ) → makes_name (opens_edit store name how).desk.open_file n ≡ false → bytes_eq n text ≡ false
  not_lost is n kept = ap (bytes_eq n) same ∙ sym (made_is_name store name how able (sym making ∙ is) n) ∙ kept

  pub take_failed : IsStopped File (is_longer m s) (steps_from (opens_edit store name how) m s) (closed_desk store) m m stands
  take_failed =
      line_stops File (is_longer m s) (opens_edit store name how) (steps_left (opens_edit store name how).desk m s) (closed_desk store) m m stands
      (refl, here (lost_at (closed_desk store) (opens_edit store name how ∷ [])) not_lost)

  pub take_lacks_memory : IsStopped Memory (is_longer m s) (steps_from (opens_edit store name how) m s) (closed_desk store) m m stands
  take_lacks_memory =
      line_stops Memory (is_longer m s) (opens_edit store name how) (steps_left (opens_edit store name how).desk m s) (closed_desk store) m m stands
      (refl, here (made_next (closed_desk store) (opens_edit store name how ∷ [])) not_lost)

-- ---- the file was handed out, served, and came back

stopped_with : (stop : Stop) (longer : Bool) (all : List Edited) (d : Desk) (m m' : Moment) (stands stands' : (List ℕ → Bool) → Desk → Type 0) → ((lost : List ℕ → Bool) (at : Desk) → stands lost at → stands' lost at)
    → IsStopped stop longer all d m m' stands → IsStopped stop longer all d m m' stands'
stopped_with Ended longer all d m m' stands stands' each (is, (at, serves, here)) = (is, (at, serves, each none_lost at here))
stopped_with TooLong longer all d m m' stands stands' each (is, (at, serves, here)) = (is, (at, serves, each none_lost at here))
stopped_with Script longer all d m m' stands stands' each (left, at, part, cut, here) = (left, at, part, cut, each none_lost at here)
stopped_with Sink longer all d m m' stands stands' each (step, left, at, part, here) = (step, left, at, part, each none_lost step.desk here)
stopped_with File longer all d m m' stands stands' each (inl (left, at, part, here)) = inl (left, at, part, each (lost_at at left) at here)
stopped_with File longer all d m m' stands stands' each (inr (step, left, at, part, here)) = inr (step, left, at, part, each (lost_at step.desk left) step.desk here)
stopped_with Memory longer all d m m' stands stands' each (left, at, part, here) = (left, at, part, each (made_next at left) at here)

served_with : {T : Type 0} (r : Result T Stop) (longer : Bool) (all : List Edited) (d : Desk) (m m' : Moment) (stands stands' : (List ℕ → Bool) → Desk → Type 0) → ((lost : List ℕ → Bool) (at : Desk) → stands lost at → stands' lost at)
    → IsServedOn r longer all d m m' stands → IsServedOn r longer all d m m' stands'
served_with (Ok x) longer all d m m' stands stands' each (store, s, left, serves, here, long) = (store, s, left, serves, each none_lost (closed_desk store) here, long)
served_with (Err stop) longer all d m m' stands stands' each stops = stopped_with stop longer all d m m' stands stands' each stops

opens_as : (store : Store) (name b : List ℕ) (how : OpenAs) → (is_making how ≡ false → store.files name ≡ Some b) → open_edit_of store name (opening_by how) (opened_as (opening_by how) b) ≡ opens_edit store name how
opens_as store name b Read there = sym (ap (open_edit store name Opening.for_reading) (there refl))
opens_as store name b Update there = sym (ap (open_edit store name Opening.for_updating) (there refl))
opens_as store name b (Make kind p) there = refl

pub opened_on_shelf : {T : Type 0} (r : Result T Stop) (longer : Bool) (store : Store) (text name b s : List ℕ) (how : OpenAs) (make : Bool) (m m' : Moment) (stands stands' : (List ℕ → Bool) → Desk → Type 0)
    → text ≡ name → make ≡ is_making how → (make ≡ false → store.files text ≡ Some b) → ((lost : List ℕ → Bool) (at : Desk) → stands lost at → stands' lost at)
    → ((is_making how ≡ false → store.files text ≡ Some b) → IsServedOn r longer (steps_from (open_edit_of store text (opening_by how) (opened_as (opening_by how) b)) m s) (closed_desk store) m m' stands)
    → IsServedOn r longer (steps_from (opens_edit store name how) m s) (closed_desk store) m m' stands'
opened_on_shelf r longer store text name b s how make m m' stands stands' same making there each served =
    served_with r longer (steps_from (opens_edit store name how) m s) (closed_desk store) m m' stands stands' each
    (subst (λ (d : Edited). IsServedOn r longer (steps_from d m s) (closed_desk store) m m' stands) (opens_as store text b how is_there ∙ ap (λ n. opens_edit store n how) same) (served is_there))
  where
    is_there : is_making how ≡ false → store.files text ≡ Some b
    is_there is = there (making ∙ is)
