-- What is done with inputs that are all open.
use Rattle.std.proofs.Common.{◌≡◌, ◌∙◌, ap, sym, refl, subst, inl, inr, ℕ, zero, suc, ℤ, Bool, true, false, cond, List, [], ◌∷◌, Option, None, Some, Result, Ok, Err, length, arith}
use Rattle.std.proofs.lemmas.Bool.{cases_Bool, eqb-true}
use Rattle.std.specs.Prelude.{◌==◌}
use Rattle.snd_disk.specs.declared.disk.Disk.{Ghosts}
use Rattle.snd_disk.specs.Shelf.{Files, ShelfState, put}
use Rattle.snd_disk.specs.Shelves.{TellsFiles}
use Rattle.snd_inputs.specs.Inputs.{first_bad}
use Rattle.snd_inputs.specs.Rooms.{is_full}
use Rattle.snd_layout.specs.Params.{Parameters}
use Rattle.snd_layout.specs.Shape.{Shape}
use Rattle.snd_layout.specs.declared.kind.Kind.{Kind}
use Rattle.snd_layout.specs.declared.refusal.OpenRefusal.{OpenRefusal}
use Rattle.snd_layout.specs.declared.refusal.OpenRefusal.TheVariants.{BadChannels}
use Rattle.snd_lines.specs.declared.refusal.Refusal.{Refusal}
use Rattle.snd_lines.specs.declared.refusal.Refusal.TheVariants.{ContainerFull, MixedParams, NotMono, Open}
use Rattle.snd_edits.specs.Editing.{Editing}
use Rattle.snd_output.specs.Codecs.{params_like}
use Rattle.snd_tools.proofs.Public.{MakesOnly}
use Rattle.snd_tools.specs.Done.{Done, Said, files_after, said_of}
use Rattle.snd_tools.specs.Shelves.{HasFiles}
use Rattle.snd_interleave.specs.Beside.{longest}
use Rattle.snd_interleave.specs.Channels.{AreMono, bytes_made, first_of, layouts_of}
use Rattle.snd_interleave.specs.Interleave.{channels_in, done_as, done_beside, done_if_fit, done_with, first_misfit, made_if_good, made_of, misfit, misfit_or, shapes_of}
use Rattle.snd_inputs.specs.declared.input.Input.{Input}

-- ---- the output alone is made

makes_good : (inputs : List (List ℕ)) (output : List ℕ) (kind : Kind) (p : Parameters) (channels : List (List ℤ)) (o : Option ℕ) → MakesOnly output (made_if_good inputs output kind p channels o)
makes_good inputs output kind p channels (Some at) = tt
makes_good inputs output kind p channels None = refl

makes_of : (inputs : List (List ℕ)) (output : List ℕ) (kind : Kind) (p : Parameters) (es : List Editing) → MakesOnly output (made_of inputs output kind p es)
makes_of inputs output kind p es =
    let channels = channels_in p.codec es in
    let made = made_if_good inputs output kind p channels (first_bad es) in
    let P : Bool → Type 0 = λ t. MakesOnly output (cond t (Done.refuses output ContainerFull) made) in
    elim (cases_Bool (is_full kind p (longest channels))) [
      | inl full ↦ subst P (sym full) tt
      | inr room ↦ subst P (sym room) (makes_good inputs output kind p channels (first_bad es))
    ]

makes_as : (inputs : List (List ℕ)) (output : List ℕ) (kind : Kind) (es : List Editing) (r : Result Parameters OpenRefusal) → MakesOnly output (done_as inputs output kind es r)
makes_as inputs output kind es (Err why) = tt
makes_as inputs output kind es (Ok p) = makes_of inputs output kind p es

makes_if_fit : (inputs : List (List ℕ)) (output : List ℕ) (kind : Kind) (own : Parameters) (es : List Editing) (o : Option (List ℕ × Refusal)) → MakesOnly output (done_if_fit inputs output kind own es o)
makes_if_fit inputs output kind own es (Some refused) = tt
makes_if_fit inputs output kind own es None = makes_as inputs output kind es (params_like kind (length es) own)

makes_beside : (inputs : List (List ℕ)) (output : List ℕ) (es : List Editing) → MakesOnly output (done_beside inputs output es)
makes_beside inputs output [] = tt
makes_beside inputs output (e ∷ es) = makes_if_fit inputs output e.shape.kind e.shape.params (e ∷ es) (first_misfit e.shape.params inputs (shapes_of (e ∷ es)))

pub makes_output : (inputs : List (List ℕ)) (output : List ℕ) (r : Result (List Editing) (List ℕ × Refusal)) → MakesOnly output (done_with inputs output r)
makes_output inputs output (Err refused) = tt
makes_output inputs output (Ok es) = makes_beside inputs output es

-- ---- by what the first one says

kind_or : Kind → Option (Kind × Parameters) → Kind
kind_or kind None = kind
kind_or kind (Some both) = both.0

params_or : Parameters → Option (Kind × Parameters) → Parameters
params_or p None = p
params_or p (Some both) = both.1

pub beside_is : (inputs : List (List ℕ)) (output : List ℕ) (es : List Editing) (hs : List Shape) (kind : Kind) (own : Parameters) → hs ≡ shapes_of es → first_of hs ≡ Some (kind, own)
    → done_beside inputs output es ≡ done_if_fit inputs output kind own es (first_misfit own inputs hs)
unfolding kind_or params_or
beside_is inputs output [] hs kind own are first = absurd (let never : first_of [] ≡ Some (kind, own) = sym (ap first_of are) ∙ first in cc)
beside_is inputs output (e ∷ es) hs kind own are first =
    let is : Some (e.shape.kind, e.shape.params) ≡ Some (kind, own) = sym (ap first_of are) ∙ first in
    let kinds : e.shape.kind ≡ kind = ap (kind_or kind) is in
    let params : e.shape.params ≡ own = ap (params_or own) is in
    ap (λ (k : Kind). done_if_fit inputs output k e.shape.params (e ∷ es) (first_misfit e.shape.params inputs (shapes_of (e ∷ es)))) kinds
    ∙ ap (λ (p : Parameters). done_if_fit inputs output kind p (e ∷ es) (first_misfit p inputs (shapes_of (e ∷ es)))) params
    ∙ ap (λ (l : List Shape). done_if_fit inputs output kind own (e ∷ es) (first_misfit own inputs l)) (sym are)

-- there is none
pub none_first : {D : Type 0} {ghosts : Ghosts D} (xs : List (Input D ghosts)) → first_of (layouts_of xs) ≡ None → length xs ≡ 0
none_first [] none = refl
none_first (x ∷ xs) none = absurd (cc)

pub beside_none : (inputs : List (List ℕ)) (output : List ℕ) (es : List Editing) → length es ≡ 0 → done_beside inputs output es ≡ Done.refuses output (Open BadChannels)
beside_none inputs output [] none = refl
beside_none inputs output (e ∷ es) none = absurd (omega (arith, none))

-- ---- where all fit, they have one channel each

mono_by : (first p : Parameters) → misfit first p ≡ None → p.channels ≡ 1
mono_by first p none = elim (cases_Bool (p.channels == 1)) [
  | inl one ↦ eqb-true p.channels 1 one
  | inr more ↦ absurd (let never : Some NotMono ≡ None = sym (ap (λ (t : Bool). cond t (cond (p.rate == first.rate) None (Some MixedParams)) (Some NotMono)) more) ∙ none in cc)
]

none_of_two : (name : List ℕ) (why : Option Refusal) (others : Option (List ℕ × Refusal)) → misfit_or name why others ≡ None → (why ≡ None) × (others ≡ None)
none_of_two name (Some why) others none = absurd (cc)
none_of_two name None others none = (refl, none)

one_more : {D : Type 0} {ghosts : Ghosts D} (x : Input D ghosts) (inputs : List (Input D ghosts)) → x.layout.params.channels ≡ 1 → AreMono inputs → AreMono (x ∷ inputs)
one_more x inputs here others zero d lt = here
one_more x inputs here others (suc k) d lt = others k d (omega (arith, lt))

pub all_mono : {D : Type 0} {ghosts : Ghosts D} (first : Parameters) (names : List (List ℕ)) (inputs : List (Input D ghosts)) → length names ≡ length inputs → first_misfit first names (layouts_of inputs) ≡ None → AreMono inputs
all_mono first names [] many none = λ k d lt. absurd (omega (arith, lt))
all_mono first [] (x ∷ inputs) many none = absurd (omega (arith, many))
all_mono first (name ∷ names) (x ∷ inputs) many none =
    let both = none_of_two name (misfit first x.layout.params) (first_misfit first names (layouts_of inputs)) none in
    one_more x inputs (mono_by first x.layout.params both.0) (all_mono first names inputs (omega (arith, many)) both.1)

-- ---- and is said

-- whether its head has room
module _ (inputs : List (List ℕ)) (output : List ℕ) (kind : Kind) (p : Parameters) (es : List Editing) where
  pub full_is : is_full kind p (longest (channels_in p.codec es)) ≡ true → done_as inputs output kind es (Ok p) ≡ Done.refuses output ContainerFull
  full_is full = ap (λ (t : Bool). cond t (Done.refuses output ContainerFull) (made_if_good inputs output kind p (channels_in p.codec es) (first_bad es))) full

  pub room_is : is_full kind p (longest (channels_in p.codec es)) ≡ false → done_as inputs output kind es (Ok p) ≡ made_if_good inputs output kind p (channels_in p.codec es) (first_bad es)
  room_is room = ap (λ (t : Bool). cond t (Done.refuses output ContainerFull) (made_if_good inputs output kind p (channels_in p.codec es) (first_bad es))) room

-- the output was made
pub output_made : {S : Type 0} (state : S → ShelfState) (new : S) (files : Files) (inputs : List (List ℕ)) (output : List ℕ) (kind : Kind) (p : Parameters) (es : List Editing) (frames : ℕ)
    → frames ≡ longest (channels_in p.codec es) → None ≡ first_bad es → HasFiles state new (put files output (Some (bytes_made kind p es)))
    → (Said.made frames ≡ said_of (made_if_good inputs output kind p (channels_in p.codec es) (first_bad es))) × HasFiles state new (files_after (made_if_good inputs output kind p (channels_in p.codec es) (first_bad es)) files)
output_made state new files inputs output kind p es frames same good has =
    let P : Option ℕ → Type 0 = λ o. (Said.made frames ≡ said_of (made_if_good inputs output kind p (channels_in p.codec es) o)) × HasFiles state new (files_after (made_if_good inputs output kind p (channels_in p.codec es) o) files) in
    subst P good (ap Said.made same, has)

-- something was refused
pub refused_as : {S : Type 0} (state : S → ShelfState) (shelf : S) (files : Files) (name : List ℕ) (why : Refusal) (todo : Done) → TellsFiles state shelf files → todo ≡ Done.refuses name why
    → (Said.refused name why ≡ said_of todo) × HasFiles state shelf (files_after todo files)
refused_as state shelf files name why todo told is =
    subst (λ (d : Done). (Said.refused name why ≡ said_of d) × HasFiles state shelf (files_after d files)) (sym is) (refl, (files, told, λ n. refl))
