-- From what was found to what is done.
use Rattle.std.proofs.Common.{◌≡◌, ℕ, ◌+◌, ◌≤◌, List, [], Bool, true, false, cond, inl, inr, Option, Some, Result, Ok, Err, length, refl, sym, ◌∙◌, ap, subst, arith}
use Rattle.std.proofs.lemmas.Bool.{cases_Bool}
use Rattle.std.specs.Prelude.{unwrap_or}
use Rattle.std.specs.Str.{bytes_eq}
use Rattle.snd_disk.specs.Shelf.{Files, ShelfState, put}
use Rattle.snd_disk.specs.State.{Adds, AtMost}
use Rattle.snd_inputs.specs.Rooms.{is_full}
use Rattle.snd_layout.specs.Params.{Parameters}
use Rattle.snd_layout.specs.declared.kind.Kind.{Kind}
use Rattle.snd_layout.specs.declared.refusal.OpenRefusal.{OpenRefusal}
use Rattle.snd_lines.specs.declared.refusal.Refusal.TheVariants.{ContainerFull, SameName}
use Rattle.snd_output.specs.Ends.{CountsOneOf}
use Rattle.snd_output.specs.declared.stop.Stop.{Stop}
use Rattle.snd_output.specs.declared.stop.Stop.TheVariants.{Changed, Fault, Memory}
use Rattle.snd_tools.proofs.Public.{MakesOnly}
use Rattle.snd_tools.specs.Done.{Done, Said, files_after, said_of}
use Rattle.snd_tools.specs.Shelves.{CountsOneOf as CountsOne, HasFiles}
use Rattle.snd_words.specs.Suffix.{kind_by_suffix}
use Rattle.snd_words.specs.declared.raw.ImportForm.{ImportForm}
use Rattle.snd_import.specs.Import.{done_into, done_with, file_made, imported, made_from, made_in, params_for, source_in}
use Rattle.snd_import.specs.Making.{size_there}
use Rattle.snd_import.specs.declared.source.Source.{Source}

-- the output alone is made
makes_in : (output : List ℕ) (kind : Kind) (s : Source) (b : List ℕ) (r : Result Parameters OpenRefusal) → MakesOnly output (made_in output kind s b r)
makes_in output kind s b (Err why) = tt
makes_in output kind s b (Ok p) =
    let made = Done.makes output (file_made kind p s b) s.frames in
    let P : Bool → Type 0 = λ t. MakesOnly output (cond t (Done.refuses output ContainerFull) made) in
    elim (cases_Bool (is_full kind p s.frames)) [
      | inl full ↦ subst P (sym full) tt
      | inr room ↦ subst P (sym room) refl
    ]

pub makes_from : (input output : List ℕ) (kind : Kind) (b : List ℕ) (r : Result Source OpenRefusal) → MakesOnly output (made_from input output kind b r)
makes_from input output kind b (Err why) = tt
makes_from input output kind b (Ok s) = makes_in output kind s b (params_for kind s.params)

-- where the names differ and the suffix is known
module _ (form : ImportForm) (input output : List ℕ) (files : Files) (kind : Kind) (apart : bytes_eq input output ≡ false) (suffix : kind_by_suffix output ≡ Some kind) where
  pub imported_is : imported form input output files ≡ done_with form input output kind (files input)
  imported_is =
      ap (λ (t : Bool). cond t (Done.refuses output SameName) (done_into form input output (kind_by_suffix output) files)) apart
      ∙ ap (λ (k : Option Kind). done_into form input output k files) suffix

  pub imported_from : (b : List ℕ) → files input ≡ Some b → imported form input output files ≡ made_from input output kind b (source_in form b)
  imported_from b there = imported_is ∙ ap (done_with form input output kind) there

-- what is made where the head has room, and what is refused where it has not
module _ {S : Type 0} (state : S → ShelfState) (new : S) (output : List ℕ) (kind : Kind) (s : Source) (b : List ℕ) (files : Files) (p : Parameters) (fit : params_for kind s.params ≡ Ok p) where
  pub full_is : is_full kind p s.frames ≡ true → made_in output kind s b (params_for kind s.params) ≡ Done.refuses output ContainerFull
  full_is full = ap (made_in output kind s b) fit ∙ ap (λ (t : Bool). cond t (Done.refuses output ContainerFull) (Done.makes output (file_made kind p s b) s.frames)) full

  room_is : is_full kind p s.frames ≡ false → made_in output kind s b (params_for kind s.params) ≡ Done.makes output (file_made kind p s b) s.frames
  room_is room = ap (made_in output kind s b) fit ∙ ap (λ (t : Bool). cond t (Done.refuses output ContainerFull) (Done.makes output (file_made kind p s b) s.frames)) room

  pub output_made : is_full kind p s.frames ≡ false → HasFiles state new (put files output (Some (file_made kind p s b)))
      → (Said.made s.frames ≡ said_of (made_in output kind s b (params_for kind s.params))) × HasFiles state new (files_after (made_in output kind s b (params_for kind s.params)) files)
  output_made room has = subst (λ (d : Done). (Said.made s.frames ≡ said_of d) × HasFiles state new (files_after d files)) (sym (room_is room)) (refl, has)

-- ---- what is counted

pub counts_same : {T : Type 0} (r : Result T Stop) (a b c d : ℕ) → CountsOneOf a b c d r → CountsOne a b c d r
counts_same (Ok x) a b c d counts = counts
counts_same (Err Fault) a b c d counts = counts
counts_same (Err Memory) a b c d counts = counts
counts_same (Err Changed) a b c d counts = counts

-- no more is asked than the file has, and 64
pub asked_there : (o : Option (List ℕ)) (b : List ℕ) (size old mid mid' from to new : ℕ) → o ≡ Some b → size ≡ length b → mid ≡ old → mid' ≡ mid → from ≡ 0
    → AtMost from (size + 64) to → Adds mid' to new → AtMost old (size_there o + 64) new
asked_there o b size old mid mid' from to new is long same same' none asked adds =
    let there : size_there o ≡ length b = ap size_there is in
    record { later = omega (arith, same, same', adds.later); most = omega (arith, there, long, same, same', none, asked.most, adds.most) }

pub asked_none : (o : Option (List ℕ)) (old new : ℕ) → new ≡ old → AtMost old (size_there o + 64) new
asked_none o old new same = record { later = omega (arith, same); most = omega (arith, same) }
