-- From what is known of an open file to what is done with it.
use Rattle.std.proofs.Common.{◌≡◌, ◌∙◌, ap, sym, refl, subst, inl, inr, ℕ, Bool, true, false, cond, List, [], None, Some, Result, Ok, Err, IfOk, length, All, get_or}
use Rattle.std.proofs.lemmas.Bool.{cases_Bool}
use Rattle.std.specs.Prelude.{◌==◌}
use Rattle.snd_disk.specs.Shelf.{Files, ShelfState}
use Rattle.snd_disk.specs.Shelves.{TellsFiles}
use Rattle.snd_edits.specs.Editing.{Editing}
use Rattle.snd_edits.specs.Known.{Known}
use Rattle.snd_edits.specs.Reading.{FitCodec}
use Rattle.snd_inputs.specs.Inputs.{input_in, is_bad}
use Rattle.snd_inputs.specs.Rooms.{is_full}
use Rattle.snd_layout.specs.Fit.{fit_refusal}
use Rattle.snd_layout.specs.Params.{Parameters}
use Rattle.snd_layout.specs.Shape.{Shape}
use Rattle.snd_layout.specs.declared.codec.Codec.{Codec}
use Rattle.snd_layout.specs.declared.codec.Codec.TheVariants.{U8, S8, S16, S24, S32, MuLaw, ALaw, Ima, Ms}
use Rattle.snd_layout.specs.declared.kind.Kind.{Kind}
use Rattle.snd_layout.specs.declared.refusal.OpenRefusal.{OpenRefusal}
use Rattle.snd_lines.specs.declared.refusal.Refusal.{Refusal}
use Rattle.snd_lines.specs.declared.refusal.Refusal.TheVariants.{BadBlock, ContainerFull, Open, SameName, WrongCount}
use Rattle.snd_output.proofs.Public.{fits_width, like_is, width_fits}
use Rattle.snd_output.specs.Codecs.{codec_like, params_like}
use Rattle.snd_output.specs.Widths.{width_of}
use Rattle.snd_output.specs.declared.stop.Stop.{Stop}
use Rattle.snd_pcm.specs.Width.{HasWidth}
use Rattle.snd_tools.specs.Done.{Said}
use Rattle.snd_tools.specs.Shelves.{HasFiles}
use Rattle.snd_tools.specs.declared.answer.Answer.{Answer}
use Rattle.snd_deinterleave.specs.Among.{is_among}
use Rattle.snd_deinterleave.specs.Deinterleave.{deinterleaved, done_as, done_counted, done_if_apart, done_with, file_of, first_same, made_if_good, made_of}
use Rattle.snd_deinterleave.specs.Making.{MaySplit}
use Rattle.snd_deinterleave.specs.Outputs.{Does, DoneAll, IsDone, files_after, puts, said_of}
use Rattle.snd_deinterleave.specs.Passing.{FitsAs}
use Rattle.snd_deinterleave.proofs.Putting.{puts_apart, puts_same}

-- ---- a file may be made of each channel

-- the numbers of a codec are as wide as those of one that is made like it
width_like : (channels rate : ℕ) (codec : Codec) → width_of (codec_like channels rate codec) ≡ width_of codec
width_like channels rate U8 = refl
width_like channels rate S8 = refl
width_like channels rate (S16 order) = refl
width_like channels rate (S24 order) = refl
width_like channels rate (S32 order) = refl
width_like channels rate MuLaw = refl
width_like channels rate ALaw = refl
width_like channels rate (Ima align per_block) = refl
width_like channels rate (Ms align per_block) = refl

fits_like : (channels rate : ℕ) (codec : Codec) → FitsAs codec (codec_like channels rate codec)
fits_like channels rate codec xs fit =
    width_fits (codec_like channels rate codec) xs (subst (λ (w : ℕ). All (HasWidth w) xs) (sym (width_like channels rate codec)) (fits_width codec xs fit))

pub may_split : (kind : Kind) (p : Parameters) (from : Known) → params_like kind 1 from.shape.params ≡ Ok p → fit_refusal kind p ≡ None → is_full kind p from.shape.frames ≡ false → MaySplit kind p from
may_split kind p from like fits room =
    let own = from.shape.params in
    let is = like_is kind 1 own p (sym like) in
    record {
      mono = ap (λ (q : Parameters). q.channels) is;
      holds = fits;
      fits = λ xs fit. subst (λ (c : Codec). FitCodec c xs) (sym (ap (λ (q : Parameters). q.codec) is)) (fits_like 1 own.rate own.codec xs fit);
      room = room;
    }

-- .. wherever that one stands
pub still_split : (kind : Kind) (p : Parameters) (from from' : Known) → from' ≡ from → MaySplit kind p from → MaySplit kind p from'
still_split kind p from from' same may = subst (MaySplit kind p) (sym same) may

-- ---- what is to be done

module _ (input : List ℕ) (outputs : List (List ℕ)) where
  pub bad_is : (kind : Kind) (p : Parameters) (e : Editing) → is_bad e ≡ true → made_if_good input outputs kind p e ≡ DoneAll.refuses input BadBlock
  bad_is kind p e bad = ap (λ (t : Bool). cond t (DoneAll.refuses input BadBlock) (DoneAll.makes outputs (file_of kind p e) e.shape.frames)) bad

  pub good_is : (kind : Kind) (p : Parameters) (e : Editing) → is_bad e ≡ false → made_if_good input outputs kind p e ≡ DoneAll.makes outputs (file_of kind p e) e.shape.frames
  good_is kind p e good = ap (λ (t : Bool). cond t (DoneAll.refuses input BadBlock) (DoneAll.makes outputs (file_of kind p e) e.shape.frames)) good

  full_is : (kind : Kind) (p : Parameters) (e : Editing) → is_full kind p e.shape.frames ≡ true → made_of input outputs kind p e ≡ DoneAll.refuses (get_or outputs 0 []) ContainerFull
  full_is kind p e full = ap (λ (t : Bool). cond t (DoneAll.refuses (get_or outputs 0 []) ContainerFull) (made_if_good input outputs kind p e)) full

  room_is : (kind : Kind) (p : Parameters) (e : Editing) → is_full kind p e.shape.frames ≡ false → made_of input outputs kind p e ≡ made_if_good input outputs kind p e
  room_is kind p e room = ap (λ (t : Bool). cond t (DoneAll.refuses (get_or outputs 0 []) ContainerFull) (made_if_good input outputs kind p e)) room

  module _ (e : Editing) where
    -- there are not as many outputs as channels
    wrong_count : (length outputs == e.shape.params.channels) ≡ false → done_counted input outputs e ≡ DoneAll.refuses input WrongCount
    wrong_count other = ap (λ (t : Bool). cond t (done_as input outputs e (params_like e.shape.kind 1 e.shape.params)) (DoneAll.refuses input WrongCount)) other

    -- there are
    module _ (counted : (length outputs == e.shape.params.channels) ≡ true) where
      counted_is : done_counted input outputs e ≡ done_as input outputs e (params_like e.shape.kind 1 e.shape.params)
      counted_is = ap (λ (t : Bool). cond t (done_as input outputs e (params_like e.shape.kind 1 e.shape.params)) (DoneAll.refuses input WrongCount)) counted

      unfit_done : (why : OpenRefusal) → params_like e.shape.kind 1 e.shape.params ≡ Err why → done_counted input outputs e ≡ DoneAll.refuses (get_or outputs 0 []) (Open why)
      unfit_done why unfit = counted_is ∙ ap (done_as input outputs e) unfit

      full_done : (p : Parameters) → params_like e.shape.kind 1 e.shape.params ≡ Ok p → is_full e.shape.kind p e.shape.frames ≡ true → done_counted input outputs e ≡ DoneAll.refuses (get_or outputs 0 []) ContainerFull
      full_done p like full = counted_is ∙ ap (done_as input outputs e) like ∙ full_is e.shape.kind p e full

      room_done : (p : Parameters) → params_like e.shape.kind 1 e.shape.params ≡ Ok p → is_full e.shape.kind p e.shape.frames ≡ false → done_counted input outputs e ≡ made_if_good input outputs e.shape.kind p e
      room_done p like room = counted_is ∙ ap (done_as input outputs e) like ∙ room_is e.shape.kind p e room

  -- .. by the layout of the file
  module _ (e : Editing) (h : Shape) (is : h ≡ e.shape) where
    pub wrong_as : (length outputs == h.params.channels) ≡ false → done_counted input outputs e ≡ DoneAll.refuses input WrongCount
    wrong_as other = wrong_count e (ap (λ (s : Shape). length outputs == s.params.channels) (sym is) ∙ other)

    counted_as : (length outputs == h.params.channels) ≡ true → (length outputs == e.shape.params.channels) ≡ true
    counted_as counted = ap (λ (s : Shape). length outputs == s.params.channels) (sym is) ∙ counted

    like_as : (r : Result Parameters OpenRefusal) → params_like h.kind 1 h.params ≡ r → params_like e.shape.kind 1 e.shape.params ≡ r
    like_as r like = ap (λ (s : Shape). params_like s.kind 1 s.params) (sym is) ∙ like

    room_as : (p : Parameters) (t : Bool) → is_full h.kind p h.frames ≡ t → is_full e.shape.kind p e.shape.frames ≡ t
    room_as p t judged = ap (λ (s : Shape). is_full s.kind p s.frames) (sym is) ∙ judged

    module _ (counted : (length outputs == h.params.channels) ≡ true) where
      pub unfit_as : (why : OpenRefusal) → params_like h.kind 1 h.params ≡ Err why → done_counted input outputs e ≡ DoneAll.refuses (get_or outputs 0 []) (Open why)
      unfit_as why unfit = unfit_done e (counted_as counted) why (like_as (Err why) unfit)

      pub full_as : (p : Parameters) → params_like h.kind 1 h.params ≡ Ok p → is_full h.kind p h.frames ≡ true → done_counted input outputs e ≡ DoneAll.refuses (get_or outputs 0 []) ContainerFull
      full_as p like full = full_done e (counted_as counted) p (like_as (Ok p) like) (room_as p true full)

      pub good_as : (p : Parameters) → params_like h.kind 1 h.params ≡ Ok p → is_full h.kind p h.frames ≡ false → done_counted input outputs e ≡ made_if_good input outputs h.kind p e
      good_as p like room =
          room_done e (counted_as counted) p (like_as (Ok p) like) (room_as p false room) ∙ ap (λ (s : Shape). made_if_good input outputs s.kind p e) (sym is)

-- ---- and is said

pub does_all : {S : Type 0} (state : S → ShelfState) (todo : Files → DoneAll) (old new : S) (r : Result Answer Stop)
    → IfOk r (λ answer. (files : Files) → TellsFiles state old files → IsDone state new answer (todo files) files) → Does state todo old new r
does_all state todo old new (Ok answer) is = is
does_all state todo old new (Err stop) is = tt

module _ {S : Type 0} (state : S → ShelfState) (new : S) (files : Files) where
  -- nothing that is known in two ways is done otherwise
  pub all_same : (answer : Answer) (todo todo' : DoneAll) → todo' ≡ todo → IsDone state new answer todo files → IsDone state new answer todo' files
  all_same answer todo todo' is done = subst (λ (d : DoneAll). IsDone state new answer d files) (sym is) done

  -- something was refused, and the files are the same
  pub all_refused : (name : List ℕ) (why : Refusal) (todo : DoneAll) → HasFiles state new files → todo ≡ DoneAll.refuses name why
      → (Said.refused name why ≡ said_of todo) × HasFiles state new (files_after todo files)
  all_refused name why todo has is = subst (λ (d : DoneAll). (Said.refused name why ≡ said_of d) × HasFiles state new (files_after d files)) (sym is) (refl, has)

  -- the outputs were made
  pub all_made : (input : List ℕ) (outputs : List (List ℕ)) (kind : Kind) (p : Parameters) (e : Editing) (frames : ℕ) → frames ≡ e.shape.frames → is_bad e ≡ false
      → HasFiles state new (puts outputs (file_of kind p e) 0 files)
      → (Said.made frames ≡ said_of (made_if_good input outputs kind p e)) × HasFiles state new (files_after (made_if_good input outputs kind p e) files)
  all_made input outputs kind p e frames same good has =
      subst (λ (d : DoneAll). (Said.made frames ≡ said_of d) × HasFiles state new (files_after d files)) (sym (good_is input outputs kind p e good)) (ap Said.made same, has)

-- ---- beside a file that is held

-- what is done makes no files but those of some names
abbrev pub MakesAmong : List (List ℕ) → DoneAll → Type 0
MakesAmong outputs (DoneAll.makes names file frames) = names ≡ outputs
MakesAmong outputs (DoneAll.refuses name why) = Unit {0}

-- .. so any other is as before
pub after_beside : (outputs : List (List ℕ)) (todo : DoneAll) (f : Files) (n : List ℕ) → MakesAmong outputs todo → is_among outputs n ≡ false → files_after todo f n ≡ f n
after_beside outputs (DoneAll.makes names file frames) f n is none = puts_apart names file 0 f n (ap (λ (l : List (List ℕ)). is_among l n) is ∙ none)
after_beside outputs (DoneAll.refuses name why) f n is none = refl

-- what it leaves under a name rests on what stands there
pub after_same : (todo : DoneAll) (f f' : Files) (n : List ℕ) → f' n ≡ f n → files_after todo f' n ≡ files_after todo f n
after_same (DoneAll.makes names file frames) f f' n same = puts_same names file 0 f f' n same
after_same (DoneAll.refuses name why) f f' n same = same

makes_good : (input : List ℕ) (outputs : List (List ℕ)) (kind : Kind) (p : Parameters) (e : Editing) → MakesAmong outputs (made_if_good input outputs kind p e)
makes_good input outputs kind p e = elim (cases_Bool (is_bad e)) [
  | inl bad ↦ subst (MakesAmong outputs) (sym (bad_is input outputs kind p e bad)) tt
  | inr good ↦ subst (MakesAmong outputs) (sym (good_is input outputs kind p e good)) refl
]

makes_of : (input : List ℕ) (outputs : List (List ℕ)) (kind : Kind) (p : Parameters) (e : Editing) → MakesAmong outputs (made_of input outputs kind p e)
makes_of input outputs kind p e = elim (cases_Bool (is_full kind p e.shape.frames)) [
  | inl full ↦ subst (MakesAmong outputs) (sym (full_is input outputs kind p e full)) tt
  | inr room ↦ subst (MakesAmong outputs) (sym (room_is input outputs kind p e room)) (makes_good input outputs kind p e)
]

makes_as : (input : List ℕ) (outputs : List (List ℕ)) (e : Editing) (r : Result Parameters OpenRefusal) → MakesAmong outputs (done_as input outputs e r)
makes_as input outputs e (Err why) = tt
makes_as input outputs e (Ok p) = makes_of input outputs e.shape.kind p e

pub makes_counted : (input : List ℕ) (outputs : List (List ℕ)) (e : Editing) → MakesAmong outputs (done_counted input outputs e)
makes_counted input outputs e = elim (cases_Bool (length outputs == e.shape.params.channels)) [
  | inl counted ↦ subst (MakesAmong outputs) (sym (counted_is input outputs e counted)) (makes_as input outputs e (params_like e.shape.kind 1 e.shape.params))
  | inr other ↦ subst (MakesAmong outputs) (sym (wrong_count input outputs e other)) tt
]

-- ---- by the names

pub repeated_done : (input : List ℕ) (outputs : List (List ℕ)) (files : Files) (at : ℕ) (name : List ℕ) → first_same input outputs ≡ Some at → name ≡ get_or outputs at []
    → deinterleaved input outputs files ≡ DoneAll.refuses name SameName
repeated_done input outputs files at name found is = ap (done_if_apart input outputs files) found ∙ ap (λ (n : List ℕ). DoneAll.refuses n SameName) (sym is)

pub apart_done : (input : List ℕ) (outputs : List (List ℕ)) (files : Files) (r : Result Editing Refusal) → first_same input outputs ≡ None → input_in (files input) ≡ r
    → deinterleaved input outputs files ≡ done_with input outputs r
apart_done input outputs files r none is = ap (done_if_apart input outputs files) none ∙ ap (done_with input outputs) is
