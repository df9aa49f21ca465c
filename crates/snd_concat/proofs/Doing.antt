-- From what was looked at to what is done.
use Rattle.std.proofs.Common.{◌≡◌, ℕ, ◌<◌, List, [], ◌∷◌, ◌++◌, All, Bool, true, false, cond, not, Option, None, Some, Result, Ok, Err, IsOk, length, slice_get, get_or, position, refl, sym, ◌∙◌, ap, subst, inl, inr, arith}
use Rattle.std.proofs.lemmas.Bool.{cases_lt, lt-ltb}
use Rattle.std.proofs.lemmas.List.{get_or_append_left}
use Rattle.std.proofs.lemmas.List.Quantifiers.{position-Some}
use Rattle.std.proofs.lemmas.List.Sums.{fails_before_first}
use Rattle.std.specs.List.{position_or_len}
use Rattle.snd_disk.specs.Shelf.{Files, ShelfState}
use Rattle.snd_inputs.specs.Inputs.{first_bad, is_bad}
use Rattle.snd_inputs.specs.Looking.{all_seen}
use Rattle.snd_inputs.specs.Rooms.{is_full}
use Rattle.snd_layout.specs.Params.{Parameters}
use Rattle.snd_layout.specs.Shape.{Shape}
use Rattle.snd_layout.specs.declared.codec.Codec.{Codec}
use Rattle.snd_layout.specs.declared.refusal.OpenRefusal.{OpenRefusal}
use Rattle.snd_lines.specs.declared.refusal.Refusal.{Refusal}
use Rattle.snd_lines.specs.declared.refusal.Refusal.TheVariants.{ContainerFull, MissingFile, Open}
use Rattle.snd_edits.specs.Editing.{Editing}
use Rattle.snd_output.proofs.Public.{like_is}
use Rattle.snd_output.specs.Codecs.{params_like}
use Rattle.snd_tools.proofs.Public.{after_same}
use Rattle.snd_tools.specs.Done.{Done}
use Rattle.snd_tools.specs.Shelves.{IsDone}
use Rattle.snd_tools.specs.declared.answer.Answer.{Answer}
use Rattle.snd_concat.specs.Concat.{all_frames, done_as, done_if_alike, done_like, first_mixed, is_alike, made_if_good, made_of, shapes_of}
use Rattle.snd_concat.specs.Making.{MayJoin}

module _ {S : Type 0} (state : S → ShelfState) (new : S) where
  -- what is done over some files is done over others that are the same
  pub done_over : (answer : Answer) (todo : Done) (files files' : Files) → ((n : List ℕ) → files' n ≡ files n) → IsDone state new answer todo files' → IsDone state new answer todo files
  done_over answer todo files files' same done = (done.0, (done.1.0, done.1.1, λ n. done.1.2 n ∙ after_same todo files files' n (same n)))

-- ---- inputs by their layouts

not_not : (t : Bool) → not t ≡ false → t ≡ true
not_not true is = refl
not_not false is = absurd (cc)

pub none_mixed : (h : Shape) (hs : List Shape) → first_mixed h.params hs ≡ None → All (λ (g : Shape). is_alike h.params g.params ≡ true) hs
none_mixed h hs none k d lt =
    let test : Shape → Bool = λ g. not (is_alike h.params g.params) in
    elim (cases_lt (position_or_len test hs) (length hs)) [
      | inl found ↦ absurd (
          let is : position test hs ≡ Some (position_or_len test hs) = ap (λ (t : Bool). cond t (Some (position_or_len test hs)) None) (lt-ltb (position_or_len test hs) (length hs) found) in
          let no : ◌≡◌ {A = Option ℕ} None (Some (position_or_len test hs)) = sym none ∙ is in
          cc)
      | inr past ↦ not_not (is_alike h.params (get_or hs k d).params) (fails_before_first test hs k d (omega (arith, lt, past)))
    ]

module _ (inputs : List (List ℕ)) (output : List ℕ) where
  pub like_done : (es : List Editing) (hs : List Shape) (h : Shape) → shapes_of es ≡ hs → slice_get hs 0 ≡ Some h → done_like inputs output es ≡ done_if_alike inputs output h es (first_mixed h.params hs)
  like_done [] hs h seen first = absurd (let no : ◌≡◌ {A = Option Shape} None (Some h) = ap (λ (l : List Shape). slice_get l 0) seen ∙ first in cc)
  like_done (e ∷ others) hs h seen first =
      let is : ◌≡◌ {A = Option Shape} (Some e.shape) (Some h) = ap (λ (l : List Shape). slice_get l 0) seen ∙ first in
      let same : e.shape ≡ h = cc in
      ap (λ (g : Shape). done_if_alike inputs output g (e ∷ others) (first_mixed g.params (shapes_of (e ∷ others)))) same
      ∙ ap (λ (l : List Shape). done_if_alike inputs output h (e ∷ others) (first_mixed h.params l)) seen

  -- where their channels and rates are those of the first: what the output would be is refused, its head has no room, or it has
  module _ (es : List Editing) (hs : List Shape) (h : Shape) (seen : shapes_of es ≡ hs) (first : slice_get hs 0 ≡ Some h) (none : first_mixed h.params hs ≡ None) where
    alike_done : done_like inputs output es ≡ done_as inputs output h.kind es (params_like h.kind h.params.channels h.params)
    alike_done = like_done es hs h seen first ∙ ap (done_if_alike inputs output h es) none

    pub unfit_done : (why : OpenRefusal) → params_like h.kind h.params.channels h.params ≡ Err why → done_like inputs output es ≡ Done.refuses output (Open why)
    unfit_done why refused = alike_done ∙ ap (done_as inputs output h.kind es) refused

    module _ (p : Parameters) (is : params_like h.kind h.params.channels h.params ≡ Ok p) where
      fit_done : done_like inputs output es ≡ made_of inputs output h.kind p es
      fit_done = alike_done ∙ ap (done_as inputs output h.kind es) is

      pub full_done : is_full h.kind p (all_frames hs) ≡ true → done_like inputs output es ≡ Done.refuses output ContainerFull
      full_done full =
          fit_done ∙ ap (λ (t : Bool). cond t (Done.refuses output ContainerFull) (made_if_good inputs output h.kind p es (first_bad es))) (ap (λ (l : List Shape). is_full h.kind p (all_frames l)) seen ∙ full)

      pub room_done : is_full h.kind p (all_frames hs) ≡ false → done_like inputs output es ≡ made_if_good inputs output h.kind p es (first_bad es)
      room_done room =
          fit_done ∙ ap (λ (t : Bool). cond t (Done.refuses output ContainerFull) (made_if_good inputs output h.kind p es (first_bad es))) (ap (λ (l : List Shape). is_full h.kind p (all_frames l)) seen ∙ room)

      -- they may be put together where it has
      pub may_join : is_full h.kind p (all_frames hs) ≡ false → MayJoin h.kind p (shapes_of es)
      may_join room = subst (MayJoin h.kind p) (sym seen) (record { alike = subst (λ (q : Parameters). All (λ (g : Shape). is_alike q g.params ≡ true) hs) (sym alike_is) like_first; in_room = room })
        where
          like_first : All (λ (g : Shape). is_alike (record p { channels = h.params.channels; rate = h.params.rate }) g.params ≡ true) hs
          like_first = none_mixed h hs none

          alike_is : p ≡ record p { channels = h.params.channels; rate = h.params.rate }
          alike_is = let whole = like_is h.kind h.params.channels h.params p (sym is) in whole ∙ ap (λ (q : Codec). record { channels = h.params.channels; rate = h.params.rate; codec = q }) (sym (ap (λ (q : Parameters). q.codec) whole))

  pub none_done : (es : List Editing) → shapes_of es ≡ [] → done_like inputs output es ≡ Done.refuses output MissingFile
  none_done [] seen = refl
  none_done (e ∷ others) seen = absurd (cc)

  -- the name at a place is that of the input there
  pub named : (at : ℕ) → at < length inputs → get_or (inputs ++ output ∷ []) at [] ≡ get_or inputs at []
  named at lt = get_or_append_left inputs (output ∷ []) [] at lt

pub mixed_within : (h : Shape) (hs : List Shape) (at : ℕ) → first_mixed h.params hs ≡ Some at → at < length hs
mixed_within h hs at is = (position-Some (λ (g : Shape). not (is_alike h.params g.params)) hs at h is).0

-- a place at which a file has a bad block is one of them
pub bad_within : (es : List Editing) (at : ℕ) → Some at ≡ first_bad es → at < length es
bad_within [] at is = absurd (cc)
bad_within (e ∷ es) at is = (position-Some is_bad (e ∷ es) at e (sym is)).0

-- ---- what was seen

pub refused_not_ok : {T E : Type 0} (r : Result T E) (why : E) → r ≡ Err why → IsOk r → ⊥
refused_not_ok (Ok x) why is ok = absurd (cc)
refused_not_ok (Err other) why is ok = absurd (cc)

pub seen_sound : (r : Result (List Editing) (List ℕ × Refusal)) (hs : List Shape) → Ok hs ≡ all_seen r → (es : List Editing) × (r ≡ Ok es) × (shapes_of es ≡ hs)
seen_sound (Ok es) hs is = (es, refl, (let same : shapes_of es ≡ hs = cc in same))
seen_sound (Err refused) hs is = absurd (cc)
