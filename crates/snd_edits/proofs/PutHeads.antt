-- A file without frames, once a piece was put.
use Rattle.std.proofs.Common.{◌≡◌, ◌∙◌, ap, sym, refl, ℕ, ◌≤◌, ℤ, Bool, true, false, List, [], Option, None, Some, Ok, length}
use Rattle.std.specs.Prelude.{is_none, is_some}
use Rattle.std.proofs.lemmas.List.{nil_from_length}
use Rattle.snd_blocks.specs.Sound.{frames_in}
use Rattle.snd_container.specs.Sound.{fixed_of, layout_of}
use Rattle.snd_layout.specs.Params.{AreParams}
use Rattle.snd_layout.specs.Shape.{KeepsRule, Shape, end}
use Rattle.snd_edits.specs.Chunks.{IsOpenedAs}
use Rattle.snd_edits.specs.Editing.{Editing, first_editing}
use Rattle.snd_edits.proofs.Opened.{update_ok}
use Rattle.snd_edits.proofs.Opening.{opening_ok}
use Rattle.snd_edits.proofs.FixedFrames.{count_any}
use Rattle.snd_edits.proofs.Rooms.{not_adpcm}

pub some_told : (o : Option (List ℕ)) → is_some o ≡ true → (x : List ℕ) × (o ≡ Some x)
some_told None is = absurd (cc)
some_told (Some x) is = (x, refl)

-- no frames are those that the bytes give
pub no_sound : (b : List ℕ) (s : Shape) (frames : List (List ℤ)) → KeepsRule s → AreParams s.params → s.frames ≡ 0 → end s s.frames ≤ length b → length frames ≡ 0
    → frames ≡ frames_in b s
no_sound b s frames rule good none fits few =
    nil_from_length frames few ∙ sym (nil_from_length (frames_in b s) (sym (count_any b s s.kind rule.fits good fits) ∙ none))

-- a state of which nothing but the bytes and the layout is known is the one in which editing begins
pub record IsFirst (e : Editing) : Type 0 where
  pub frames : e.frames ≡ frames_in e.bytes e.shape
  pub place : e.place ≡ 0
  pub write_place : e.write_place ≡ 0
  pub automatic : e.automatic ≡ false
  pub written : e.written ≡ false
  pub given : e.given ≡ []

first_again : (e : Editing) → IsFirst e → first_editing e.bytes e.shape ≡ e
first_again e is =
    ap (λ (l : List (List ℤ)). record { bytes = e.bytes; shape = e.shape; frames = l; place = 0; write_place = 0; automatic = false; written = false; given = [] }) (sym is.frames)
    ∙ ap (λ (n : ℕ). record e { place = n; write_place = 0; automatic = false; written = false; given = [] }) (sym is.place)
    ∙ ap (λ (n : ℕ). record e { write_place = n; automatic = false; written = false; given = [] }) (sym is.write_place)
    ∙ ap (λ (t : Bool). record e { automatic = t; written = false; given = [] }) (sym is.automatic)
    ∙ ap (λ (t : Bool). record e { written = t; given = [] }) (sym is.written)
    ∙ ap (λ (l : List ℤ). record e { given = l }) (sym is.given)

-- what its bytes give that say its layout
pub begins_again : (encodes : Bool) (e : Editing) → layout_of e.bytes ≡ Ok e.shape → e.shape.unknown_length ≡ false → (encodes ≡ false → is_none (fixed_of e.shape.params.codec) ≡ false) → IsFirst e
    → IsOpenedAs encodes e
begins_again encodes e opened known linear is = record {
  opens = opening_ok e.bytes e.shape opened ∙ ap (λ (g : Editing). Ok g) (first_again e is);
  updates = λ no. update_ok e.bytes e.shape opened (not_adpcm e.shape.params.codec (linear no)) known ∙ ap (λ (g : Editing). Ok g) (first_again e is);
}
