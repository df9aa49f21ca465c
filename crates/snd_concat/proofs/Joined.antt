-- The numbers and the frames of several files, one file more at a time.
use Rattle.std.proofs.Common.{◌≡◌, ℕ, ◌+◌, ◌<◌, ◌≤◌, List, [], ◌∷◌, ◌++◌, Option, Some, Ok, option_map, length, slice_get, get_or, take, true, false, sym, ◌∙◌, ap, subst, arith}
use Rattle.std.proofs.lemmas.List.{flat_map_more, length-map, map_more, take_more, take-map}
use Rattle.std.proofs.lemmas.List.Sums.{sum_by_push, sum_by-take-le}
use Rattle.std.proofs.lemmas.Option.{get_or_from_slice_get, slice_get-map, slice_get_within}
use Rattle.snd_disk.specs.Shelf.{Files}
use Rattle.snd_inputs.proofs.Public.{exceeds_fewer, input_at}
use Rattle.snd_inputs.specs.Inputs.{input_in, inputs_in}
use Rattle.snd_inputs.specs.Rooms.{exceeds}
use Rattle.snd_layout.specs.Blocks.{block_frames}
use Rattle.snd_layout.specs.Shape.{Shape, room}
use Rattle.snd_layout.specs.declared.codec.Codec.{Codec}
use Rattle.snd_edits.specs.Editing.{Editing}
use Rattle.snd_edits.specs.Known.{Known}
use Rattle.snd_concat.specs.Appending.{AllFollow, Follows}
use Rattle.snd_concat.specs.Concat.{all_frames, all_numbers, is_alike, numbers_for, shapes_of}

abbrev shape_of : Editing → Shape
shape_of e = e.shape

module _ (es : List Editing) (at : ℕ) (e : Editing) (there : slice_get es at ≡ Some e) where
  within : at < length es
  within = slice_get_within es at e there

  this : (d : Editing) → get_or es at d ≡ e
  this d = get_or_from_slice_get es at e d there

  next : take (at + 1) es ≡ take at es ++ e ∷ []
  next = take_more es at e within ∙ ap (λ (x : Editing). take at es ++ x ∷ []) (this e)

  pub numbers_next : (codec : Codec) → all_numbers codec (take (at + 1) es) ≡ all_numbers codec (take at es) ++ numbers_for codec e
  numbers_next codec = ap (all_numbers codec) next ∙ sym (flat_map_more (numbers_for codec) [] (take at es) e)

  pub frames_next : all_frames (shapes_of (take (at + 1) es)) ≡ all_frames (shapes_of (take at es)) + e.shape.frames
  frames_next =
      ap all_frames (map_more shape_of es at e within) ∙ sum_by_push (λ (h : Shape). h.frames) (shapes_of (take at es)) (shape_of (get_or es at e))
      ∙ ap (λ (x : Editing). all_frames (shapes_of (take at es)) + x.shape.frames) (this e)

  frames_within : all_frames (shapes_of (take (at + 1) es)) ≤ all_frames (shapes_of es)
  frames_within = subst (λ (l : List Shape). all_frames l ≤ all_frames (shapes_of es)) (take-map shape_of (at + 1) es) (sum_by-take-le (λ (h : Shape). h.frames) (shapes_of es) (at + 1))

  -- Where all may follow, this one may, behind those before it.
  module _ (to now : Known) (some : 1 ≤ block_frames to.shape.params.codec) (shape : now.shape ≡ record to.shape { frames = now.shape.frames }) (count : now.write_place ≡ to.write_place + all_frames (shapes_of (take at es)))
      (all : AllFollow (shapes_of es) to) where
    alike_at : is_alike to.shape.params e.shape.params ≡ true
    alike_at =
        let lt : at < length (shapes_of es) = omega (arith, within, length-map es shape_of) in
        let here : get_or (shapes_of es) at e.shape ≡ e.shape = get_or_from_slice_get (shapes_of es) at e.shape e.shape (slice_get-map shape_of es at ∙ ap (λ o. option_map shape_of o) there) in
        subst (λ (h : Shape). is_alike to.shape.params h.params ≡ true) here (all.alike at e.shape lt)

    room_at : exceeds to.shape.kind to.shape.params (room to.shape) (now.write_place + e.shape.frames) ≡ false
    room_at =
        exceeds_fewer to.shape.kind to.shape.params (room to.shape) (now.write_place + e.shape.frames) (to.write_place + all_frames (shapes_of es)) some (omega (arith, count, frames_next, frames_within)) all.in_room

    pub follows_next : Follows e.shape now
    follows_next = record {
      alike = ap (λ (h : Shape). is_alike h.params e.shape.params) shape ∙ alike_at;
      in_room = ap (λ (h : Shape). exceeds h.kind h.params (room h) (now.write_place + e.shape.frames)) shape ∙ room_at;
    }

-- The file at a place among those that may all follow: it is opened, and its frames may follow now, behind those before it.
pub follows_at : (files files' : Files) (names : List (List ℕ)) (es : List Editing) (at : ℕ) (name : List ℕ) (to now : Known) → inputs_in files names ≡ Ok es → slice_get names at ≡ Some name → files' name ≡ files name
    → 1 ≤ block_frames to.shape.params.codec → now.shape ≡ record to.shape { frames = now.shape.frames } → now.write_place ≡ to.write_place + all_frames (shapes_of (take at es)) → AllFollow (shapes_of es) to
    → (e : Editing) × (slice_get es at ≡ Some e) × (input_in (files' name) ≡ Ok e) × Follows e.shape now
follows_at files files' names es at name to now opened there same some shape count all =
    let this_one = input_at files names es at name opened there in (
      this_one.0,
      this_one.1,
      ap (λ (o : Option (List ℕ)). input_in o) same ∙ this_one.2,
      follows_next es at this_one.0 this_one.1 to now some shape count all,
    )
