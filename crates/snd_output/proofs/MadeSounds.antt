-- The sound of a file that is made.
use Rattle.std.proofs.Common.{◌≡◌, ◌∙◌, ap, sym, subst, refl, inl, inr, ℕ, ℤ, Bool, true, false, cond, List, ◌++◌, Option, None, Some, Ok, length, map, take, drop}
use Rattle.std.specs.Prelude.{Result, is_none}
use Rattle.std.proofs.lemmas.Bool.{cases_Bool}
use Rattle.std.proofs.lemmas.List.{append_assoc, drop_at, take_at}
use Rattle.snd_block_writer.specs.Coded.{kept}
use Rattle.snd_chunks.specs.Written.{NewChunk}
use Rattle.snd_container.proofs.Public.{numbers_are_kept}
use Rattle.snd_container.specs.Sound.{Kept, Sound, decoded, decoded_as, fixed_of, kept_as, kept_numbers, kept_of, sound_bytes}
use Rattle.snd_blocks.specs.Sound.{frames_in, sound_of}
use Rattle.snd_container.specs.declared.fixed.Fixed.{Fixed}
use Rattle.snd_layout.specs.Blocks.{is_adpcm}
use Rattle.snd_layout.specs.Params.{Parameters, data_bytes}
use Rattle.snd_layout.specs.Shape.{Shape}
use Rattle.snd_layout.specs.declared.kind.Kind.{Kind}
use Rattle.snd_pcm.specs.Groups.{groups}
use Rattle.snd_edits.specs.Editing.{Editing}
use Rattle.snd_edits.specs.Edits.{coded, coded_as, sealed_to}
use Rattle.snd_edits.specs.Encoding.{encoded_whole}
use Rattle.snd_edits.specs.Laws.{HasSoundOf}
use Rattle.snd_edits.specs.Reading.{FitCodec}
use Rattle.snd_edits.specs.Relaid.{head_with, shape_with}
use Rattle.snd_layout.specs.declared.refusal.OpenRefusal.{OpenRefusal}
use Rattle.snd_edits.proofs.Public.{edited_pieces, encoded_sound, in_form, now_decoded, sealed_is_edited, sealed_told, sound_by, sound_with}
use Rattle.snd_output.specs.Laws.{MadeHasSound}
use Rattle.snd_output.specs.Made.{HoldsBlocks, HoldsNumbers, IsMaking, closing_so_far, frame_count, kept_chunk, made_sound}
use Rattle.snd_output.proofs.Bytes.{coded_data}
use Rattle.snd_output.proofs.Encoding.{filled_is_made}
use Rattle.snd_output.proofs.Finished.{linear, making_params, sealed_is_made, whole}

-- the bytes of numbers stand for those that are kept of them
decoded_coded_as : (p : Parameters) (xs : List ℤ) (o : Option Fixed) → fixed_of p.codec ≡ o → is_none o ≡ false → FitCodec p.codec xs → decoded_as o p.channels (coded_as o xs) ≡ groups p.channels (kept_as o xs)
decoded_coded_as p xs None is linear fit = absurd (cc)
decoded_coded_as p xs (Some form) is linear fit = ap (groups p.channels) (numbers_are_kept form xs (in_form p.codec form xs is fit))

pub decoded_coded : (p : Parameters) (xs : List ℤ) → is_none (fixed_of p.codec) ≡ false → FitCodec p.codec xs → decoded p (coded p xs) ≡ groups p.channels (kept_numbers p xs)
decoded_coded p xs linear fit = decoded_coded_as p xs (fixed_of p.codec) refl linear fit

abbrev made_with_frames : Kind → Parameters → List NewChunk → List (List ℤ) → Result Sound OpenRefusal
made_with_frames kind p pieces frames = Ok (record { kind = kind; params = p; frames = frames; pieces = map kept_chunk pieces })

module _ (kind : Kind) (p : Parameters) (pieces : List NewChunk) (xs : List ℤ) (e : Editing) (m : IsMaking kind p pieces xs e) (plain : is_adpcm p.codec ≡ false) where
  abbrev head : List ℕ
  head = head_with kind p pieces

  abbrev says : Shape
  says = shape_with kind p pieces

  abbrev n : ℕ
  n = frame_count p xs

  abbrev body : List ℕ
  body = coded p xs

  holds : HoldsNumbers kind p pieces xs e
  holds = m.numbers plain

  -- the bytes of the frames
  sound_is : sound_bytes e.bytes e.shape ≡ body
  sound_is =
      let rest = closing_so_far says n in
      let size : length body ≡ data_bytes says.params n = coded_data p xs n (linear kind p pieces xs e m plain) (whole kind p pieces xs e m plain) ∙ sym (ap (λ (q : Parameters). data_bytes q n) m.params) in
      ap (sound_bytes e.bytes) holds.shape
      ∙ ap (λ (b : List ℕ). take (data_bytes says.params n) (drop says.start b)) (holds.bytes ∙ append_assoc head body rest)
      ∙ ap (take (data_bytes says.params n)) (drop_at head (body ++ rest) says.start (sym m.start))
      ∙ take_at body rest (data_bytes says.params n) size

  pub frames_are : e.frames ≡ groups p.channels (kept_numbers p xs)
  frames_are =
      now_decoded head e holds.edited
      ∙ ap (λ (s : Shape). decoded s.params (sound_bytes e.bytes e.shape)) holds.shape
      ∙ ap (λ (q : Parameters). decoded q (sound_bytes e.bytes e.shape)) m.params
      ∙ ap (decoded p) sound_is
      ∙ decoded_coded p xs (linear kind p pieces xs e m plain) m.in_range

  -- the file sealed
  abbrev x : List ℕ
  x = (sealed_to e).bytes

  sealed_pieces : map (kept_of x) says.pieces ≡ map kept_chunk pieces
  sealed_pieces =
      let then = sealed_is_edited head e holds.edited in
      let same : says.pieces ≡ then.keeps.head.pieces = sym (ap (λ (s : Shape). s.pieces) holds.shape) ∙ ap (λ (s : Shape). s.pieces) then.keeps.shape in
      ap (map (kept_of x)) same ∙ edited_pieces head (sealed_to e) then.keeps ∙ ap (map (kept_of head)) (sym same) ∙ m.kept

  pub sealed_has_sound : sound_of x ≡ Ok (made_sound kind p pieces xs)
  sealed_has_sound =
      let then = sealed_is_edited head e holds.edited in
      let s = (sealed_to e).shape in
      let made = λ (k : Kind) (q : Parameters) (frames : List (List ℤ)) (kept : List Kept). ◌≡◌ {A = Result Sound OpenRefusal} (sound_of x) (Ok (record { kind = k; params = q; frames = frames; pieces = kept })) in
      let first : sound_of x ≡ sound_with x s e.frames = sound_by x s (sealed_told head e holds.edited.keeps) ∙ ap (sound_with x s) (sym then.keeps.holds.sound) in
      let second : made says.kind says.params e.frames (map (kept_of x) says.pieces) = first ∙ ap (λ (h : Shape). sound_with x h e.frames) holds.shape in
      let third : made kind says.params e.frames (map (kept_of x) says.pieces) = subst (λ (k : Kind). made k says.params e.frames (map (kept_of x) says.pieces)) m.kind_is second in
      let fourth : made kind p e.frames (map (kept_of x) says.pieces) = subst (λ (q : Parameters). made kind q e.frames (map (kept_of x) says.pieces)) m.params third in
      let fifth : made kind p (groups p.channels (kept_numbers p xs)) (map (kept_of x) says.pieces) = subst (λ (l : List (List ℤ)). made kind p l (map (kept_of x) says.pieces)) frames_are fourth in
      let sixth : made kind p (groups p.channels (kept_numbers p xs)) (map kept_chunk pieces) = subst (λ (l : List Kept). made kind p (groups p.channels (kept_numbers p xs)) l) sealed_pieces fifth in
      sixth ∙ ap (λ (t : Bool). made_with_frames kind p pieces (cond t (kept p xs) (groups p.channels (kept_numbers p xs)))) (sym plain)

-- in ADPCM
module _ (kind : Kind) (p : Parameters) (pieces : List NewChunk) (xs : List ℤ) (e : Editing) (m : IsMaking kind p pieces xs e) (is : is_adpcm p.codec ≡ true) where
  abbrev first_head : List ℕ
  first_head = head_with kind p pieces

  abbrev first_says : Shape
  first_says = shape_with kind p pieces

  blocks : HoldsBlocks kind p pieces xs e
  blocks = m.blocks is

  has : HasSoundOf first_head (kept e.shape.params e.given) (encoded_whole e).bytes
  has = encoded_sound first_head e blocks.encoded

  first_sound : has.0 ≡ record { kind = first_says.kind; params = first_says.params; frames = frames_in first_head first_says; pieces = map (kept_of first_head) first_says.pieces }
  first_sound =
      let same : ◌≡◌ {A = Result Sound OpenRefusal} (Ok has.0) (sound_with first_head first_says (frames_in first_head first_says)) = sym has.1 ∙ sound_by first_head first_says blocks.told in
      cc

  pub filled_has_sound : sound_of (encoded_whole e).bytes ≡ Ok (made_sound kind p pieces xs)
  filled_has_sound =
      has.2
      ∙ ap (λ (s : Sound). Ok (record s { frames = kept e.shape.params e.given })) first_sound
      ∙ ap (λ (k : Kind). Ok (record { kind = k; params = first_says.params; frames = kept e.shape.params e.given; pieces = map (kept_of first_head) first_says.pieces })) m.kind_is
      ∙ ap (λ (q : Parameters). Ok (record { kind = kind; params = q; frames = kept e.shape.params e.given; pieces = map (kept_of first_head) first_says.pieces })) m.params
      ∙ ap (λ (l : List Kept). Ok (record { kind = kind; params = p; frames = kept e.shape.params e.given; pieces = l })) m.kept
      ∙ ap (λ (q : Parameters). made_with_frames kind p pieces (kept q e.given)) (making_params kind p pieces xs e m)
      ∙ ap (λ (l : List ℤ). made_with_frames kind p pieces (kept p l)) blocks.given
      ∙ ap (λ (t : Bool). made_with_frames kind p pieces (cond t (kept p xs) (groups p.channels (kept_numbers p xs)))) (sym is)

pub made_has_sound : MadeHasSound
made_has_sound kind p pieces xs e m = elim (cases_Bool (is_adpcm p.codec)) [
  | inl is ↦ ap sound_of (sym (filled_is_made kind p pieces xs e m is)) ∙ filled_has_sound kind p pieces xs e m is
  | inr plain ↦ ap sound_of (sym (sealed_is_made kind p pieces xs e m plain)) ∙ sealed_has_sound kind p pieces xs e m plain
]
