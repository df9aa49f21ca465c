-- A file that is being made is made once it is sealed.
use Rattle.std.proofs.Common.{◌≡◌, ◌⊎◌, ◌∙◌, ap, sym, subst, inl, inr, ⊎_elim, ℕ, ◌*◌, ◌≤◌, ℤ, Bool, false, cond, List, [], ◌++◌, length, refl, arith}
use Rattle.std.specs.Prelude.{is_none}
use Rattle.std.proofs.lemmas.Bool.{cases_Bool}
use Rattle.std.proofs.lemmas.List.{append_assoc, length-append}
use Rattle.snd_block_writer.specs.Coded as blocks
use Rattle.snd_chunks.specs.Written.{NewChunk}
use Rattle.snd_container.specs.Sound.{fixed_of}
use Rattle.snd_container.specs.Values.{closing}
use Rattle.snd_layout.specs.Blocks.{is_adpcm}
use Rattle.snd_layout.specs.Params.{Parameters, data_bytes}
use Rattle.snd_layout.specs.Shape.{KeepsRule, Shape, end}
use Rattle.snd_layout.specs.declared.kind.Kind.{Kind}
use Rattle.snd_patch.specs.Sealed.{FieldsLieApart, closed, sealed, with_fields}
use Rattle.snd_edits.specs.Editing.{Editing}
use Rattle.snd_edits.specs.Edits.{coded}
use Rattle.snd_edits.specs.Relaid.{head_with, shape_with}
use Rattle.snd_edits.proofs.Public.{fields_lie_apart, is_fixed, longer_closed, sealed_is, some_channel, whole_frames}
use Rattle.snd_output.specs.Laws.{SealedIsMade}
use Rattle.snd_output.specs.Made.{HoldsNumbers, IsMaking, closing_so_far, frame_count, made_file}
use Rattle.snd_output.proofs.Bytes.{closed_now, coded_data, fields_in_front, same_closing, same_fields, so_far_either}

-- a head, the data of so many frames, and what closes these, or nothing, are sealed
module _ (kind : Kind) (p : Parameters) (pieces : List NewChunk) (n : ℕ) (body rest : List ℕ) (params : (shape_with kind p pieces).params ≡ p)
    (start : (shape_with kind p pieces).start ≡ length (head_with kind p pieces)) (free : (shape_with kind p pieces).trailing ≡ false)
    (rule : KeepsRule (record (shape_with kind p pieces) { frames = n })) (apart : FieldsLieApart (record (shape_with kind p pieces) { frames = n }))
    (size : length body ≡ data_bytes p n) (either : (rest ≡ []) ⊎ (rest ≡ closing (shape_with kind p pieces) n)) where
  abbrev head : List ℕ
  head = head_with kind p pieces

  abbrev says : Shape
  says = shape_with kind p pieces

  abbrev h : Shape
  h = record says { frames = n }

  data_ends : length (head ++ body) ≡ end h n
  data_ends =
      let same : data_bytes says.params n ≡ data_bytes p n = ap (λ (q : Parameters). data_bytes q n) params in
      omega (arith, length-append head body, start, size, same)

  closed_is : closed (head ++ body ++ rest) h n ≡ head ++ body ++ closing says n
  closed_is =
      closed_now h n (head ++ body) rest data_ends (⊎_elim (λ none. inl none) (λ there. inr (there ∙ sym (same_closing says n n))) either)
      ∙ ap (λ (l : List ℕ). head ++ body ++ l) (same_closing says n n)

  fields_are : with_fields (head ++ body ++ closing says n) h n ≡ with_fields head says n ++ body ++ closing says n
  fields_are =
      ap (λ (l : List ℕ). with_fields l h n) (append_assoc head body (closing says n))
      ∙ fields_in_front h n head (body ++ closing says n) rule (omega (arith, start))
      ∙ sym (append_assoc (with_fields head h n) body (closing says n))
      ∙ ap (λ (l : List ℕ). l ++ body ++ closing says n) (same_fields says n n head)

  pub sealed_whole : sealed (head ++ body ++ rest) h n ≡ with_fields head says n ++ body ++ closing says n
  sealed_whole =
      let b = head ++ body ++ rest in
      let long : h.start ≤ length (closed b h n) = omega (arith, start, data_ends, longer_closed b h n, length-append (head ++ body) rest) in
      sealed_is b h n rule apart free long ∙ ap (λ (l : List ℕ). with_fields l h n) closed_is ∙ fields_are

module _ (kind : Kind) (p : Parameters) (pieces : List NewChunk) (xs : List ℤ) (e : Editing) (m : IsMaking kind p pieces xs e) where
  -- what the file says of itself so far has the parameters
  pub making_params : e.shape.params ≡ p
  making_params = elim (cases_Bool (is_adpcm p.codec)) [
    | inl is ↦ ap (λ (s : Shape). s.params) (m.blocks is).shape ∙ m.params
    | inr plain ↦ ap (λ (s : Shape). s.params) (m.numbers plain).shape ∙ m.params
  ]

  module _ (plain : is_adpcm p.codec ≡ false) where
    holds : HoldsNumbers kind p pieces xs e
    holds = m.numbers plain

    pub linear : is_none (fixed_of p.codec) ≡ false
    linear = is_fixed p.codec plain

    pub channels : 1 ≤ p.channels
    channels = subst (λ (q : Parameters). 1 ≤ q.channels) making_params (some_channel (head_with kind p pieces) e holds.edited.keeps)

    pub rule : KeepsRule (record (shape_with kind p pieces) { frames = frame_count p xs })
    rule = subst KeepsRule holds.shape holds.edited.keeps.rule

    pub whole : length xs ≡ p.channels * frame_count p xs
    whole = whole_frames (length xs) p.channels (frame_count p xs) channels m.whole refl

    size_is : length (coded p xs) ≡ data_bytes p (frame_count p xs)
    size_is = coded_data p xs (frame_count p xs) linear whole

    -- the data end behind the numbers
    pub ends : length (head_with kind p pieces ++ coded p xs) ≡ end (record (shape_with kind p pieces) { frames = frame_count p xs }) (frame_count p xs)
    ends =
        let n = frame_count p xs in
        let same : data_bytes (shape_with kind p pieces).params n ≡ data_bytes p n = ap (λ (q : Parameters). data_bytes q n) m.params in
        omega (arith, length-append (head_with kind p pieces) (coded p xs), m.start, size_is, same)

    apart_now : FieldsLieApart (record (shape_with kind p pieces) { frames = frame_count p xs })
    apart_now = subst FieldsLieApart (sym holds.edited.keeps.shape ∙ holds.shape) (fields_lie_apart (head_with kind p pieces) holds.edited.keeps.head e.shape.frames e.shape.declared holds.edited.keeps.opened).inner

    pub sealed_numbers : sealed e.bytes e.shape e.shape.frames ≡ made_file kind p pieces xs
    sealed_numbers =
        let head = head_with kind p pieces in
        let says = shape_with kind p pieces in
        let n = frame_count p xs in
        ap (λ (s : Shape). sealed e.bytes s s.frames) holds.shape
        ∙ ap (λ (b : List ℕ). sealed b (record says { frames = n }) n) holds.bytes
        ∙ sealed_whole kind p pieces n (coded p xs) (closing_so_far says n) m.params m.start m.free rule apart_now size_is (so_far_either says n)
        ∙ ap (λ (t : Bool). with_fields head says n ++ cond t (blocks.coded p xs) (coded p xs) ++ closing says n) (sym plain)

pub sealed_is_made : SealedIsMade
sealed_is_made kind p pieces xs e m plain = sealed_numbers kind p pieces xs e m plain
