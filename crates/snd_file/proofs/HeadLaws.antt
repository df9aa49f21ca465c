-- What follows of a disk that holds nothing but the head of a file that is made.
use Rattle.std.proofs.Common.{◌≡◌, ◌∙◌, ap, sym, subst, refl, ℕ, ◌+◌, ◌≤◌, ◌^◌, false, List, [], Option, None, Some, Ok, length, arith}
use Rattle.std.specs.Prelude.{map}
use Rattle.snd_chunks.specs.Written.{NewChunk}
use Rattle.snd_container.specs.Sound.{layout_of}
use Rattle.snd_container.specs.Values.{any, closing}
use Rattle.snd_disk.specs.State.{State}
use Rattle.snd_layout.specs.Params.{Parameters, data_bytes}
use Rattle.snd_layout.specs.Shape.{KeepsRule, Shape, end, room}
use Rattle.snd_layout.specs.declared.kind.Kind.{Kind}
use Rattle.snd_patch.specs.Sealed.{with_fields}
use Rattle.snd_chunks.specs.HeadLaws.{KeepsPieceLaws, SaysNone}
use Rattle.snd_chunks.specs.Heads.{Heads, IsHeadIn, blank, blanks, chunk_read, outline, with_piece}
use Rattle.snd_chunks.proofs.Public.{blanks_blanks, blanks_with}

-- a layout without frames, whose disk holds nothing but the head, with the fields of no frames
pub record IsBareHead (disk : State) (h : Shape) : Type 0 where
  pub frames : h.frames ≡ 0
  pub free : h.trailing ≡ false
  pub known : h.unknown_length ≡ false
  pub declared : h.declared ≡ data_bytes h.params 0
  pub ends : end h 0 ≡ disk.size
  pub unclosed : closing h 0 ≡ []
  pub room_ends : h.start + room h + 8 ≤ 2 ^ 63
  pub few : length h.pieces ≤ 240
  pub fields : (b : List ℕ) → disk.contents ≡ Some b → with_fields b h 0 ≡ b

-- what such a head becomes as a piece is put, by the heads of its kind
pub record IsPut (heads_of : Kind → Heads) (old new : State) (h h' : Shape) (place : ℕ) (piece : NewChunk) : Type 0 where
  pub kind : h'.kind ≡ h.kind
  pub params : h'.params ≡ h.params
  pub shape : h' ≡ (heads_of h.kind).shape h.params (with_piece (map outline h.pieces) place piece)
  pub bytes : (b x : List ℕ) → old.contents ≡ Some b → new.contents ≡ Some x → x ≡ (heads_of h.kind).head h.params (with_piece (map (chunk_read b) h.pieces) place piece)
  pub held : (b x : List ℕ) → old.contents ≡ Some b → new.contents ≡ Some x → map (chunk_read x) h'.pieces ≡ with_piece (map (chunk_read b) h.pieces) place piece

-- the pieces of a head, as its disk tells them: where it tells nothing, of the same lengths
abbrev pub told_pieces : Option (List ℕ) → Shape → List NewChunk
told_pieces None h = map outline h.pieces
told_pieces (Some b) h = map (chunk_read b) h.pieces

pub same_in : (heads : Heads) (old new : State) (h : Shape) (p : Parameters) (pieces : List NewChunk) → new.size ≡ old.size → new.contents ≡ old.contents → IsHeadIn heads old h p pieces → IsHeadIn heads new h p pieces
same_in heads old new h p pieces size contents is = record { laid = is.laid; size = size ∙ is.size; contents = λ b told. is.contents b (sym contents ∙ told) }

module _ (heads_of : Kind → Heads) (kind : Kind) (laws : KeepsPieceLaws kind (any kind) (heads_of kind)) where
  abbrev shape : Parameters → List NewChunk → Shape
  shape p pieces = (heads_of kind).shape p pieces

  abbrev head : Parameters → List NewChunk → List ℕ
  head p pieces = (heads_of kind).head p pieces

  -- what the disk of such a head holds
  bare : (disk : State) (p : Parameters) (h : Shape) (b : List ℕ) → SaysNone kind (any kind) p h b → KeepsRule h → disk.size ≡ length b → ((x : List ℕ) → disk.contents ≡ Some x → x ≡ b) → IsBareHead disk h
  bare disk p h b says rule size contents =
      let none : data_bytes h.params 0 ≡ 0 = ap (λ (q : Parameters). data_bytes q 0) says.params_are ∙ says.no_bytes in
      record {
        frames = says.frames;
        free = says.free;
        known = says.known;
        declared = says.declared ∙ ap (λ (q : Parameters). data_bytes q 0) (sym says.params_are);
        ends = omega (arith, says.start, none, size);
        unclosed = says.unclosed;
        room_ends = says.room_ends rule;
        few = says.few;
        fields = λ x told. subst (λ (l : List ℕ). with_fields l h 0 ≡ l) (sym (contents x told)) (says.fields rule);
      }

  pub bare_in : (disk : State) (h : Shape) (p : Parameters) (pieces : List NewChunk) → KeepsRule h → IsHeadIn (heads_of kind) disk h p pieces → IsBareHead disk h
  bare_in disk h p pieces rule is =
      subst (IsBareHead disk) (sym is.laid.shape)
      (bare disk p (shape p pieces) (head p pieces) (laws.says p pieces is.laid.may) (subst KeepsRule is.laid.shape rule) is.size is.contents)

  -- what they say of themselves
  pub opens_in : (disk : State) (h : Shape) (p : Parameters) (pieces : List NewChunk) (b : List ℕ) → IsHeadIn (heads_of kind) disk h p pieces → disk.contents ≡ Some b → layout_of b ≡ Ok h
  opens_in disk h p pieces b is told = ap layout_of (is.contents b told) ∙ laws.opens p pieces is.laid.may ∙ ap (λ (s : Shape). Ok s) (sym is.laid.shape)

  -- its pieces, as the disk tells them
  told_of : (disk : State) (p : Parameters) (pieces : List NewChunk) (o : Option (List ℕ)) → disk.contents ≡ o → IsHeadIn (heads_of kind) disk (shape p pieces) p pieces → IsHeadIn (heads_of kind) disk (shape p pieces) p (told_pieces o (shape p pieces))
  told_of disk p pieces None none is =
      subst (IsHeadIn (heads_of kind) disk (shape p pieces) p) (sym (laws.outlined p pieces))
      (record {
        laid = record { may = laws.blank_may p pieces is.laid.may; shape = sym (laws.blank_shape p pieces) };
        size = is.size ∙ sym (laws.blank_size p pieces);
        contents = λ b told. absurd (let no : ◌≡◌ {A = Option (List ℕ)} None (Some b) = sym none ∙ told in cc);
      })
  told_of disk p pieces (Some b) some is =
      let same : map (chunk_read b) (shape p pieces).pieces ≡ pieces = ap (λ (l : List ℕ). map (chunk_read l) (shape p pieces).pieces) (is.contents b some) ∙ laws.read p pieces is.laid.may in
      subst (IsHeadIn (heads_of kind) disk (shape p pieces) p) (sym same) is

  pub told_in : (disk : State) (h : Shape) (p : Parameters) (pieces : List NewChunk) → IsHeadIn (heads_of kind) disk h p pieces → IsHeadIn (heads_of kind) disk h h.params (told_pieces disk.contents h)
  told_in disk h p pieces is =
      let laid = told_of disk p pieces disk.contents refl (subst (λ (s : Shape). IsHeadIn (heads_of kind) disk s p pieces) is.laid.shape is) in
      let then : IsHeadIn (heads_of kind) disk h p (told_pieces disk.contents h) = subst (λ (s : Shape). IsHeadIn (heads_of kind) disk s p (told_pieces disk.contents s)) (sym is.laid.shape) laid in
      let params : h.params ≡ p = ap (λ (s : Shape). s.params) is.laid.shape ∙ (laws.says p pieces is.laid.may).params_are in
      subst (λ (q : Parameters). IsHeadIn (heads_of kind) disk h q (told_pieces disk.contents h)) (sym params) then

  -- what such a head becomes as a piece is put
  put_same : (p : Parameters) (pieces : List NewChunk) (place : ℕ) (piece : NewChunk) → shape p (with_piece pieces place piece) ≡ shape p (with_piece (blanks pieces) place piece)
  put_same p pieces place piece =
      sym (laws.blank_shape p (with_piece pieces place piece))
      ∙ ap (shape p)
      (blanks_with pieces place piece ∙ ap (λ (l : List NewChunk). with_piece l place (blank piece)) (sym (blanks_blanks pieces)) ∙ sym (blanks_with (blanks pieces) place piece))
      ∙ laws.blank_shape p (with_piece (blanks pieces) place piece)

  -- the pieces that a disk with such a head tells
  read_in : (disk : State) (h : Shape) (p : Parameters) (pieces : List NewChunk) (b : List ℕ) → IsHeadIn (heads_of kind) disk h p pieces → disk.contents ≡ Some b → map (chunk_read b) h.pieces ≡ pieces
  read_in disk h p pieces b is told =
      ap (λ (l : List ℕ). map (chunk_read l) h.pieces) (is.contents b told) ∙ ap (λ (s : Shape). map (chunk_read (head p pieces)) s.pieces) is.laid.shape ∙ laws.read p pieces is.laid.may

  pub put_in : (old new : State) (h h' : Shape) (p : Parameters) (pieces : List NewChunk) (place : ℕ) (piece : NewChunk) → IsHeadIn (heads_of kind) old h p pieces → IsHeadIn (heads_of kind) new h' p (with_piece pieces place piece) → IsPut heads_of old new h h' place piece
  put_in old new h h' p pieces place piece was is =
      let said = laws.says p pieces was.laid.may in
      let says = laws.says p (with_piece pieces place piece) is.laid.may in
      let kind_is : h.kind ≡ kind = ap (λ (s : Shape). s.kind) was.laid.shape ∙ said.kind_is in
      let params_are : h.params ≡ p = ap (λ (s : Shape). s.params) was.laid.shape ∙ said.params_are in
      let outlined : map outline h.pieces ≡ blanks pieces = ap (λ (s : Shape). map outline s.pieces) was.laid.shape ∙ laws.outlined p pieces in
      record {
        kind = ap (λ (s : Shape). s.kind) is.laid.shape ∙ says.kind_is ∙ sym kind_is;
        params = ap (λ (s : Shape). s.params) is.laid.shape ∙ says.params_are ∙ sym params_are;
        shape = is.laid.shape ∙ put_same p pieces place piece ∙ ap (λ (l : List NewChunk). shape p (with_piece l place piece)) (sym outlined)
            ∙ ap (λ (q : Parameters). shape q (with_piece (map outline h.pieces) place piece)) (sym params_are)
            ∙ ap (λ (k : Kind). (heads_of k).shape h.params (with_piece (map outline h.pieces) place piece)) (sym kind_is);
        bytes = λ b x told after.
            let same = read_in old h p pieces b was told in
            is.contents x after ∙ ap (λ (l : List NewChunk). head p (with_piece l place piece)) (sym same)
            ∙ ap (λ (q : Parameters). head q (with_piece (map (chunk_read b) h.pieces) place piece)) (sym params_are)
            ∙ ap (λ (k : Kind). (heads_of k).head h.params (with_piece (map (chunk_read b) h.pieces) place piece)) (sym kind_is);
        held = λ b x told after. read_in new h' p (with_piece pieces place piece) x is after ∙ ap (λ (l : List NewChunk). with_piece l place piece) (sym (read_in old h p pieces b was told));
      }
