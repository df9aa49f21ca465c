-- A file into which chunks were carried is one that is being made.
use Rattle.std.proofs.Common.{◌≡◌, ◌∙◌, ap, sym, subst, refl, inr, ℕ, ℤ, ◌≤◌, Bool, true, false, List, [], ◌∷◌, ◌++◌, All, None, Ok, drop, length, map, take, arith}
use Rattle.std.proofs.lemmas.List.{append-nil, nil_from_length}
use Rattle.std.proofs.lemmas.List.Elements.{All-head, All-tail, All-weaker}
use Rattle.std.specs.Prelude.{is_none}
use Rattle.snd_chunks.specs.HeadLaws.{IsOfBytes, IsPieceOf, KeepsPieceLaws, SaysNone}
use Rattle.snd_chunks.specs.Written.{NewChunk}
use Rattle.snd_container.proofs.Public.{head_laws}
use Rattle.snd_container.specs.Put.{heads_of}
use Rattle.snd_container.specs.Values.{any}
use Rattle.snd_container.specs.Sound.{Kept, fixed_of, kept_of, layout_of}
use Rattle.snd_fields.specs.Laws.{IsByte}
use Rattle.snd_layout.specs.Blocks.{is_adpcm}
use Rattle.snd_layout.specs.Fit.{fit_refusal}
use Rattle.snd_layout.specs.Params.{AreParams, Parameters, data_bytes}
use Rattle.snd_layout.specs.Shape.{Shape, end}
use Rattle.snd_layout.specs.declared.kind.Kind.{Kind}
use Rattle.snd_layout.specs.declared.piece.Piece.{Piece}
use Rattle.snd_chunks.specs.Heads.{chunk_read}
use Rattle.snd_edits.specs.Editing.{Editing, first_editing}
use Rattle.snd_edits.specs.Edits.{coded}
use Rattle.snd_layout.specs.Kinds.{holds_meta, holds_pieces}
use Rattle.snd_edits.specs.Laws.{IsEncoded}
use Rattle.snd_edits.specs.Pacing.{HasPlaceFor}
use Rattle.snd_edits.specs.Relaid.{head_with, shape_with}
use Rattle.snd_edits.specs.Making.{making_of}
use Rattle.snd_edits.specs.Updating.{updating_of}
use Rattle.snd_layout.proofs.Public.{few_channels, is_held, meta_holds, meta_own}
use Rattle.snd_edits.proofs.Public.{begins_again, begins_new, count_opened, first_keeps, given_none, is_fixed, lies_in, may_encode, updated_is_edited}
use Rattle.snd_block_writer.proofs.Public.{are_blocks, none_coded}
use Rattle.snd_blocks.specs.Calls.{AreBlocks}
use Rattle.snd_blocks.specs.Sound.{frames_in}
use Rattle.snd_output.specs.Laws.{CarriedIsMaking}
use Rattle.snd_output.specs.Made.{AreChunks, ArePieces, HoldsBlocks, HoldsNumbers, IsChunk, IsMaking, closing_so_far, frame_count, kept_chunk, made_with}
use Rattle.snd_output.proofs.Begun.{may_make}
use Rattle.snd_output.proofs.MadeBlocks.{none_whole}
use Rattle.snd_output.proofs.Bytes.{coded_none}

-- ---- the heads of files with texts and fields

pub laws_of : (kind : Kind) → holds_meta kind ≡ true → KeepsPieceLaws kind (any kind) (heads_of kind)
laws_of kind meta = (head_laws kind).pieces (meta_holds kind meta)

-- what their layouts say of any chunks
pub record SaysOf (kind : Kind) (p : Parameters) (h : Shape) : Type 0 where
  pub kind_is : h.kind ≡ kind
  pub params : h.params ≡ p
  pub frames : h.frames ≡ 0
  pub free : h.trailing ≡ false
  pub reserve : h.reserve ≡ None

pub says_of : (kind : Kind) (p : Parameters) (pieces : List NewChunk) → holds_meta kind ≡ true → SaysOf kind p (shape_with kind p pieces)
says_of kind p pieces meta =
    let laws = head_laws kind in
    record { kind_is = laws.kind_is p pieces; params = laws.params_are p pieces; frames = laws.frames p pieces; free = laws.free p pieces; reserve = laws.reserve p pieces }

-- they may be made with such chunks
may_with : (kind : Kind) (p : Parameters) (pieces : List NewChunk) → holds_pieces kind ≡ true → AreParams p → fit_refusal kind p ≡ None → ArePieces kind pieces → (heads_of kind).may p pieces
may_with kind p pieces holds good fits are = (head_laws kind).may holds p pieces good fits are.each are.few

-- ---- they are of bytes

head_is : (kind : Kind) (p : Parameters) (pieces : List NewChunk) → holds_pieces kind ≡ true → ArePieces kind pieces → All IsByte (head_with kind p pieces)
head_is kind p pieces holds are = (head_laws kind).bytes holds p pieces are.bytes

-- ---- of ADPCM

-- the count and the data size are one field
is_joined : (kind : Kind) (p : Parameters) (pieces : List NewChunk) → fit_refusal kind p ≡ None → is_adpcm p.codec ≡ true → 12 ≤ (shape_with kind p pieces).inner.size
is_joined kind p pieces fits is = (head_laws kind).joined p pieces fits is

-- a head whose layout has no frames is a file of ADPCM that is made
encoded_head : (head : List ℕ) (says : Shape) → is_adpcm says.params.codec ≡ true → AreBlocks says.params → All IsByte head → layout_of head ≡ Ok says
    → says.frames ≡ 0 → says.trailing ≡ false → says.unknown_length ≡ false → 12 ≤ says.inner.size → IsEncoded head (first_editing head says)
encoded_head head says blocks form bytes told none free known joined =
    let lies = lies_in head says bytes (record { goes_on = says.trailing; told = told; same = inr refl }) in
    let place : HasPlaceFor says 0 = (begins_new says says.params None form.some_frames refl blocks none free (λ w is. absurd (cc))).place in
    let room = may_encode says 0 says.frames form.some_frames place lies.room_ends (omega (arith, none)) in
    record {
      keeps = first_keeps head says bytes told room.0 (λ is. joined) known;
      given = (given_none None head says form none (λ w is. absurd (cc))).holds;
      place = place;
    }

-- .. and it holds none
encoded_with : (head : List ℕ) (says : Shape) → is_adpcm says.params.codec ≡ true → AreBlocks says.params → All IsByte head → layout_of head ≡ Ok says
    → says.frames ≡ 0 → says.trailing ≡ false → says.unknown_length ≡ false → 12 ≤ says.inner.size → IsEncoded head (record (first_editing head says) { frames = [] })
encoded_with head says blocks form bytes told none free known joined =
    let begun = encoded_head head says blocks form bytes told none free known joined in
    subst (λ (l : List (List ℤ)). IsEncoded head (record (first_editing head says) { frames = l }))
    (nil_from_length (frames_in head says) (sym begun.keeps.holds.count ∙ none)) begun

-- ---- they stand before the data

kept_standing : (b : List ℕ) (pieces : List Piece) → All (λ (piece : Piece). piece.after ≡ false) pieces → map (kept_of b) pieces ≡ map kept_chunk (map (chunk_read b) pieces)
kept_standing b [] before = refl
kept_standing b (piece ∷ pieces) before =
    ap (λ (t : Bool). record { id = piece.id.0; body = take piece.len (drop piece.at b); after = t } ∷ map (kept_of b) pieces) (All-head (λ (q : Piece). q.after ≡ false) piece pieces before)
    ∙ ap (λ (l : List Kept). kept_chunk (chunk_read b piece) ∷ l) (kept_standing b pieces (All-tail (λ (q : Piece). q.after ≡ false) piece pieces before))

kept_pieces : (kind : Kind) (p : Parameters) (pieces : List NewChunk) (b : List ℕ) → holds_pieces kind ≡ true
    → map (kept_of b) (shape_with kind p pieces).pieces ≡ map kept_chunk (map (chunk_read b) (shape_with kind p pieces).pieces)
kept_pieces kind p pieces b holds = kept_standing b (shape_with kind p pieces).pieces (((head_laws kind).pieces holds).before p pieces)

-- ---- the file

module _ (kind : Kind) (p : Parameters) (pieces : List NewChunk) (holds : holds_pieces kind ≡ true) (good : AreParams p) (fits : fit_refusal kind p ≡ None) (are : ArePieces kind pieces) where
  laws : KeepsPieceLaws kind (any kind) (heads_of kind)
  laws = (head_laws kind).pieces holds

  abbrev head : List ℕ
  head = head_with kind p pieces

  abbrev says : Shape
  says = shape_with kind p pieces

  abbrev state : Editing
  state = made_with kind p pieces

  may : (heads_of kind).may p pieces
  may = may_with kind p pieces holds good fits are

  said : SaysNone kind (any kind) p says head
  said = laws.says p pieces may

  no_frames : 0 ≡ frame_count p []
  no_frames = let some = good.some_channel in omega (arith, some)

  bytes_are : (n : ℕ) → n ≡ 0 → head ≡ head ++ coded p [] ++ closing_so_far says n
  bytes_are n none =
      sym (append-nil head) ∙ ap (λ (l : List ℕ). head ++ l) (sym (coded_none p))
      ∙ sym (append-nil (head ++ coded p [])) ∙ ap (λ (m : ℕ). head ++ coded p [] ++ closing_so_far says m) (sym none)

  module _ (plain : is_adpcm p.codec ≡ false) where
    says_linear : is_none (fixed_of says.params.codec) ≡ false
    says_linear = ap (λ (q : Parameters). is_none (fixed_of q.codec)) said.params_are ∙ is_fixed p.codec plain

    updated : updating_of head ≡ Ok state
    updated =
        let some : 1 ≤ says.params.channels = subst (λ (q : Parameters). 1 ≤ q.channels) (sym said.params_are) good.some_channel in
        let none : data_bytes says.params says.frames ≡ 0 = ap (data_bytes says.params) said.frames ∙ ap (λ (q : Parameters). data_bytes q 0) said.params_are ∙ said.no_bytes in
        let within : end says says.frames ≤ length head = omega (arith, said.start, none) in
        let frames : [] ≡ frames_in head says = sym (nil_from_length (frames_in head says) (sym (count_opened head says says_linear some within) ∙ said.frames)) in
        (begins_again false state (laws.opens p pieces may) said.known (λ by_place. says_linear)
        (record { frames = frames; place = refl; write_place = refl; automatic = refl; written = refl; given = refl })).updates refl

    holds_numbers : HoldsNumbers kind p pieces [] state
    holds_numbers = record {
      edited = updated_is_edited head state (head_is kind p pieces holds are) updated;
      shape = ap (λ (n : ℕ). record says { frames = n }) (said.frames ∙ no_frames);
      bytes = bytes_are (frame_count p []) (sym no_frames);
    }

  holds_blocks : is_adpcm p.codec ≡ true → HoldsBlocks kind p pieces [] state
  holds_blocks is =
      let form = are_blocks p is (few_channels kind p.channels p.codec is (is_held kind p fits)) good in
      record {
        form = form;
        told = record { goes_on = says.trailing; told = laws.opens p pieces may; same = inr refl };
        encoded = encoded_with head says (ap (λ (q : Parameters). is_adpcm q.codec) said.params_are ∙ is) (subst AreBlocks (sym said.params_are) form)
            (head_is kind p pieces holds are) (laws.opens p pieces may) said.frames said.free said.known (is_joined kind p pieces fits is);
        given = refl;
        shape = ap (λ (n : ℕ). record says { frames = n }) (said.frames ∙ sym (none_whole p form));
        bytes = sym (append-nil head) ∙ ap (λ (l : List ℕ). head ++ l) (sym (none_coded p form));
      }

  pub state_is_making : IsMaking kind p pieces [] state
  state_is_making = record {
    kind_is = said.kind_is;
    params = said.params_are;
    start = said.start;
    free = said.free;
    kept = kept_pieces kind p pieces head holds ∙ ap (map kept_chunk) (laws.read p pieces may);
    whole = let some = good.some_channel in omega (arith, some);
    in_range = λ form is k d lt. absurd (omega (arith, lt));
    numbers = holds_numbers;
    blocks = holds_blocks;
    write_place = no_frames;
    automatic = refl;
  }

pub put_is_making : CarriedIsMaking
put_is_making kind p pieces e good is holds are = state_is_making kind p pieces holds good (may_make kind p e is) are

-- ---- chunks of a WAVE or RF64 file

each_is : (kind : Kind) → holds_meta kind ≡ true → (piece : NewChunk) → IsChunk piece → IsPieceOf kind piece
each_is kind meta piece is = record { four = is.four; other = meta_own kind piece.id meta ∙ is.other; few = is.few }

each_of_bytes : (piece : NewChunk) → IsChunk piece → IsOfBytes piece
each_of_bytes piece is = (is.id, is.body)

are_pieces : (kind : Kind) (pieces : List NewChunk) → holds_meta kind ≡ true → AreChunks pieces → ArePieces kind pieces
are_pieces kind pieces meta are = record {
  each = All-weaker IsChunk (IsPieceOf kind) (each_is kind meta) pieces are.each;
  bytes = All-weaker IsChunk IsOfBytes each_of_bytes pieces are.each;
  few = are.few;
}

pub carried_is_making : (kind : Kind) (p : Parameters) (pieces : List NewChunk) (e : Editing) → AreParams p → making_of kind p ≡ Ok e
    → holds_meta kind ≡ true → AreChunks pieces → IsMaking kind p pieces [] (made_with kind p pieces)
carried_is_making kind p pieces e good is meta are = put_is_making kind p pieces e good is (meta_holds kind meta) (are_pieces kind pieces meta are)
