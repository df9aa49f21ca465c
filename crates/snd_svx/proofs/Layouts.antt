-- The layout of a file, from its parts.
use Rattle.std.proofs.Common.{◌≡◌, ℕ, ◌+◌, ◌<◌, ◌≤◌, List, ◌++◌, All, Bool, true, false, not, Some, Ok, Err, length, refl, sym, ap, ◌∙◌, arith}
use Rattle.std.proofs.lemmas.List.Elements.{All-append, All-filter, All-map, All-weaker}
use Rattle.std.specs.List.{filter}
use Rattle.std.specs.Prelude.{Result, codes, nat_lt}
use Rattle.snd_chunks.proofs.Public.{find_has, Reaches, reaches}
use Rattle.snd_chunks.specs.declared.chunk.Chunk.{Chunk}
use Rattle.snd_chunks.specs.declared.front.Ending.TheVariants.{AtSound}
use Rattle.snd_chunks.specs.declared.front.Front.{Front}
use Rattle.snd_chunks.specs.Chunks.{chunk_at, front}
use Rattle.snd_chunks.specs.Walks.{EndsBy, IsFront}
use Rattle.snd_fields.specs.Field.{number}
use Rattle.snd_fields.specs.declared.field.Order.TheVariants.{Big}
use Rattle.snd_layout.specs.Opened.{EndsIn}
use Rattle.snd_layout.specs.Params.{Parameters}
use Rattle.snd_layout.specs.Shape.{Shape}
use Rattle.snd_layout.specs.declared.piece.Piece.{Piece}
use Rattle.snd_layout.specs.declared.refusal.OpenRefusal.{OpenRefusal}
use Rattle.snd_chunks.specs.Parts.{has_id, held}
use Rattle.snd_wave.specs.Layout.{piece_of}
use Rattle.snd_svx.specs.declared.ends.Ends.{Ends}
use Rattle.snd_svx.specs.declared.header.Header.{Header}
use Rattle.snd_svx.specs.declared.parts.Parts.{Parts}
use Rattle.snd_svx.specs.Layout.{declared_in, front_refusal, is_own, pieces_of, shape_of, svx_front, svx_layout, voice, voice_of, with_voice}
use Rattle.snd_svx.specs.Parts.{AreParts, ArePlaced, all_pieces, ends_of, shape_with, with_header}

pub layout_value : (p : Parameters) (declared : ℕ) (header : Header) (parts : Parts) (ends : Ends) (pieces : List Piece) → p ≡ voice header.rate → declared ≡ declared_in parts.sound
    → shape_of p parts.sound.at ends.held declared parts.header.at (nat_lt ends.data_end ends.outer_end) pieces ≡ shape_with header parts ends pieces
layout_value p declared header parts ends pieces params few = rw (params, few) refl

pub built : (b : List ℕ) (front : Front) (parts : Parts) (header : Header) (r : Result Header OpenRefusal) (ends : Ends) (pieces : List Piece) (layout : Shape)
    → r ≡ Ok header → ends ≡ ends_of (length b) (number Big b 4 4) parts.sound → pieces ≡ all_pieces b front ends → layout ≡ shape_with header parts ends pieces → with_header b front parts r ≡ Ok layout
built b front parts header r ends pieces layout read ended found is = rw read (ap (λ (s : Shape). Ok s) (sym (is ∙ rw (found, ended) refl)))

pub held_few : (size : ℕ) (sound : Chunk) → held size sound ≤ sound.len
held_few size sound = omega arith

pub parts_placed : (size : ℕ) (front : Front) (parts : Parts) → IsFront size 12 257 front → AreParts front parts → ArePlaced size parts
parts_placed size front parts is are = record {
  header = (find_has _ (EndsBy size) front.chunks parts.header is.whole are.header).0;
  long = are.long;
  before = (find_has (has_id (codes "VHDR")) (λ chunk. chunk.at + chunk.len + 8 ≤ parts.sound.at) front.chunks parts.header (is.before parts.sound are.sound) are.header).0;
  sound = is.sound parts.sound are.sound;
}

pub same_ends : (size size' form form' : ℕ) (sound : Chunk) → size ≡ size' → form ≡ form' → ends_of size form sound ≡ ends_of size' form' sound
same_ends size size' form form' sound s f = ap (λ n. ends_of n form sound) s ∙ ap (λ n. ends_of size' n sound) f

pub refusal_is : (b : List ℕ) (front : Front) (refusal : OpenRefusal) → front ≡ svx_front b → front_refusal front ≡ Some refusal → svx_layout b ≡ Err refusal
unfolding svx_layout
refusal_is b front refusal walked is = rw (← walked, is) refl

with_sound : (b : List ℕ) (front : Front) (parts : Parts) (r : Result Header OpenRefusal) → with_header b front parts r ≡ with_voice b front parts.header r (AtSound parts.sound)
with_sound b front parts (Err refusal) = refl
with_sound b front parts (Ok header) = refl

with_ending : (b : List ℕ) (front : Front) (chunk : Chunk) (r : Result Header OpenRefusal) (sound : Chunk) → front.ending ≡ AtSound sound → with_voice b front chunk r (AtSound sound) ≡ with_voice b front chunk r front.ending
with_ending b front chunk r sound is = rw is refl

pub layout_is : (b : List ℕ) (front : Front) (parts : Parts) → front ≡ svx_front b → AreParts front parts → with_header b front parts (voice_of b front.chunks parts.header) ≡ svx_layout b
unfolding svx_layout
layout_is b front parts walked are =
    with_sound b front parts (voice_of b front.chunks parts.header)
    ∙ with_ending b front parts.header (voice_of b front.chunks parts.header) parts.sound are.sound
    ∙ rw (← walked, are.no_refusal, are.header) refl

pub walked : (b : List ℕ) (seen : Front) (id : List ℕ) → id ≡ codes "BODY" → seen ≡ front (chunk_at Big b) id (length b) 257 12 → seen ≡ svx_front b
unfolding svx_front
walked b seen id is told = told ∙ ap (λ (i : List ℕ). front (chunk_at Big b) i (length b) 257 12) is

-- the walk of a layout is a chain to the body, of fewer than 257 chunks
pub reached : (b : List ℕ) (sound : Chunk) → (svx_front b).ending ≡ AtSound sound → Reaches (chunk_at Big b) (codes "BODY") (length b) 257 12 (svx_front b).chunks sound
unfolding svx_front
reached b sound ends = reaches (chunk_at Big b) (codes "BODY") (length b) 257 12 (svx_front b) sound refl ends

pub seen_few : (b : List ℕ) (seen : Front) (sound : Chunk) → seen ≡ svx_front b → seen.ending ≡ AtSound sound → length seen.chunks < 257
seen_few b seen sound is ends =
    let there : (svx_front b).ending ≡ AtSound sound = ap (λ (f : Front). f.ending) (sym is) ∙ ends in
    let reach = reached b sound there in
    rw is reach.few

-- the pieces among chunks that end within a file end within it
piece_ends : (size : ℕ) (after : Bool) (chunks : List Chunk) → All (EndsBy size) chunks → All (EndsIn size) (pieces_of after chunks)
piece_ends size after chunks ends =
    All-map (EndsIn size) (piece_of after) (filter (λ chunk. not (is_own chunk)) chunks) (All-filter (λ chunk. not (is_own chunk)) (EndsBy size) chunks ends)

pub pieces_end : (size outer : ℕ) (front behind : List Chunk) (pieces : List Piece) → outer ≤ size → All (EndsBy size) front → All (EndsBy outer) behind
    → pieces ≡ pieces_of false front ++ pieces_of true behind → All (EndsIn size) pieces
pieces_end size outer front behind pieces within before after is =
    rw is (All-append (EndsIn size) (pieces_of false front) (pieces_of true behind) (piece_ends size false front before)
    (piece_ends size true behind (All-weaker (EndsBy outer) (EndsBy size) (λ chunk le. omega arith) behind after)))
