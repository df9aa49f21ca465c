-- The further chunks of a file with a reservation stand between this and the head of the data.
use Rattle.std.proofs.Common.{◌≡◌, ℕ, ◌+◌, ◌≤◌, List, All, false, not, length, sym, subst, arith}
use Rattle.std.proofs.lemmas.List.Elements.{All-filter, All-map, All-weaker}
use Rattle.std.specs.List.{filter}
use Rattle.std.specs.Prelude.{codes}
use Rattle.snd_chunks.proofs.Public.{IsBetween, in_order}
use Rattle.snd_chunks.specs.declared.chunk.Chunk.{Chunk}
use Rattle.snd_fields.specs.declared.field.Order.TheVariants.{Little}
use Rattle.snd_layout.specs.Shape.{Shape}
use Rattle.snd_layout.specs.declared.piece.Piece.{Piece}
use Rattle.snd_wave.specs.Layout.{is_own, piece_of}
use Rattle.snd_ds64.proofs.Reservations.{Reserved, reserved_parts}
use Rattle.snd_ds64.specs.Promoted.{MayPromote}

-- the body of a chunk stands behind the first 48 bytes, and before the head of data that begin at a place
pub record IsInside (start : ℕ) (piece : Piece) : Type 0 where
  pub past : 48 ≤ piece.at
  pub before : piece.at + piece.len + 8 ≤ start

pub pieces_inside : (b : List ℕ) (h : Shape) (n : ℕ) → MayPromote b h n → All (IsInside h.start) h.pieces
pieces_inside b h n may =
    let was : Reserved b h = reserved_parts b h n may in
    let ordered = in_order Little b (codes "data") (length b) was.lead.next was.last was.others was.chain in
    let least : 48 ≤ was.lead.next = omega (arith, was.stands.at, was.stands.next, was.lead_has.least) in
    let last : was.last + 8 ≡ h.start = omega (arith, was.start, was.at_sound.at) in
    let each : (chunk : Chunk) → IsBetween was.lead.next was.last chunk → IsInside h.start (piece_of false chunk) =
    λ chunk is. record { past = omega (arith, least, is.after); before = omega (arith, last, is.before) } in
    subst (All (IsInside h.start)) (sym was.pieces)
    (All-map (IsInside h.start) (piece_of false) (filter (λ chunk. not (is_own chunk)) was.others)
    (All-weaker (IsBetween was.lead.next was.last) (λ chunk. IsInside h.start (piece_of false chunk)) each (filter (λ chunk. not (is_own chunk)) was.others)
    (All-filter (λ chunk. not (is_own chunk)) (IsBetween was.lead.next was.last) was.others ordered.1)))
