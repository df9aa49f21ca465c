-- The bodies of the further chunks of a file are no more bytes than the file.
use Rattle.std.proofs.Common.{◌≡◌, ap, refl, ℕ, ◌+◌, ◌≤◌, List, [], ◌∷◌, inl, inr, length, take, arith}
use Rattle.std.proofs.lemmas.Bool.{cases_Bool}
use Rattle.std.proofs.lemmas.List.Sums.{sum_by-cons, sum_by-take-le}
use Rattle.std.specs.List.{filter}
use Rattle.snd_container.proofs.Public.{head_laws}
use Rattle.snd_layout.specs.declared.piece.Piece.{Piece}
use Rattle.snd_carry.specs.Apart.{BodiesFit, CarriedFit}
use Rattle.snd_carry.specs.Carried.{body_bytes, carried_pieces, is_carried}

bytes_cons : (p : Piece) (ps : List Piece) → body_bytes (p ∷ ps) ≡ p.len + body_bytes ps
bytes_cons p ps = sum_by-cons (λ (q : Piece). q.len) p ps

filtered : (pieces : List Piece) → body_bytes (filter is_carried pieces) ≤ body_bytes pieces
filtered [] = omega arith
filtered (p ∷ ps) = elim (cases_Bool (is_carried p)) [
  | inl is ↦
      let found : filter is_carried (p ∷ ps) ≡ p ∷ filter is_carried ps = rw is refl in
      omega (arith, ap body_bytes found, bytes_cons p (filter is_carried ps), bytes_cons p ps, filtered ps)
  | inr other ↦
      let same : filter is_carried (p ∷ ps) ≡ filter is_carried ps = rw other refl in
      omega (arith, ap body_bytes same, bytes_cons p ps, filtered ps)
]

taken : (n : ℕ) (pieces : List Piece) → body_bytes (take n pieces) ≤ body_bytes pieces
taken n pieces = sum_by-take-le (λ (p : Piece). p.len) pieces n

carried_less : (pieces : List Piece) → body_bytes (carried_pieces pieces) ≤ body_bytes pieces
carried_less pieces = omega (arith, taken 240 (filter is_carried pieces), filtered pieces)

pub bodies_fit : BodiesFit
bodies_fit b h laid meta = (head_laws h.kind).bodies meta b h laid refl

pub carried_fit : CarriedFit
carried_fit b h laid meta = omega (arith, carried_less h.pieces, bodies_fit b h laid meta)
