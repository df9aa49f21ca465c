-- A file with the bytes of another behind the first 48, but for the four before the data, has its frames and its further chunks.
use Rattle.std.proofs.Common.{◌≡◌, ◌⊎◌, ◌∙◌, ap, inl, inr, refl, ℕ, ◌+◌, ◌-◌, ◌<◌, ◌≤◌, List, [], ◌∷◌, All, length, map, take, drop, get_or, arith}
use Rattle.std.proofs.lemmas.List.Elements.{All-head, All-tail}
use Rattle.snd_blocks.specs.Sound.{decode, frames_in}
use Rattle.snd_chunks.proofs.Public.{same_part}
use Rattle.snd_container.specs.Sound.{Kept, kept_of}
use Rattle.snd_layout.specs.Params.{data_bytes}
use Rattle.snd_layout.specs.Shape.{Shape, end}
use Rattle.snd_layout.specs.declared.piece.Piece.{Piece}
use Rattle.snd_patch.specs.Sealed.{counted}
use Rattle.snd_promote.proofs.Public.{IsInside, beside_size, both_beside, both_first, both_length, length-new_front, length-new_size}
use Rattle.snd_ds64.specs.Promoted.{new_front, new_size, promoted, promoted_shape}
use Rattle.snd_disk.specs.Runs.{HasAt}

-- each byte is the same beside the two places of a promotion
abbrev pub SameBeside : ℕ → List ℕ → List ℕ → Type 0
SameBeside start b x = (i : ℕ) → 48 ≤ i → (i + 4 < start) ⊎ (start ≤ i) → get_or x i 0 ≡ get_or b i 0

module _ (b x : List ℕ) (h : Shape) (n : ℕ) (early : 56 ≤ h.start) (there : end h n ≤ length b) (long : length x ≡ length b) (same : SameBeside h.start b x) where
  -- the bodies of chunks that stand between them
  pub body_same : (piece : Piece) → IsInside h.start piece → take piece.len (drop piece.at x) ≡ take piece.len (drop piece.at b)
  body_same piece is =
      same_part piece.len piece.at x b (omega (arith, is.before, there, long)) (omega (arith, is.before, there)) (λ i from to. same i (omega (arith, is.past, from)) (inl (omega (arith, is.before, to))))

  pub pieces_same : (pieces : List Piece) → All (IsInside h.start) pieces → map (kept_of x) pieces ≡ map (kept_of b) pieces
  pieces_same [] are = refl
  pieces_same (piece ∷ pieces) are =
      let here : kept_of x piece ≡ kept_of b piece = ap (λ (l : List ℕ). record { id = piece.id.0; body = l; after = piece.after }) (body_same piece (All-head (IsInside h.start) piece pieces are)) in
      ap (λ (k : Kept). k ∷ map (kept_of x) pieces) here ∙ ap (λ (l : List Kept). kept_of b piece ∷ l) (pieces_same pieces (All-tail (IsInside h.start) piece pieces are))

  -- the data
  pub frames_same : frames_in x (promoted_shape h n) ≡ frames_in b (counted h n)
  frames_same =
      ap (decode h.params n)
      (same_part (data_bytes h.params n) h.start x b (omega (arith, there, long)) (omega (arith, there)) (λ i from to. same i (omega (arith, early, from)) (inr from)))

-- ---- the promoted file is one

module _ (b : List ℕ) (h : Shape) (n : ℕ) (early : 56 ≤ h.start) (there : end h n ≤ length b) where
  apart : length (new_front h n) ≤ h.start - 4
  apart = omega (arith, early, length-new_front h n)

  within : h.start - 4 + length new_size ≤ length b
  within = omega (arith, early, length-new_size, there)

  pub promoted_length : length (promoted b h n) ≡ length b
  promoted_length = both_length b (new_front h n) new_size (h.start - 4) apart within

  pub promoted_beside : SameBeside h.start b (promoted b h n)
  promoted_beside i past beside = both_beside b (new_front h n) new_size (h.start - 4) apart within i (omega (arith, past, length-new_front h n)) (beside_size h i early beside)

  pub promoted_first : HasAt (promoted b h n) 0 (new_front h n)
  promoted_first = both_first b (new_front h n) new_size (h.start - 4) apart within

  pub promoted_frames : frames_in (promoted b h n) (promoted_shape h n) ≡ frames_in b (counted h n)
  promoted_frames = frames_same b (promoted b h n) h n early there promoted_length promoted_beside
