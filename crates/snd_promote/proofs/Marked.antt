-- A file that is promoted is known by its first bytes, as that of any other kind.
use Rattle.std.proofs.Common.{◌≡◌, ◌⊎◌, ⊎_elim, ℕ, ◌+◌, ◌-◌, ◌<◌, ◌≤◌, List, Some, Ok, length, take, get_or, ap, sym, ◌∙◌, inl, inr, arith, refl}
use Rattle.snd_chunks.specs.Written.{NewChunk}
use Rattle.snd_container.proofs.EveryKind.{known, of_kind}
use Rattle.snd_container.proofs.Marks.{kind_of_marks, recognised_too}
use Rattle.snd_container.specs.Kinds.{container_of}
use Rattle.snd_container.specs.Put.{heads_for}
use Rattle.snd_container.specs.Recognised.{recognised}
use Rattle.snd_container.specs.Sound.{layout_of}
use Rattle.snd_container.specs.Values.{closing, outer_value as outer_of}
use Rattle.snd_disk.specs.Runs.{HasAt}
use Rattle.snd_layout.specs.Params.{Parameters}
use Rattle.snd_layout.specs.Shape.{Shape, end}
use Rattle.snd_layout.specs.declared.kind.Kind.{Kind}
use Rattle.snd_layout.specs.declared.kind.Kind.TheVariants.{Rf64, Wave}
use Rattle.snd_ds64.proofs.Public.{all_old, are_there, beside_size, closed_alike, front_there, in_one, length-new_front, mark_early, opens_promoted, promoted_keeps, promoted_reads_back, reserved_says, whole_stands}
use Rattle.snd_ds64.specs.Moments.{IsPromoting}
use Rattle.snd_ds64.specs.Promoted.{MayPromote, new_front, new_size, promoted, promoted_shape}

module _ (h : Shape) (n : ℕ) where
  front_is_known : recognised (take 40 (new_front h n)) ≡ Ok Rf64
  unfolding new_front
  front_is_known = kind_of_marks Rf64 (take 40 (new_front h n)) refl

  -- a file with the new first bytes is an RF64 file
  pub known_by_front : (x : List ℕ) → HasAt x 0 (new_front h n) → 48 ≤ length x → recognised (take 40 x) ≡ Ok Rf64
  known_by_front x has long =
      recognised_too Rf64 x (new_front h n)
      (λ i mark.
      let early : i < 12 = mark_early i mark in
      let place : 0 + i ≡ i = omega arith in
      (inl (omega (arith, early, long)), ap (λ k. get_or x k 0) (sym place) ∙ has i (omega (arith, early, length-new_front h n))))
      front_is_known

  -- its size of the whole stands there
  pub front_sized : (x : List ℕ) → HasAt x 0 (new_front h n) → HasAt x 20 (outer_of (promoted_shape h n) n)
  front_sized x has = whole_stands h n x has

  -- what closes its data is what closed them before
  pub same_closing : h.kind ≡ Wave → closing (promoted_shape h n) n ≡ closing h n
  same_closing wave = closed_alike h n ∙ ap (λ (k : Kind). (container_of k).closing h n) (sym wave)

-- ---- a WAVE file

-- what is told to be a WAVE file is one
pub wave_is_told : (b : List ℕ) (h : Shape) → layout_of b ≡ Ok h → h.kind ≡ Wave → (container_of Wave).layout b ≡ Ok h
wave_is_told b h told wave = ap (λ (k : Kind). (container_of k).layout b) (sym wave) ∙ (known b h told).laid

-- ---- what a crash leaves

-- the file, or one with the new first bytes
promoting_leaves : (b x : List ℕ) (h : Shape) (n : ℕ) → IsPromoting b h n x → (x ≡ b) ⊎ HasAt x 0 (new_front h n)
promoting_leaves b x h n way = ⊎_elim
    (λ second. ⊎_elim (λ first. inl (all_old b x (h.start - 4) (new_front h n) new_size way first second)) (λ new. inr new) (way.first (in_one (length (new_front h n)) (length-new_front h n))))
    (λ new. inr new) way.ordered

-- each byte beside the two places stays
pub promoting_beside : (b x : List ℕ) (h : Shape) (n : ℕ) → 56 ≤ h.start → IsPromoting b h n x → (i : ℕ) → 48 ≤ i → (i + 4 < h.start) ⊎ (h.start ≤ i) → get_or x i 0 ≡ get_or b i 0
promoting_beside b x h n early way i past beside = way.beside i (inr (omega (arith, past, length-new_front h n))) (beside_size h i early beside)

-- the file itself, or one that opens as the promoted one
pub promoting_opens : (b x : List ℕ) (h : Shape) (n : ℕ) → MayPromote b h n → IsPromoting b h n x → (x ≡ b) ⊎ (layout_of x ≡ Ok (promoted_shape h n))
promoting_opens b x h n may way =
    let are = are_there b h n may in
    let there : end h n ≤ length x = omega (arith, way.size, may.there) in
    ⊎_elim (λ old. inl old)
    (λ new. inr (of_kind x (promoted_shape h n) (known_by_front h n x new (omega (arith, there, are.early)))
    (promoted_reads_back b x h n may new (λ i from to. promoting_beside b x h n are.early way i from (inl to)) there)))
    (promoting_leaves b x h n way)

-- so does the promoted file
pub promoted_opens : (b : List ℕ) (h : Shape) (n : ℕ) → MayPromote b h n → layout_of (promoted b h n) ≡ Ok (promoted_shape h n)
promoted_opens b h n may =
    let are = are_there b h n may in
    let long : end h n ≤ length (promoted b h n) = omega (arith, (promoted_keeps b h n may).0, may.there) in
    of_kind (promoted b h n) (promoted_shape h n) (known_by_front h n (promoted b h n) (front_there b h n may) (omega (arith, long, are.early))) (opens_promoted b h n may)

-- ---- a head with a reservation

-- it is that of a WAVE file, and says it
pub reserved_head_says : (len : ℕ) (p : Parameters) (pieces : List NewChunk) → (((heads_for (Some len) Wave).shape p pieces).kind ≡ Wave) × (((heads_for (Some len) Wave).shape p pieces).reserve ≡ Some len)
reserved_head_says len p pieces = reserved_says len p pieces
