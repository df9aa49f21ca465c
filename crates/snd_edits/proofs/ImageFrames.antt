-- The frames of an image: each has bytes of its own.
use Rattle.std.proofs.Common.{◌≡◌, ◌∙◌, ap, sym, refl, ◌⊎◌, ⊎_elim, inl, inr, ℕ, ◌+◌, ◌*◌, ◌/◌, ◌<◌, ◌≤◌, false, ℤ, List, [], All, Option, None, Some, length, take, drop, get_or, arith}
use Rattle.std.specs.Prelude.{is_none}
use Rattle.std.proofs.Math.Nat.{mul-div_cancel_left}
use Rattle.std.proofs.lemmas.List.{get_or-drop, get_or-take, length-drop, length-take-le, take_all}
use Rattle.std.proofs.lemmas.List.Elements.{All-drop, All-take}
use Rattle.snd_container.specs.Sound.{decoded, fixed_of}
use Rattle.snd_fields.specs.Laws.{IsByte}
use Rattle.snd_layout.specs.Params.{data_bytes}
use Rattle.snd_layout.specs.Shape.{Shape, end}
use Rattle.snd_pcm.specs.Groups.{first_groups}
use Rattle.snd_container.specs.Fixed.{byte_count, samples}
use Rattle.snd_container.specs.declared.fixed.Fixed.{Fixed}
use Rattle.snd_container.proofs.Public.{byte_count_pos, length-samples, samples_of_mixed}
use Rattle.snd_edits.specs.Safe.{frame_at}
use Rattle.snd_edits.proofs.Overwritten.{same_data}
use Rattle.snd_edits.proofs.Sealing.{end_before, end_is}
use Rattle.snd_edits.proofs.SoundFrames.{frames_told}

-- the first n frames of a file
abbrev pub frames_in : Shape → ℕ → List ℕ → List (List ℤ)
frames_in h n x = decoded h.params (take (data_bytes h.params n) (drop h.start x))

-- two files have the same bytes in a frame
abbrev pub SameFrame : Shape → ℕ → List ℕ → List ℕ → Type 0
SameFrame h i x y = (j : ℕ) → end h i ≤ j → j < end h (i + 1) → get_or x j 0 ≡ get_or y j 0

-- each byte of a frame is that of one file or that of another
abbrev pub MixesFrame : Shape → ℕ → List ℕ → List ℕ → List ℕ → Type 0
MixesFrame h i x y z = (j : ℕ) → end h i ≤ j → j < end h (i + 1) → (get_or z j 0 ≡ get_or x j 0) ⊎ (get_or z j 0 ≡ get_or y j 0)

module _ (h : Shape) (form : Fixed) (is : fixed_of h.params.codec ≡ Some form) (some : 1 ≤ h.params.channels) where
  abbrev w : ℕ
  w = byte_count form

  abbrev c : ℕ
  c = h.params.channels

  -- the bytes of a frame
  abbrev frame_start : ℕ → ℕ
  frame_start i = h.start + w * (c * i)

  abbrev piece : ℕ → List ℕ → List ℕ
  piece i x = take (w * (c * 1)) (drop (frame_start i) x)

  starts : (i : ℕ) → frame_start i ≡ end h i
  starts i = end_is h form i is

  ends : (i : ℕ) → frame_start i + w * (c * 1) ≡ end h (i + 1)
  ends i =
      let sum : w * (c * (i + 1)) ≡ w * (c * i) + w * (c * 1) = omega arith in
      omega (arith, sum, end_is h form (i + 1) is)

  within : (n i : ℕ) (x : List ℕ) → i < n → end h n ≤ length x → frame_start i + w * (c * 1) ≤ length x
  within n i x lt fits = omega (arith, ends i, fits, end_before h form (i + 1) n is (omega (arith, lt)))

  frame_is : (n i : ℕ) (x : List ℕ) → i < n → end h n ≤ length x → frame_at (frames_in h n x) i ≡ take c (samples form (piece i x))
  frame_is n i x lt fits =
      let all = frames_in h n x in
      let told : first_groups c 1 (samples form (piece i x)) ≡ take 1 (drop i all) = frames_told x (record h { frames = n }) form i 1 is some (omega (arith, lt)) fits in
      let one : get_or (take 1 (drop i all)) 0 [] ≡ frame_at all i =
      get_or-take 1 (drop i all) 0 [] (omega arith) ∙ get_or-drop i all 0 [] ∙ ap (λ (m : ℕ). frame_at all m) (let e : i + 0 ≡ i = omega arith in e) in
      sym one ∙ sym (ap (λ (l : List (List ℤ)). get_or l 0 []) told)

  frame_same : (n m i : ℕ) (x y : List ℕ) → i < n → i < m → end h n ≤ length x → end h m ≤ length y → SameFrame h i x y → frame_at (frames_in h n x) i ≡ frame_at (frames_in h m y) i
  frame_same n m i x y lt lt' fits fits' same =
      let bytes : piece i x ≡ piece i y = same_data y x (frame_start i) (w * (c * 1)) (within m i y lt' fits') (within n i x lt fits)
      (λ j from to. same j (omega (arith, starts i, from)) (omega (arith, ends i, to))) in
      frame_is n i x lt fits ∙ ap (λ (l : List ℕ). take c (samples form l)) bytes ∙ sym (frame_is m i y lt' fits')

  length_piece : (i : ℕ) (z : List ℕ) → frame_start i + w * (c * 1) ≤ length z → length (piece i z) ≡ w * (c * 1)
  length_piece i z fits = length-take-le (w * (c * 1)) (drop (frame_start i) z) (omega (arith, fits, length-drop (frame_start i) z))

  bytes_piece : (i : ℕ) (z : List ℕ) → All IsByte z → All IsByte (piece i z)
  bytes_piece i z are = All-take IsByte (w * (c * 1)) (drop (frame_start i) z) (All-drop IsByte (frame_start i) z are)

  -- a frame has no more numbers than its bytes
  all_numbers : (p : List ℕ) → length p ≡ w * (c * 1) → take c (samples form p) ≡ samples form p
  all_numbers p size =
      let count : length (samples form p) ≡ c * 1 = length-samples form p ∙ ap (λ (m : ℕ). m / w) size ∙ mul-div_cancel_left (c * 1) (byte_count_pos form) in
      take_all c (samples form p) (omega (arith, count))

  piece_at : (i j : ℕ) (z : List ℕ) → j < w * (c * 1) → get_or (piece i z) j 0 ≡ get_or z (frame_start i + j) 0
  piece_at i j z lt = get_or-take (w * (c * 1)) (drop (frame_start i) z) j 0 lt ∙ get_or-drop (frame_start i) z j 0

  frame_mixed : (n m i : ℕ) (x y z : List ℕ) → i < n → i < m → end h n ≤ length x → end h m ≤ length y → end h n ≤ length z → All IsByte x → All IsByte y
      → frame_at (frames_in h n x) i ≡ frame_at (frames_in h m y) i → MixesFrame h i x y z → frame_at (frames_in h n z) i ≡ frame_at (frames_in h n x) i
  frame_mixed n m i x y z lt lt' fits fits' fits'' are_x are_y same each =
      let size_x = length_piece i x (within n i x lt fits) in
      let size_y = length_piece i y (within m i y lt' fits') in
      let size_z = length_piece i z (within n i z lt fits'') in
      let numbers : samples form (piece i x) ≡ samples form (piece i y) =
      sym (all_numbers (piece i x) size_x) ∙ sym (frame_is n i x lt fits) ∙ same ∙ frame_is m i y lt' fits' ∙ all_numbers (piece i y) size_y in
      let mixed : samples form (piece i z) ≡ samples form (piece i x) =
      samples_of_mixed form (piece i x) (piece i y) (piece i z) (c * 1) size_x size_y size_z (bytes_piece i x are_x) (bytes_piece i y are_y) numbers
      (λ j lt. let few : j < w * (c * 1) = omega (arith, lt, size_z) in
      ⊎_elim
      (λ (first : get_or z (frame_start i + j) 0 ≡ get_or x (frame_start i + j) 0). inl (piece_at i j z few ∙ first ∙ sym (piece_at i j x few)))
      (λ (second : get_or z (frame_start i + j) 0 ≡ get_or y (frame_start i + j) 0). inr (piece_at i j z few ∙ second ∙ sym (piece_at i j y few)))
      (each (frame_start i + j) (omega (arith, starts i)) (omega (arith, few, ends i)))) in
      frame_is n i z lt fits'' ∙ ap (λ (l : List ℤ). take c l) mixed ∙ sym (frame_is n i x lt fits)

-- how a codec with a fixed number of bytes a sample writes them
pub form_of : (o : Option Fixed) → is_none o ≡ false → (form : Fixed) × (o ≡ Some form)
form_of None linear = absurd (cc)
form_of (Some form) linear = (form, refl)

-- what is known of a layout with frames that can be told apart
pub record HasFrames (h : Shape) : Type 0 where
  pub linear : is_none (fixed_of h.params.codec) ≡ false
  pub some : 1 ≤ h.params.channels

pub same_frame : (h : Shape) → HasFrames h → (n m i : ℕ) (x y : List ℕ) → i < n → i < m → end h n ≤ length x → end h m ≤ length y → SameFrame h i x y
    → frame_at (frames_in h n x) i ≡ frame_at (frames_in h m y) i
same_frame h has n m i x y lt lt' fits fits' same =
    let form = form_of (fixed_of h.params.codec) has.linear in
    frame_same h form.0 form.1 has.some n m i x y lt lt' fits fits' same

pub same_mixed : (h : Shape) → HasFrames h → (n m i : ℕ) (x y z : List ℕ) → i < n → i < m → end h n ≤ length x → end h m ≤ length y → end h n ≤ length z → All IsByte x → All IsByte y
    → frame_at (frames_in h n x) i ≡ frame_at (frames_in h m y) i → MixesFrame h i x y z → frame_at (frames_in h n z) i ≡ frame_at (frames_in h n x) i
same_mixed h has n m i x y z lt lt' fits fits' fits'' are_x are_y same each =
    let form = form_of (fixed_of h.params.codec) has.linear in
    frame_mixed h form.0 form.1 has.some n m i x y z lt lt' fits fits' fits'' are_x are_y same each
