-- The frames of a sound, and those that a read of some of its bytes gives.
use Rattle.std.proofs.Common.{◌≡◌, ◌∙◌, ap, sym, subst, refl, ℕ, zero, suc, ◌+◌, ◌-◌, ◌*◌, ◌/◌, ◌<◌, ◌≤◌, List, ◌∷◌, ◌++◌, Option, Some, length, take, drop, arith}
use Rattle.std.proofs.Math.Nat.{mul-div_cancel_left}
use Rattle.std.proofs.lemmas.List.{drop-drop, drop-take, length-drop, length-take-le, take-take, take_at}
use Rattle.snd_layout.specs.Blocks.{block_align, block_frames}
use Rattle.snd_layout.specs.Params.{Parameters, data_bytes}
use Rattle.snd_layout.specs.Shape.{Shape, end}
use Rattle.snd_layout.specs.declared.codec.Codec.{Codec}
use Rattle.snd_layout.specs.declared.codec.Codec.TheVariants.{U8, S8, S16, S24, S32, MuLaw, ALaw, Ima, Ms}
use Rattle.snd_pcm.specs.Groups.{first_groups, groups}
use Rattle.snd_container.specs.Fixed.{byte_count, samples}
use Rattle.snd_pcm.specs.declared.linear.Linear as linear
use Rattle.snd_container.specs.declared.fixed.Fixed as fixed
use Rattle.snd_container.specs.declared.fixed.Fixed.{Fixed}
use Rattle.snd_container.specs.declared.fixed.Fixed.TheVariants.{Linear}
use Rattle.snd_container.proofs.Public.{byte_count_pos, length-samples, samples_of_parts}
use Rattle.snd_pcm.proofs.Series.{length-first_groups}
use Rattle.snd_container.specs.Sound.{decoded, decoded_as, fixed_of, sound_bytes}

-- ---- the bytes of a frame

pub linear_align : (codec : Codec) (form : Fixed) (channels : ℕ) → fixed_of codec ≡ Some form → block_align channels codec ≡ byte_count form * channels
linear_align U8 form channels is = let same : Linear linear.TheVariants.U8 ≡ form = cc in subst (λ (f : Fixed). channels ≡ byte_count f * channels) same (omega arith)
linear_align S8 form channels is = let same : Linear linear.TheVariants.S8 ≡ form = cc in subst (λ (f : Fixed). channels ≡ byte_count f * channels) same (omega arith)
linear_align (S16 order) form channels is = let same : Linear (linear.TheVariants.S16 order) ≡ form = cc in subst (λ (f : Fixed). 2 * channels ≡ byte_count f * channels) same (omega arith)
linear_align (S24 order) form channels is = let same : Linear (linear.TheVariants.S24 order) ≡ form = cc in subst (λ (f : Fixed). 3 * channels ≡ byte_count f * channels) same (omega arith)
linear_align (S32 order) form channels is = let same : Linear (linear.TheVariants.S32 order) ≡ form = cc in subst (λ (f : Fixed). 4 * channels ≡ byte_count f * channels) same (omega arith)
linear_align MuLaw form channels is = let same : fixed.TheVariants.MuLaw ≡ form = cc in subst (λ (f : Fixed). channels ≡ byte_count f * channels) same (omega arith)
linear_align ALaw form channels is = let same : fixed.TheVariants.ALaw ≡ form = cc in subst (λ (f : Fixed). channels ≡ byte_count f * channels) same (omega arith)
linear_align _ form channels is = absurd (cc)

pub linear_frames : (codec : Codec) (form : Fixed) → fixed_of codec ≡ Some form → block_frames codec ≡ 1
linear_frames (Ima align per_block) form is = absurd (cc)
linear_frames (Ms align per_block) form is = absurd (cc)
linear_frames _ form is = refl

pub linear_bytes : (p : Parameters) (form : Fixed) (n : ℕ) → fixed_of p.codec ≡ Some form → data_bytes p n ≡ byte_count form * (p.channels * n)
linear_bytes p form n is =
    ap (λ (m : ℕ). (n + m - 1) / m * block_align p.channels p.codec) (linear_frames p.codec form is)
    ∙ ap (λ (m : ℕ). (n + 1 - 1) / 1 * m) (linear_align p.codec form p.channels is)
    ∙ ap (λ (m : ℕ). m * (byte_count form * p.channels)) (let e : (n + 1 - 1) / 1 ≡ n = omega arith in e)
    ∙ (let e : n * (byte_count form * p.channels) ≡ byte_count form * (p.channels * n) = omega arith in e)

-- the bytes of the samples of so many frames
pub frame_bytes : (codec : Codec) (form : Fixed) (channels count places : ℕ) → fixed_of codec ≡ Some form → places ≡ count * channels → byte_count form * places ≡ count * block_align channels codec
frame_bytes codec form channels count places is room =
    ap (λ (m : ℕ). byte_count form * m) room
    ∙ (let e : byte_count form * (count * channels) ≡ count * (byte_count form * channels) = omega arith in e)
    ∙ ap (λ (m : ℕ). count * m) (sym (linear_align codec form channels is))

pub span_fits : (w channels place count frames : ℕ) → place + count ≤ frames → w * (channels * place) + w * (count * channels) ≤ w * (channels * frames)
span_fits w channels place count frames within =
    let left = frames - place - count in
    let whole : frames ≡ place + count + left = omega arith in
    let sum : w * (channels * frames) ≡ w * (channels * place) + w * (count * channels) + w * (channels * left) =
    ap (λ (m : ℕ). w * (channels * m)) whole ∙ (let e : w * (channels * (place + count + left)) ≡ w * (channels * place) + w * (count * channels) + w * (channels * left) = omega arith in e) in
    omega (arith, sum)

-- ---- groups of parts of a list

module _ {X : Type 0} (k : ℕ) where
  pub groups_of_front : (n : ℕ) (xs : List X) → first_groups k n (take (k * n) xs) ≡ first_groups k n xs
  groups_of_front zero xs = refl
  groups_of_front (suc n) xs =
      let more : k * suc n ≡ k + k * n = omega arith in
      ap (λ (m : ℕ). first_groups k (suc n) (take m xs)) more
      ∙ ap (λ l. l ∷ first_groups k n (drop k (take (k + k * n) xs))) (take-take k (k + k * n) xs (omega arith))
      ∙ ap (λ l. take k xs ∷ first_groups k n l) (drop-take k (k * n) xs)
      ∙ ap (λ l. take k xs ∷ l) (groups_of_front n (drop k xs))

  -- groups that stand in front of other items
  pub groups_of_piece : (n : ℕ) (piece rest : List X) → length piece ≡ k * n → first_groups k n (piece ++ rest) ≡ first_groups k n piece
  groups_of_piece n piece rest size = sym (groups_of_front n (piece ++ rest)) ∙ ap (first_groups k n) (take_at piece rest (k * n) size)

  pub front_of_groups : (n all : ℕ) (xs : List X) → n ≤ all → take n (first_groups k all xs) ≡ first_groups k n xs
  front_of_groups zero all xs within = refl
  front_of_groups (suc n) zero xs within = absurd (omega arith)
  front_of_groups (suc n) (suc all) xs within = ap (λ l. take k xs ∷ l) (front_of_groups n all (drop k xs) (omega arith))

  pub rest_of_groups : (n all : ℕ) (xs : List X) → n ≤ all → drop n (first_groups k all xs) ≡ first_groups k (all - n) (drop (k * n) xs)
  rest_of_groups zero all xs within =
      ap (λ (i : ℕ). first_groups k i xs) (let e : all ≡ all - 0 = omega arith in e)
      ∙ ap (λ (i : ℕ). first_groups k (all - 0) (drop i xs)) (let e : 0 ≡ k * 0 = omega arith in e)
  rest_of_groups (suc n) zero xs within = absurd (omega arith)
  rest_of_groups (suc n) (suc all) xs within =
      rest_of_groups n all (drop k xs) (omega arith)
      ∙ ap (first_groups k (all - n)) (drop-drop (k * n) k xs)
      ∙ ap (λ (i : ℕ). first_groups k (all - n) (drop i xs)) (let e : k + k * n ≡ k * suc n = omega arith in e)
      ∙ ap (λ (i : ℕ). first_groups k i (drop (k * suc n) xs)) (let e : all - n ≡ suc all - suc n = omega arith in e)

  -- some of the groups, from a place on
  pub groups_from : (n place count : ℕ) (xs : List X) → place + count ≤ n → take count (drop place (first_groups k n xs)) ≡ first_groups k count (drop (k * place) xs)
  groups_from n place count xs within =
      ap (take count) (rest_of_groups place n xs (omega arith))
      ∙ front_of_groups count (n - place) (drop (k * place) xs) (omega arith)

-- ---- the frames of a sound

module _ (form : Fixed) (b : List ℕ) (start frames channels : ℕ) (fits : start + byte_count form * (channels * frames) ≤ length b) where
  abbrev pub held : List ℕ
  held = take (byte_count form * (channels * frames)) (drop start b)

  length_held : length held ≡ byte_count form * (channels * frames)
  length_held = length-take-le (byte_count form * (channels * frames)) (drop start b) (omega (arith, fits, length-drop start b))

  count_samples : length (samples form held) ≡ channels * frames
  count_samples = length-samples form held ∙ ap (λ (m : ℕ). m / byte_count form) length_held ∙ mul-div_cancel_left (channels * frames) (byte_count_pos form)

  count_groups : 0 < channels → length (samples form held) / channels ≡ frames
  count_groups some = ap (λ (m : ℕ). m / channels) count_samples ∙ mul-div_cancel_left frames some

  pub count_frames : 0 < channels → length (groups channels (samples form held)) ≡ frames
  count_frames some = length-first_groups channels (length (samples form held) / channels) (samples form held) ∙ count_groups some

  -- the samples of some of the frames, from a place on
  pub frames_at : (place count : ℕ) → 0 < channels → place + count ≤ frames
      → first_groups channels count (samples form (take (byte_count form * (channels * count)) (drop (start + byte_count form * (channels * place)) b)))
      ≡ take count (drop place (groups channels (samples form held)))
  frames_at place count some within =
      let w = byte_count form in
      let at = channels * place in
      let n = channels * count in
      let all = channels * frames in
      let left = frames - place - count in
      let whole : frames ≡ place + count + left = omega arith in
      let sum : w * all ≡ w * at + (w * n + w * (channels * left)) =
      ap (λ (m : ℕ). w * (channels * m)) whole ∙ (let e : w * (channels * (place + count + left)) ≡ w * at + (w * n + w * (channels * left)) = omega arith in e) in
      let reaches : w * at + w * n ≤ w * all = omega (arith, sum) in
      let begins : w * at ≤ w * all = omega (arith, sum) in
      let split : w * all ≡ w * at + (w * all - w * at) = omega arith in
      let back : drop (w * at) held ≡ take (w * all - w * at) (drop (start + w * at) b) =
      ap (λ (m : ℕ). drop (w * at) (take m (drop start b))) split
      ∙ drop-take (w * at) (w * all - w * at) (drop start b)
      ∙ ap (take (w * all - w * at)) (drop-drop (w * at) start b) in
      let bytes : take (w * n) (drop (start + w * at) b) ≡ take (w * n) (drop (w * at) held) =
      sym (ap (take (w * n)) back ∙ take-take (w * n) (w * all - w * at) (drop (start + w * at) b) (omega arith)) in
      let front = samples_of_parts form (drop (w * at) held) n (omega (arith, reaches, length-drop (w * at) held, length_held)) in
      let rest = samples_of_parts form held at (omega (arith, begins, length_held)) in
      ap (λ l. first_groups channels count (samples form l)) bytes
      ∙ ap (first_groups channels count) front.0
      ∙ ap (λ l. first_groups channels count (take n l)) rest.1
      ∙ groups_of_front channels count (drop at (samples form held))
      ∙ sym (groups_from channels frames place count (samples form held) within)
      ∙ ap (λ (m : ℕ). take count (drop place (first_groups channels m (samples form held)))) (sym (count_groups some))

-- the frames that a layout counts, from a place on, as a read of their bytes gives them
pub frames_told : (b : List ℕ) (s : Shape) (form : Fixed) (place count : ℕ) → fixed_of s.params.codec ≡ Some form → 1 ≤ s.params.channels → place + count ≤ s.frames
    → end s s.frames ≤ length b
    → first_groups s.params.channels count (samples form (take (byte_count form * (s.params.channels * count)) (drop (s.start + byte_count form * (s.params.channels * place)) b)))
    ≡ take count (drop place (decoded s.params (sound_bytes b s)))
frames_told b s form place count is some within fits =
    let c = s.params.channels in
    let size : data_bytes s.params s.frames ≡ byte_count form * (c * s.frames) = linear_bytes s.params form s.frames is in
    frames_at form b s.start s.frames c (omega (arith, fits, size)) place count (omega (arith, some)) within
    ∙ ap (λ (n : ℕ). take count (drop place (groups c (samples form (take n (drop s.start b)))))) (sym size)
    ∙ ap (λ (o : Option Fixed). take count (drop place (decoded_as o c (sound_bytes b s)))) (sym is)
