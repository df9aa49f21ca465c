-- The numbers of inputs, in the width that is made, and how many there are.
use Rattle.std.proofs.Common.{◌≡◌, ◌∙◌, ap, sym, refl, subst, inl, inr, pow_pos, ℕ, zero, suc, ◌+◌, ◌-◌, ◌*◌, ◌/◌, ◌<◌, ℤ, pos, Bool, cond, List, [], ◌∷◌, length, get_or, max, arith}
use Rattle.std.proofs.lemmas.Bool.{cases_Bool, cases_lt}
use Rattle.std.proofs.lemmas.Int.{ints}
use Rattle.std.proofs.lemmas.List.{get_or-map, length-map}
use Rattle.std.specs.Prelude.{◌^◌, ◌*ℤ◌, nat_le}
use Rattle.snd_disk.specs.declared.disk.Disk.{Ghosts}
use Rattle.snd_disk.specs.State.{State}
use Rattle.snd_layout.specs.Shape.{Shape}
use Rattle.snd_layout.specs.declared.codec.Codec.{Codec}
use Rattle.snd_layout.specs.declared.codec.Codec.TheVariants.{U8, S8, S16, S24, S32, MuLaw, ALaw, Ima, Ms}
use Rattle.snd_edits.specs.Editing.{Editing}
use Rattle.snd_output.specs.Widths.{width_of}
use Rattle.snd_recode.specs.Recoded.{changed_all}
use Rattle.snd_pcm.specs.Width.{HasWidth, IsWidth, changed, floor_div}
use Rattle.snd_interleave.specs.Beside.{HasChannel, KeepsChannels, frame_at, longest}
use Rattle.snd_interleave.specs.Channels.{HoldAll, layouts_of, most_frames}
use Rattle.snd_interleave.specs.Reading.{AreNumbersAt}
use Rattle.snd_interleave.specs.Interleave.{channel_in, channels_in, numbers_of, shapes_of}
use Rattle.snd_inputs.specs.declared.input.Input.{Input}
use Rattle.snd_interleave.proofs.Lists.{changed_at}

-- ---- widths

no_part : (k : ℕ) → pos (0 / 2 ^ k) ≡ pos 0
no_part k = ap pos (let some : 0 < 2 ^ k = pow_pos k in omega (arith, some))

pub zero_stays : (from to : ℕ) → changed from to (pos 0) ≡ pos 0
zero_stays from to = elim (cases_Bool (nat_le from to)) [
  | inl wider ↦ ap (λ (t : Bool). cond t (pos 0 *ℤ pos (2 ^ (to - from))) (floor_div (pos 0) (2 ^ (from - to)))) wider ∙ nothing (2 ^ (to - from))
  | inr narrower ↦ ap (λ (t : Bool). cond t (pos 0 *ℤ pos (2 ^ (to - from))) (floor_div (pos 0) (2 ^ (from - to)))) narrower ∙ no_part (from - to)
]
  where
    nothing : (n : ℕ) → pos 0 *ℤ pos n ≡ pos 0
    nothing n = omega (arith, ints)

pub zero_fits : (width : ℕ) → IsWidth width → HasWidth width (pos 0)
zero_fits width (inl is) = subst (λ (w : ℕ). HasWidth w (pos 0)) (sym is) (omega (arith, ints), omega (arith, ints))
zero_fits width (inr (inl is)) = subst (λ (w : ℕ). HasWidth w (pos 0)) (sym is) (omega (arith, ints), omega (arith, ints))
zero_fits width (inr (inr (inl is))) = subst (λ (w : ℕ). HasWidth w (pos 0)) (sym is) (omega (arith, ints), omega (arith, ints))
zero_fits width (inr (inr (inr is))) = subst (λ (w : ℕ). HasWidth w (pos 0)) (sym is) (omega (arith, ints), omega (arith, ints))

pub width_is : (codec : Codec) → IsWidth (width_of codec)
width_is U8 = inl refl
width_is S8 = inl refl
width_is (S24 order) = inr (inr (inl refl))
width_is (S32 order) = inr (inr (inr refl))
width_is (S16 order) = inr (inl refl)
width_is MuLaw = inr (inl refl)
width_is ALaw = inr (inl refl)
width_is (Ima align per_block) = inr (inl refl)
width_is (Ms align per_block) = inr (inl refl)

-- numbers that were read, behind them zeros, as those of a channel
pub channel_numbers : (codec : Codec) (e : Editing) (place count : ℕ) (xs : List ℤ) → AreNumbersAt place count (numbers_of e) xs
    → AreNumbersAt place count (channel_in codec e) (changed_all (width_of e.shape.params.codec) (width_of codec) xs)
channel_numbers codec e place count xs are j lt =
    let f = changed (width_of e.shape.params.codec) (width_of codec) in
    let stays = zero_stays (width_of e.shape.params.codec) (width_of codec) in
    changed_at f stays xs j ∙ ap f (are j lt) ∙ sym (changed_at f stays (numbers_of e) (place + j))

-- a number of a frame of several channels
pub number_in : (codec : Codec) (es : List Editing) (k c : ℕ) (e : Editing) → c < length es
    → get_or (frame_at (channels_in codec es) k) c (pos 0) ≡ get_or (channel_in codec (get_or es c e)) k (pos 0)
number_in codec es k c e lt =
    let many : length (channels_in codec es) ≡ length es = length-map es (channel_in codec) in
    get_or-map (λ (xs : List ℤ). get_or xs k (pos 0)) (channels_in codec es) c [] (pos 0) (omega (arith, many, lt))
    ∙ ap (λ (xs : List ℤ). get_or xs k (pos 0)) (get_or-map (channel_in codec) es c e [] lt)

-- one channel more of a block: those before it stay
module _ (n i count : ℕ) (block block' ys : List ℤ) (within : i < n) (put : HasChannel n i count ys block') (others : KeepsChannels n i count block block') where
  pub numbers_more : (P : ℕ → ℕ → ℤ → Type 0) → ((j c : ℕ) → j < count → c < i → P j c (get_or block (j * n + c) (pos 0))) → ((j : ℕ) → j < count → P j i (get_or ys j (pos 0)))
      → (j c : ℕ) → j < count → c < i + 1 → P j c (get_or block' (j * n + c) (pos 0))
  numbers_more P so_far here j c below lt = elim (cases_lt c i) [
    | inl before ↦ subst (P j c) (sym (others j c below (omega (arith, before, within)) (λ same. absurd (omega (arith, same, before))))) (so_far j c below before)
    | inr le ↦
        let same : c ≡ i = omega (arith, le, lt) in
        subst (P j c) (sym (ap (λ (k : ℕ). get_or block' (j * n + k) (pos 0)) same ∙ put j below)) (subst (λ (k : ℕ). P j k (get_or ys j (pos 0))) (sym same) (here j below))
  ]

-- .. or both of two
pub each_of_two : (count : ℕ) (P : ℕ → ℕ → ℤ → Type 0) (left right block : List ℤ) → HasChannel 2 0 count left block → HasChannel 2 1 count right block
    → ((j : ℕ) → j < count → P j 0 (get_or left j (pos 0))) → ((j : ℕ) → j < count → P j 1 (get_or right j (pos 0))) → (j c : ℕ) → j < count → c < 2 → P j c (get_or block (j * 2 + c) (pos 0))
each_of_two count P left right block put put' first second j zero below lt = subst (P j 0) (sym (put j below)) (first j below)
each_of_two count P left right block put put' first second j (suc zero) below lt = subst (P j 1) (sym (put' j below)) (second j below)
each_of_two count P left right block put put' first second j (suc (suc c)) below lt = absurd (omega (arith, lt))

-- ---- how many

most_is : (codec : Codec) (es : List Editing) → ((k : ℕ) (e : Editing) → k < length es → (get_or es k e).shape.frames ≡ length (get_or es k e).frames) → most_frames (shapes_of es) ≡ longest (channels_in codec es)
most_is codec [] counts = refl
most_is codec (e ∷ es) counts =
    let here : e.shape.frames ≡ length (channel_in codec e) =
    counts 0 e (omega arith) ∙ sym (length-map e.frames (λ frame. get_or frame 0 (pos 0))) ∙ sym (length-map (numbers_of e) (changed (width_of e.shape.params.codec) (width_of codec))) in
    ap (λ (n : ℕ). max n (most_frames (shapes_of es))) here ∙ ap (max (length (channel_in codec e))) (most_is codec es (λ k f lt. counts (suc k) f (omega (arith, lt))))

module _ {D : Type 0} {ghosts : Ghosts D} (state : D → State) where
  all_count : (inputs : List (Input D ghosts)) (es : List Editing) → HoldAll state inputs es → (k : ℕ) (e : Editing) → k < length es → (get_or es k e).shape.frames ≡ length (get_or es k e).frames
  all_count [] es hold k e lt = absurd (omega (arith, lt, hold.count))
  all_count (x ∷ inputs) es hold k e lt = (hold.each k x e (omega (arith, lt, hold.count))).count

  -- what inputs say of themselves is what the files do
  rest_hold : (x : Input D ghosts) (inputs : List (Input D ghosts)) (e : Editing) (es : List Editing) → HoldAll state (x ∷ inputs) (e ∷ es) → HoldAll state inputs es
  rest_hold x inputs e es hold = record { count = omega (arith, hold.count); each = λ k d d' lt. hold.each (suc k) d d' (omega (arith, lt)) }

  pub shapes_are : (inputs : List (Input D ghosts)) (es : List Editing) → HoldAll state inputs es → layouts_of inputs ≡ shapes_of es
  shapes_are [] [] hold = refl
  shapes_are [] (e ∷ es) hold = absurd (omega (arith, hold.count))
  shapes_are (x ∷ inputs) [] hold = absurd (omega (arith, hold.count))
  shapes_are (x ∷ inputs) (e ∷ es) hold =
      let first : x.layout ≡ e.shape = sym (ap (λ (f : Editing). f.shape) (hold.each 0 x e (omega arith)).opened) in
      ap (λ (h : Shape). h ∷ layouts_of inputs) first ∙ ap (λ (l : List Shape). e.shape ∷ l) (shapes_are inputs es (rest_hold x inputs e es hold))

  pub most_numbers : (inputs : List (Input D ghosts)) (es : List Editing) (codec : Codec) → HoldAll state inputs es → most_frames (layouts_of inputs) ≡ longest (channels_in codec es)
  most_numbers inputs es codec hold = ap most_frames (shapes_are inputs es hold) ∙ most_is codec es (all_count inputs es hold)
