-- Numbers of a codec that pass stages, and are given to a file.
use Rattle.std.proofs.Common.{◌≡◌, ◌∙◌, ap, subst, ◌*◌, ◌/◌, ◌-◌, ◌^◌, ◌≤◌, ℕ, ℤ, pos, neg_ℤ, ◌≤ℤ◌, List, drop, length, arith}
use Rattle.std.specs.List.{refill}
use Rattle.std.specs.Prelude.{Result}
use Rattle.std.proofs.Math.Nat.{div-mul-le_self}
use Rattle.std.proofs.lemmas.Int.{ints}
use Rattle.snd_edits.specs.Known.{Known}
use Rattle.snd_edits.specs.Reading.{FitCodec}
use Rattle.snd_layout.specs.declared.codec.Codec.{Codec}
use Rattle.snd_output.specs.Appended.{GiveLeaves, MayGive}
use Rattle.snd_output.specs.declared.stop.Stop.{Stop}
use Rattle.snd_output.specs.Widths.{change_numbers, width_of}
use Rattle.snd_output.proofs.Appending.{frames_are, may_give}
use Rattle.snd_output.proofs.Public.{fits_width, width_fits}
use Rattle.snd_pcm.specs.Groups.{groups}
use Rattle.snd_pcm.specs.Width.{changed}
use Rattle.std.proofs.lemmas.List.{length-map, take_at}
use Rattle.snd_rack.specs.Held.{Held, InRange}
use Rattle.snd_rack.specs.Passing.{ArePassable, EachMayPass, channels_through, each_passed, joined}
use Rattle.snd_rack.proofs.Public.{FramesIn, each_may, groups_in, length_groups, passed_in}
use Rattle.snd_racking.specs.Appending.{MayGiveRacked, passed_groups}
use Rattle.snd_racking.specs.Racked.{high_of, low_of}

-- ---- the range of a codec has 0 in it

below : (codec : Codec) → low_of codec ≤ℤ pos 0
below codec = none_above (2 ^ (width_of codec - 1))
  where
    none_above : (n : ℕ) → neg_ℤ (pos n) ≤ℤ pos 0
    none_above n = omega (arith, ints)

above : (codec : Codec) → pos 0 ≤ℤ high_of codec
above codec = omega (arith, ints)

-- ---- a buffer whose numbers were changed

pub refilled : (n : ℕ) (xs ws : List ℤ) → length ws ≡ n → refill n xs ws ≡ ws
refilled n xs ws size = take_at ws (drop (length ws) xs) n size

-- ---- frames that pass

module _ (codec : Codec) (channels : ℕ) (hs : List Held) (xs : List ℤ) (passable : ArePassable (low_of codec) (high_of codec) channels hs) (fit : FitCodec codec xs) where
  frames_in : FramesIn (low_of codec) (high_of codec) channels (groups channels xs)
  frames_in = groups_in (low_of codec) (high_of codec) channels (length xs / channels) xs (div-mul-le_self (length xs) channels) (fits_width codec xs fit)

  pub stages_may : EachMayPass hs (groups channels xs)
  stages_may = each_may (low_of codec) (high_of codec) (below codec) (above codec) channels hs (groups channels xs) passable frames_in

  made : InRange (low_of codec) (high_of codec) (joined (each_passed hs (groups channels xs)))
      × (length (joined (each_passed hs (groups channels xs))) ≡ length (groups channels xs) * channels_through hs channels)
  made = passed_in (low_of codec) (high_of codec) (below codec) (above codec) channels hs (groups channels xs) passable frames_in

  -- as many frames as came
  pub stages_count : length (passed_groups channels hs xs) ≡ length xs / channels * channels_through hs channels
  stages_count = made.1 ∙ ap (λ n. n * channels_through hs channels) (length_groups channels xs)

  pub stages_fit : FitCodec codec (passed_groups channels hs xs)
  stages_fit = width_fits codec (passed_groups channels hs xs) made.0

-- .. and are given to a file
module _ (codec : Codec) (channels : ℕ) (hs : List Held) (xs : List ℤ) (to : Known) (may : MayGiveRacked codec channels hs xs to) where
  abbrev c : ℕ
  c = to.shape.params.channels

  pub each_may_pass : EachMayPass hs (groups channels xs)
  each_may_pass = stages_may codec channels hs xs may.placed.passable may.in_range

  pub passed_count : length (passed_groups channels hs xs) ≡ length xs / channels * c
  passed_count = stages_count codec channels hs xs may.placed.passable may.in_range ∙ ap (λ n. length xs / channels * n) may.placed.fits

  pub passed_fit : FitCodec codec (passed_groups channels hs xs)
  passed_fit = stages_fit codec channels hs xs may.placed.passable may.in_range

  pub passed_room : length xs / channels * c ≤ 16384 → length (passed_groups channels hs xs) ≤ 16384
  passed_room fits = omega (arith, passed_count, fits)

  -- and what they become in the file's codec may be given to it
  module _ (some : 1 ≤ to.shape.params.channels) (wanted : Codec) (passed ys : List ℤ) (is : passed ≡ passed_groups channels hs xs) (changes : ys ≡ change_numbers codec wanted passed) where
    pub ys_are : ys ≡ change_numbers codec wanted (passed_groups channels hs xs)
    ys_are = changes ∙ ap (change_numbers codec wanted) is

    ys_count : length ys ≡ length xs / channels * c
    ys_count = ap length ys_are ∙ length-map (passed_groups channels hs xs) (changed (width_of codec) (width_of wanted)) ∙ passed_count

    pub passed_may : wanted ≡ to.shape.params.codec → FitCodec wanted ys → MayGive ys to
    passed_may same fit = may_give ys (length xs / channels) to some ys_count may.at_end may.in_room (subst (λ (q : Codec). FitCodec q ys) same fit)

    pub passed_left : {T : Type 0} (to' : Known) (result : Result T Stop) → GiveLeaves (length ys / c) to to' result → GiveLeaves (length xs / channels) to to' result
    passed_left to' result left = subst (λ (n : ℕ). GiveLeaves n to to' result) (frames_are ys (length xs / channels) to some ys_count) left
