-- Frames that pass stages as the bytes of their samples.
use Rattle.std.proofs.Common.{◌≡◌, ◌∙◌, ap, sym, subst, ◌*◌, ◌/◌, ℕ, ℤ, List, All, Option, Some, length}
use Rattle.std.proofs.Math.Nat.{mul-div_cancel_left}
use Rattle.std.proofs.lemmas.List.{length-map}
use Rattle.snd_container.proofs.Public.{byte_count_pos, length-samples}
use Rattle.snd_container.specs.Fixed.{InRange, byte_count, samples, samples_bytes}
use Rattle.snd_container.specs.Sound.{fixed_of}
use Rattle.snd_container.specs.declared.fixed.Fixed.{Fixed}
use Rattle.snd_edits.specs.Bytes.{numbers_as}
use Rattle.snd_edits.specs.Edits.{coded_as}
use Rattle.snd_edits.specs.Reading.{FitCodec}
use Rattle.snd_edits.proofs.Public.{fits_form, in_form}
use Rattle.snd_layout.specs.Params.{Parameters}
use Rattle.snd_layout.specs.declared.codec.Codec.{Codec}
use Rattle.snd_output.specs.Appended.{bytes_in, coded_in}
use Rattle.snd_output.specs.Widths.{change_numbers, width_of}
use Rattle.snd_output.proofs.Public.{bytes_of_samples}
use Rattle.snd_pcm.specs.Groups.{groups}
use Rattle.snd_pcm.specs.Width.{changed}
use Rattle.snd_rack.specs.Held.{Held}
use Rattle.snd_rack.specs.Passing.{EachMayPass}
use Rattle.snd_racking.specs.Appending.{ArePlaced, passed_bytes, passed_groups}
use Rattle.snd_racking.proofs.Passed.{stages_count, stages_fit, stages_may}

-- ---- a piece: samples that bytes are, which pass stages, and become those of another codec

module _ (from to : Parameters) (hs : List Held) (channels : ℕ) (old new : Fixed) (bytes : List ℕ) (numbers : List ℤ) (from_is : fixed_of from.codec ≡ Some old) (to_is : fixed_of to.codec ≡ Some new)
    (placed : ArePlaced from.codec from.channels to.channels hs) (alike : channels ≡ from.channels) (is : numbers ≡ samples old bytes) (in_range : All (InRange old) numbers) where
  fit : FitCodec from.codec numbers
  fit = fits_form from.codec old numbers from_is in_range

  pub piece_may : EachMayPass hs (groups channels numbers)
  piece_may = subst (λ (n : ℕ). EachMayPass hs (groups n numbers)) (sym alike) (stages_may from.codec from.channels hs numbers placed.passable fit)

  pub piece_count : length (passed_groups channels hs numbers) ≡ length numbers / from.channels * to.channels
  piece_count =
      ap (λ (n : ℕ). length (passed_groups n hs numbers)) alike
      ∙ stages_count from.codec from.channels hs numbers placed.passable fit
      ∙ ap (λ (n : ℕ). length numbers / from.channels * n) placed.fits

  pub piece_fit : FitCodec from.codec (passed_groups channels hs numbers)
  piece_fit = subst (λ (n : ℕ). FitCodec from.codec (passed_groups n hs numbers)) (sym alike) (stages_fit from.codec from.channels hs numbers placed.passable fit)

  -- what they became
  module _ (became : List ℤ) (changes : became ≡ change_numbers from.codec to.codec (passed_groups channels hs numbers)) where
    became_count : length became ≡ length numbers / from.channels * to.channels
    became_count = ap length changes ∙ length-map (passed_groups channels hs numbers) (changed (width_of from.codec) (width_of to.codec)) ∙ piece_count

    -- .. has just so many bytes
    pub piece_room : (places : ℕ) → places ≡ bytes_in to.codec (length numbers / from.channels * to.channels) → places ≡ byte_count new * length became
    piece_room places fits = fits ∙ bytes_of_samples to.codec new (length numbers / from.channels * to.channels) to_is ∙ ap (λ (n : ℕ). byte_count new * n) (sym became_count)

    pub piece_in_range : FitCodec to.codec became → All (InRange new) became
    piece_in_range fits = in_form to.codec new became to_is fits

    -- and these are those of the definition
    pub piece_coded : samples_bytes new became ≡ passed_bytes from to hs bytes
    piece_coded =
        ap (λ (o : Option Fixed). coded_as o became) (sym to_is)
        ∙ ap (coded_in to.codec) changes
        ∙ ap (λ (n : ℕ). coded_in to.codec (change_numbers from.codec to.codec (passed_groups n hs numbers))) alike
        ∙ ap (λ (l : List ℤ). coded_in to.codec (change_numbers from.codec to.codec (passed_groups from.channels hs l))) (is ∙ ap (λ (o : Option Fixed). numbers_as o bytes) (sym from_is))

-- so many samples are read of so many bytes
pub count_read : (form : Fixed) (bytes : List ℕ) (n : ℕ) → length bytes ≡ byte_count form * n → length (samples form bytes) ≡ n
count_read form bytes n size = length-samples form bytes ∙ ap (λ (m : ℕ). m / byte_count form) size ∙ mul-div_cancel_left n (byte_count_pos form)

pub size_held : (codec : Codec) (form : Fixed) (bytes : List ℕ) (n : ℕ) → fixed_of codec ≡ Some form → length bytes ≡ bytes_in codec n → length bytes ≡ byte_count form * n
size_held codec form bytes n is held = held ∙ bytes_of_samples codec form n is
