-- The ranges of codecs.
use Rattle.std.proofs.Common.{◌≡◌, ◌∙◌, sym, subst, refl, ℤ, true, List, All, Some}
use Rattle.std.proofs.lemmas.List.Elements.{All-weaker}
use Rattle.snd_ima_adpcm.specs.Frames.{Is16Bit}
use Rattle.snd_container.specs.Fixed.{InRange}
use Rattle.snd_container.specs.Sound.{fixed_of}
use Rattle.snd_container.specs.declared.fixed.Fixed.{Fixed}
use Rattle.snd_container.specs.declared.fixed.Fixed.TheVariants.{Linear}
use Rattle.snd_fields.specs.declared.field.Order.TheVariants.{Little}
use Rattle.snd_layout.specs.Blocks.{is_adpcm}
use Rattle.snd_layout.specs.declared.codec.Codec.{Codec}
use Rattle.snd_layout.specs.declared.codec.Codec.TheVariants.{Ima, Ms}
use Rattle.snd_pcm.specs.declared.linear.Linear.TheVariants.{S16}
use Rattle.snd_edits.specs.Reading.{FitCodec, range_of}

range_fixed : (codec : Codec) (form : Fixed) → fixed_of codec ≡ Some form → range_of codec ≡ Some form
range_fixed (Ima align per_block) form is = absurd (cc)
range_fixed (Ms align per_block) form is = absurd (cc)
range_fixed _ form is = is

range_adpcm : (codec : Codec) → is_adpcm codec ≡ true → range_of codec ≡ Some (Linear (S16 Little))
range_adpcm (Ima align per_block) is = refl
range_adpcm (Ms align per_block) is = refl
range_adpcm _ is = absurd (cc)

-- numbers in the range of a codec with a fixed form are in that of the form, and the other way round
pub in_form : (codec : Codec) (form : Fixed) (xs : List ℤ) → fixed_of codec ≡ Some form → FitCodec codec xs → All (InRange form) xs
in_form codec form xs is fit = fit form (range_fixed codec form is)

fits_by : (codec : Codec) (form : Fixed) (xs : List ℤ) → range_of codec ≡ Some form → All (InRange form) xs → FitCodec codec xs
fits_by codec form xs is all = λ other is_other.
    let both : Some form ≡ Some other = sym is ∙ is_other in
    let same : form ≡ other = cc in
    subst (λ (f : Fixed). All (InRange f) xs) same all

pub fits_form : (codec : Codec) (form : Fixed) (xs : List ℤ) → fixed_of codec ≡ Some form → All (InRange form) xs → FitCodec codec xs
fits_form codec form xs is all = fits_by codec form xs (range_fixed codec form is) all

-- .. and those of 16 bits in the range of ADPCM
pub fits_blocks : (codec : Codec) (xs : List ℤ) → is_adpcm codec ≡ true → All Is16Bit xs → FitCodec codec xs
fits_blocks codec xs is all =
    fits_by codec (Linear (S16 Little)) xs (range_adpcm codec is) (All-weaker Is16Bit (InRange (Linear (S16 Little))) (λ x small. (small.least, small.most)) xs all)

-- .. exactly
pub fits_16_bits : (codec : Codec) (xs : List ℤ) → is_adpcm codec ≡ true → (All (InRange (Linear (S16 Little))) xs → FitCodec codec xs) × (FitCodec codec xs → All (InRange (Linear (S16 Little))) xs)
fits_16_bits codec xs is = (λ all. fits_by codec (Linear (S16 Little)) xs (range_adpcm codec is) all, λ fit. fit (Linear (S16 Little)) (range_adpcm codec is))

pub are_16_bits : (codec : Codec) (xs : List ℤ) → is_adpcm codec ≡ true → FitCodec codec xs → All Is16Bit xs
are_16_bits codec xs is fit = All-weaker (InRange (Linear (S16 Little))) Is16Bit (λ x small. record { least = small.0; most = small.1 }) xs (fit (Linear (S16 Little)) (range_adpcm codec is))
