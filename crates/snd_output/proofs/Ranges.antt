-- The range of the numbers of a codec.
use Rattle.std.proofs.Common.{◌≡◌, refl, subst, ℤ, List, All, Some}
use Rattle.snd_container.specs.Fixed.{InRange}
use Rattle.snd_container.specs.declared.fixed.Fixed as fixed
use Rattle.snd_container.specs.declared.fixed.Fixed.{Fixed}
use Rattle.snd_container.specs.declared.fixed.Fixed.TheVariants.{Linear}
use Rattle.snd_fields.specs.declared.field.Order.TheVariants.{Little}
use Rattle.snd_layout.specs.declared.codec.Codec.{Codec}
use Rattle.snd_layout.specs.declared.codec.Codec.TheVariants.{U8, S8, S16, S24, S32, MuLaw, ALaw, Ima, Ms}
use Rattle.snd_edits.specs.Reading.{FitCodec}
use Rattle.snd_pcm.specs.Width.{HasWidth}
use Rattle.snd_pcm.specs.declared.linear.Linear as linear
use Rattle.snd_output.specs.Widths.{width_of}

pub fits_width : (codec : Codec) (xs : List ℤ) → FitCodec codec xs → All (HasWidth (width_of codec)) xs
fits_width U8 xs fit = fit (Linear linear.TheVariants.U8) refl
fits_width S8 xs fit = fit (Linear linear.TheVariants.S8) refl
fits_width (S16 order) xs fit = fit (Linear (linear.TheVariants.S16 order)) refl
fits_width (S24 order) xs fit = fit (Linear (linear.TheVariants.S24 order)) refl
fits_width (S32 order) xs fit = fit (Linear (linear.TheVariants.S32 order)) refl
fits_width MuLaw xs fit = fit fixed.TheVariants.MuLaw refl
fits_width ALaw xs fit = fit fixed.TheVariants.ALaw refl
fits_width (Ima align per_block) xs fit = fit (Linear (linear.TheVariants.S16 Little)) refl
fits_width (Ms align per_block) xs fit = fit (Linear (linear.TheVariants.S16 Little)) refl

by_form : (found form : Fixed) (xs : List ℤ) → All (InRange found) xs → Some found ≡ Some form → All (InRange form) xs
by_form found form xs fit is = let same : found ≡ form = cc in subst (λ (f : Fixed). All (InRange f) xs) same fit

pub width_fits : (codec : Codec) (xs : List ℤ) → All (HasWidth (width_of codec)) xs → FitCodec codec xs
width_fits U8 xs fit = λ form is. by_form (Linear linear.TheVariants.U8) form xs fit is
width_fits S8 xs fit = λ form is. by_form (Linear linear.TheVariants.S8) form xs fit is
width_fits (S16 order) xs fit = λ form is. by_form (Linear (linear.TheVariants.S16 order)) form xs fit is
width_fits (S24 order) xs fit = λ form is. by_form (Linear (linear.TheVariants.S24 order)) form xs fit is
width_fits (S32 order) xs fit = λ form is. by_form (Linear (linear.TheVariants.S32 order)) form xs fit is
width_fits MuLaw xs fit = λ form is. by_form fixed.TheVariants.MuLaw form xs fit is
width_fits ALaw xs fit = λ form is. by_form fixed.TheVariants.ALaw form xs fit is
width_fits (Ima align per_block) xs fit = λ form is. by_form (Linear (linear.TheVariants.S16 Little)) form xs fit is
width_fits (Ms align per_block) xs fit = λ form is. by_form (Linear (linear.TheVariants.S16 Little)) form xs fit is
