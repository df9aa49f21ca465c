-- The sound of a SPHERE file, and its data.
use Rattle.std.proofs.Common.{◌≡◌, ℕ, ◌+◌, ◌-◌, ◌*◌, ◌<◌, ◌≤◌, Bool, true, false, Option, None, Some, Result, Ok, Err, refl, sym, inl, inr, arith}
use Rattle.std.proofs.lemmas.Bool.{cases_Bool, cases_lt}
use Rattle.std.proofs.lemmas.Nat.{mul-le}
use Rattle.std.specs.Prelude.{max, min}
use Rattle.snd_fields.specs.declared.field.Order.{Order}
use Rattle.snd_layout.proofs.Codecs.{fixed_align, fixed_bytes, params_good, unless_ok}
use Rattle.snd_layout.specs.Blocks.{block_align, is_adpcm}
use Rattle.snd_layout.specs.Fit.{is_sphere_codec}
use Rattle.snd_layout.specs.Params.{AreParams, Parameters, data_bytes, params_of as new_params, params_refusal}
use Rattle.snd_layout.specs.declared.codec.Codec.{Codec}
use Rattle.snd_layout.specs.declared.codec.Codec.TheVariants.{Ima, Ms}
use Rattle.snd_layout.specs.declared.refusal.OpenRefusal.{OpenRefusal}
use Rattle.snd_sphere.specs.declared.heading.Coding.{Coding}
use Rattle.snd_sphere.specs.declared.heading.Coding.TheVariants.{Pcm, Other, MuLaw as coded_mu, ALaw as coded_a}
use Rattle.snd_sphere.specs.declared.heading.Heading.{Heading}
use Rattle.snd_sphere.specs.declared.stated.Stated.{Stated}
use Rattle.snd_sphere.specs.Layout.{codec_of, is_other, params_of, params_with, sound_of, with_width}

sphere_fixed : (codec : Codec) → is_sphere_codec codec ≡ true → is_adpcm codec ≡ false
sphere_fixed (Ima align per_block) is = absurd (cc)
sphere_fixed (Ms align per_block) is = absurd (cc)
sphere_fixed _ is = refl

pub align_some : (p : Parameters) → AreParams p → is_sphere_codec p.codec ≡ true → 1 ≤ block_align p.channels p.codec
align_some p good is = fixed_align p.channels p.codec (sphere_fixed p.codec is) good.some_channel

pub bytes_are : (p : Parameters) (n : ℕ) → is_sphere_codec p.codec ≡ true → data_bytes p n ≡ n * block_align p.channels p.codec
bytes_are p n is = fixed_bytes p n (sphere_fixed p.codec is)

next_product : (q a : ℕ) → (q + 1) * a ≡ q * a + a
next_product q a = grind arith

pub few_frames : (n a top c value declared : ℕ) → 1 ≤ a → n * a ≤ max (min ((top - 1) * a) c) declared → declared ≤ value * a → value < top → n < top
few_frames n a top c value declared some room stated less = elim (cases_lt n top) [
  | inl lt ↦ lt
  | inr le ↦ absurd (
      let whole : top * a ≤ n * a = mul-le top a n a le (omega arith) in
      let values : value * a ≤ (top - 1) * a = mul-le value a (top - 1) a (omega (arith, less)) (omega arith) in
      let one_more : (top - 1 + 1) * a ≡ (top - 1) * a + a = next_product (top - 1) a in
      let same : top - 1 + 1 ≡ top = omega (arith, less) in
      let product : top * a ≡ (top - 1) * a + a = rw same at one_more in
      omega (arith, whole, values, product, some, room, stated))
]

pub frames_few : (n a : ℕ) → 1 ≤ a → n ≤ n * a
frames_few n a some = grind arith

-- parameters that are read are good, and SPHERE holds their codec
codec_fits : (coding : Coding) (order : Option Order) → is_sphere_codec (codec_of coding order) ≡ true
codec_fits Pcm None = refl
codec_fits Pcm (Some order) = refl
codec_fits coded_mu order = refl
codec_fits coded_a order = refl
codec_fits Other order = refl

width_ok : (good : Bool) (r : Result Parameters OpenRefusal) (p : Parameters) → with_width good r ≡ Ok p → r ≡ Ok p
width_ok good (Err refusal) p told = absurd (cc)
width_ok true (Ok q) p told = told
width_ok false (Ok q) p told = absurd (cc)

sound_ok : (coding : Coding) (codec : Codec) (channels rate width : ℕ) (p : Parameters) → sound_of coding codec channels rate width ≡ Ok p → is_sphere_codec codec ≡ true → AreParams p × (is_sphere_codec p.codec ≡ true)
sound_ok coding codec channels rate width p told fits = elim (cases_Bool (is_other coding)) [
  | inl is ↦ absurd (let e = rw is at told in cc)
  | inr known ↦
      let made : new_params channels rate codec ≡ Ok p = width_ok _ (new_params channels rate codec) p (rw known at told) in
      let parts = unless_ok (params_refusal channels rate codec) (record { channels = channels; rate = rate; codec = codec }) p made in
      (rw (sym parts.1) (params_good channels rate codec parts.0), rw (sym parts.1) fits)
]

three_ok : (g : Heading) (x y z : Option Stated) (p : Parameters) → params_with g x y z ≡ Ok p → AreParams p × (is_sphere_codec p.codec ≡ true)
three_ok g None y z p told = absurd (cc)
three_ok g (Some x) None z p told = absurd (cc)
three_ok g (Some x) (Some y) None p told = absurd (cc)
three_ok g (Some x) (Some y) (Some z) p told = sound_ok g.coding (codec_of g.coding g.order) x.value y.value z.value p told (codec_fits g.coding g.order)

pub sound_good : (g : Heading) (p : Parameters) → params_of g ≡ Ok p → AreParams p × (is_sphere_codec p.codec ≡ true)
unfolding params_of
sound_good g p told = three_ok g g.channels g.rate g.width p told
