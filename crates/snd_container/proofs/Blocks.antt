-- Blocks of whole frames, for parameters that any kind holds.
use Rattle.std.proofs.Common.{◌≡◌, ℕ, ◌+◌, ◌-◌, ◌/◌, ◌≤◌, Bool, true, false, None, refl, inl, inr, arith}
use Rattle.std.specs.Int.{div_ceil}
use Rattle.std.specs.Prelude.{nat_le}
use Rattle.std.proofs.lemmas.Bool.{and_parts, cases_Bool}
use Rattle.snd_layout.specs.declared.codec.Codec.{Codec}
use Rattle.snd_layout.specs.declared.codec.Codec.TheVariants.{Ima, Ms}
use Rattle.snd_layout.specs.declared.kind.Kind.{Kind}
use Rattle.snd_layout.specs.declared.kind.Kind.TheVariants.{Wave, Rf64, W64, Au, Dns, Voc, Svx, Sphere}
use Rattle.snd_layout.specs.Blocks.{block_frames}
use Rattle.snd_layout.specs.Fit.{fit_refusal, is_au_codec, is_dns_codec, is_kinds_rate, is_pair, is_rf64_codec, is_sphere_codec, is_svx_codec, is_voc_codec}
use Rattle.snd_layout.specs.Params.{AreParams, Parameters}
use Rattle.snd_layout.proofs.Frames as wave

-- a quotient that is rounded up
pub rounded_up : (n d : ℕ) → 1 ≤ d → div_ceil n d ≡ (n + d - 1) / d
rounded_up n d some = grind arith

-- a kind without ADPCM has one frame in a block
fixed : (test : Codec → Bool) → ((a b : ℕ) → test (Ima a b) ≡ false) → ((a b : ℕ) → test (Ms a b) ≡ false) → (codec : Codec) → test codec ≡ true → 1 ≤ block_frames codec
fixed test ima ms (Ima a b) is = absurd (let no = ima a b in cc)
fixed test ima ms (Ms a b) is = absurd (let no = ms a b in cc)
fixed test ima ms _ is = omega arith

pair_of : (kind : Kind) (p : Parameters) → fit_refusal kind p ≡ None → is_pair kind p.channels p.codec ≡ true
pair_of kind p fits = elim (cases_Bool (is_pair kind p.channels p.codec)) [
  | inl is ↦ is
  | inr other ↦ elim (cases_Bool (is_kinds_rate kind p.rate)) [
    | inl rate ↦ absurd (let h = rw (rate, other) at fits in cc)
    | inr rate ↦ absurd (let h = rw rate at fits in cc)
  ]
]

pub blocks_have_frames : (kind : Kind) (p : Parameters) → AreParams p → fit_refusal kind p ≡ None → 1 ≤ block_frames p.codec
blocks_have_frames Wave p good fits = wave.blocks_have_frames p good fits
blocks_have_frames W64 p good fits = wave.blocks_have_frames p good fits
blocks_have_frames Rf64 p good fits = fixed is_rf64_codec (λ a b. refl) (λ a b. refl) p.codec (pair_of Rf64 p fits)
blocks_have_frames Au p good fits = fixed is_au_codec (λ a b. refl) (λ a b. refl) p.codec (pair_of Au p fits)
blocks_have_frames Dns p good fits = fixed is_dns_codec (λ a b. refl) (λ a b. refl) p.codec (pair_of Dns p fits)
blocks_have_frames Voc p good fits = fixed is_voc_codec (λ a b. refl) (λ a b. refl) p.codec (and_parts (nat_le p.channels 2) (is_voc_codec p.codec) (pair_of Voc p fits)).1
blocks_have_frames Svx p good fits = fixed is_svx_codec (λ a b. refl) (λ a b. refl) p.codec (and_parts (nat_le p.channels 1) (is_svx_codec p.codec) (pair_of Svx p fits)).1
blocks_have_frames Sphere p good fits = fixed is_sphere_codec (λ a b. refl) (λ a b. refl) p.codec (pair_of Sphere p fits)
