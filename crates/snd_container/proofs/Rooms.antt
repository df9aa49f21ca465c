-- The room of the heads of each kind.
use Rattle.std.proofs.Common.{◌≡◌, ℕ, ◌-◌, ◌*◌, ◌<◌, None, refl, sym, ap, ◌∙◌, subst, arith}
use Rattle.snd_layout.specs.Blocks.{block_align}
use Rattle.snd_layout.specs.Fit.{fit_refusal}
use Rattle.snd_layout.specs.Params.{Parameters}
use Rattle.snd_layout.specs.declared.codec.Codec.{Codec}
use Rattle.snd_layout.specs.declared.kind.Kind.{Kind}
use Rattle.snd_layout.specs.declared.kind.Kind.TheVariants.{Wave, Rf64, W64, Au, Dns, Voc, Svx, Sphere}
use Rattle.snd_rf64.specs.Written.{made_shape as rf64_shape}
use Rattle.snd_sphere.specs.Written.{made_shape as sphere_shape}
use Rattle.snd_svx.specs.Written.{made_shape as svx_shape}
use Rattle.snd_voc.specs.Written.{made_shape as voc_shape}
use Rattle.snd_w64.specs.Written.{made_shape as w64_shape, start_of}
use Rattle.snd_wave.specs.Written.{reserved_shape as wave_shape}
use Rattle.snd_container.specs.Room.{HasRoom}
use Rattle.snd_rf64.specs.Start.{BeginsWith as BeginsRf64}
use Rattle.snd_svx.specs.Start.{BeginsWith as BeginsSvx}
use Rattle.snd_wave.specs.Start.{BeginsWith as BeginsWave}

-- a kind that is known
pub as_known : (kind known : Kind) (p : Parameters) (bytes n : ℕ) → kind ≡ known → HasRoom known p bytes n → HasRoom kind p bytes n
as_known kind known p bytes n is room = subst (λ (k : Kind). HasRoom k p bytes n) (sym is) room

module _ (p : Parameters) (bytes : ℕ) where
  pub wave_room : (codec : Codec) (start : ℕ) → p.codec ≡ codec → BeginsWave codec bytes start → HasRoom Wave p bytes (4294967302 - start)
  unfolding wave_shape
  wave_room codec start same begins pieces takes = ap (λ (k : ℕ). 4294967302 - k) (begins p pieces same takes)

  pub rf64_room : (codec : Codec) (start : ℕ) → fit_refusal Rf64 p ≡ None → p.codec ≡ codec → BeginsRf64 codec bytes start → HasRoom Rf64 p bytes (4611686018427387904 - start)
  unfolding rf64_shape
  rf64_room codec start fits same begins pieces takes = ap (λ (k : ℕ). 4611686018427387904 - k) (begins p pieces fits same takes)

  pub svx_room : (start : ℕ) → BeginsSvx bytes start → HasRoom Svx p bytes (4294967302 - start)
  unfolding svx_shape
  svx_room start begins pieces takes = ap (λ (k : ℕ). 4294967302 - k) (begins p pieces takes)

  pub w64_room : (codec : Codec) (start : ℕ) → p.codec ≡ codec → start ≡ start_of codec → HasRoom W64 p bytes (4611686018427387904 - start)
  unfolding w64_shape
  w64_room codec start same at pieces takes = ap (λ (k : ℕ). 4611686018427387904 - k) (at ∙ ap start_of (sym same))

  pub au_room : HasRoom Au p bytes 4294967294
  au_room pieces takes = refl

  pub dns_room : HasRoom Dns p bytes 4294967294
  dns_room pieces takes = refl

  pub voc_room : HasRoom Voc p bytes 16777203
  unfolding voc_shape
  voc_room pieces takes = refl

  pub sphere_room : (align : ℕ) → align ≡ block_align p.channels p.codec → align < 65536 → HasRoom Sphere p bytes (9999999999 * align)
  unfolding sphere_shape
  sphere_room align is few pieces takes = omega (arith, is, few)
