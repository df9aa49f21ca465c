-- The sizes of data.
use Rattle.std.proofs.Common.{◌≡◌, ℕ, ◌+◌, ◌-◌, ◌*◌, ◌/◌, ◌%◌, ◌<◌, ◌≤◌, true, false, None, refl, sym, ap, ◌∙◌, inl, inr, arith}
use Rattle.std.proofs.Math.Nat.{mod-lt, mul-le-mul_left}
use Rattle.std.proofs.lemmas.Bool.{and_parts, cases_Bool, cases_lt}
use Rattle.std.proofs.lemmas.Nat.{div-add-mod', div-mul-add}
use Rattle.std.specs.Prelude.{◌&&◌, nat_le}
use Rattle.snd_layout.proofs.Codecs.{fixed_align, fixed_bytes, whole_blocks}
use Rattle.snd_layout.specs.Blocks.{block_align, is_adpcm}
use Rattle.snd_layout.specs.Fit.{fit_refusal, is_voc_codec}
use Rattle.snd_layout.specs.Params.{AreParams, Parameters, data_bytes}
use Rattle.snd_layout.specs.declared.codec.Codec.{Codec}
use Rattle.snd_layout.specs.declared.codec.Codec.TheVariants.{Ima, Ms}
use Rattle.snd_layout.specs.declared.kind.Kind.TheVariants.{Voc}

voc_fixed : (codec : Codec) → is_voc_codec codec ≡ true → is_adpcm codec ≡ false
voc_fixed (Ima align per_block) is = absurd (cc)
voc_fixed (Ms align per_block) is = absurd (cc)
voc_fixed _ is = refl

pub held_codec : (p : Parameters) → fit_refusal Voc p ≡ None → (nat_le p.channels 2 ≡ true) × (is_voc_codec p.codec ≡ true)
held_codec p fits = elim (cases_Bool (nat_le p.channels 2 && is_voc_codec p.codec)) [
  | inl is ↦ and_parts (nat_le p.channels 2) (is_voc_codec p.codec) is
  | inr other ↦ absurd (let h = rw other at fits in cc)
]

pub plain_bytes : (p : Parameters) (n : ℕ) → fit_refusal Voc p ≡ None → data_bytes p n ≡ n * block_align p.channels p.codec
plain_bytes p n fits = fixed_bytes p n (voc_fixed p.codec (held_codec p fits).1)

pub some_align : (p : Parameters) → AreParams p → fit_refusal Voc p ≡ None → 1 ≤ block_align p.channels p.codec
some_align p good fits = fixed_align p.channels p.codec (voc_fixed p.codec (held_codec p fits).1) good.some_channel

-- the whole blocks of bytes, and one more, are more than the bytes
pub blocks_rest : (n a : ℕ) → 1 ≤ a → n < n / a * a + a
blocks_rest n a some = omega (arith, div-add-mod' n a, mod-lt n some)

-- a quotient by what its multiples leave
pub quotient_is : (n r a : ℕ) → 1 ≤ a → n * a ≤ r → r < (n + 1) * a → r / a ≡ n
quotient_is n r a some least most = elim (cases_lt (r / a) n) [
  | inl less ↦ absurd (
      let more : r / a + 1 ≤ n = omega (arith, less) in
      let left : a * (r / a + 1) ≡ r / a * a + a = omega arith in
      let right : a * n ≡ n * a = omega arith in
      omega (arith, mul-le-mul_left a more, blocks_rest r a some, least, left, right))
  | inr le ↦ elim (cases_lt n (r / a)) [
    | inl greater ↦ absurd (
        let more : n + 1 ≤ r / a = omega (arith, greater) in
        let left : a * (n + 1) ≡ (n + 1) * a = omega arith in
        let right : a * (r / a) ≡ r / a * a = omega arith in
        omega (arith, mul-le-mul_left a more, whole_blocks r a, most, left, right))
    | inr ge ↦ omega (arith, le, ge)
  ]
]

-- so many bytes that they hold the same blocks hold as many
pub same_blocks : (n k a : ℕ) → 1 ≤ a → n / a * a ≤ k → k ≤ n → k / a ≡ n / a
same_blocks n k a some from to =
    let rest : n % a < a = mod-lt n some in
    let sum : n / a * a + (k - n / a * a) ≡ k = omega (arith, from) in
    ap (λ m. m / a) (sym sum) ∙ div-mul-add (n / a) a (k - n / a * a) (omega (arith, div-add-mod' n a, rest, from, to))
