-- How many frames the head of a file has room for.
use Rattle.std.proofs.Common.{◌≡◌, ◌∙◌, ap, sym, subst, inl, inr, ℕ, ◌+◌, ◌*◌, ◌/◌, ◌^◌, ◌<◌, ◌≤◌, false, true, Some, max, refl, arith}
use Rattle.std.specs.Prelude.{◌⊎◌, is_none}
use Rattle.std.proofs.Math.Nat.{mul-le-mul_left}
use Rattle.std.proofs.lemmas.Bool.{cases_lt}
use Rattle.snd_layout.specs.Blocks.{is_adpcm}
use Rattle.snd_layout.specs.Params.{Parameters, data_bytes}
use Rattle.snd_layout.specs.Shape.{KeepsRule, Shape, end, room}
use Rattle.snd_layout.specs.declared.codec.Codec.{Codec}
use Rattle.snd_layout.specs.declared.codec.Codec.TheVariants.{Ima, Ms}
use Rattle.snd_container.specs.Sound.{fixed_of}
use Rattle.snd_layout.specs.Container.{HasRoomFor}
use Rattle.snd_container.specs.Fixed.{byte_count}
use Rattle.snd_container.specs.declared.fixed.Fixed.{Fixed}
use Rattle.snd_edits.proofs.SoundFrames.{linear_bytes}

div_le : (n r a : ℕ) → 0 < a → n ≤ r / a → a * n ≤ r
div_le n r a some few = omega (arith, mul-le-mul_left a few)

le_div : (n r a : ℕ) → 0 < a → a * n ≤ r → n ≤ r / a
le_div n r a some few = elim (cases_lt (r / a) n) [
  | inl lt ↦ absurd (let more : r / a + 1 ≤ n = omega (arith, lt) in omega (arith, mul-le-mul_left a more))
  | inr le ↦ le
]

pub room_holds : (p : Parameters) (form : Fixed) (n r w channels : ℕ) → fixed_of p.codec ≡ Some form → byte_count form ≡ w → p.channels ≡ channels → 0 < w * channels
    → (n ≤ r / (w * channels) → data_bytes p n ≤ r) × (data_bytes p n ≤ r → n ≤ r / (w * channels))
room_holds p form n r w channels is width count some =
    let bytes : data_bytes p n ≡ w * channels * n =
    linear_bytes p form n is ∙ ap (λ (m : ℕ). m * (p.channels * n)) width ∙ ap (λ (m : ℕ). w * (m * n)) count ∙ (let e : w * (channels * n) ≡ w * channels * n = omega arith in e) in
    (λ few. omega (arith, bytes, div_le n r (w * channels) some few), λ few. le_div n r (w * channels) some (omega (arith, bytes, few)))

-- linear samples stand in no blocks
pub not_adpcm : (codec : Codec) → is_none (fixed_of codec) ≡ false → is_adpcm codec ≡ false
not_adpcm (Ima align per_block) linear = absurd (cc)
not_adpcm (Ms align per_block) linear = absurd (cc)
not_adpcm _ linear = refl

-- as many frames as there are, or as many as the head has room for
pub may_count : (h : Shape) (n : ℕ) → KeepsRule h → is_none (fixed_of h.params.codec) ≡ false → h.unknown_length ≡ false → h.start + room h + 8 ≤ 2 ^ 63
    → (n ≡ h.frames) ⊎ (data_bytes h.params n ≤ room h) → HasRoomFor h n × (end h n + 8 ≤ 2 ^ 63)
may_count h n rule linear known roomy (inl same) =
    let ends : end h n + 8 ≤ 2 ^ 63 = subst (λ (m : ℕ). end h m + 8 ≤ 2 ^ 63) (sym same) rule.data_end in
    let few : data_bytes h.params n ≤ max (room h) h.declared = subst (λ (m : ℕ). data_bytes h.params m ≤ max (room h) h.declared) (sym same) (rule.in_room known) in
    (record { in_room = few; on_disk = omega (arith, ends); counted = λ wave blocks. absurd (let no = not_adpcm h.params.codec linear in cc) }, ends)
may_count h n rule linear known roomy (inr few) =
    let ends : end h n + 8 ≤ 2 ^ 63 = omega (arith, few, roomy) in
    (record { in_room = omega (arith, few); on_disk = omega (arith, ends); counted = λ wave blocks. absurd (let no = not_adpcm h.params.codec linear in cc) }, ends)

-- of samples that have bytes of their own no count is read
pub room_by : (h : Shape) (n : ℕ) → is_none (fixed_of h.params.codec) ≡ false → data_bytes h.params n ≤ max (room h) h.declared → end h n + 8 ≤ 2 ^ 63 → HasRoomFor h n
room_by h n linear few ends = record { in_room = few; on_disk = omega (arith, ends); counted = λ wave blocks. absurd (let no = not_adpcm h.params.codec linear in cc) }

pub not_joined : (h : Shape) → is_none (fixed_of h.params.codec) ≡ false → is_adpcm h.params.codec ≡ true → 12 ≤ h.inner.size
not_joined h linear blocks = absurd (let no = not_adpcm h.params.codec linear in cc)
