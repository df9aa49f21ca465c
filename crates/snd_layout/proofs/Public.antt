-- Laws of kinds, which crates above use.
use Rattle.std.proofs.Common.{◌≡◌, ◌⊎◌, ◌∙◌, ap, refl, inl, inr, ℕ, ◌≤◌, true, false, List, None, length, lit≤}
use Rattle.std.proofs.lemmas.Bool.{and_parts, cases_Bool, leb-true, or_cases, or_parts}
use Rattle.std.proofs.lemmas.Slice.Eq.{bytes_eq-Decides}
use Rattle.std.specs.Str.{bytes_eq}
use Rattle.std.specs.Prelude.{codes, nat_le}
use Rattle.snd_fields.specs.declared.field.Order.TheVariants.{Little}
use Rattle.snd_layout.specs.Blocks.{is_adpcm}
use Rattle.snd_layout.specs.Fit.{fit_refusal, is_kinds_rate, is_pair}
use Rattle.snd_layout.specs.Kinds.{holds_meta, holds_pieces, is_meta_id, is_own_id, is_reserved, is_wave, is_wave_own, order_of}
use Rattle.snd_layout.specs.Names.{kind_name}
use Rattle.snd_layout.specs.Params.{Parameters}
use Rattle.snd_layout.specs.declared.codec.Codec.{Codec}
use Rattle.snd_layout.specs.declared.codec.Codec.TheVariants.{Ima, Ms}
use Rattle.snd_layout.specs.declared.kind.Kind.{Kind}
use Rattle.snd_layout.specs.declared.kind.Kind.TheVariants.{Wave, Rf64, W64, Au, Dns, Voc, Svx, Sphere}

-- ---- identifiers

-- what is not reserved is none of the file's own chunks, and neither is one with a call of its own
pub not_reserved : (kind : Kind) (id : List ℕ) → is_reserved kind id ≡ false → is_own_id kind id ≡ false
not_reserved Wave id free = (or_parts _ _ (or_parts _ _ (or_parts _ _ (or_parts _ _ free).0).0).0).0
not_reserved Rf64 id free = (or_parts _ _ (or_parts _ _ (or_parts _ _ (or_parts _ _ free).0).0).0).0
not_reserved W64 id free = refl
not_reserved Au id free = refl
not_reserved Dns id free = refl
not_reserved Voc id free = refl
not_reserved Svx id free = (or_parts _ _ free).0
not_reserved Sphere id free = refl

none_own : (kind : Kind) → (is_own_id kind (codes "LIST") ≡ false) × (is_own_id kind (codes "bext") ≡ false) × (is_own_id kind (codes "cue ") ≡ false)
none_own Wave = (refl, refl, refl)
none_own Rf64 = (refl, refl, refl)
none_own W64 = (refl, refl, refl)
none_own Au = (refl, refl, refl)
none_own Dns = (refl, refl, refl)
none_own Voc = (refl, refl, refl)
none_own Svx = (refl, refl, refl)
none_own Sphere = (refl, refl, refl)

same_bytes : (xs ys : List ℕ) → bytes_eq xs ys ≡ true → xs ≡ ys
same_bytes xs ys is = (bytes_eq-Decides xs ys).0 is

pub meta_is_other : (kind : Kind) (id : List ℕ) → is_meta_id id ≡ true → is_own_id kind id ≡ false
meta_is_other kind id is = elim (or_cases _ _ is) [
  | inl first ↦ elim (or_cases _ _ first) [
    | inl list ↦ ap (is_own_id kind) (same_bytes id (codes "LIST") list) ∙ (none_own kind).0
    | inr bext ↦ ap (is_own_id kind) (same_bytes id (codes "bext") bext) ∙ (none_own kind).1
  ]
  | inr cue ↦ ap (is_own_id kind) (same_bytes id (codes "cue ") cue) ∙ (none_own kind).2
]

-- the kinds with texts and fields are given chunks, which are those of RIFF
pub meta_holds : (kind : Kind) → holds_meta kind ≡ true → holds_pieces kind ≡ true
meta_holds Wave holds = holds
meta_holds Rf64 holds = holds
meta_holds W64 holds = holds
meta_holds Au holds = holds
meta_holds Dns holds = holds
meta_holds Voc holds = holds
meta_holds Svx holds = absurd (cc)
meta_holds Sphere holds = holds

pub meta_own : (kind : Kind) (id : List ℕ) → holds_meta kind ≡ true → is_own_id kind id ≡ is_wave_own id
meta_own Wave id holds = refl
meta_own Rf64 id holds = refl
meta_own W64 id holds = absurd (cc)
meta_own Au id holds = absurd (cc)
meta_own Dns id holds = absurd (cc)
meta_own Voc id holds = absurd (cc)
meta_own Svx id holds = absurd (cc)
meta_own Sphere id holds = absurd (cc)

pub meta_order : (kind : Kind) → holds_meta kind ≡ true → order_of kind ≡ Little
meta_order Wave holds = refl
meta_order Rf64 holds = refl
meta_order W64 holds = absurd (cc)
meta_order Au holds = absurd (cc)
meta_order Dns holds = absurd (cc)
meta_order Voc holds = absurd (cc)
meta_order Svx holds = absurd (cc)
meta_order Sphere holds = absurd (cc)

-- ---- ADPCM

pub wave_only : (kind : Kind) → is_wave kind ≡ true → kind ≡ Wave
wave_only Wave is = refl
wave_only _ is = absurd (cc)

-- files of ADPCM have at most two channels
ima_channels : (kind : Kind) (channels align per_block : ℕ) → is_pair kind channels (Ima align per_block) ≡ true → channels ≤ 2
ima_channels Wave channels align per_block held = leb-true channels 2 held
ima_channels W64 channels align per_block held = leb-true channels 2 held
ima_channels Rf64 channels align per_block held = absurd (cc)
ima_channels Au channels align per_block held = absurd (cc)
ima_channels Dns channels align per_block held = absurd (cc)
ima_channels Voc channels align per_block held = leb-true channels 2 (and_parts (nat_le channels 2) false held).0
ima_channels Svx channels align per_block held = absurd (let h = (and_parts (nat_le channels 1) false held).1 in cc)
ima_channels Sphere channels align per_block held = absurd (cc)

ms_channels : (kind : Kind) (channels align per_block : ℕ) → is_pair kind channels (Ms align per_block) ≡ true → channels ≤ 2
ms_channels Wave channels align per_block held = leb-true channels 2 held
ms_channels W64 channels align per_block held = leb-true channels 2 held
ms_channels Rf64 channels align per_block held = absurd (cc)
ms_channels Au channels align per_block held = absurd (cc)
ms_channels Dns channels align per_block held = absurd (cc)
ms_channels Voc channels align per_block held = leb-true channels 2 (and_parts (nat_le channels 2) false held).0
ms_channels Svx channels align per_block held = absurd (let h = (and_parts (nat_le channels 1) false held).1 in cc)
ms_channels Sphere channels align per_block held = absurd (cc)

pub few_channels : (kind : Kind) (channels : ℕ) (codec : Codec) → is_adpcm codec ≡ true → is_pair kind channels codec ≡ true → channels ≤ 2
few_channels kind channels (Ima align per_block) is held = ima_channels kind channels align per_block held
few_channels kind channels (Ms align per_block) is held = ms_channels kind channels align per_block held
few_channels kind channels _ is held = absurd (cc)

-- two kinds hold blocks
pub blocks_held : (kind : Kind) (channels : ℕ) (codec : Codec) → is_adpcm codec ≡ true → is_pair kind channels codec ≡ true → (kind ≡ Wave) ⊎ (kind ≡ W64)
blocks_held Wave channels codec is held = inl refl
blocks_held W64 channels codec is held = inr refl
blocks_held Voc channels (Ima align per_block) is held = absurd (let h = (and_parts (nat_le channels 2) false held).1 in cc)
blocks_held Voc channels (Ms align per_block) is held = absurd (let h = (and_parts (nat_le channels 2) false held).1 in cc)
blocks_held Svx channels (Ima align per_block) is held = absurd (let h = (and_parts (nat_le channels 1) false held).1 in cc)
blocks_held Svx channels (Ms align per_block) is held = absurd (let h = (and_parts (nat_le channels 1) false held).1 in cc)
blocks_held _ channels (Ima align per_block) is held = absurd (cc)
blocks_held _ channels (Ms align per_block) is held = absurd (cc)
blocks_held _ channels _ is held = absurd (cc)

-- what a kind holds it holds by its codec
pub is_held : (kind : Kind) (p : Parameters) → fit_refusal kind p ≡ None → is_pair kind p.channels p.codec ≡ true
is_held kind p fits = elim (cases_Bool (is_pair kind p.channels p.codec)) [
  | inl held ↦ held
  | inr other ↦ elim (cases_Bool (is_kinds_rate kind p.rate)) [
    | inl plays ↦ absurd (let h = rw (plays, other) at fits in cc)
    | inr not_played ↦ absurd (let h = rw not_played at fits in cc)
  ]
]

-- ---- names

pub short_kind : (kind : Kind) → length (kind_name kind) ≤ 16
short_kind Wave = lit≤ tt
short_kind Rf64 = lit≤ tt
short_kind W64 = lit≤ tt
short_kind Au = lit≤ tt
short_kind Dns = lit≤ tt
short_kind Voc = lit≤ tt
short_kind Svx = lit≤ tt
short_kind Sphere = lit≤ tt
