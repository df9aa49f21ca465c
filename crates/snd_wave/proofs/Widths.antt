-- How many bytes the values of fields have.
use Rattle.std.proofs.Common.{◌≡◌, ◌⊎◌, ℕ, ◌%◌, ◌≤◌, Bool, true, false, ◌||◌, ◌&&◌, List, ◌++◌, Option, None, Some, length, refl, ◌∙◌, sym, subst, inl, inr, ⊎_elim, arith, length-append}
use Rattle.std.proofs.lemmas.Bool.{eq-eqb, eqb-true, ne_eqb}
use Rattle.std.proofs.lemmas.List.{length-replicate}
use Rattle.std.specs.Prelude.{◌==◌, codes, is_none, not}
use Rattle.snd_fields.proofs.Numbers.{length-bytes_of}
use Rattle.snd_fields.specs.Field.{bytes_of}
use Rattle.snd_fields.specs.declared.field.Order.TheVariants.{Little}
use Rattle.snd_layout.specs.Blocks.{is_adpcm}
use Rattle.snd_layout.specs.Container.{FitsField, FitsFields}
use Rattle.snd_layout.specs.Params.{data_bytes}
use Rattle.snd_layout.specs.Shape.{KeepsRule, Shape, has_size, is_inner_size, is_outer_size, is_side_size}
use Rattle.snd_layout.specs.declared.field.Field.{Field}
use Rattle.snd_layout.specs.declared.kind.Kind.{Kind}
use Rattle.snd_layout.specs.declared.kind.Kind.TheVariants.{Wave}
use Rattle.snd_wave.specs.Container.{wave as wave_file}
use Rattle.snd_wave.specs.Values.{closing, count_bytes, inner_value, outer_value, riff_size, side_value}

four_or_twelve : (adpcm four twelve : Bool) → (four || (adpcm && twelve)) ≡ true → (four ≡ true) ⊎ (twelve ≡ true)
four_or_twelve adpcm true twelve is = inl refl
four_or_twelve true false true is = inr refl
four_or_twelve true false false is = absurd cc
four_or_twelve false false twelve is = absurd cc

module _ (h : Shape) (n : ℕ) (wave : h.kind ≡ Wave) (rule : KeepsRule h) where
  inner_size : (h.inner.size ≡ 4) ⊎ (h.inner.size ≡ 12)
  inner_size =
      let size : is_inner_size Wave h.params.codec h.inner.size ≡ true = subst (λ (k : Kind). is_inner_size k h.params.codec h.inner.size ≡ true) wave rule.inner_size in
      ⊎_elim (λ four. inl (eqb-true h.inner.size 4 four)) (λ twelve. inr (eqb-true h.inner.size 12 twelve)) (four_or_twelve (is_adpcm h.params.codec) (h.inner.size == 4) (h.inner.size == 12) size)

  inner_width : length (inner_value h n) ≡ h.inner.size
  unfolding inner_value
  inner_width = elim inner_size [
    | inl four ↦ let other : (h.inner.size == 12) ≡ false = ne_eqb h.inner.size 12 (λ twelve. omega (arith, four, twelve)) in rw other (length-bytes_of Little 4 (data_bytes h.params n) ∙ sym four)
    | inr twelve ↦ let joined : (h.inner.size == 12) ≡ true = eq-eqb h.inner.size 12 twelve in rw joined (
        length-append (bytes_of Little 4 n) (codes "data" ++ bytes_of Little 4 (data_bytes h.params n))
        ∙ omega (arith, twelve, length-append (codes "data") (bytes_of Little 4 (data_bytes h.params n)), length-bytes_of Little 4 n, length-bytes_of Little 4 (data_bytes h.params n)))
  ]

  few_inner : h.inner.size ≤ 32
  few_inner = ⊎_elim (λ four. omega (arith, four)) (λ twelve. omega (arith, twelve)) inner_size

fits_four : (field : Option Field) (v : List ℕ) → has_size field 4 ≡ true → length v ≤ 4 → FitsField field v
fits_four None v is few = tt
fits_four (Some f) v is few = omega (arith, eqb-true f.size 4 is, few)

pub outer_width : (h : Shape) (n : ℕ) → length (outer_value h n) ≡ 4
unfolding outer_value
outer_width h n = length-bytes_of Little 4 (riff_size h.start (data_bytes h.params n))

outer_fits : (h : Shape) (n : ℕ) → h.kind ≡ Wave → KeepsRule h → FitsField h.outer (outer_value h n)
outer_fits h n wave rule =
    let size : is_outer_size Wave h.outer ≡ true = subst (λ (k : Kind). is_outer_size k h.outer ≡ true) wave rule.outer_size in
    fits_four h.outer (outer_value h n) size (omega (arith, outer_width h n))

few_count : (side : Option Field) (n : ℕ) → length (count_bytes side n) ≤ 4
few_count None n = omega arith
few_count (Some f) n = omega (arith, length-bytes_of Little 4 n)

side_width : (h : Shape) (n : ℕ) → length (side_value h n) ≤ 4
unfolding side_value
side_width h n = few_count h.side n

side_size : (adpcm : Bool) (side : Option Field) (v : List ℕ) → (is_none side || (not adpcm && has_size side 4)) ≡ true → length v ≤ 4 → FitsField side v
side_size adpcm None v is few = tt
side_size true (Some f) v is few = absurd cc
side_size false (Some f) v is few = omega (arith, eqb-true f.size 4 is, few)

side_fits : (h : Shape) (n : ℕ) → h.kind ≡ Wave → KeepsRule h → FitsField h.side (side_value h n)
side_fits h n wave rule =
    let size : is_side_size Wave h.params.codec h.side ≡ true = subst (λ (k : Kind). is_side_size k h.params.codec h.side ≡ true) wave rule.side_size in
    side_size (is_adpcm h.params.codec) h.side (side_value h n) size (side_width h n)

pub closing_width : (h : Shape) (n : ℕ) → length (closing h n) ≤ 1
unfolding closing
closing_width h n = omega (arith, length-replicate {A = ℕ} (data_bytes h.params n % 2) 0)

pub values_fit : (h : Shape) (n : ℕ) → h.kind ≡ Wave → KeepsRule h → FitsFields wave_file h n
values_fit h n wave rule = record {
  inner = omega (arith, inner_width h n wave rule);
  few_inner = omega (arith, inner_width h n wave rule, few_inner h n wave rule);
  outer = outer_fits h n wave rule;
  few_outer = omega (arith, outer_width h n);
  side = side_fits h n wave rule;
  few_side = omega (arith, side_width h n);
}
