-- The size of the whole of a file that ends at a place.
use Rattle.std.proofs.Common.{◌≡◌, ◌∙◌, ap, subst, ℕ, ◌-◌, true, Option, None, Some, List, length, arith}
use Rattle.std.proofs.lemmas.Bool.{eqb-true}
use Rattle.snd_layout.specs.Kinds.{order_of}
use Rattle.snd_chunks.specs.Late.{outer_to, size_to}
use Rattle.snd_fields.specs.Field.{bytes_of}
use Rattle.snd_fields.specs.declared.field.Order.{Order}
use Rattle.snd_fields.specs.declared.field.Order.TheVariants.{Little, Big}
use Rattle.snd_layout.specs.Container.{FitsField}
use Rattle.snd_layout.specs.Shape.{KeepsRule, Shape, has_size, is_outer_size}
use Rattle.snd_layout.specs.declared.field.Field.{Field}
use Rattle.snd_layout.specs.declared.kind.Kind.{Kind}
use Rattle.snd_layout.specs.declared.kind.Kind.TheVariants.{Wave, Rf64, Svx}

sized : (k : ℕ) (field : Option Field) (order : Order) (end : ℕ) → has_size field k ≡ true → size_to field order end ≡ bytes_of order k (end - 8)
sized k None order end is = absurd (cc)
sized k (Some field) order end is = ap (λ (n : ℕ). bytes_of order n (end - 8)) (eqb-true field.size k is)

fills : (k : ℕ) (field : Option Field) (v : List ℕ) → has_size field k ≡ true → length v ≡ k → FitsField field v
fills k None v is long = tt
fills k (Some field) v is long = omega (arith, eqb-true field.size k is, long)

module _ (h : Shape) (rule : KeepsRule h) where
  size_of : (kind : Kind) → h.kind ≡ kind → is_outer_size kind h.outer ≡ true
  size_of kind is = subst (λ (k : Kind). is_outer_size k h.outer ≡ true) is rule.outer_size

  pub to_wave : (end : ℕ) → h.kind ≡ Wave → outer_to h end ≡ bytes_of Little 4 (end - 8)
  to_wave end is = ap (λ (k : Kind). size_to h.outer (order_of k) end) is ∙ sized 4 h.outer Little end (size_of Wave is)

  pub to_rf64 : (end : ℕ) → h.kind ≡ Rf64 → outer_to h end ≡ bytes_of Little 8 (end - 8)
  to_rf64 end is = ap (λ (k : Kind). size_to h.outer (order_of k) end) is ∙ sized 8 h.outer Little end (size_of Rf64 is)

  pub to_svx : (end : ℕ) → h.kind ≡ Svx → outer_to h end ≡ bytes_of Big 4 (end - 8)
  to_svx end is = ap (λ (k : Kind). size_to h.outer (order_of k) end) is ∙ sized 4 h.outer Big end (size_of Svx is)

  pub fits_wave : (v : List ℕ) → h.kind ≡ Wave → length v ≡ 4 → FitsField h.outer v
  fits_wave v is long = fills 4 h.outer v (size_of Wave is) long

  pub fits_rf64 : (v : List ℕ) → h.kind ≡ Rf64 → length v ≡ 8 → FitsField h.outer v
  fits_rf64 v is long = fills 8 h.outer v (size_of Rf64 is) long

  pub fits_svx : (v : List ℕ) → h.kind ≡ Svx → length v ≡ 4 → FitsField h.outer v
  fits_svx v is long = fills 4 h.outer v (size_of Svx is) long
