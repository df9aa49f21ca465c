-- The values of a number of frames have room in the fields of every layout.
use Rattle.std.proofs.Common.{◌≡◌, ◌⊎◌, ap, inl, inr, ℕ, ◌≤◌, [], length}
use Rattle.snd_layout.specs.Container.{FitsField}
use Rattle.snd_layout.specs.Shape.{KeepsRule, Shape}
use Rattle.snd_layout.specs.declared.kind.Kind.{Kind}
use Rattle.snd_layout.specs.declared.kind.Kind.TheVariants.{Au, Dns, Voc, Sphere}
use Rattle.snd_container.proofs.EveryKind.{closes, fit}
use Rattle.snd_container.specs.Kinds.{container_of}
use Rattle.snd_voc.specs.Values.{outer_value as voc_outer, side_value as voc_side}
use Rattle.snd_container.specs.Values.{closing, inner_value, outer_value, side_value}

pub inner_value_fits : (h : Shape) (n : ℕ) → KeepsRule h → length (inner_value h n) ≤ h.inner.size
inner_value_fits h n rule = (fit h n rule).inner

pub few_in_inner : (h : Shape) (n : ℕ) → KeepsRule h → length (inner_value h n) ≤ 32
few_in_inner h n rule = (fit h n rule).few_inner

pub outer_value_fits : (h : Shape) (n : ℕ) → KeepsRule h → FitsField h.outer (outer_value h n)
outer_value_fits h n rule = (fit h n rule).outer

pub few_in_outer : (h : Shape) (n : ℕ) → KeepsRule h → length (outer_value h n) ≤ 8
few_in_outer h n rule = (fit h n rule).few_outer

pub side_value_fits : (h : Shape) (n : ℕ) → KeepsRule h → FitsField h.side (side_value h n)
side_value_fits h n rule = (fit h n rule).side

pub few_in_side : (h : Shape) (n : ℕ) → KeepsRule h → length (side_value h n) ≤ 8
few_in_side h n rule = (fit h n rule).few_side

pub few_in_closing : (h : Shape) (n : ℕ) → length (closing h n) ≤ 7
few_in_closing h n = (closes h.kind h).few n

-- ---- kinds without a size of the whole, and without a count that is not read

abbrev pub IsSingle : Kind → Type 0
IsSingle kind = (kind ≡ Au) ⊎ ((kind ≡ Dns) ⊎ ((kind ≡ Voc) ⊎ (kind ≡ Sphere)))

pub no_outer : (h : Shape) (n : ℕ) → IsSingle h.kind → outer_value h n ≡ []
unfolding voc_outer
no_outer h n (inl is) = ap (λ (k : Kind). (container_of k).outer h n) is
no_outer h n (inr (inl is)) = ap (λ (k : Kind). (container_of k).outer h n) is
no_outer h n (inr (inr (inl is))) = ap (λ (k : Kind). (container_of k).outer h n) is
no_outer h n (inr (inr (inr is))) = ap (λ (k : Kind). (container_of k).outer h n) is

pub no_side : (h : Shape) (n : ℕ) → IsSingle h.kind → side_value h n ≡ []
unfolding voc_side
no_side h n (inl is) = ap (λ (k : Kind). (container_of k).side h n) is
no_side h n (inr (inl is)) = ap (λ (k : Kind). (container_of k).side h n) is
no_side h n (inr (inr (inl is))) = ap (λ (k : Kind). (container_of k).side h n) is
no_side h n (inr (inr (inr is))) = ap (λ (k : Kind). (container_of k).side h n) is
