-- The values of fields, as they are put together.
use Rattle.std.proofs.Common.{◌≡◌, ℕ, ◌%◌, List, [], ◌∷◌, ◌++◌, sym, ap, ◌∙◌, arith}
use Rattle.std.specs.Prelude.{replicate}
use Rattle.snd_fields.specs.Field.{bytes_of}
use Rattle.snd_fields.specs.declared.field.Order.TheVariants.{Big}
use Rattle.snd_layout.specs.Params.{data_bytes}
use Rattle.snd_layout.specs.Shape.{Shape}
use Rattle.snd_svx.specs.Values.{closing, form_size, inner_value, outer_value, side_value}

pub inner_is : (h : Shape) (n bytes : ℕ) (v : List ℕ) → v ≡ bytes_of Big 4 bytes → bytes ≡ data_bytes h.params n → v ≡ inner_value h n
unfolding inner_value
inner_is h n bytes v put counted = put ∙ ap (bytes_of Big 4) counted

pub outer_is : (h : Shape) (n start bytes size : ℕ) (v : List ℕ) → h.start ≡ start → bytes ≡ data_bytes h.params n → size ≡ form_size start bytes → v ≡ bytes_of Big 4 size → v ≡ outer_value h n
unfolding outer_value
outer_is h n start bytes size v at counted is put = put ∙ ap (bytes_of Big 4) (is ∙ ap (λ k. form_size k bytes) (sym at) ∙ ap (form_size h.start) counted)

pub side_is : (h : Shape) (n : ℕ) (v : List ℕ) → v ≡ bytes_of Big 4 n → v ≡ side_value h n
unfolding side_value
side_is h n v put = put

pub closed_odd : (h : Shape) (n bytes : ℕ) (first v : List ℕ) → bytes ≡ data_bytes h.params n → bytes % 2 ≡ 1 → first ≡ [] → v ≡ first ++ 0 ∷ [] → v ≡ closing h n
unfolding closing
closed_odd h n bytes first v counted odd none put = put ∙ ap (λ (l : List ℕ). l ++ 0 ∷ []) none ∙ ap (λ k. replicate k 0) (sym odd ∙ ap (λ k. k % 2) counted)

pub closed_even : (h : Shape) (n bytes : ℕ) (v : List ℕ) → bytes ≡ data_bytes h.params n → (bytes % 2 ≡ 1 → ⊥) → v ≡ [] → v ≡ closing h n
unfolding closing
closed_even h n bytes v counted even none =
    let zero : bytes % 2 ≡ 0 = omega (arith, even) in
    none ∙ ap (λ k. replicate k 0) (sym zero ∙ ap (λ k. k % 2) counted)
