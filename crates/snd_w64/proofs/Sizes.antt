-- The values of fields, as they are put together.
use Rattle.std.proofs.Common.{◌≡◌, ℕ, ◌+◌, ◌-◌, ◌<◌, ◌^◌, true, false, List, [], ◌++◌, Option, None, Some, replicate, sym, ap, ◌∙◌, append_assoc, arith}
use Rattle.std.proofs.lemmas.Bool.{eq-eqb, ne_eqb}
use Rattle.std.specs.Prelude.{◌==◌, codes}
use Rattle.snd_fields.specs.Field.{bytes_of}
use Rattle.snd_fields.specs.declared.field.Order.TheVariants.{Little}
use Rattle.snd_layout.specs.Params.{data_bytes}
use Rattle.snd_layout.specs.Shape.{Shape, end}
use Rattle.snd_layout.specs.declared.field.Field.{Field}
use Rattle.snd_w64.specs.Layout.{id_end, raised}
use Rattle.snd_w64.specs.Values.{closing, count_bytes, inner_value, outer_value, side_value, whole_of}

pub inner_plain : (h : Shape) (n size bytes : ℕ) (v : List ℕ) → h.inner.size ≡ size → (size ≡ 32 → ⊥) → v ≡ bytes_of Little 8 (bytes + 24) → bytes ≡ data_bytes h.params n → v ≡ inner_value h n
unfolding inner_value
inner_plain h n size bytes v is other put counted =
    let plain : (h.inner.size == 32) ≡ false = ne_eqb h.inner.size 32 (λ wide. other (sym is ∙ wide)) in
    rw plain (put ∙ ap (λ k. bytes_of Little 8 (k + 24)) counted)

regrouped : (a b c d : List ℕ) → ((a ++ b) ++ c) ++ d ≡ a ++ (b ++ c) ++ d
regrouped a b c d = simp append_assoc

pub inner_joined : (h : Shape) (n size bytes : ℕ) (first second third v : List ℕ) → h.inner.size ≡ size → size ≡ 32 → first ≡ bytes_of Little 8 n → second ≡ first ++ codes "data" → third ≡ second ++ id_end → v ≡ third ++ bytes_of Little 8 (bytes + 24) → bytes ≡ data_bytes h.params n → v ≡ inner_value h n
unfolding inner_value
inner_joined h n size bytes first second third v is wide one two three four counted =
    let joined : (h.inner.size == 32) ≡ true = eq-eqb h.inner.size 32 (is ∙ wide) in
    rw joined (four ∙ ap (λ k. third ++ bytes_of Little 8 (k + 24)) counted ∙ ap (λ (l : List ℕ). l ++ bytes_of Little 8 (data_bytes h.params n + 24)) (three ∙ ap (λ (l : List ℕ). l ++ id_end) (two ∙ ap (λ (l : List ℕ). l ++ codes "data") one))
    ∙ regrouped (bytes_of Little 8 n) (codes "data") id_end (bytes_of Little 8 (data_bytes h.params n + 24)))

pub outer_is : (h : Shape) (n place size : ℕ) (v : List ℕ) → place ≡ end h n → place < 2 ^ 63 → size ≡ raised place → v ≡ bytes_of Little 8 size → v ≡ outer_value h n
unfolding outer_value
outer_is h n place size v ends few is put =
    let same : size ≡ whole_of place = omega (arith, is, few) in
    put ∙ ap (bytes_of Little 8) (same ∙ ap whole_of ends)

pub side_there : (h : Shape) (n : ℕ) (field : Field) (side : Option Field) (v : List ℕ) → h.side ≡ side → side ≡ Some field → v ≡ bytes_of Little 8 n → v ≡ side_value h n
unfolding side_value
side_there h n field side v is some put = put ∙ ap (λ (s : Option Field). count_bytes s n) (sym (is ∙ some))

pub no_side : (h : Shape) (n : ℕ) (side : Option Field) (v : List ℕ) → h.side ≡ side → side ≡ None → v ≡ [] → v ≡ side_value h n
unfolding side_value
no_side h n side v is none put = put ∙ ap (λ (s : Option Field). count_bytes s n) (sym (is ∙ none))

pub closed_is : (h : Shape) (n place up : ℕ) (first v : List ℕ) → place ≡ end h n → up ≡ raised place → first ≡ [] → v ≡ first ++ replicate (up - place) 0 → v ≡ closing h n
unfolding closing
closed_is h n place up first v ends is none put =
    put ∙ ap (λ (l : List ℕ). l ++ replicate (up - place) 0) none ∙ ap (λ k. replicate (k - place) 0) is ∙ ap (λ k. replicate (raised k - k) 0) ends
