-- The sizes of data fit the numbers that hold them.
use Rattle.std.proofs.Common.{◌≡◌, ℕ, ◌+◌, ◌-◌, ◌*◌, ◌/◌, ◌%◌, ◌<◌, ◌≤◌, ◌^◌, true, false, List, [], ◌∷◌, ◌++◌, Option, None, Some, refl, sym, ap, ◌∙◌, inl, inr, arith}
use Rattle.std.proofs.lemmas.Bool.{cases_Bool, eq-eqb, ne_eqb}
use Rattle.std.specs.Prelude.{◌==◌, codes, replicate}
use Rattle.snd_fields.specs.Field.{bytes_of}
use Rattle.snd_fields.specs.declared.field.Order.TheVariants.{Little}
use Rattle.snd_layout.specs.Blocks.{block_align, block_frames, is_adpcm}
use Rattle.snd_layout.specs.Fit.{fit_refusal}
use Rattle.snd_layout.specs.Params.{AreParams, Parameters, data_bytes}
use Rattle.snd_layout.specs.Shape.{Shape}
use Rattle.snd_layout.specs.declared.field.Field.{Field}
use Rattle.snd_layout.specs.declared.kind.Kind.TheVariants.{Wave}
use Rattle.snd_wave.specs.Values.{closing, count_bytes, inner_value, outer_value, riff_size, side_value}
use Rattle.snd_wave.proofs.Made.{fixed_frames}
use Rattle.snd_wave.proofs.Shapes.{blocks_have_bytes}

single_blocks : (n b : ℕ) → b ≡ 1 → (n + b - 1) / b ≡ n
single_blocks n b one = rw one (omega arith)

some_times : (q a : ℕ) → 1 ≤ a → q ≤ q * a
some_times q a some = grind arith

-- the frames of data that end below 2^63, with those of one block more
pub frames_fit : (p : Parameters) (n : ℕ) → AreParams p → fit_refusal Wave p ≡ None → data_bytes p n < 2 ^ 63 → (is_adpcm p.codec ≡ true → n < 2 ^ 32) → block_frames p.codec < 2 ^ 16 → n + block_frames p.codec < 2 ^ 64
frames_fit p n good fits few counted frames = elim (cases_Bool (is_adpcm p.codec)) [
  | inl is ↦ omega (arith, counted is)
  | inr other ↦
      let one : block_frames p.codec ≡ 1 = fixed_frames p.codec other in
      let blocks : (n + block_frames p.codec - 1) / block_frames p.codec ≡ n = single_blocks n (block_frames p.codec) one in
      omega (arith, one, blocks, some_times ((n + block_frames p.codec - 1) / block_frames p.codec) (block_align p.channels p.codec) (blocks_have_bytes p good fits))
]

-- the values of fields, as they are put together
pub inner_plain : (h : Shape) (n size bytes : ℕ) (v : List ℕ) → h.inner.size ≡ size → (size ≡ 12 → ⊥) → v ≡ bytes_of Little 4 bytes → bytes ≡ data_bytes h.params n → v ≡ inner_value h n
unfolding inner_value
inner_plain h n size bytes v is other put counted =
    let plain : (h.inner.size == 12) ≡ false = ne_eqb h.inner.size 12 (λ twelve. other (sym is ∙ twelve)) in
    rw plain (put ∙ ap (bytes_of Little 4) counted)

pub inner_joined : (h : Shape) (n size bytes : ℕ) (first second v : List ℕ) → h.inner.size ≡ size → size ≡ 12 → first ≡ bytes_of Little 4 n → second ≡ first ++ codes "data" → v ≡ second ++ bytes_of Little 4 bytes → bytes ≡ data_bytes h.params n → v ≡ inner_value h n
unfolding inner_value
inner_joined h n size bytes first second v is twelve one two three counted =
    let joined : (h.inner.size == 12) ≡ true = eq-eqb h.inner.size 12 (is ∙ twelve) in
    rw (joined, three, two, one, counted) refl

pub outer_is : (h : Shape) (n start bytes size : ℕ) (v : List ℕ) → h.start ≡ start → bytes ≡ data_bytes h.params n → size ≡ riff_size start bytes → v ≡ bytes_of Little 4 size → v ≡ outer_value h n
unfolding outer_value
outer_is h n start bytes size v at counted is put = put ∙ ap (bytes_of Little 4) (is ∙ ap (λ k. riff_size k bytes) (sym at) ∙ ap (riff_size h.start) counted)

pub side_there : (h : Shape) (n : ℕ) (field : Field) (side : Option Field) (v : List ℕ) → h.side ≡ side → side ≡ Some field → v ≡ bytes_of Little 4 n → v ≡ side_value h n
unfolding side_value
side_there h n field side v is some put = put ∙ ap (λ (s : Option Field). count_bytes s n) (sym (is ∙ some))

pub no_side : (h : Shape) (n : ℕ) (side : Option Field) (v : List ℕ) → h.side ≡ side → side ≡ None → v ≡ [] → v ≡ side_value h n
unfolding side_value
no_side h n side v is none put = put ∙ ap (λ (s : Option Field). count_bytes s n) (sym (is ∙ none))

pub closed_odd : (h : Shape) (n bytes : ℕ) (first v : List ℕ) → bytes ≡ data_bytes h.params n → bytes % 2 ≡ 1 → first ≡ [] → v ≡ first ++ 0 ∷ [] → v ≡ closing h n
unfolding closing
closed_odd h n bytes first v counted odd none put = put ∙ ap (λ (l : List ℕ). l ++ 0 ∷ []) none ∙ ap (λ k. replicate k 0) (sym odd ∙ ap (λ k. k % 2) counted)

pub closed_even : (h : Shape) (n bytes : ℕ) (v : List ℕ) → bytes ≡ data_bytes h.params n → (bytes % 2 ≡ 1 → ⊥) → v ≡ [] → v ≡ closing h n
unfolding closing
closed_even h n bytes v counted even none =
    let zero : bytes % 2 ≡ 0 = omega (arith, even) in
    none ∙ ap (λ k. replicate k 0) (sym zero ∙ ap (λ k. k % 2) counted)
