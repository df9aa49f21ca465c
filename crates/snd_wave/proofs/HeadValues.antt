-- The head for some frames is the head for none with the values put into its fields.
use Rattle.std.proofs.Common.{◌≡◌, ℕ, ◌+◌, ◌-◌, List, [], ◌∷◌, ◌++◌, Option, None, true, false, length, refl, sym, ap, ◌∙◌, inl, inr, arith, append_assoc, length-append}
use Rattle.std.proofs.lemmas.Bool.{cases_Bool}
use Rattle.std.proofs.lemmas.List.{append-nil, places, same_lists}
use Rattle.std.specs.Prelude.{codes}
use Rattle.snd_chunks.proofs.Public.{length-head_bytes}
use Rattle.snd_chunks.specs.Written.{NewChunk, chunk_bytes, chunks_bytes, head_bytes}
use Rattle.snd_fields.specs.Field.{bytes_of, with_field}
use Rattle.snd_fields.specs.declared.field.Order.TheVariants.{Little}
use Rattle.snd_layout.specs.Blocks.{is_adpcm}
use Rattle.snd_layout.specs.Params.{Parameters, data_bytes}
use Rattle.snd_layout.specs.Shape.{Shape}
use Rattle.snd_wave.specs.Sealed.{HeadIsCounted, ReservedHeadIsCounted, with_values}
use Rattle.snd_wave.specs.Values.{inner_value, outer_value, riff_size, side_value}
use Rattle.snd_wave.specs.Written.{has_fact, lead_of, new_fact, new_format, reserved_chunks, reserved_filler, reserved_head, reserved_shape, reserved_size, riff_head}
use Rattle.snd_wave.proofs.Relaying.{chunks-joined}
use Rattle.snd_wave.proofs.Made.{adpcm_has_fact}
use Rattle.snd_wave.proofs.NewHeads.{fact_bytes, size_is}

-- the middle of three parts is replaced
put_mid : (a v0 c v : List ℕ) (at : ℕ) → at ≡ length a → length v ≡ length v0 → with_field (a ++ v0 ++ c) at v ≡ a ++ v ++ c
put_mid a v0 c v at is same = same_lists _ _ (grind (arith, places)) (λ i d lt. grind (arith, places))

-- two fields, of which the later is put first
two : (a r0 r x d0 d z : List ℕ) (at_r at_d : ℕ) → at_r ≡ length a → at_d ≡ length a + length r0 + length x → length r ≡ length r0 → length d ≡ length d0
    → with_field (with_field (a ++ r0 ++ x ++ d0 ++ z) at_d d) at_r r ≡ a ++ r ++ x ++ d ++ z
two a r0 r x d0 d z at_r at_d is_r is_d same_r same_d =
    let later : with_field (a ++ r0 ++ x ++ d0 ++ z) at_d d ≡ a ++ r0 ++ x ++ d ++ z = put_mid (a ++ r0 ++ x) d0 z d at_d (omega (arith, is_d, length-append (a ++ r0) x, length-append a r0)) same_d in
    let apart : a ++ r0 ++ x ++ d ++ z ≡ a ++ r0 ++ (x ++ d ++ z) = simp append_assoc in
    let back : a ++ r ++ (x ++ d ++ z) ≡ a ++ r ++ x ++ d ++ z = simp append_assoc in
    ap (λ (l : List ℕ). with_field l at_r r) (later ∙ apart) ∙ put_mid a r0 (x ++ d ++ z) r at_r is_r same_r ∙ back

-- and a third between them
pub three : (a r0 r x n0 n y d0 d z : List ℕ) (at_r at_n at_d : ℕ) → at_r ≡ length a → at_n ≡ length a + length r0 + length x → at_d ≡ length a + length r0 + length x + length n0 + length y → length r ≡ length r0 → length n ≡ length n0 → length d ≡ length d0
    → with_field (with_field (with_field (a ++ r0 ++ x ++ n0 ++ y ++ d0 ++ z) at_d d) at_r r) at_n n ≡ a ++ r ++ x ++ n ++ y ++ d ++ z
three a r0 r x n0 n y d0 d z at_r at_n at_d is_r is_n is_d same_r same_n same_d =
    let apart : a ++ r0 ++ x ++ n0 ++ y ++ d0 ++ z ≡ a ++ r0 ++ (x ++ n0 ++ y) ++ d0 ++ z = simp append_assoc in
    let outer : with_field (with_field (a ++ r0 ++ (x ++ n0 ++ y) ++ d0 ++ z) at_d d) at_r r ≡ a ++ r ++ (x ++ n0 ++ y) ++ d ++ z =
    two a r0 r (x ++ n0 ++ y) d0 d z at_r at_d is_r (omega (arith, is_d, length-append (x ++ n0) y, length-append x n0)) same_r same_d in
    let middle : a ++ r ++ (x ++ n0 ++ y) ++ d ++ z ≡ (a ++ r ++ x) ++ n0 ++ (y ++ d ++ z) = simp append_assoc in
    let back : (a ++ r ++ x) ++ n ++ (y ++ d ++ z) ≡ a ++ r ++ x ++ n ++ y ++ d ++ z = simp append_assoc in
    ap (λ (l : List ℕ). with_field (with_field (with_field l at_d d) at_r r) at_n n) apart ∙ ap (λ (l : List ℕ). with_field l at_n n) (outer ∙ middle)
    ∙ put_mid (a ++ r ++ x) n0 (y ++ d ++ z) n at_n (omega (arith, is_n, same_r, length-append (a ++ r) x, length-append a r)) same_n ∙ back

regroup_plain : (a r w x t d z : List ℕ) → ((a ++ r ++ w) ++ (x ++ []) ++ (t ++ d)) ++ z ≡ a ++ r ++ (w ++ x ++ t) ++ d ++ z
regroup_plain a r w x t d z = simp (append_assoc, append-nil)

regroup_joined : (a r w x f c t d z : List ℕ) → ((a ++ r ++ w) ++ (x ++ (f ++ c)) ++ (t ++ d)) ++ z ≡ a ++ r ++ (w ++ x ++ f) ++ (c ++ t ++ d) ++ z
regroup_joined a r w x f c t d z = simp append_assoc

regroup_counted : (a r w x f c t d z : List ℕ) → ((a ++ r ++ w) ++ (x ++ (f ++ c)) ++ (t ++ d)) ++ z ≡ a ++ r ++ (w ++ x ++ f) ++ c ++ t ++ d ++ z
regroup_counted a r w x f c t d z = simp append_assoc

module _ (r : Option ℕ) (p : Parameters) (pieces : List NewChunk) where
  -- all chunks but the count
  abbrev first_chunks : List NewChunk
  first_chunks = lead_of r ++ new_format p ∷ (pieces ++ reserved_filler r p pieces)

  abbrev riff : ℕ → List ℕ
  riff n = bytes_of Little 4 (riff_size (reserved_size r p pieces) (data_bytes p n))

  chunks_are : (n : ℕ) → chunks_bytes Little (reserved_chunks r p pieces n) ≡ chunks_bytes Little first_chunks ++ chunks_bytes Little (new_fact p.codec n)
  unfolding reserved_chunks
  chunks_are n =
      let regroup : lead_of r ++ new_format p ∷ (pieces ++ (reserved_filler r p pieces ++ new_fact p.codec n)) ≡ first_chunks ++ new_fact p.codec n =
      ap (λ (l : List NewChunk). lead_of r ++ new_format p ∷ l) (sym (append_assoc pieces (reserved_filler r p pieces) (new_fact p.codec n)))
      ∙ sym (append_assoc (lead_of r) (new_format p ∷ (pieces ++ reserved_filler r p pieces)) (new_fact p.codec n)) in
      ap (chunks_bytes Little) regroup ∙ chunks-joined Little first_chunks (new_fact p.codec n)

  size : (n : ℕ) → reserved_size r p pieces ≡ 20 + length (chunks_bytes Little first_chunks) + length (chunks_bytes Little (new_fact p.codec n))
  size n = omega (arith, size_is r p pieces n, ap length (chunks_are n), length-append (chunks_bytes Little first_chunks) (chunks_bytes Little (new_fact p.codec n)))

  head_parts : (n : ℕ) → reserved_head r p pieces n ≡ (codes "RIFF" ++ riff n ++ codes "WAVE") ++ (chunks_bytes Little first_chunks ++ chunks_bytes Little (new_fact p.codec n)) ++ (codes "data" ++ bytes_of Little 4 (data_bytes p n))
  unfolding reserved_head riff_head head_bytes
  head_parts n = ap (λ (l : List ℕ). (codes "RIFF" ++ riff n ++ codes "WAVE") ++ l ++ (codes "data" ++ bytes_of Little 4 (data_bytes p n))) (chunks_are n)

  fact_parts : has_fact p.codec ≡ true → (n : ℕ) → chunks_bytes Little (new_fact p.codec n) ≡ head_bytes Little (codes "fact") 4 ++ bytes_of Little 4 n
  unfolding chunks_bytes chunk_bytes head_bytes
  fact_parts has n = rw has refl

  no_fact : has_fact p.codec ≡ false → (n : ℕ) → chunks_bytes Little (new_fact p.codec n) ≡ []
  unfolding chunks_bytes
  no_fact none n = rw none refl

  abbrev laid_shape : Shape
  laid_shape = reserved_shape r p pieces 0

  abbrev data_size : ℕ → List ℕ
  data_size n = bytes_of Little 4 (data_bytes p n)

  values_plain : has_fact p.codec ≡ false → is_adpcm p.codec ≡ false → (b : List ℕ) (n : ℕ) → with_values b laid_shape n ≡ with_field (with_field b (reserved_size r p pieces - 4) (data_size n)) 4 (riff n)
  unfolding with_values reserved_shape inner_value outer_value side_value
  values_plain none other b n = rw (none, other) refl

  values_counted : has_fact p.codec ≡ true → is_adpcm p.codec ≡ false → (b : List ℕ) (n : ℕ)
      → with_values b laid_shape n ≡ with_field (with_field (with_field b (reserved_size r p pieces - 4) (data_size n)) 4 (riff n)) (reserved_size r p pieces - 12) (bytes_of Little 4 n)
  unfolding with_values reserved_shape inner_value outer_value side_value
  values_counted has other b n = rw (has, other) refl

  values_joined : has_fact p.codec ≡ true → is_adpcm p.codec ≡ true → (b : List ℕ) (n : ℕ)
      → with_values b laid_shape n ≡ with_field (with_field b (reserved_size r p pieces - 12) (bytes_of Little 4 n ++ codes "data" ++ data_size n)) 4 (riff n)
  unfolding with_values reserved_shape inner_value outer_value side_value
  values_joined has is b n = rw (has, is) refl

  by_plain : has_fact p.codec ≡ false → is_adpcm p.codec ≡ false → (n : ℕ) (z : List ℕ) → with_values (reserved_head r p pieces 0 ++ z) laid_shape n ≡ reserved_head r p pieces n ++ z
  by_plain none other n z =
      let parts : (m : ℕ) → reserved_head r p pieces m ++ z ≡ codes "RIFF" ++ riff m ++ (codes "WAVE" ++ chunks_bytes Little first_chunks ++ codes "data") ++ data_size m ++ z =
      λ m. ap (λ (l : List ℕ). l ++ z) (head_parts m ∙ ap (λ (l : List ℕ). (codes "RIFF" ++ riff m ++ codes "WAVE") ++ (chunks_bytes Little first_chunks ++ l) ++ (codes "data" ++ data_size m)) (no_fact none m))
      ∙ regroup_plain (codes "RIFF") (riff m) (codes "WAVE") (chunks_bytes Little first_chunks) (codes "data") (data_size m) z in
      values_plain none other (reserved_head r p pieces 0 ++ z) n ∙ ap (λ (l : List ℕ). with_field (with_field l (reserved_size r p pieces - 4) (data_size n)) 4 (riff n)) (parts 0)
      ∙ two (codes "RIFF") (riff 0) (riff n) (codes "WAVE" ++ chunks_bytes Little first_chunks ++ codes "data") (data_size 0) (data_size n) z 4 (reserved_size r p pieces - 4) refl
      (omega (arith, size 0, ap length (no_fact none 0), length-append (codes "WAVE" ++ chunks_bytes Little first_chunks) (codes "data"), length-append (codes "WAVE") (chunks_bytes Little first_chunks))) refl refl
      ∙ sym (parts n)

  fact_long : has_fact p.codec ≡ true → length (chunks_bytes Little (new_fact p.codec 0)) ≡ 12
  fact_long has = fact_bytes p.codec 0 ∙ rw has refl

  before_count : has_fact p.codec ≡ true → reserved_size r p pieces - 12 ≡ length (codes "RIFF") + length (riff 0) + length (codes "WAVE" ++ chunks_bytes Little first_chunks ++ head_bytes Little (codes "fact") 4)
  before_count has =
      omega (
        arith,
        size 0,
        fact_long has,
        length-append (codes "WAVE" ++ chunks_bytes Little first_chunks) (head_bytes Little (codes "fact") 4),
        length-append (codes "WAVE") (chunks_bytes Little first_chunks),
        length-head_bytes Little (codes "fact") 4 refl,
      )

  by_joined : has_fact p.codec ≡ true → is_adpcm p.codec ≡ true → (n : ℕ) (z : List ℕ) → with_values (reserved_head r p pieces 0 ++ z) laid_shape n ≡ reserved_head r p pieces n ++ z
  by_joined has is n z =
      let parts : (m : ℕ) → reserved_head r p pieces m ++ z
      ≡ codes "RIFF" ++ riff m ++ (codes "WAVE" ++ chunks_bytes Little first_chunks ++ head_bytes Little (codes "fact") 4) ++ (bytes_of Little 4 m ++ codes "data" ++ data_size m) ++ z =
      λ m. ap (λ (l : List ℕ). l ++ z) (head_parts m ∙ ap (λ (l : List ℕ). (codes "RIFF" ++ riff m ++ codes "WAVE") ++ (chunks_bytes Little first_chunks ++ l) ++ (codes "data" ++ data_size m)) (fact_parts has m))
      ∙ regroup_joined (codes "RIFF") (riff m) (codes "WAVE") (chunks_bytes Little first_chunks) (head_bytes Little (codes "fact") 4) (bytes_of Little 4 m) (codes "data") (data_size m) z in
      values_joined has is (reserved_head r p pieces 0 ++ z) n ∙ ap (λ (l : List ℕ). with_field (with_field l (reserved_size r p pieces - 12) (bytes_of Little 4 n ++ codes "data" ++ data_size n)) 4 (riff n)) (parts 0)
      ∙ two (codes "RIFF") (riff 0) (riff n) (codes "WAVE" ++ chunks_bytes Little first_chunks ++ head_bytes Little (codes "fact") 4) (bytes_of Little 4 0 ++ codes "data" ++ data_size 0) (bytes_of Little 4 n ++ codes "data" ++ data_size n) z 4 (reserved_size r p pieces - 12) refl
      (before_count has) refl refl
      ∙ sym (parts n)

  by_counted : has_fact p.codec ≡ true → is_adpcm p.codec ≡ false → (n : ℕ) (z : List ℕ) → with_values (reserved_head r p pieces 0 ++ z) laid_shape n ≡ reserved_head r p pieces n ++ z
  by_counted has other n z =
      let parts : (m : ℕ) → reserved_head r p pieces m ++ z
      ≡ codes "RIFF" ++ riff m ++ (codes "WAVE" ++ chunks_bytes Little first_chunks ++ head_bytes Little (codes "fact") 4) ++ bytes_of Little 4 m ++ codes "data" ++ data_size m ++ z =
      λ m. ap (λ (l : List ℕ). l ++ z) (head_parts m ∙ ap (λ (l : List ℕ). (codes "RIFF" ++ riff m ++ codes "WAVE") ++ (chunks_bytes Little first_chunks ++ l) ++ (codes "data" ++ data_size m)) (fact_parts has m))
      ∙ regroup_counted (codes "RIFF") (riff m) (codes "WAVE") (chunks_bytes Little first_chunks) (head_bytes Little (codes "fact") 4) (bytes_of Little 4 m) (codes "data") (data_size m) z in
      values_counted has other (reserved_head r p pieces 0 ++ z) n
      ∙ ap (λ (l : List ℕ). with_field (with_field (with_field l (reserved_size r p pieces - 4) (data_size n)) 4 (riff n)) (reserved_size r p pieces - 12) (bytes_of Little 4 n)) (parts 0)
      ∙ three (codes "RIFF") (riff 0) (riff n) (codes "WAVE" ++ chunks_bytes Little first_chunks ++ head_bytes Little (codes "fact") 4) (bytes_of Little 4 0) (bytes_of Little 4 n) (codes "data") (data_size 0) (data_size n) z 4 (reserved_size r p pieces - 12) (reserved_size r p pieces - 4) refl
      (before_count has) (omega (arith, before_count has, size 0, fact_long has)) refl refl refl
      ∙ sym (parts n)

pub reserved_head_is_counted : ReservedHeadIsCounted
reserved_head_is_counted r p pieces n z = elim (cases_Bool (has_fact p.codec)) [
  | inl has ↦ elim (cases_Bool (is_adpcm p.codec)) [
    | inl is ↦ by_joined r p pieces has is n z
    | inr other ↦ by_counted r p pieces has other n z
  ]
  | inr none ↦ elim (cases_Bool (is_adpcm p.codec)) [
    | inl is ↦ absurd (let h = sym none ∙ adpcm_has_fact p.codec is in cc)
    | inr other ↦ by_plain r p pieces none other n z
  ]
]

pub head_is_counted : HeadIsCounted
head_is_counted p pieces n z = reserved_head_is_counted None p pieces n z
