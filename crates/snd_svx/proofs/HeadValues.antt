-- The head for some frames is the head for none with the values put into its fields.
use Rattle.std.proofs.Common.{◌≡◌, ℕ, ◌+◌, ◌-◌, List, [], ◌∷◌, ◌++◌, length, refl, sym, ap, ◌∙◌, arith, append_assoc, length-append}
use Rattle.std.specs.Prelude.{codes, replicate}
use Rattle.snd_chunks.proofs.Public.{length-chunks_bytes}
use Rattle.snd_chunks.specs.Written.{NewChunk, chunk_bytes, chunks_bytes, head_bytes}
use Rattle.snd_fields.specs.Field.{bytes_of, with_field}
use Rattle.snd_fields.specs.declared.field.Order.TheVariants.{Big}
use Rattle.snd_layout.specs.Params.{Parameters, data_bytes}
use Rattle.snd_layout.specs.Shape.{Shape}
use Rattle.snd_wave.proofs.Public.{three}
use Rattle.snd_svx.specs.Made.{HeadIsCounted, with_values}
use Rattle.snd_svx.specs.Values.{form_size, inner_value, outer_value, side_value}
use Rattle.snd_svx.specs.Written.{chunks_before, filler, form_head, head_for, head_size, made_shape, new_header}

-- what stands in a voice header behind the one-shot samples
abbrev last_of : ℕ → List ℕ
last_of rate = replicate 8 0 ++ bytes_of Big 2 rate ++ 1 ∷ 0 ∷ 0 ∷ 1 ∷ 0 ∷ 0 ∷ []

header_parts : (rate n : ℕ) → chunk_bytes Big (new_header rate n) ≡ head_bytes Big (codes "VHDR") 20 ++ bytes_of Big 4 n ++ last_of rate
unfolding chunk_bytes head_bytes
header_parts rate n = refl

regroup : (f s e v n r c b d z : List ℕ) → ((f ++ s ++ e) ++ ((v ++ n ++ r) ++ c) ++ (b ++ d)) ++ z ≡ f ++ s ++ (e ++ v) ++ n ++ (r ++ c ++ b) ++ d ++ z
regroup f s e v n r c b d z = simp append_assoc

module _ (p : Parameters) (pieces : List NewChunk) where
  abbrev form : ℕ → List ℕ
  form n = bytes_of Big 4 (form_size (head_size p pieces) (data_bytes p n))

  abbrev data_size : ℕ → List ℕ
  data_size n = bytes_of Big 4 (data_bytes p n)

  abbrev rest : List ℕ
  rest = chunks_bytes Big (pieces ++ filler p pieces)

  abbrev laid : Shape
  laid = made_shape p pieces 0

  head_parts : (n : ℕ) → head_for p pieces n ≡ (codes "FORM" ++ form n ++ codes "8SVX") ++ (chunk_bytes Big (new_header p.rate n) ++ rest) ++ (codes "BODY" ++ data_size n)
  unfolding head_for chunks_bytes head_bytes
  head_parts n = refl

  parts : (n : ℕ) (z : List ℕ) → head_for p pieces n ++ z ≡ codes "FORM" ++ form n ++ (codes "8SVX" ++ head_bytes Big (codes "VHDR") 20) ++ bytes_of Big 4 n ++ (last_of p.rate ++ rest ++ codes "BODY") ++ data_size n ++ z
  parts n z =
      ap (λ (l : List ℕ). l ++ z) (head_parts n ∙ ap (λ (l : List ℕ). (codes "FORM" ++ form n ++ codes "8SVX") ++ (l ++ rest) ++ (codes "BODY" ++ data_size n)) (header_parts p.rate n))
      ∙ regroup (codes "FORM") (form n) (codes "8SVX") (head_bytes Big (codes "VHDR") 20) (bytes_of Big 4 n) (last_of p.rate) rest (codes "BODY") (data_size n) z

  values : (b : List ℕ) (n : ℕ) → with_values b laid n ≡ with_field (with_field (with_field b (head_size p pieces - 4) (data_size n)) 4 (form n)) 20 (bytes_of Big 4 n)
  unfolding with_values made_shape inner_value outer_value side_value
  values b n = refl

  mark_long : length (codes "8SVX" ++ head_bytes Big (codes "VHDR") 20) ≡ 12
  unfolding head_bytes
  mark_long = refl

  header_long : length (chunk_bytes Big (new_header p.rate 0)) ≡ 28
  unfolding chunk_bytes head_bytes
  header_long = refl

  last_long : length (last_of p.rate ++ rest ++ codes "BODY") ≡ 20 + length rest
  last_long = omega (arith, length-append (last_of p.rate ++ rest) (codes "BODY"), length-append (last_of p.rate) rest)

  counted : (n : ℕ) (z : List ℕ) → with_values (head_for p pieces 0 ++ z) laid n ≡ head_for p pieces n ++ z
  counted n z =
      values (head_for p pieces 0 ++ z) n
      ∙ ap (λ (l : List ℕ). with_field (with_field (with_field l (head_size p pieces - 4) (data_size n)) 4 (form n)) 20 (bytes_of Big 4 n)) (parts 0 z)
      ∙ three (codes "FORM") (form 0) (form n) (codes "8SVX" ++ head_bytes Big (codes "VHDR") 20) (bytes_of Big 4 0) (bytes_of Big 4 n) (last_of p.rate ++ rest ++ codes "BODY") (data_size 0) (data_size n) z 4 20 (head_size p pieces - 4)
      refl (omega (arith, mark_long)) (omega (arith, mark_long, last_long, header_long, length-chunks_bytes Big (new_header p.rate 0) (pieces ++ filler p pieces))) refl refl refl
      ∙ sym (parts n z)

pub head_is_counted : HeadIsCounted
head_is_counted p pieces n z = counted p pieces n z
