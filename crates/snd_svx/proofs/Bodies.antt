-- What is read of the voice header and of the channel chunks.
use Rattle.std.proofs.Common.{◌≡◌, ℕ, ◌+◌, ◌<◌, List, take, drop, get_or, refl, ap, ◌∙◌, arith}
use Rattle.std.proofs.lemmas.List.{get_or-take, get_or-drop}
use Rattle.snd_fields.specs.Field.{number}
use Rattle.snd_fields.specs.declared.field.Order.TheVariants.{Big}
use Rattle.snd_chunks.proofs.Public.{same_number}
use Rattle.snd_chunks.specs.declared.chunk.Chunk.{Chunk}
use Rattle.snd_svx.specs.declared.header.Header.{Header}
use Rattle.snd_svx.specs.Layout.{header_of}

-- what fills a slice is what stands there
pub filled_agrees : (n p : ℕ) (x b : List ℕ) → x ≡ take n (drop p b) → (i : ℕ) → i < n → get_or x i 0 ≡ get_or b (p + i) 0
filled_agrees n p x b told i lt = ap (λ (l : List ℕ). get_or l i 0) told ∙ get_or-take n (drop p b) i 0 lt ∙ get_or-drop p b i 0

header_made : (rate octaves compression : ℕ) (header : Header) → rate ≡ header.rate → octaves ≡ header.octaves → compression ≡ header.compression
    → record { rate = rate; octaves = octaves; compression = compression } ≡ header
header_made rate octaves compression header one two three = rw (one, two, three) refl

-- the four bytes from the rate on are the voice header's
pub header_read : (b x : List ℕ) (chunk : Chunk) (rate : ℕ) → rate ≡ number Big x 0 2 → x ≡ take 4 (drop (chunk.at + 12) b)
    → record { rate = rate; octaves = get_or x 2 0; compression = get_or x 3 0 } ≡ header_of b chunk
header_read b x chunk rate is told =
    let same = filled_agrees 4 (chunk.at + 12) x b told in
    let at_rate : number Big x 0 2 ≡ number Big b (chunk.at + 12 + 0) 2 = same_number Big 0 2 2 (chunk.at + 12) x b refl (λ i lt. same i (omega arith)) in
    let place : chunk.at + 12 + 0 ≡ chunk.at + 12 = omega arith in
    let third : chunk.at + 12 + 2 ≡ chunk.at + 14 = omega arith in
    let fourth : chunk.at + 12 + 3 ≡ chunk.at + 15 = omega arith in
    header_made rate (get_or x 2 0) (get_or x 3 0) (header_of b chunk)
    (is ∙ at_rate ∙ ap (λ k. number Big b k 2) place)
    (same 2 (omega arith) ∙ ap (λ k. get_or b k 0) third)
    (same 3 (omega arith) ∙ ap (λ k. get_or b k 0) fourth)
