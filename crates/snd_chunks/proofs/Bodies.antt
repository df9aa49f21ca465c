-- The bodies of the chunks of a walk are no more bytes than it goes over.
use Rattle.std.proofs.Common.{◌≡◌, ap, refl, ℕ, zero, suc, ◌+◌, ◌-◌, ◌≤◌, true, false, List, [], ◌∷◌, Option, None, Some, inl, inr, length, arith}
use Rattle.std.proofs.lemmas.Bool.{cases_Bool, leb-true}
use Rattle.std.proofs.lemmas.List.Sums.{sum_by-cons}
use Rattle.std.specs.List.{sum_by}
use Rattle.std.specs.Prelude.{nat_le}
use Rattle.snd_chunks.proofs.Chains.{IsChain, IsHead, Reaches, is_head}
use Rattle.snd_chunks.specs.Chunks.{chunk_at, tail, tail_from}
use Rattle.snd_chunks.specs.declared.chunk.Chunk.{Chunk}
use Rattle.snd_fields.specs.declared.field.Order.TheVariants.{Little}

abbrev pub lens : List Chunk → ℕ
lens chunks = sum_by (λ (c : Chunk). c.len) chunks

pub lens_cons : (chunk : Chunk) (chunks : List Chunk) → lens (chunk ∷ chunks) ≡ chunk.len + lens chunks
lens_cons chunk chunks = sum_by-cons (λ (c : Chunk). c.len) chunk chunks

-- ---- the bodies of a walk

module _ (b id : List ℕ) (end : ℕ) where
  -- up to the sound
  chain_lens : (place last : ℕ) (chunks : List Chunk) → IsChain (chunk_at Little b) id end place chunks last → lens chunks + place ≤ last
  chain_lens place last [] chain = omega (arith, chain)
  chain_lens place last (chunk ∷ chunks) chain =
      let head : IsHead Little b place chunk = is_head Little b place chunk chain.0.at in
      omega (arith, lens_cons chunk chunks, chain_lens chunk.next last chunks chain.1, head.at, head.next)

  pub front_lens : (most place : ℕ) (chunks : List Chunk) (sound : Chunk) → Reaches (chunk_at Little b) id end most place chunks sound → (lens chunks ≤ sound.at) × (sound.at ≤ length b)
  front_lens most place chunks sound reach =
      let head : IsHead Little b reach.last sound = is_head Little b reach.last sound reach.at in
      (omega (arith, chain_lens place reach.last chunks reach.chain, head.at), omega (arith, head.at, head.within))

-- behind it
pub tail_lens : (b : List ℕ) (limit n p : ℕ) → lens (tail (chunk_at Little b) limit n p) ≤ limit - p
unfolding tail
tail_lens b limit zero p = omega arith
tail_lens b limit (suc n) p = one (chunk_at Little b p) refl (λ q. tail_lens b limit n q)
  where
    one : (o : Option Chunk) → chunk_at Little b p ≡ o → ((q : ℕ) → lens (tail (chunk_at Little b) limit n q) ≤ limit - q) → lens (tail_from limit o (tail (chunk_at Little b) limit n)) ≤ limit - p
    one None is rest = omega arith
    one (Some chunk) is rest = elim (cases_Bool (nat_le (chunk.at + chunk.len) limit)) [
      | inl ends ↦
          let head : IsHead Little b p chunk = is_head Little b p chunk is in
          let found : tail_from limit (Some chunk) (tail (chunk_at Little b) limit n) ≡ chunk ∷ tail (chunk_at Little b) limit n chunk.next = rw ends refl in
          omega (arith, ap lens found, lens_cons chunk (tail (chunk_at Little b) limit n chunk.next), rest chunk.next, leb-true (chunk.at + chunk.len) limit ends, head.at, head.next)
      | inr runs ↦
          let none : tail_from limit (Some chunk) (tail (chunk_at Little b) limit n) ≡ [] = rw runs refl in
          omega (arith, ap lens none)
    ]
