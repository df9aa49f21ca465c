-- The steps of walks.
use Rattle.std.proofs.Common.{◌≡◌, ℕ, ◌+◌, ◌*◌, ◌≤◌, List, [], ◌∷◌, ◌++◌, All, Option, None, Some, refl, sym, ap, ◌∙◌, append_assoc, add-one, arith, inl, inr}
use Rattle.std.proofs.lemmas.Bool.{cases_Bool}
use Rattle.std.proofs.lemmas.List.{append-nil}
use Rattle.std.proofs.lemmas.List.Elements.{All-push, All-weaker}
use Rattle.std.specs.Prelude.{nat_le}
use Rattle.std.specs.Str.{bytes_eq}
use Rattle.snd_disk.specs.State.{AtMost}
use Rattle.snd_chunks.specs.declared.chunk.Chunk.{Chunk}
use Rattle.snd_chunks.specs.declared.front.Ending.TheVariants.{AtSound, Cut, TooMany}
use Rattle.snd_chunks.specs.declared.front.Front.{Front}
use Rattle.snd_chunks.specs.declared.front.Seen.{Seen}
use Rattle.snd_chunks.specs.declared.front.Seen.TheVariants.{Sound, Whole, Nothing}
use Rattle.snd_chunks.specs.Chunks.{behind, front, front_from, tail, tail_from}
use Rattle.snd_chunks.specs.Walks.{EndsBy, ended_by, seen_of}

-- what a walk saw, and then the walk from there on
abbrev pub after : List Chunk → Front → Front
after seen f = record { chunks = seen ++ f.chunks; ending = f.ending }

-- the walk from what it sees at one place
abbrev pub from_seen : Seen → (ℕ → Front) → Front
from_seen (Sound chunk) rest = record { chunks = []; ending = AtSound chunk }
from_seen (Whole chunk) rest = behind chunk (rest chunk.next)
from_seen Nothing rest = record { chunks = []; ending = Cut }

from_chunk : (sound : List ℕ) (end : ℕ) (chunk : Option Chunk) (rest : ℕ → Front) → front_from sound end chunk rest ≡ from_seen (seen_of sound end chunk) rest
from_chunk sound end None rest = refl
from_chunk sound end (Some chunk) rest = elim (cases_Bool (bytes_eq chunk.id.0 sound)) [
  | inl is ↦ rw is refl
  | inr other ↦ elim (cases_Bool (nat_le (chunk.at + chunk.len) end)) [
    | inl ends ↦ rw (other, ends) refl
    | inr runs ↦ rw (other, runs) refl
  ]
]

module _ (chunk_of : ℕ → Option Chunk) (sound : List ℕ) (end : ℕ) (all : Front) (seen : List Chunk) (m place : ℕ) where
  step : (n : ℕ) (s : Seen) → s ≡ seen_of sound end (chunk_of place) → m ≡ n + 1 → all ≡ after seen (front chunk_of sound end m place) → all ≡ after seen (from_seen s (front chunk_of sound end n))
  unfolding front
  step n s is count so_far = so_far ∙ rw (count, add-one, is) (ap (after seen) (from_chunk sound end (chunk_of place) (front chunk_of sound end n)))

  pub goes_on : (n : ℕ) (chunk : Chunk) → Whole chunk ≡ seen_of sound end (chunk_of place) → m ≡ n + 1 → all ≡ after seen (front chunk_of sound end m place) → all ≡ after (seen ++ chunk ∷ []) (front chunk_of sound end n chunk.next)
  goes_on n chunk is count so_far = step n (Whole chunk) is count so_far ∙ ap (λ (l : List Chunk). record { chunks = l; ending = (front chunk_of sound end n chunk.next).ending }) (sym (append_assoc seen (chunk ∷ []) (front chunk_of sound end n chunk.next).chunks))

  pub ends_at_sound : (n : ℕ) (chunk : Chunk) → Sound chunk ≡ seen_of sound end (chunk_of place) → m ≡ n + 1 → all ≡ after seen (front chunk_of sound end m place) → record { chunks = seen; ending = AtSound chunk } ≡ all
  ends_at_sound n chunk is count so_far = sym (step n (Sound chunk) is count so_far ∙ ap (λ (l : List Chunk). record { chunks = l; ending = AtSound chunk }) (append-nil seen))

  pub ends_cut : (n : ℕ) → Nothing ≡ seen_of sound end (chunk_of place) → m ≡ n + 1 → all ≡ after seen (front chunk_of sound end m place) → record { chunks = seen; ending = Cut } ≡ all
  ends_cut n is count so_far = sym (step n Nothing is count so_far ∙ ap (λ (l : List Chunk). record { chunks = l; ending = Cut }) (append-nil seen))

  pub ends_too_many : m ≡ 0 → all ≡ after seen (front chunk_of sound end m place) → record { chunks = seen; ending = TooMany } ≡ all
  unfolding front
  ends_too_many none so_far = sym (so_far ∙ rw none (ap (λ (l : List Chunk). record { chunks = l; ending = TooMany }) (append-nil seen)))

-- chunks that end by a place end by each later one
pub ends_grow : (place later : ℕ) (seen : List Chunk) (chunk : Chunk) → place ≤ later → chunk.at + chunk.len ≤ later → All (EndsBy place) seen → All (EndsBy later) (seen ++ chunk ∷ [])
ends_grow place later seen chunk grows ends all =
    All-push (EndsBy later) seen chunk (All-weaker (EndsBy place) (EndsBy later) (λ x le. omega arith) seen all) ends

-- 8 bytes for one more head
pub asked_more : (a b c n : ℕ) → AtMost a (8 * n) b → AtMost b 8 c → AtMost a (8 * (n + 1)) c
asked_more a b c n first second = record { later = omega (arith, first.later, second.later); most = omega (arith, first.most, second.most) }

-- the walk behind the sound from what it sees at one place
abbrev pub from_ended : Option Chunk → (ℕ → List Chunk) → List Chunk
from_ended None rest = []
from_ended (Some chunk) rest = chunk ∷ rest chunk.next

tail_ended : (end : ℕ) (chunk : Option Chunk) (rest : ℕ → List Chunk) → tail_from end chunk rest ≡ from_ended (ended_by end chunk) rest
tail_ended end None rest = refl
tail_ended end (Some chunk) rest = elim (cases_Bool (nat_le (chunk.at + chunk.len) end)) [
  | inl ends ↦ rw ends refl
  | inr runs ↦ rw runs refl
]

module _ (chunk_of : ℕ → Option Chunk) (end : ℕ) (all seen : List Chunk) (m place : ℕ) where
  tail_step : (n : ℕ) (s : Option Chunk) → s ≡ ended_by end (chunk_of place) → m ≡ n + 1 → all ≡ seen ++ tail chunk_of end m place → all ≡ seen ++ from_ended s (tail chunk_of end n)
  unfolding tail
  tail_step n s is count so_far = so_far ∙ rw (count, add-one, is) (ap (λ (l : List Chunk). seen ++ l) (tail_ended end (chunk_of place) (tail chunk_of end n)))

  pub tail_goes_on : (n : ℕ) (chunk : Chunk) → Some chunk ≡ ended_by end (chunk_of place) → m ≡ n + 1 → all ≡ seen ++ tail chunk_of end m place → all ≡ (seen ++ chunk ∷ []) ++ tail chunk_of end n chunk.next
  tail_goes_on n chunk is count so_far = tail_step n (Some chunk) is count so_far ∙ sym (append_assoc seen (chunk ∷ []) (tail chunk_of end n chunk.next))

  pub tail_ends : (n : ℕ) → None ≡ ended_by end (chunk_of place) → m ≡ n + 1 → all ≡ seen ++ tail chunk_of end m place → seen ≡ all
  tail_ends n is count so_far = sym (tail_step n None is count so_far ∙ append-nil seen)

  pub tail_is_full : m ≡ 0 → all ≡ seen ++ tail chunk_of end m place → seen ≡ all
  unfolding tail
  tail_is_full none so_far = sym (so_far ∙ rw none (append-nil seen))
