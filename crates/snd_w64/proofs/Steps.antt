-- The steps of the walk.
use Rattle.std.proofs.Common.{◌≡◌, ℕ, ◌+◌, ◌*◌, List, [], ◌∷◌, ◌++◌, Option, None, Some, refl, sym, ap, ◌∙◌, append_assoc, add-one, arith, inl, inr, length}
use Rattle.std.proofs.lemmas.Bool.{cases_Bool}
use Rattle.std.proofs.lemmas.List.{append-nil}
use Rattle.std.specs.Prelude.{codes, nat_le}
use Rattle.std.specs.Str.{bytes_eq}
use Rattle.snd_disk.specs.State.{AtMost}
use Rattle.snd_chunks.specs.declared.chunk.Chunk.{Chunk}
use Rattle.snd_chunks.specs.declared.front.Front.{Front}
use Rattle.snd_chunks.specs.declared.front.Ending.TheVariants.{AtSound, Cut, TooMany}
use Rattle.snd_chunks.specs.Chunks.{behind, front, front_from}
use Rattle.snd_w64.specs.declared.seen.Seen.{Seen}
use Rattle.snd_w64.specs.declared.seen.Seen.TheVariants.{Sound, Whole, Nothing}
use Rattle.snd_w64.specs.Layout.{chunk_at, w64_front}
use Rattle.snd_w64.specs.Parts.{seen_of}

-- what a walk saw, and then the walk from there on
abbrev pub after : List Chunk → Front → Front
after seen f = record { chunks = seen ++ f.chunks; ending = f.ending }

-- the walk from what it sees at one place
abbrev from_seen : Seen → (ℕ → Front) → Front
from_seen (Sound chunk) rest = record { chunks = []; ending = AtSound chunk }
from_seen (Whole chunk) rest = behind chunk (rest chunk.next)
from_seen Nothing rest = record { chunks = []; ending = Cut }

from_chunk : (end : ℕ) (chunk : Option Chunk) (rest : ℕ → Front) → front_from (codes "data") end chunk rest ≡ from_seen (seen_of end chunk) rest
from_chunk end None rest = refl
from_chunk end (Some chunk) rest = elim (cases_Bool (bytes_eq chunk.id.0 (codes "data"))) [
  | inl is ↦ rw is refl
  | inr other ↦ elim (cases_Bool (nat_le (chunk.at + chunk.len) end)) [
    | inl ends ↦ rw (other, ends) refl
    | inr runs ↦ rw (other, runs) refl
  ]
]

-- what is left of the walk at a place
pub record IsLeft (b : List ℕ) (seen : List Chunk) (m place : ℕ) : Type 0 where
  pub is : w64_front b ≡ after seen (front (chunk_at b) (codes "data") (length b) m place)

pub begins : (b : List ℕ) → IsLeft b [] 257 40
unfolding w64_front
begins b = record { is = refl }

module _ (chunk_of : ℕ → Option Chunk) (end : ℕ) (all : Front) (seen : List Chunk) (m place : ℕ) where
  step : (n : ℕ) (s : Seen) → s ≡ seen_of end (chunk_of place) → m ≡ n + 1 → all ≡ after seen (front chunk_of (codes "data") end m place) → all ≡ after seen (from_seen s (front chunk_of (codes "data") end n))
  unfolding front
  step n s is count so_far = so_far ∙ rw (count, add-one, is) (ap (after seen) (from_chunk end (chunk_of place) (front chunk_of (codes "data") end n)))

  on : (n : ℕ) (chunk : Chunk) → Whole chunk ≡ seen_of end (chunk_of place) → m ≡ n + 1 → all ≡ after seen (front chunk_of (codes "data") end m place) → all ≡ after (seen ++ chunk ∷ []) (front chunk_of (codes "data") end n chunk.next)
  on n chunk is count so_far = step n (Whole chunk) is count so_far ∙ ap (λ (l : List Chunk). record { chunks = l; ending = (front chunk_of (codes "data") end n chunk.next).ending }) (sym (append_assoc seen (chunk ∷ []) (front chunk_of (codes "data") end n chunk.next).chunks))

  at_sound : (n : ℕ) (chunk : Chunk) → Sound chunk ≡ seen_of end (chunk_of place) → m ≡ n + 1 → all ≡ after seen (front chunk_of (codes "data") end m place) → record { chunks = seen; ending = AtSound chunk } ≡ all
  at_sound n chunk is count so_far = sym (step n (Sound chunk) is count so_far ∙ ap (λ (l : List Chunk). record { chunks = l; ending = AtSound chunk }) (append-nil seen))

  cut : (n : ℕ) → Nothing ≡ seen_of end (chunk_of place) → m ≡ n + 1 → all ≡ after seen (front chunk_of (codes "data") end m place) → record { chunks = seen; ending = Cut } ≡ all
  cut n is count so_far = sym (step n Nothing is count so_far ∙ ap (λ (l : List Chunk). record { chunks = l; ending = Cut }) (append-nil seen))

  too_many : m ≡ 0 → all ≡ after seen (front chunk_of (codes "data") end m place) → record { chunks = seen; ending = TooMany } ≡ all
  unfolding front
  too_many none so_far = sym (so_far ∙ rw none (ap (λ (l : List Chunk). record { chunks = l; ending = TooMany }) (append-nil seen)))

module _ (b : List ℕ) (seen : List Chunk) (m place : ℕ) (left : IsLeft b seen m place) where
  pub goes_on : (n : ℕ) (chunk : Chunk) → Whole chunk ≡ seen_of (length b) (chunk_at b place) → m ≡ n + 1 → IsLeft b (seen ++ chunk ∷ []) n chunk.next
  goes_on n chunk is count = record { is = on (chunk_at b) (length b) (w64_front b) seen m place n chunk is count left.is }

  pub ends_at_sound : (n : ℕ) (chunk : Chunk) → Sound chunk ≡ seen_of (length b) (chunk_at b place) → m ≡ n + 1 → record { chunks = seen; ending = AtSound chunk } ≡ w64_front b
  ends_at_sound n chunk is count = at_sound (chunk_at b) (length b) (w64_front b) seen m place n chunk is count left.is

  pub ends_cut : (n : ℕ) → Nothing ≡ seen_of (length b) (chunk_at b place) → m ≡ n + 1 → record { chunks = seen; ending = Cut } ≡ w64_front b
  ends_cut n is count = cut (chunk_at b) (length b) (w64_front b) seen m place n is count left.is

  pub ends_too_many : m ≡ 0 → record { chunks = seen; ending = TooMany } ≡ w64_front b
  ends_too_many none = too_many (chunk_at b) (length b) (w64_front b) seen m place none left.is

-- 24 bytes for one more head
pub asked_more : (a b c n : ℕ) → AtMost a (24 * n) b → AtMost b 24 c → AtMost a (24 * (n + 1)) c
asked_more a b c n first second = record { later = omega (arith, first.later, second.later); most = omega (arith, first.most, second.most) }
