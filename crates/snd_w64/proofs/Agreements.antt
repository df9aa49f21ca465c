-- Files with the same bytes before their data, but for the fields, have layouts that say the same.
use Rattle.std.proofs.Common.{◌≡◌, ◌⊎◌, ℕ, ◌+◌, ◌-◌, ◌<◌, ◌≤◌, List, All, true, false, ◌||◌, Option, Some, Ok, length, get_or, refl, sym, ap, ◌∙◌, inl, inr, arith}
use Rattle.std.proofs.lemmas.Bool.{and_left, and_parts, and_right, cases_lt, le-leb, leb-true, le-ltb, lt-leb, lt-ltb, or_from}
use Rattle.std.proofs.lemmas.Slice.Eq.{bytes_eq-Decides}
use Rattle.std.specs.Prelude.{codes, nat_le, nat_lt}
use Rattle.snd_chunks.proofs.Public.{find_has, not_refused, Reaches, reaches, same_part, walks}
use Rattle.snd_chunks.specs.declared.chunk.Chunk.{Chunk}
use Rattle.snd_chunks.specs.declared.front.Ending.TheVariants.{AtSound}
use Rattle.snd_chunks.specs.declared.front.Front.{Front}
use Rattle.snd_layout.specs.Container.{is_in, is_in_fields, is_in_some}
use Rattle.snd_layout.specs.Format.{format_of}
use Rattle.snd_layout.specs.Params.{Parameters}
use Rattle.snd_layout.specs.Shape.{Shape}
use Rattle.snd_layout.specs.declared.field.Field.{Field}
use Rattle.snd_chunks.specs.Parts.{body_of, fact_chunk, format_chunk, has_id, is_fact, reached}
use Rattle.snd_w64.specs.Layout.{chunk_at, w64_front, w64_layout, w64_shape}
use Rattle.snd_w64.proofs.Chains.{IsApart, IsBetween, IsHead, SameHead, SaysNext, StandsIn, apart, head_at, in_order, is_head, same_chain, say_next, stands_in}
use Rattle.snd_w64.proofs.Opens.{Opens, opened}

-- a place that is not in a field lies before it or behind it
pub outside : (field : Field) (i : ℕ) → (i < field.at) ⊎ (field.at + field.size ≤ i) → is_in field i ≡ false
outside field i (inl before) = and_left (nat_le field.at i) (nat_lt i (field.at + field.size)) (lt-leb field.at i before)
outside field i (inr behind) = and_right (nat_le field.at i) (nat_lt i (field.at + field.size)) (le-ltb i (field.at + field.size) behind)

pub apart_of : (field : Field) (i : ℕ) → is_in field i ≡ false → (i < field.at) ⊎ (field.at + field.size ≤ i)
apart_of field i out = elim (cases_lt i field.at) [
  | inl before ↦ inl before
  | inr from ↦ elim (cases_lt i (field.at + field.size)) [
    | inl within ↦ absurd (let h = rw (le-leb field.at i from, lt-ltb i (field.at + field.size) within) at out in cc)
    | inr behind ↦ inr behind
  ]
]

pub out_of_fields : (h : Shape) (i : ℕ) → is_in h.inner i ≡ false → is_in_some h.outer i ≡ false → is_in_some h.side i ≡ false → is_in_fields h i ≡ false
out_of_fields h i inner outer side = or_from (is_in h.inner i || is_in_some h.outer i) (is_in_some h.side i) (or_from (is_in h.inner i) (is_in_some h.outer i) inner outer) side

-- the walk up to the data came to them
pub reached_sound : (b : List ℕ) (sound : Chunk) → (w64_front b).ending ≡ AtSound sound → Reaches (chunk_at b) (codes "data") (length b) 257 40 (w64_front b).chunks sound
unfolding w64_front
reached_sound b sound ends = reaches (chunk_at b) (codes "data") (length b) 257 40 (w64_front b) sound refl ends

-- a `fact` with its count, between the head of the whole and that of the data, with no gap behind a count alone
pub record StandsBefore (sound fact : Chunk) : Type 0 where
  pub behind : 64 ≤ fact.at
  pub count : 8 ≤ fact.len
  pub before : fact.at + fact.len + 24 ≤ sound.at
  pub joined : fact.len ≡ 8 → fact.next ≡ fact.at + 8

-- where the parts of a layout stand
pub record Stand (b : List ℕ) (sound : Chunk) : Type 0 where
  pub reach : Reaches (chunk_at b) (codes "data") (length b) 257 40 (w64_front b).chunks sound
  pub head : IsHead b reach.last sound
  pub at : sound.at ≡ reach.last + 24
  pub late : 40 ≤ reach.last
  pub fact : (f : Chunk) → fact_chunk 8 (w64_front b).chunks ≡ Some f → StandsBefore sound f

pub stand : (b : List ℕ) (sound : Chunk) → (w64_front b).ending ≡ AtSound sound → Stand b sound
stand b sound ends =
    let reach = reached_sound b sound ends in
    let head : IsHead b reach.last sound = is_head b reach.last sound reach.at in
    let at : sound.at ≡ reach.last + 24 = head_at b reach.last sound head in
    let ordered = in_order b (codes "data") (length b) 40 reach.last (w64_front b).chunks reach.chain in
    record {
      reach = reach;
      head = head;
      at = at;
      late = ordered.0;
      fact = λ f found.
          let between = find_has (is_fact 8) (IsBetween 40 reach.last) (w64_front b).chunks f ordered.1 found in
          let next : SaysNext f = (find_has (is_fact 8) SaysNext (w64_front b).chunks f (say_next b (codes "data") (length b) 40 5 reach.last (w64_front b).chunks refl reach.chain) found).0 in
          let count : 8 ≤ f.len = leb-true 8 f.len (and_parts (has_id (codes "fact") f) (nat_le 8 f.len) between.1).1 in
          record {
            behind = omega (arith, between.0.after);
            count = count;
            before = omega (arith, between.0.before, at);
            joined = λ eight. omega (arith, next.next, next.at, eight);
          };
    }

-- a place is not in the count of a `fact`
abbrev pub IsBeside : Option Chunk → ℕ → Type 0
IsBeside fact i = (f : Chunk) → fact ≡ Some f → (i < f.at) ⊎ (f.at + 8 ≤ i)

-- a file has the bytes of another before the data size, but for the size of the whole and the count
abbrev pub SameChunks : List ℕ → List ℕ → Chunk → Type 0
SameChunks x y sound = (i : ℕ) → 40 ≤ i → i < sound.at - 8 → IsBeside (fact_chunk 8 (w64_front y).chunks) i → get_or x i 0 ≡ get_or y i 0

-- the identifiers of a format and of a `fact` differ
not_both : (chunk : Chunk) → has_id (codes "fmt ") chunk ≡ true → is_fact 8 chunk ≡ true → ⊥
not_both chunk format fact =
    let one : chunk.id.0 ≡ codes "fmt " = (bytes_eq-Decides chunk.id.0 (codes "fmt ")).0 format in
    let other : chunk.id.0 ≡ codes "fact" = (bytes_eq-Decides chunk.id.0 (codes "fact")).0 (and_parts (has_id (codes "fact") chunk) (nat_le 8 chunk.len) fact).0 in
    let same : get_or (codes "fmt ") 1 0 ≡ get_or (codes "fact") 1 0 = ap (λ (l : List ℕ). get_or l 1 0) (sym one ∙ other) in
    omega (arith, same)

is_beside_head : (f chunk : Chunk) (i : ℕ) → IsApart f chunk → 8 ≤ f.len → chunk.at ≤ i + 24 → i < chunk.at → (i < f.at) ⊎ (f.at + 8 ≤ i)
is_beside_head f chunk i (inl same) count from to = inl (omega (arith, ap (λ (c : Chunk). c.at) same))
is_beside_head f chunk i (inr (inl before)) count from to = inl (omega arith)
is_beside_head f chunk i (inr (inr behind)) count from to = inr (omega arith)

is_beside_body : (f chunk : Chunk) (i : ℕ) → IsApart f chunk → (chunk ≡ f → ⊥) → 8 ≤ f.len → chunk.at ≤ i → i < chunk.at + chunk.len → (i < f.at) ⊎ (f.at + 8 ≤ i)
is_beside_body f chunk i (inl same) other count from to = absurd (other same)
is_beside_body f chunk i (inr (inl before)) other count from to = inl (omega arith)
is_beside_body f chunk i (inr (inr behind)) other count from to = inr (omega arith)

-- two files, of which one has a layout, and the other the same bytes before the data size
module _ (x y : List ℕ) (p : Parameters) (sound : Chunk) (same : SameChunks x y sound) (within : sound.at ≤ reached (length x)) (there : Stand y sound) where
  ordered : (40 ≤ there.reach.last) × All (IsBetween 40 there.reach.last) (w64_front y).chunks
  ordered = in_order y (codes "data") (length y) 40 there.reach.last (w64_front y).chunks there.reach.chain

  apart_from : (f : Chunk) → fact_chunk 8 (w64_front y).chunks ≡ Some f → All (IsApart f) (w64_front y).chunks
  apart_from f found = apart y (codes "data") (length y) 40 there.reach.last (w64_front y).chunks (is_fact 8) f there.reach.chain found

  heads_same : All (SameHead x y) (w64_front y).chunks
  heads_same k d lt i from to =
      let between : IsBetween 40 there.reach.last (get_or (w64_front y).chunks k d) = ordered.1 k d lt in
      same i (omega (arith, between.after)) (omega (arith, between.before, there.at))
      (λ f found. is_beside_head f (get_or (w64_front y).chunks k d) i (apart_from f found k d lt) (there.fact f found).count from to)

  pub sound_same : StandsIn x there.reach.last sound
  sound_same = stands_in x y there.reach.last sound there.reach.at there.reach.is (omega (arith, there.at))
      (λ i from to. same i (omega (arith, ordered.0)) (omega (arith, there.at)) (λ f found. inr (omega (arith, (there.fact f found).before, (there.fact f found).count, there.at))))

  pub front_same : w64_front x ≡ record { chunks = (w64_front y).chunks; ending = AtSound sound_same.chunk }
  unfolding w64_front
  front_same =
      walks (chunk_at x) (codes "data") (length x) 257 40 (w64_front y).chunks there.reach.last sound_same.chunk
      (same_chain x y (codes "data") 40 there.reach.last (w64_front y).chunks there.reach.chain (omega (arith, there.at)) heads_same)
      sound_same.is (rw sound_same.id there.reach.is) there.reach.few

  body_same : (format : Chunk) → format_chunk (w64_front y).chunks ≡ Some format → body_of x format ≡ body_of y format
  body_same format found =
      let has = find_has (has_id (codes "fmt ")) (IsBetween 40 there.reach.last) (w64_front y).chunks format ordered.1 found in
      same_part format.len format.at x y (omega (arith, has.0.before, there.at)) (omega (arith, has.0.before, there.at, there.head.within))
      (λ i from to. same i (omega (arith, has.0.after)) (omega (arith, has.0.before, there.at)) (λ f fact.
      let beside = (find_has (has_id (codes "fmt ")) (IsApart f) (w64_front y).chunks format (apart_from f fact) found).0 in
      let fact_is = (find_has (is_fact 8) (IsBetween 40 there.reach.last) (w64_front y).chunks f ordered.1 fact).1 in
      is_beside_body f format i beside (λ both. not_both f (rw both at has.1) fact_is) (there.fact f fact).count from to))

  pub lays : (h : Shape) (from : Opens y (w64_front y) h) → from.sound ≡ sound → from.params ≡ p → w64_layout x ≡ Ok (w64_shape x (w64_front y) p sound_same.chunk)
  lays h from sound_is params_is =
      let chunks_are : (w64_front x).chunks ≡ (w64_front y).chunks = ap (λ (f : Front). f.chunks) front_same in
      let ends_too : (w64_front x).ending ≡ AtSound sound_same.chunk = ap (λ (f : Front). f.ending) front_same in
      opened x (w64_shape x (w64_front y) p sound_same.chunk) (record {
        format = from.format;
        sound = sound_same.chunk;
        params = p;
        no_refusal = not_refused (w64_front y) (w64_front x) from.sound sound_same.chunk from.no_refusal from.sound_is ends_too chunks_are;
        format_is = rw chunks_are from.format_is;
        sound_is = ends_too;
        params_are = ap format_of (body_same from.format from.format_is) ∙ from.params_are ∙ ap (λ (q : Parameters). Ok q) params_is;
        shape = rw chunks_are refl;
      })
