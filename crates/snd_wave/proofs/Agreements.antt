-- Files with the same bytes before their data, but for the numbers, have layouts that say the same.
use Rattle.std.proofs.Common.{◌≡◌, ◌⊎◌, ℕ, ◌+◌, ◌-◌, ◌<◌, ◌≤◌, List, [], ◌∷◌, ◌++◌, All, true, false, not, ◌&&◌, Option, None, Some, Ok, length, get_or, refl, sym, ap, ◌∙◌, inl, inr, arith}
use Rattle.std.proofs.lemmas.Bool.{and_left, and_parts, and_right, cases_Bool, leb-true, le-ltb, lt-leb, or_from}
use Rattle.std.proofs.lemmas.List.{append-nil}
use Rattle.std.proofs.lemmas.List.Elements.{filter-append}
use Rattle.std.proofs.lemmas.Slice.Eq.{bytes_eq-Decides}
use Rattle.std.specs.List.{filter}
use Rattle.std.specs.Prelude.{codes, nat_le, nat_lt}
use Rattle.snd_chunks.proofs.Public.{apart, find_has, in_order, is_head, IsApart, IsBetween, IsHead, not_refused, Reaches, same_chain, same_part, SameHead as SameBytes, stands_in, StandsIn, walks}
use Rattle.snd_chunks.specs.declared.chunk.Chunk.{Chunk}
use Rattle.snd_chunks.specs.declared.front.Ending.TheVariants.{AtSound}
use Rattle.snd_chunks.specs.declared.front.Front.{Front}
use Rattle.snd_chunks.specs.Chunks.{chunk_at}
use Rattle.snd_fields.specs.declared.field.Order.TheVariants.{Little}
use Rattle.snd_layout.specs.Blocks.{is_adpcm}
use Rattle.snd_layout.specs.Container.{is_in_some}
use Rattle.snd_layout.specs.Format.{format_of}
use Rattle.snd_layout.specs.Params.{Parameters}
use Rattle.snd_layout.specs.Shape.{Shape}
use Rattle.snd_layout.specs.declared.piece.Piece.{Piece}
use Rattle.snd_chunks.specs.Parts.{body_of, fact_chunk, format_chunk, front_refusal, has_id, inner_field, is_fact, is_joined, side_field}
use Rattle.snd_wave.specs.Layout.{is_own, piece_of, pieces_of, reserve_of, wave_front, wave_shape, wave_tail}
use Rattle.snd_wave.proofs.LayoutFacts.{LayoutsAgree, SameButNumbers, SameHead, is_among, is_number}
use Rattle.snd_wave.proofs.Counts.{reached}
use Rattle.snd_wave.proofs.Opens.{Opens, opened, opens}

-- a place is not in the count of a `fact`
abbrev pub IsBeside : Option Chunk → ℕ → Type 0
IsBeside fact i = (f : Chunk) → fact ≡ Some f → (i < f.at) ⊎ (f.at + 4 ≤ i)

pub outside : (at size i : ℕ) → (i < at) ⊎ (at + size ≤ i) → is_among at size i ≡ false
outside at size i (inl before) = and_left (nat_le at i) (nat_lt i (at + size)) (lt-leb at i before)
outside at size i (inr behind) = and_right (nat_le at i) (nat_lt i (at + size)) (le-ltb i (at + size) behind)

pub side_is : (p : Parameters) (fact : Option Chunk) (i : ℕ) → IsBeside fact i → is_in_some (side_field 4 p fact) i ≡ false
side_is p None i beside = elim (cases_Bool (is_adpcm p.codec)) [ inl is ↦ rw is refl | inr other ↦ rw other refl ]
side_is p (Some fact) i beside = elim (cases_Bool (is_adpcm p.codec)) [
  | inl is ↦ rw is refl
  | inr other ↦ rw other (outside fact.at 4 i (beside fact refl))
]

inner_is : (p : Parameters) (fact : Option Chunk) (sound : Chunk) (i : ℕ) → IsBeside fact i → i < sound.at - 4 → is_among (inner_field 4 8 p fact sound).at 4 i ≡ false
inner_is p None sound i beside before = elim (cases_Bool (is_adpcm p.codec)) [
  | inl is ↦ rw is (outside (sound.at - 4) 4 i (inl before))
  | inr other ↦ rw other (outside (sound.at - 4) 4 i (inl before))
]
inner_is p (Some fact) sound i beside before = elim (cases_Bool (is_adpcm p.codec && is_joined 4 8 (Some fact) sound)) [
  | inl both ↦ rw both (outside fact.at 4 i (beside fact refl))
  | inr other ↦ rw other (outside (sound.at - 4) 4 i (inl before))
]

-- a place between the size of the whole and that of the data, and beside the count, is not in a number
clear : (b : List ℕ) (seen : Front) (p : Parameters) (sound : Chunk) (i : ℕ) → 8 ≤ i → i < sound.at - 4 → IsBeside (fact_chunk 4 seen.chunks) i → is_number (wave_shape b seen p sound) i ≡ false
clear b seen p sound i behind before beside =
    or_from _ _ (or_from _ _ (or_from _ _ (outside 4 4 i (inr behind)) (side_is p (fact_chunk 4 seen.chunks) i beside)) (inner_is p (fact_chunk 4 seen.chunks) sound i beside before)) (outside (sound.at - 4) 4 i (inl before))

-- the identifiers of a format and of a `fact` differ
not_both : (chunk : Chunk) → has_id (codes "fmt ") chunk ≡ true → is_fact 4 chunk ≡ true → ⊥
not_both chunk format fact =
    let one : chunk.id.0 ≡ codes "fmt " = (bytes_eq-Decides chunk.id.0 (codes "fmt ")).0 format in
    let other : chunk.id.0 ≡ codes "fact" = (bytes_eq-Decides chunk.id.0 (codes "fact")).0 (and_parts (has_id (codes "fact") chunk) (nat_le 4 chunk.len) fact).0 in
    let same : get_or (codes "fmt ") 1 0 ≡ get_or (codes "fact") 1 0 = ap (λ (l : List ℕ). get_or l 1 0) (sym one ∙ other) in
    omega (arith, same)

is_beside_head : (f chunk : Chunk) (i : ℕ) → IsApart f chunk → 4 ≤ f.len → chunk.at ≤ i + 8 → i < chunk.at → (i < f.at) ⊎ (f.at + 4 ≤ i)
is_beside_head f chunk i (inl same) count from to = inl (omega (arith, ap (λ (c : Chunk). c.at) same))
is_beside_head f chunk i (inr (inl before)) count from to = inl (omega arith)
is_beside_head f chunk i (inr (inr behind)) count from to = inr (omega arith)

is_beside_body : (f chunk : Chunk) (i : ℕ) → IsApart f chunk → (chunk ≡ f → ⊥) → 4 ≤ f.len → chunk.at ≤ i → i < chunk.at + chunk.len → (i < f.at) ⊎ (f.at + 4 ≤ i)
is_beside_body f chunk i (inl same) other count from to = absurd (other same)
is_beside_body f chunk i (inr (inl before)) other count from to = inl (omega arith)
is_beside_body f chunk i (inr (inr behind)) other count from to = inr (omega arith)

-- the pieces before the data are those of the chunks before them
before_stay : (chunks : List Chunk) → filter (λ (piece : Piece). not piece.after) (pieces_of false chunks) ≡ pieces_of false chunks
before_stay [] = refl
before_stay (chunk ∷ chunks) = elim (cases_Bool (is_own chunk)) [
  | inl own ↦ rw own (before_stay chunks)
  | inr other ↦ rw other (ap (λ (l : List Piece). piece_of false chunk ∷ l) (before_stay chunks))
]

behind_go : (chunks : List Chunk) → filter (λ (piece : Piece). not piece.after) (pieces_of true chunks) ≡ []
behind_go [] = refl
behind_go (chunk ∷ chunks) = elim (cases_Bool (is_own chunk)) [
  | inl own ↦ rw own (behind_go chunks)
  | inr other ↦ rw other (behind_go chunks)
]

pub before_is : (chunks after : List Chunk) → filter (λ (piece : Piece). not piece.after) (pieces_of false chunks ++ pieces_of true after) ≡ pieces_of false chunks
before_is chunks after =
    filter-append (λ (piece : Piece). not piece.after) (pieces_of false chunks) (pieces_of true after)
    ∙ ap (λ (l : List Piece). l ++ filter (λ (piece : Piece). not piece.after) (pieces_of true after)) (before_stay chunks)
    ∙ ap (λ (l : List Piece). pieces_of false chunks ++ l) (behind_go after) ∙ append-nil (pieces_of false chunks)

inner_same : (p : Parameters) (fact : Option Chunk) (sound sound' : Chunk) → sound'.at ≡ sound.at → inner_field 4 8 p fact sound' ≡ inner_field 4 8 p fact sound
inner_same p None sound sound' at = rw at refl
inner_same p (Some fact) sound sound' at = rw at refl

says_same : (x y : List ℕ) (seen seen' : Front) (p : Parameters) (sound sound' : Chunk) → seen'.chunks ≡ seen.chunks → sound'.at ≡ sound.at → SameHead (wave_shape y seen p sound) (wave_shape x seen' p sound')
says_same x y seen seen' p sound sound' chunks at = record {
  kind = refl;
  params = refl;
  start = at;
  inner = rw chunks (inner_same p (fact_chunk 4 seen.chunks) sound sound' at);
  outer = refl;
  side = rw chunks refl;
  reserve = ap (reserve_of p) chunks;
  pieces = before_is seen'.chunks (wave_tail x seen' sound') ∙ ap (pieces_of false) chunks ∙ sym (before_is seen.chunks (wave_tail y seen sound));
}

-- two files, of which one has a layout, and the other the same bytes before the data but for the numbers
module _ (x y : List ℕ) (p : Parameters) (sound : Chunk) (same : SameButNumbers (wave_shape y (wave_front y) p sound) x y) (within : sound.at ≤ length x)
    (reach : Reaches (chunk_at Little y) (codes "data") (length y) 257 12 (wave_front y).chunks sound) where
  bytes_same : (i : ℕ) → 8 ≤ i → i < sound.at - 4 → IsBeside (fact_chunk 4 (wave_front y).chunks) i → get_or x i 0 ≡ get_or y i 0
  bytes_same i behind before beside = same i (omega arith) (clear y (wave_front y) p sound i behind before beside)

  sound_at : sound.at ≡ reach.last + 8
  sound_at = (is_head Little y reach.last sound reach.at).at

  ordered : (12 ≤ reach.last) × All (IsBetween 12 reach.last) (wave_front y).chunks
  ordered = in_order Little y (codes "data") (length y) 12 reach.last (wave_front y).chunks reach.chain

  counted : (f : Chunk) → fact_chunk 4 (wave_front y).chunks ≡ Some f → 4 ≤ f.len
  counted f found =
      let has = find_has (is_fact 4) (IsBetween 12 reach.last) (wave_front y).chunks f ordered.1 found in
      leb-true 4 f.len (and_parts (has_id (codes "fact") f) (nat_le 4 f.len) has.1).1

  apart_from : (f : Chunk) → fact_chunk 4 (wave_front y).chunks ≡ Some f → All (IsApart f) (wave_front y).chunks
  apart_from f found = apart Little y (codes "data") (length y) 12 reach.last (wave_front y).chunks (is_fact 4) f reach.chain found

  heads_same : All (SameBytes x y) (wave_front y).chunks
  heads_same k d lt i from to =
      let between : IsBetween 12 reach.last (get_or (wave_front y).chunks k d) = ordered.1 k d lt in
      bytes_same i (omega (arith, between.after)) (omega (arith, between.before, sound_at))
      (λ f found. is_beside_head f (get_or (wave_front y).chunks k d) i (apart_from f found k d lt) (counted f found) from to)

  pub sound_same : StandsIn Little x reach.last sound
  sound_same = stands_in Little x y reach.last sound reach.at (omega (arith, sound_at))
      (λ i from to. bytes_same i (omega (arith, ordered.0)) (omega (arith, sound_at)) (λ f found.
      let has = find_has (is_fact 4) (IsBetween 12 reach.last) (wave_front y).chunks f ordered.1 found in
      inr (omega (arith, has.0.before, counted f found))))

  pub front_same : wave_front x ≡ record { chunks = (wave_front y).chunks; ending = AtSound sound_same.chunk }
  unfolding wave_front
  front_same =
      walks (chunk_at Little x) (codes "data") (length x) 257 12 (wave_front y).chunks reach.last sound_same.chunk
      (same_chain Little x y (codes "data") 12 reach.last (wave_front y).chunks reach.chain (omega (arith, sound_at)) heads_same)
      sound_same.is (rw sound_same.id reach.is) reach.few

  body_same : (format : Chunk) → format_chunk (wave_front y).chunks ≡ Some format → body_of x format ≡ body_of y format
  body_same format found =
      let has = find_has (has_id (codes "fmt ")) (IsBetween 12 reach.last) (wave_front y).chunks format ordered.1 found in
      let head : IsHead Little y reach.last sound = is_head Little y reach.last sound reach.at in
      same_part format.len format.at x y (omega (arith, has.0.before, sound_at)) (omega (arith, has.0.before, head.within))
      (λ i from to. bytes_same i (omega (arith, has.0.after)) (omega (arith, has.0.before, sound_at)) (λ f fact.
      let beside = (find_has (has_id (codes "fmt ")) (IsApart f) (wave_front y).chunks format (apart_from f fact) found).0 in
      let fact_is = (find_has (is_fact 4) (IsBetween 12 reach.last) (wave_front y).chunks f ordered.1 fact).1 in
      is_beside_body f format i beside (λ both. not_both f (rw both at has.1) fact_is) (counted f fact) from to))

  pub opens_too : (format : Chunk) → front_refusal (wave_front y) ≡ None → format_chunk (wave_front y).chunks ≡ Some format → (wave_front y).ending ≡ AtSound sound → format_of (body_of y format) ≡ Ok p
      → Opens x (wave_front x) (wave_shape x (wave_front x) p sound_same.chunk)
  opens_too format none found ends read =
      let chunks_are : (wave_front x).chunks ≡ (wave_front y).chunks = ap (λ (f : Front). f.chunks) front_same in
      let ends_too : (wave_front x).ending ≡ AtSound sound_same.chunk = ap (λ (f : Front). f.ending) front_same in
      record {
        format = format;
        sound = sound_same.chunk;
        params = p;
        no_refusal = not_refused (wave_front y) (wave_front x) sound sound_same.chunk none ends ends_too chunks_are;
        format_is = rw chunks_are found;
        sound_is = ends_too;
        params_are = ap format_of (body_same format found) ∙ read;
        shape = refl;
      }

  says_too : SameHead (wave_shape y (wave_front y) p sound) (wave_shape x (wave_front x) p sound_same.chunk)
  says_too = says_same x y (wave_front y) (wave_front x) p sound sound_same.chunk (ap (λ (f : Front). f.chunks) front_same) sound_same.at

said : (h s other : Shape) → h ≡ s → SameHead s other → SameHead h other
said h s other is same = rw is same

pub layouts_agree : LayoutsAgree
layouts_agree x y h is within same =
    let from : Opens y (wave_front y) h = opens y h is in
    let within_too : from.sound.at ≤ length x = rw from.shape at within in
    let same_too : SameButNumbers (wave_shape y (wave_front y) from.params from.sound) x y = rw from.shape at same in
    let reach = reached y from.sound from.sound_is in
    let there = sound_same x y from.params from.sound same_too within_too reach in (
      wave_shape x (wave_front x) from.params there.chunk,
      opened x (wave_shape x (wave_front x) from.params there.chunk) (opens_too x y from.params from.sound same_too within_too reach from.format from.no_refusal from.format_is from.sound_is from.params_are),
      said h (wave_shape y (wave_front y) from.params from.sound) (wave_shape x (wave_front x) from.params there.chunk) from.shape (says_too x y from.params from.sound same_too within_too reach),
    )
