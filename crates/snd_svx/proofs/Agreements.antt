-- Files that agree before their data, but for the fields, are read as the same chunks.
use Rattle.std.proofs.Common.{◌≡◌, ◌⊎◌, ℕ, ◌+◌, ◌-◌, ◌<◌, ◌≤◌, List, [], ◌∷◌, All, Bool, true, false, ◌&&◌, ◌||◌, None, Some, Ok, length, get_or, refl, sym, ap, ◌∙◌, inl, inr, arith}
use Rattle.std.proofs.lemmas.Bool.{and_left, and_right, cases_Bool, le-ltb, leb-true, lt-leb, or_from}
use Rattle.std.proofs.lemmas.List.Elements.{All-head, All-tail}
use Rattle.std.proofs.lemmas.Slice.Eq.{bytes_eq-Decides}
use Rattle.std.specs.List.{list_any}
use Rattle.std.specs.Prelude.{Result, codes, nat_le, nat_lt, ◌==◌}
use Rattle.snd_chunks.proofs.Public.{apart, find_has, in_order, is_head, IsApart, IsBetween, IsHead, Reaches, same_chain, same_number_at, SameHead as SameBytes, stands_in, StandsIn, walks}
use Rattle.snd_chunks.specs.declared.chunk.Chunk.{Chunk}
use Rattle.snd_chunks.specs.declared.front.Ending.TheVariants.{AtSound}
use Rattle.snd_chunks.specs.declared.front.Front.{Front}
use Rattle.snd_chunks.specs.Chunks.{chunk_at}
use Rattle.snd_fields.specs.Field.{number}
use Rattle.snd_fields.specs.declared.field.Order.TheVariants.{Big}
use Rattle.snd_layout.specs.Container.{KeepsHead, is_in, is_in_fields, is_in_some}
use Rattle.snd_layout.specs.Refusals.{unless}
use Rattle.snd_layout.specs.Shape.{Shape}
use Rattle.snd_layout.specs.declared.field.Field.{Field}
use Rattle.snd_layout.specs.declared.refusal.OpenRefusal.{OpenRefusal}
use Rattle.snd_chunks.specs.Parts.{has_id}
use Rattle.snd_svx.specs.declared.header.Header.{Header}
use Rattle.snd_svx.specs.Layout.{front_refusal, header_chunk, header_of, is_header, is_pair, svx_front, svx_layout, svx_shape, voice_of, voice_refusal}
use Rattle.snd_svx.proofs.Layouts.{reached}
use Rattle.snd_svx.proofs.Opens.{Opens, not_refused, opened, opens, refused}

-- ---- where the parts of a layout stand

pub record Stands (b : List ℕ) (chunk sound : Chunk) : Type 0 where
  pub reach : Reaches (chunk_at Big b) (codes "BODY") (length b) 257 12 (svx_front b).chunks sound
  pub found : header_chunk (svx_front b).chunks ≡ Some chunk
  pub long : 20 ≤ chunk.len
  pub behind : 20 ≤ chunk.at
  pub before : chunk.at + chunk.len + 8 ≤ sound.at
  pub within : sound.at ≤ length b
  pub size : sound.len ≡ number Big b (sound.at - 4) 4

long_header : (front : Front) (chunk sound : Chunk) → front_refusal front ≡ None → header_chunk front.chunks ≡ Some chunk → front.ending ≡ AtSound sound → 20 ≤ chunk.len
long_header front chunk sound none found ends = elim (cases_Bool (nat_le 20 chunk.len)) [
  | inl long ↦ leb-true 20 chunk.len long
  | inr short ↦ absurd (let is = refused false sound front ends (ap is_header found ∙ short) in let both = sym none ∙ is in cc)
]

pub stands : (b : List ℕ) (h : Shape) (from : Opens b (svx_front b) h) → Stands b from.chunk from.sound
stands b h from =
    let reach = reached b from.sound from.sound_is in
    let head : IsHead Big b reach.last from.sound = is_head Big b reach.last from.sound reach.at in
    let ordered = in_order Big b (codes "BODY") (length b) 12 reach.last (svx_front b).chunks reach.chain in
    let lies : IsBetween 12 reach.last from.chunk = (find_has (has_id (codes "VHDR")) (IsBetween 12 reach.last) (svx_front b).chunks from.chunk ordered.1 from.chunk_is).0 in
    let place : reach.last + 4 ≡ from.sound.at - 4 = omega (arith, head.at) in
    record {
      reach = reach;
      found = from.chunk_is;
      long = long_header (svx_front b) from.chunk from.sound from.no_refusal from.chunk_is from.sound_is;
      behind = omega (arith, lies.after);
      before = omega (arith, lies.before, head.at);
      within = omega (arith, head.at, head.within);
      size = head.len ∙ ap (λ k. number Big b k 4) place;
    }

-- ---- places beside the fields

pub outside : (field : Field) (i : ℕ) → (i < field.at) ⊎ (field.at + field.size ≤ i) → is_in field i ≡ false
outside field i (inl before) = and_left (nat_le field.at i) (nat_lt i (field.at + field.size)) (lt-leb field.at i before)
outside field i (inr behind) = and_right (nat_le field.at i) (nat_lt i (field.at + field.size)) (le-ltb i (field.at + field.size) behind)

pub out_of_fields : (h : Shape) (i : ℕ) → is_in h.inner i ≡ false → is_in_some h.outer i ≡ false → is_in_some h.side i ≡ false → is_in_fields h i ≡ false
out_of_fields h i inner outer side = or_from (is_in h.inner i || is_in_some h.outer i) (is_in_some h.side i) (or_from (is_in h.inner i) (is_in_some h.outer i) inner outer) side

-- a file has the bytes of another before the data, but for the sizes of the whole and of the body, and the one-shot samples
abbrev pub SameBeside : List ℕ → List ℕ → Chunk → Chunk → Type 0
SameBeside x y chunk sound = (i : ℕ) → 8 ≤ i → i < sound.at - 4 → (i < chunk.at) ⊎ (chunk.at + 4 ≤ i) → get_or x i 0 ≡ get_or y i 0

pub same_beside : (x y : List ℕ) (f : Front) (header : Header) (chunk sound : Chunk) → KeepsHead (svx_shape y f header chunk sound) y x → SameBeside x y chunk sound
same_beside x y f header chunk sound keeps i from to beside =
    keeps i (omega (arith, to)) (out_of_fields (svx_shape y f header chunk sound) i
    (outside (record { at = sound.at - 4; size = 4 }) i (inl to)) (outside (record { at = 4; size = 4 }) i (inr from)) (outside (record { at = chunk.at; size = 4 }) i beside))

beside_head : (f chunk : Chunk) (i : ℕ) → IsApart f chunk → 4 ≤ f.len → chunk.at ≤ i + 8 → i < chunk.at → (i < f.at) ⊎ (f.at + 4 ≤ i)
beside_head f chunk i (inl same) count from to = inl (omega (arith, ap (λ (c : Chunk). c.at) same, to))
beside_head f chunk i (inr (inl before)) count from to = inl (omega (arith, before, to))
beside_head f chunk i (inr (inr behind)) count from to = inr (omega (arith, behind, count, from))

beside_body : (f chunk : Chunk) (i : ℕ) → IsApart f chunk → (chunk ≡ f → ⊥) → 4 ≤ f.len → chunk.at ≤ i → i < chunk.at + chunk.len → (i < f.at) ⊎ (f.at + 4 ≤ i)
beside_body f chunk i (inl same) other count from to = absurd (other same)
beside_body f chunk i (inr (inl before)) other count from to = inl (omega (arith, before, to))
beside_body f chunk i (inr (inr behind)) other count from to = inr (omega (arith, behind, count, from))

-- the identifiers of a voice header and of a channel chunk differ
not_both : (chunk : Chunk) → has_id (codes "VHDR") chunk ≡ true → has_id (codes "CHAN") chunk ≡ true → ⊥
not_both chunk header channel =
    let one : chunk.id.0 ≡ codes "VHDR" = (bytes_eq-Decides chunk.id.0 (codes "VHDR")).0 header in
    let other : chunk.id.0 ≡ codes "CHAN" = (bytes_eq-Decides chunk.id.0 (codes "CHAN")).0 channel in
    let same : get_or (codes "VHDR") 0 0 ≡ get_or (codes "CHAN") 0 0 = ap (λ (l : List ℕ). get_or l 0 0) (sym one ∙ other) in
    omega (arith, same)

any_same : (f g : Chunk → Bool) (chunks : List Chunk) → All (λ c. f c ≡ g c) chunks → list_any f chunks ≡ list_any g chunks
any_same f g [] all = refl
any_same f g (c ∷ chunks) all =
    let here : f c ≡ g c = All-head (λ (k : Chunk). f k ≡ g k) c chunks all in
    ap (λ (t : Bool). t || list_any f chunks) here ∙ ap (λ (t : Bool). g c || t) (any_same f g chunks (All-tail (λ (k : Chunk). f k ≡ g k) c chunks all))

header_made : (rate rate' octaves octaves' compression compression' : ℕ) → rate ≡ rate' → octaves ≡ octaves' → compression ≡ compression'
    → ◌≡◌ {A = Header} (record { rate = rate; octaves = octaves; compression = compression }) (record { rate = rate'; octaves = octaves'; compression = compression' })
header_made rate rate' octaves octaves' compression compression' one two three = rw (one, two, three) refl

abbrev pub voice_by : Bool → Header → Result Header OpenRefusal
voice_by pair header = unless (voice_refusal pair header) header

abbrev pair_of : Bool → Bool → ℕ → Bool
pair_of named long n = named && (long && (n == 6))

-- ---- the chunks of the other file

module _ (x y : List ℕ) (chunk sound : Chunk) (there : Stands y chunk sound) (within : sound.at ≤ length x) (same : SameBeside x y chunk sound) where
  abbrev chunks : List Chunk
  chunks = (svx_front y).chunks

  abbrev last : ℕ
  last = there.reach.last

  head : IsHead Big y last sound
  head = is_head Big y last sound there.reach.at

  ordered : (12 ≤ last) × All (IsBetween 12 last) chunks
  ordered = in_order Big y (codes "BODY") (length y) 12 last chunks there.reach.chain

  named : has_id (codes "VHDR") chunk ≡ true
  named = (find_has (has_id (codes "VHDR")) (IsBetween 12 last) chunks chunk ordered.1 there.found).1

  apart_from : All (IsApart chunk) chunks
  apart_from = apart Big y (codes "BODY") (length y) 12 last chunks (has_id (codes "VHDR")) chunk there.reach.chain there.found

  heads_same : All (SameBytes x y) chunks
  heads_same k d lt i from to =
      let between : IsBetween 12 last (get_or chunks k d) = ordered.1 k d lt in
      same i (omega (arith, between.after, from)) (omega (arith, between.before, head.at, to)) (beside_head chunk (get_or chunks k d) i (apart_from k d lt) (omega (arith, there.long)) from to)

  pub sound_same : StandsIn Big x last sound
  sound_same = stands_in Big x y last sound there.reach.at (omega (arith, head.at, within))
      (λ i from to. same i (omega (arith, from, ordered.0)) (omega (arith, to, head.at)) (inr (omega (arith, there.before, there.long, head.at, from))))

  pub front_same : svx_front x ≡ record { chunks = (svx_front y).chunks; ending = AtSound sound_same.chunk }
  unfolding svx_front
  front_same =
      walks (chunk_at Big x) (codes "BODY") (length x) 257 12 chunks last sound_same.chunk
      (same_chain Big x y (codes "BODY") 12 last chunks there.reach.chain (omega (arith, head.at, within)) heads_same)
      sound_same.is (rw sound_same.id there.reach.is) there.reach.few

  header_same : header_of x chunk ≡ header_of y chunk
  header_same =
      let at_place : (i : ℕ) → chunk.at + 12 ≤ i → i < chunk.at + 16 → get_or x i 0 ≡ get_or y i 0 =
      λ i from to. same i (omega (arith, from)) (omega (arith, to, there.long, there.before)) (inr (omega (arith, from))) in
      header_made (number Big x (chunk.at + 12) 2) (number Big y (chunk.at + 12) 2) (get_or x (chunk.at + 14) 0) (get_or y (chunk.at + 14) 0) (get_or x (chunk.at + 15) 0) (get_or y (chunk.at + 15) 0)
      (same_number_at Big 2 (chunk.at + 12) x y (λ i from to. at_place i from (omega (arith, to))))
      (at_place (chunk.at + 14) (omega arith) (omega arith)) (at_place (chunk.at + 15) (omega arith) (omega arith))

  pair_same : (c : Chunk) → IsBetween 12 last c → IsApart chunk c → is_pair x c ≡ is_pair y c
  pair_same c between beside = elim (cases_Bool (has_id (codes "CHAN") c)) [
    | inr other ↦ ap (λ (t : Bool). pair_of t (nat_le 4 c.len) (number Big x c.at 4)) other ∙ sym (ap (λ (t : Bool). pair_of t (nat_le 4 c.len) (number Big y c.at 4)) other)
    | inl channel ↦ elim (cases_Bool (nat_le 4 c.len)) [
      | inr short ↦
          ap (λ (t : Bool). pair_of (has_id (codes "CHAN") c) t (number Big x c.at 4)) short ∙ sym (ap (λ (t : Bool). pair_of (has_id (codes "CHAN") c) t (number Big y c.at 4)) short)
      | inl long ↦
          let four : 4 ≤ c.len = leb-true 4 c.len long in
          let other : c ≡ chunk → ⊥ = λ is. not_both chunk named (ap (has_id (codes "CHAN")) (sym is) ∙ channel) in
          ap (pair_of (has_id (codes "CHAN") c) (nat_le 4 c.len)) (same_number_at Big 4 c.at x y (λ i from to.
          same i (omega (arith, between.after, from)) (omega (arith, between.before, head.at, to, four)) (beside_body chunk c i beside other (omega (arith, there.long)) from (omega (arith, to, four)))))
    ]
  ]

  pairs_same : list_any (is_pair x) chunks ≡ list_any (is_pair y) chunks
  pairs_same = any_same (is_pair x) (is_pair y) chunks (λ k d lt. pair_same (get_or chunks k d) (ordered.1 k d lt) (apart_from k d lt))

  voice_same : voice_of x chunks chunk ≡ voice_of y chunks chunk
  voice_same = ap (λ (t : Bool). voice_by t (header_of x chunk)) pairs_same ∙ ap (voice_by (list_any (is_pair y) chunks)) header_same

  pub opens_too : (header : Header) → front_refusal (svx_front y) ≡ None → (svx_front y).ending ≡ AtSound sound → voice_of y (svx_front y).chunks chunk ≡ Ok header
      → svx_layout x ≡ Ok (svx_shape x (svx_front y) header chunk sound_same.chunk)
  opens_too header none ends read =
      let chunks_are : (svx_front x).chunks ≡ chunks = ap (λ (f : Front). f.chunks) front_same in
      let ends_too : (svx_front x).ending ≡ AtSound sound_same.chunk = ap (λ (f : Front). f.ending) front_same in
      opened x (svx_shape x (svx_front x) header chunk sound_same.chunk) (record {
        chunk = chunk;
        sound = sound_same.chunk;
        header = header;
        no_refusal = not_refused (svx_front y) (svx_front x) sound sound_same.chunk none ends ends_too chunks_are;
        chunk_is = ap header_chunk chunks_are ∙ there.found;
        sound_is = ends_too;
        header_is = ap (λ (l : List Chunk). voice_of x l chunk) chunks_are ∙ voice_same ∙ read;
        shape = refl;
      }) ∙ ap (λ (f : Front). Ok (svx_shape x f header chunk sound_same.chunk)) front_same

  pub size_same : sound_same.chunk.len ≡ number Big x (sound.at - 4) 4
  size_same =
      let there_too : IsHead Big x last sound_same.chunk = is_head Big x last sound_same.chunk sound_same.is in
      let place : last + 4 ≡ sound.at - 4 = omega (arith, head.at) in
      there_too.len ∙ ap (λ k. number Big x k 4) place

-- a file that keeps the head of another has its layout, but for the sizes
pub record Agrees (x y : List ℕ) (h : Shape) : Type 0 where
  pub from : Opens y (svx_front y) h
  pub there : Stands y from.chunk from.sound
  pub sound : Chunk
  pub at : sound.at ≡ from.sound.at
  pub size : sound.len ≡ number Big x (from.sound.at - 4) 4
  pub new : svx_layout x ≡ Ok (svx_shape x (svx_front y) from.header from.chunk sound)

pub agrees : (x y : List ℕ) (h : Shape) → svx_layout y ≡ Ok h → h.start ≤ length x → KeepsHead h y x → Agrees x y h
agrees x y h is within keeps =
    let from : Opens y (svx_front y) h = opens y h is in
    let there : Stands y from.chunk from.sound = stands y h from in
    let within_too : from.sound.at ≤ length x = rw from.shape at within in
    let keeps_too : KeepsHead (svx_shape y (svx_front y) from.header from.chunk from.sound) y x = rw from.shape at keeps in
    let same = same_beside x y (svx_front y) from.header from.chunk from.sound keeps_too in
    let sound = sound_same x y from.chunk from.sound there within_too same in
    record {
      from = from;
      there = there;
      sound = sound.chunk;
      at = sound.at;
      size = size_same x y from.chunk from.sound there within_too same;
      new = opens_too x y from.chunk from.sound there within_too same from.header from.no_refusal from.sound_is from.header_is;
    }
