-- Files with the same bytes before their data, but for the fields, have layouts that are made from the same parts.
use Rattle.std.proofs.Common.{◌≡◌, ◌⊎◌, ℕ, ◌+◌, ◌<◌, ◌≤◌, List, All, true, false, ◌&&◌, None, Some, Ok, length, take, drop, get_or, refl, sym, ap, ◌∙◌, inl, inr, arith}
use Rattle.std.proofs.lemmas.Bool.{and_parts, le-leb, le-ltb}
use Rattle.std.specs.Prelude.{codes, nat_le, nat_lt}
use Rattle.std.specs.Str.{bytes_eq}
use Rattle.snd_chunks.proofs.Public.{find_has, in_order, is_head, IsBetween, IsHead, not_refused, Reaches, same_chain, same_chunk, same_number_at, same_part, SameHead as SameBytes, walks}
use Rattle.snd_chunks.specs.declared.chunk.Chunk.{Chunk}
use Rattle.snd_chunks.specs.declared.front.Ending.TheVariants.{AtSound}
use Rattle.snd_chunks.specs.declared.front.Front.{Front}
use Rattle.snd_chunks.specs.Chunks.{chunk_at, padded_end}
use Rattle.snd_fields.specs.Field.{number}
use Rattle.snd_fields.specs.declared.field.Order.TheVariants.{Little}
use Rattle.snd_layout.specs.Container.{KeepsHead, is_in_fields}
use Rattle.snd_layout.specs.Fit.{fit_refusal}
use Rattle.snd_layout.specs.Format.{format_of}
use Rattle.snd_layout.specs.Params.{Parameters}
use Rattle.snd_layout.specs.Shape.{Shape}
use Rattle.snd_layout.specs.declared.kind.Kind.TheVariants.{Rf64}
use Rattle.snd_wave.proofs.Public.{out_of_fields, outside}
use Rattle.snd_chunks.specs.Parts.{body_of, format_chunk, front_refusal, has_id}
use Rattle.snd_rf64.specs.Layout.{fitted, has_sizes, rf64_front, rf64_layout, rf64_shape, sizes_in, sizes_of}
use Rattle.snd_rf64.specs.declared.sizes.Sizes.{Sizes}
use Rattle.snd_rf64.proofs.Opens.{Begins, Opens, TellsSizes, begins, fits_rf64, opened, opens, reached, tells}

-- the fields stand from 20 to 43
beside : (i : ℕ) → (i < 20) ⊎ (44 ≤ i) → ((i < 20) ⊎ (28 ≤ i)) × ((i < 28) ⊎ (36 ≤ i)) × ((i < 36) ⊎ (44 ≤ i))
beside i (inl before) = (inl before, inl (omega (arith, before)), inl (omega (arith, before)))
beside i (inr behind) = (inr (omega (arith, behind)), inr (omega (arith, behind)), inr behind)

pub no_field : (b : List ℕ) (sizes : Sizes) (f : Front) (p : Parameters) (start i : ℕ) → (i < 20) ⊎ (44 ≤ i) → is_in_fields (rf64_shape b sizes f p start) i ≡ false
no_field b sizes f p start i place =
    let apart = beside i place in
    out_of_fields (rf64_shape b sizes f p start) i (outside 28 8 i apart.1) (outside 20 8 i apart.0) (outside 36 8 i apart.2)

-- two files, of which one has a layout, and the other the same bytes before the data but for the fields
module _ (x y : List ℕ) (sizes : Sizes) (sound : Chunk) (told : sizes_of y ≡ Ok sizes) (ends : (rf64_front y sizes.next).ending ≡ AtSound sound) (in_x : sound.at ≤ length x)
    (same : (i : ℕ) → i < sound.at → (i < 20) ⊎ (44 ≤ i) → get_or x i 0 ≡ get_or y i 0) where
  tell : TellsSizes y sizes
  tell = tells y sizes told

  begin : Begins y sizes.next sound
  begin = begins y sizes.next sound ends

  reach : Reaches (chunk_at Little y) (codes "data") (length y) 256 sizes.next (rf64_front y sizes.next).chunks sound
  reach = reached y sizes.next sound ends

  head : IsHead Little y reach.last sound
  head = is_head Little y reach.last sound reach.at

  ordered : (sizes.next ≤ reach.last) × All (IsBetween sizes.next reach.last) (rf64_front y sizes.next).chunks
  ordered = in_order Little y (codes "data") (length y) sizes.next reach.last (rf64_front y sizes.next).chunks reach.chain

  later_same : (i : ℕ) → 48 ≤ i → i < sound.at → get_or x i 0 ≡ get_or y i 0
  later_same i from to = same i to (inr (omega (arith, from)))

  heads_same : All (SameBytes x y) (rf64_front y sizes.next).chunks
  heads_same k d lt i from to =
      let between : IsBetween sizes.next reach.last (get_or (rf64_front y sizes.next).chunks k d) = ordered.1 k d lt in
      later_same i (omega (arith, between.after, tell.behind, from)) (omega (arith, between.before, head.at, to))

  sound_same : chunk_at Little x reach.last ≡ Some sound
  sound_same = same_chunk Little x y reach.last sound reach.at (omega (arith, head.at, in_x)) (λ i from to. later_same i (omega (arith, from, head.at, ordered.0, tell.behind)) to)

  front_same : rf64_front x sizes.next ≡ record { chunks = (rf64_front y sizes.next).chunks; ending = AtSound sound }
  unfolding rf64_front
  front_same =
      walks (chunk_at Little x) (codes "data") (length x) 256 sizes.next (rf64_front y sizes.next).chunks reach.last sound
      (same_chain Little x y (codes "data") sizes.next reach.last (rf64_front y sizes.next).chunks reach.chain (omega (arith, head.at, in_x)) heads_same)
      sound_same reach.is reach.few

  len_same : number Little x 16 4 ≡ number Little y 16 4
  len_same = same_number_at Little 4 16 x y (λ i from to. same i (omega (arith, to, begin.least, tell.behind)) (inl (omega (arith, to))))

  id_same : take 4 (drop 12 x) ≡ take 4 (drop 12 y)
  id_same = same_part 4 12 x y (omega (arith, in_x, begin.least, tell.behind)) (omega (arith, tell.long)) (λ i from to. same i (omega (arith, to, begin.least, tell.behind)) (inl (omega (arith, to))))

  next_is : sizes.next ≡ padded_end 20 (number Little y 16 4)
  next_is = ap (λ (s : Sizes). s.next) tell.is

  has_x : has_sizes (length x) x ≡ true
  has_x =
      let parts = and_parts (bytes_eq (take 4 (drop 12 y)) (codes "ds64") && nat_le 28 (number Little y 16 4)) (nat_le (20 + number Little y 16 4) (length y)) tell.has in
      let within : nat_le (20 + number Little y 16 4) (length x) ≡ true = le-leb (20 + number Little y 16 4) (length x) (omega (arith, next_is, begin.least, in_x)) in
      rw (id_same, len_same, parts.0, within) refl

  told_x : sizes_of x ≡ Ok (sizes_in x)
  told_x =
      let later : nat_lt (length x) 48 ≡ false = le-ltb (length x) 48 (omega (arith, in_x, begin.least, tell.behind)) in
      rw (later, has_x) refl

  next_same : (sizes_in x).next ≡ sizes.next
  next_same = ap (padded_end 20) len_same ∙ sym next_is

  front_x : rf64_front x (sizes_in x).next ≡ record { chunks = (rf64_front y sizes.next).chunks; ending = AtSound sound }
  front_x = ap (rf64_front x) next_same ∙ front_same

  body_same : (format : Chunk) → format_chunk (rf64_front y sizes.next).chunks ≡ Some format → body_of x format ≡ body_of y format
  body_same format found =
      let has = find_has (has_id (codes "fmt ")) (IsBetween sizes.next reach.last) (rf64_front y sizes.next).chunks format ordered.1 found in
      same_part format.len format.at x y (omega (arith, has.0.before, head.at, in_x)) (omega (arith, has.0.before, head.within))
      (λ i from to. later_same i (omega (arith, has.0.after, tell.behind, from)) (omega (arith, has.0.before, head.at, to)))

  pub opens_x : (p : Parameters) (format : Chunk) → front_refusal (rf64_front y sizes.next) ≡ None → format_chunk (rf64_front y sizes.next).chunks ≡ Some format → fitted (format_of (body_of y format)) ≡ Ok p
      → Opens x (rf64_shape x (sizes_in x) (rf64_front y sizes.next) p sound.at)
  opens_x p format none found read =
      let chunks_are : (rf64_front x (sizes_in x).next).chunks ≡ (rf64_front y sizes.next).chunks = ap (λ (f : Front). f.chunks) front_x in
      let ends_too : (rf64_front x (sizes_in x).next).ending ≡ AtSound sound = ap (λ (f : Front). f.ending) front_x in
      record {
        sizes = sizes_in x;
        format = format;
        sound = sound;
        params = p;
        told = told_x;
        no_refusal = not_refused (rf64_front y sizes.next) (rf64_front x (sizes_in x).next) sound sound none ends ends_too chunks_are;
        format_is = rw chunks_are found;
        sound_is = ends_too;
        params_are = ap (λ (l : List ℕ). fitted (format_of l)) (body_same format found) ∙ read;
        shape = sym (ap (λ (f : Front). rf64_shape x (sizes_in x) f p sound.at) front_x);
      }

-- the parts that both layouts are made from
pub record Stays (x y : List ℕ) (h : Shape) : Type 0 where
  pub sizes : Sizes
  pub params : Parameters
  pub sound : Chunk
  pub told : sizes ≡ sizes_in y
  pub behind : 48 ≤ sizes.next
  pub begin : Begins y sizes.next sound
  pub fits : fit_refusal Rf64 params ≡ None
  pub ends : (rf64_front y sizes.next).ending ≡ AtSound sound
  pub old : h ≡ rf64_shape y sizes (rf64_front y sizes.next) params sound.at
  pub new : rf64_layout x ≡ Ok (rf64_shape x (sizes_in x) (rf64_front y sizes.next) params sound.at)

pub stays : (x y : List ℕ) (h : Shape) → rf64_layout y ≡ Ok h → h.start ≤ length x → KeepsHead h y x → Stays x y h
stays x y h is within keeps =
    let from : Opens y h = opens y h is in
    let within_too : from.sound.at ≤ length x = rw from.shape at within in
    let keeps_too : KeepsHead (rf64_shape y from.sizes (rf64_front y from.sizes.next) from.params from.sound.at) y x = rw from.shape at keeps in
    let same : (i : ℕ) → i < from.sound.at → (i < 20) ⊎ (44 ≤ i) → get_or x i 0 ≡ get_or y i 0 = λ i lt place. keeps_too i lt (no_field y from.sizes (rf64_front y from.sizes.next) from.params from.sound.at i place) in
    let tell : TellsSizes y from.sizes = tells y from.sizes from.told in
    record {
      sizes = from.sizes;
      params = from.params;
      sound = from.sound;
      told = tell.is;
      behind = tell.behind;
      begin = begins y from.sizes.next from.sound from.sound_is;
      fits = (fits_rf64 (format_of (body_of y from.format)) from.params from.params_are).0;
      ends = from.sound_is;
      old = from.shape;
      new = opened x (rf64_shape x (sizes_in x) (rf64_front y from.sizes.next) from.params from.sound.at)
          (opens_x x y from.sizes from.sound from.told from.sound_is within_too same from.params from.format from.no_refusal from.format_is from.params_are);
    }
