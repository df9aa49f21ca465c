-- A file whose fields say a number of frames has its layout with so many frames.
use Rattle.std.proofs.Common.{◌≡◌, ◌⊎◌, ℕ, ◌+◌, ◌-◌, ◌<◌, ◌≤◌, ◌^◌, List, [], ◌∷◌, ◌++◌, All, Bool, true, false, not, ◌&&◌, ◌||◌, Option, None, Some, Ok, length, take, drop, get_or, refl, sym, ap, ◌∙◌, inl, inr, arith}
use Rattle.std.proofs.Math.Nat.{div-mul-le_self}
use Rattle.std.proofs.lemmas.Bool.{cases_Bool, le-leb, le-ltb, lt-ltb, ltb-false, or_from, or_parts, cases_lt}
use Rattle.std.proofs.lemmas.List.{places}
use Rattle.std.proofs.lemmas.List.Elements.{All-head, All-tail}
use Rattle.std.proofs.lemmas.Slice.Eq.{bytes_eq-Decides}
use Rattle.std.specs.List.{filter}
use Rattle.std.specs.Prelude.{IfSome, codes, min, nat_lt}
use Rattle.snd_disk.specs.Runs.{HasAt}
use Rattle.snd_chunks.proofs.Public.{has_left, has_number, has_right, is_head, IsHead}
use Rattle.snd_chunks.specs.declared.chunk.Chunk.{Chunk}
use Rattle.snd_chunks.specs.Chunks.{padded_end}
use Rattle.snd_fields.proofs.Numbers.{length-bytes_of}
use Rattle.snd_fields.specs.Field.{bytes_of, number}
use Rattle.snd_fields.specs.declared.field.Order.TheVariants.{Little}
use Rattle.snd_layout.proofs.Formats.{format_fits}
use Rattle.snd_layout.specs.Blocks.{block_align, is_adpcm}
use Rattle.snd_layout.specs.Container.{KeepsHead, counted_shape, is_in, is_in_fields, is_in_some}
use Rattle.snd_layout.specs.Fit.{fit_refusal}
use Rattle.snd_layout.specs.Params.{AreParams, Parameters, data_bytes}
use Rattle.snd_layout.specs.Shape.{Shape}
use Rattle.snd_layout.specs.declared.field.Field.{Field}
use Rattle.snd_layout.specs.declared.kind.Kind.{Kind}
use Rattle.snd_layout.specs.declared.kind.Kind.TheVariants.{Wave}
use Rattle.snd_layout.specs.declared.piece.Piece.{Piece}
use Rattle.snd_chunks.specs.Parts.{body_of, fact_chunk, frame_count, inner_field, is_joined}
use Rattle.snd_wave.specs.Layout.{outer_end, wave_front, wave_layout}
use Rattle.snd_wave.proofs.LayoutFacts.{FieldsStandApart, HoldsBlocks, SameButNumbers, SameHead, count_of, is_among, padded_data_end, pieces_before}
use Rattle.snd_wave.specs.Values.{count_bytes, inner_value, outer_value, riff_size}
use Rattle.snd_wave.proofs.Agreements.{layouts_agree, outside}
use Rattle.snd_wave.proofs.Counts.{count_is_stated, no_piece_behind, numbers_stand_before, reached, trailing_is_stated}
use Rattle.snd_wave.proofs.Made.{counted}
use Rattle.snd_wave.proofs.Opens.{Opens, opens}
use Rattle.snd_wave.proofs.Standing.{fields_are_apart}

-- a place that is not in a field lies before it or behind it
pub apart_of : (at size i : ℕ) → is_among at size i ≡ false → (i < at) ⊎ (at + size ≤ i)
apart_of at size i out = elim (cases_lt i at) [
  | inl before ↦ inl before
  | inr from ↦ elim (cases_lt i (at + size)) [
    | inl within ↦ absurd (let h = rw (le-leb at i from, lt-ltb i (at + size) within) at out in cc)
    | inr behind ↦ inr behind
  ]
]

-- a place beside each field
pub out_of_fields : (h : Shape) (i : ℕ) → is_in h.inner i ≡ false → is_in_some h.outer i ≡ false → is_in_some h.side i ≡ false → is_in_fields h i ≡ false
out_of_fields h i inner outer side = or_from (is_in h.inner i || is_in_some h.outer i) (is_in_some h.side i) (or_from (is_in h.inner i) (is_in_some h.outer i) inner outer) side

-- the field that decides the count has 4 bytes, or 12
inner_sizes : (p : Parameters) (fact : Option Chunk) (sound : Chunk) → ((inner_field 4 8 p fact sound).size ≡ 4) ⊎ ((inner_field 4 8 p fact sound).size ≡ 12)
inner_sizes p fact sound = elim (cases_Bool (is_adpcm p.codec && is_joined 4 8 fact sound)) [
  | inl both ↦ rw both (inr refl)
  | inr other ↦ rw other (inl refl)
]

pub length-inner_value : (h : Shape) (n : ℕ) → (h.inner.size ≡ 4) ⊎ (h.inner.size ≡ 12) → length (inner_value h n) ≡ h.inner.size
unfolding inner_value
length-inner_value h n (inl four) = rw four refl
length-inner_value h n (inr twelve) = rw twelve refl

-- the data size is the last of it
data_size : (x : List ℕ) (h : Shape) (n : ℕ) → (h.inner.size ≡ 4) ⊎ (h.inner.size ≡ 12) → h.inner.at + h.inner.size ≡ h.start → HasAt x h.inner.at (inner_value h n) → HasAt x (h.start - 4) (bytes_of Little 4 (data_bytes h.params n))
unfolding inner_value
data_size x h n (inl four) ends has =
    let place : h.inner.at ≡ h.start - 4 = omega (arith, four, ends) in
    let here : HasAt x h.inner.at (bytes_of Little 4 (data_bytes h.params n)) = rw four at has in
    rw (← place) here
data_size x h n (inr twelve) ends has =
    let all : HasAt x h.inner.at (bytes_of Little 4 n ++ codes "data" ++ bytes_of Little 4 (data_bytes h.params n)) = rw twelve at has in
    has_right x h.inner.at (h.start - 4) (bytes_of Little 4 n ++ codes "data") (bytes_of Little 4 (data_bytes h.params n)) (omega (arith, twelve, ends)) all

-- and where it has 12 bytes, the count and the identifier stand before that
joined_parts : (x : List ℕ) (h : Shape) (n : ℕ) → h.inner.size ≡ 12 → h.inner.at + h.inner.size ≡ h.start → HasAt x h.inner.at (inner_value h n) → HasAt x h.inner.at (bytes_of Little 4 n) × HasAt x (h.start - 8) (codes "data")
unfolding inner_value
joined_parts x h n twelve ends has =
    let all : HasAt x h.inner.at (bytes_of Little 4 n ++ codes "data" ++ bytes_of Little 4 (data_bytes h.params n)) = rw twelve at has in
    let front : HasAt x h.inner.at (bytes_of Little 4 n ++ codes "data") = has_left x h.inner.at (bytes_of Little 4 n ++ codes "data") (bytes_of Little 4 (data_bytes h.params n)) all in (
      has_left x h.inner.at (bytes_of Little 4 n) (codes "data") front,
      has_right x h.inner.at (h.start - 8) (bytes_of Little 4 n) (codes "data") (omega (arith, twelve, ends)) front,
    )

-- The fields of a file that does not go on behind its data may say so many frames: the data size has 32 bits, and in ADPCM so
-- has the count, which is one field with it.
pub record MaySay (b : List ℕ) (h : Shape) (n : ℕ) : Type 0 where
  pub opened : wave_layout b ≡ Ok h
  pub params : AreParams h.params
  pub free : h.trailing ≡ false
  pub few : data_bytes h.params n < 2 ^ 32
  pub on_disk : h.start + data_bytes h.params n ≤ 2 ^ 63 - 8
  pub counted : is_adpcm h.params.codec ≡ true → (n < 2 ^ 32) × (h.inner.size ≡ 12)

-- a file has, before its data, the bytes of another but in the three fields; the one that decides the count says so many frames,
-- whose data are there
pub record HasFields (b : List ℕ) (h : Shape) (n : ℕ) (x : List ℕ) : Type 0 where
  pub inner : HasAt x h.inner.at (inner_value h n)
  pub beside : KeepsHead h b x
  pub long : h.start + data_bytes h.params n ≤ length x

-- .. and the whole ends by them
pub record HasNew (b : List ℕ) (h : Shape) (n : ℕ) (x : List ℕ) : Type 0 where
  pub fields : HasFields b h n x
  pub ends : outer_end x ≤ padded_end h.start (data_bytes h.params n)

-- what a layout says of its file: the identifier of the data stands before their size
pub record StandsIn (b : List ℕ) (h : Shape) : Type 0 where
  pub sizes : (h.inner.size ≡ 4) ⊎ (h.inner.size ≡ 12)
  pub sound : HasAt b (h.start - 8) (codes "data")
  pub within : h.start ≤ length b
  pub fits : fit_refusal Wave h.params ≡ None
  pub kind : h.kind ≡ Wave
  pub known : h.unknown_length ≡ false

pub stands : (b : List ℕ) (h : Shape) → wave_layout b ≡ Ok h → StandsIn b h
stands b h is =
    let from : Opens b (wave_front b) h = opens b h is in
    let reach = reached b from.sound from.sound_is in
    let head : IsHead Little b reach.last from.sound = is_head Little b reach.last from.sound reach.at in
    let id : take 4 (drop reach.last b) ≡ codes "data" = sym head.id ∙ (bytes_eq-Decides from.sound.id.0 (codes "data")).0 reach.is in
    let start : h.start ≡ reach.last + 8 = ap (λ (s : Shape). s.start) from.shape ∙ head.at in
    record {
      sizes = rw from.shape (inner_sizes from.params (fact_chunk 4 (wave_front b).chunks) from.sound);
      sound = id_at b reach.last (h.start - 8) (codes "data") refl (omega (arith, start)) (omega (arith, head.within)) id;
      within = omega (arith, start, head.within);
      fits = rw from.shape (format_fits (body_of b from.format) from.params from.params_are);
      kind = ap (λ (s : Shape). s.kind) from.shape;
      known = ap (λ (s : Shape). s.unknown_length) from.shape;
    }
  where
    by_part : (k : ℕ) (b : List ℕ) (p q : ℕ) (v : List ℕ) (j : ℕ) → j < k → q ≡ p → take k (drop p b) ≡ v → get_or b (q + j) 0 ≡ get_or v j 0
    by_part k b p q v j lt same is = rw (← is, same) (grind (arith, places))

    id_at : (b : List ℕ) (p q : ℕ) (v : List ℕ) → length v ≡ 4 → q ≡ p → p + 4 ≤ length b → take 4 (drop p b) ≡ v → HasAt b q v
    id_at b p q v four same within is = λ j lt. by_part 4 b p q v j (omega (arith, four)) same is

-- all parts of a layout
unfoldable shape_of_parts : Kind → Parameters → ℕ → ℕ → ℕ → Field → Option Field → Option Field → Bool → Bool → Option ℕ → List Piece → Shape
shape_of_parts kind p start frames declared inner outer side trailing unknown reserve pieces = record {
  kind = kind;
  params = p;
  start = start;
  frames = frames;
  declared = declared;
  inner = inner;
  outer = outer;
  side = side;
  trailing = trailing;
  unknown_length = unknown;
  reserve = reserve;
  pieces = pieces;
}

by_parts : (k k' : Kind) (p p' : Parameters) (a a' b b' c c' : ℕ) (d d' : Field) (e e' f f' : Option Field) (g g' i i' : Bool) (j j' : Option ℕ) (l l' : List Piece) → k ≡ k' → p ≡ p' → a ≡ a' → b ≡ b' → c ≡ c' → d ≡ d' → e ≡ e' → f ≡ f' → g ≡ g' → i ≡ i' → j ≡ j' → l ≡ l'
    → shape_of_parts k p a b c d e f g i j l ≡ shape_of_parts k' p' a' b' c' d' e' f' g' i' j' l'
by_parts k k' p p' a a' b b' c c' d d' e e' f f' g g' i i' j j' l l' ek ep ea eb ec ed ee ef eg ei ej el = cc

kept_first : (test : Piece → Bool) (piece : Piece) (pieces : List Piece) → test piece ≡ true → filter test (piece ∷ pieces) ≡ piece ∷ filter test pieces
kept_first test piece pieces is = rw is refl

pub all_before : (pieces : List Piece) → All (λ piece. piece.after ≡ false) pieces → filter (λ piece. not piece.after) pieces ≡ pieces
all_before [] all = refl
all_before (piece ∷ pieces) all =
    let here : piece.after ≡ false = All-head (λ (p : Piece). p.after ≡ false) piece pieces all in
    kept_first (λ (p : Piece). not p.after) piece pieces (ap not here) ∙ ap (λ (l : List Piece). piece ∷ l) (all_before pieces (All-tail (λ (p : Piece). p.after ≡ false) piece pieces all))

-- where a file does not go on behind its data, all pieces stand before them
pub pieces_all : (b : List ℕ) (h : Shape) → wave_layout b ≡ Ok h → h.trailing ≡ false → pieces_before h ≡ h.pieces
pieces_all b h is free =
    let late : nat_lt (padded_data_end h (length b)) (outer_end b) ≡ false = sym (trailing_is_stated b h is) ∙ free in
    all_before h.pieces (no_piece_behind b h is (ltb-false (padded_data_end h (length b)) (outer_end b) late))

module _ (b x : List ℕ) (h : Shape) (n : ℕ) (may : MaySay b h n) (says : HasFields b h n x) (apart : FieldsStandApart h) (there : StandsIn b h) where
  pub same : SameButNumbers h x b
  same i before none =
      let one = or_parts (is_in_some h.outer i || is_in_some h.side i || is_among h.inner.at 4 i) (is_among (h.start - 4) 4 i) none in
      let two = or_parts (is_in_some h.outer i || is_in_some h.side i) (is_among h.inner.at 4 i) one.0 in
      let three = or_parts (is_in_some h.outer i) (is_in_some h.side i) two.0 in
      by_place (apart_of h.inner.at 4 i two.1) (apart_of (h.start - 4) 4 i one.1) three.0 three.1 there.sizes
    where
      in_middle : h.inner.size ≡ 12 → (j : ℕ) → i ≡ (h.start - 8) + j → j < 4 → get_or x i 0 ≡ get_or b i 0
      in_middle twelve j at lt = rw at ((joined_parts x h n twelve apart.start says.inner).1 j lt ∙ sym (there.sound j lt))

      by_place : (i < h.inner.at) ⊎ (h.inner.at + 4 ≤ i) → (i < h.start - 4) ⊎ (h.start - 4 + 4 ≤ i) → is_in_some h.outer i ≡ false → is_in_some h.side i ≡ false → (h.inner.size ≡ 4) ⊎ (h.inner.size ≡ 12) → get_or x i 0 ≡ get_or b i 0
      by_place (inl early) last outer side sizes = says.beside i before (out_of_fields h i (outside h.inner.at h.inner.size i (inl early)) outer side)
      by_place (inr late) (inr behind) outer side sizes = absurd (omega arith)
      by_place (inr late) (inl first) outer side (inl four) = absurd (omega (arith, four, apart.start))
      by_place (inr late) (inl first) outer side (inr twelve) = in_middle twelve (i - (h.start - 8)) (omega (arith, twelve, apart.start)) (omega (arith, twelve, apart.start))

  size_read : number Little x (h.start - 4) 4 ≡ data_bytes h.params n
  size_read = has_number Little x (h.start - 4) (data_bytes h.params n) (data_size x h n there.sizes apart.start says.inner) may.few

  module _ (h' : Shape) (is : wave_layout x ≡ Ok h') (agrees : SameHead h h') where
    numbers : (h'.declared ≡ number Little x (h'.start - 4) 4) × (h'.inner.size ≡ 12 → count_of x ≡ Some (number Little x h'.inner.at 4))
    numbers = numbers_stand_before x h' is

    pub declared : h'.declared ≡ data_bytes h.params n
    declared = numbers.0 ∙ ap (λ k. number Little x (k - 4) 4) agrees.start ∙ size_read

    count : is_adpcm h.params.codec ≡ true → count_of x ≡ Some n
    count adpcm =
        let twelve : h.inner.size ≡ 12 = (may.counted adpcm).1 in
        let twelve_too : h'.inner.size ≡ 12 = ap (λ (f : Field). f.size) agrees.inner ∙ twelve in
        let read : number Little x h.inner.at 4 ≡ n = has_number Little x h.inner.at n (joined_parts x h n twelve apart.start says.inner).0 (may.counted adpcm).0 in
        numbers.1 twelve_too ∙ ap (λ k. Some k) (ap (λ (f : Field). number Little x f.at 4) agrees.inner ∙ read)

    holds : HoldsBlocks h' (length x)
    holds =
        let blocks = div-mul-le_self h'.declared (block_align h'.params.channels h'.params.codec) in
        record { in_file = omega (arith, blocks, declared, agrees.start, says.long); on_disk = omega (arith, blocks, declared, agrees.start, may.on_disk) }

    pub frames : h'.frames ≡ n
    frames =
        count_is_stated x h' is holds ∙ ap (λ (p : Parameters). frame_count_of p h'.declared) agrees.params ∙ ap (frame_count_of h.params) declared
        ∙ counted h.params n (count_of x) may.params there.fits count
      where
        frame_count_of : Parameters → ℕ → ℕ
        frame_count_of p bytes = frame_count p bytes (count_of x)

    pub data_reach : padded_data_end h' (length x) ≡ padded_end h.start (data_bytes h.params n)
    data_reach =
        let all : min h'.declared (min (length x) (2 ^ 63 - 8) - h'.start) ≡ data_bytes h.params n = omega (arith, declared, agrees.start, says.long, may.on_disk) in
        ap (λ k. padded_end h'.start k) all ∙ ap (λ k. padded_end k (data_bytes h.params n)) agrees.start

    -- the layout, by what stands behind the data
    pub shape_by : (goes_on : Bool) (pieces : List Piece) → h'.trailing ≡ goes_on → h'.pieces ≡ pieces → h' ≡ record (counted_shape h n) { trailing = goes_on; pieces = pieces }
    unfolding shape_of_parts
    shape_by goes_on pieces goes are =
        let then : StandsIn x h' = stands x h' is in
        by_parts h'.kind h.kind h'.params h.params h'.start h.start h'.frames n h'.declared (data_bytes h.params n) h'.inner h.inner h'.outer h.outer h'.side h.side h'.trailing goes_on
        h'.unknown_length h.unknown_length h'.reserve h.reserve h'.pieces pieces agrees.kind agrees.params agrees.start frames declared agrees.inner agrees.outer agrees.side goes
        (then.known ∙ sym there.known) agrees.reserve are

    module _ (stops : outer_end x ≤ padded_end h.start (data_bytes h.params n)) where
      ends : outer_end x ≤ padded_data_end h' (length x)
      ends = omega (arith, data_reach, stops)

      trailing : h'.trailing ≡ h.trailing
      trailing = trailing_is_stated x h' is ∙ le-ltb (padded_data_end h' (length x)) (outer_end x) ends ∙ sym may.free

      pieces : h'.pieces ≡ h.pieces
      pieces = sym (all_before h'.pieces (no_piece_behind x h' is ends)) ∙ agrees.pieces ∙ pieces_all b h may.opened may.free

      shape_is : h' ≡ counted_shape h n
      shape_is = shape_by h.trailing h.pieces trailing pieces

pub says_so : (b x : List ℕ) (h : Shape) (n : ℕ) → MaySay b h n → HasNew b h n x → wave_layout x ≡ Ok (counted_shape h n)
says_so b x h n may says =
    let apart : FieldsStandApart h = fields_are_apart b h may.opened in
    let there : StandsIn b h = stands b h may.opened in
    let agreed = layouts_agree x b h may.opened (omega (arith, says.fields.long)) (same b x h n may says.fields apart there) in
    agreed.1 ∙ ap (λ (s : Shape). Ok s) (shape_is b x h n may says.fields apart there agreed.0 agreed.1 agreed.2 says.ends)

-- where the size of the whole is that of so many frames, the whole ends by their data
pub outer_reaches : (x : List ℕ) (h : Shape) (n : ℕ) → 8 ≤ h.start → HasAt x 4 (outer_value h n) → outer_end x ≤ padded_end h.start (data_bytes h.params n)
unfolding outer_value
outer_reaches x h n early has =
    let read : number Little x 4 4 ≡ riff_size h.start (data_bytes h.params n) = has_number Little x 4 (riff_size h.start (data_bytes h.params n)) has (omega arith) in
    omega (arith, read, early)

-- the count that is not read fills its field
pub side_fills : (side : Option Field) (n limit : ℕ) → IfSome side (λ field. (field.size ≡ 4) × (20 ≤ field.at) × (field.at + 4 ≤ limit)) → IfSome side (λ field. length (count_bytes side n) ≡ field.size)
side_fills None n limit stands = tt
side_fills (Some field) n limit stands = length-bytes_of Little 4 n ∙ sym stands.0
