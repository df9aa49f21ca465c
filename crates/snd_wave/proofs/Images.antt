-- What a file says that has kept the field that decides its count, or all but its data.
use Rattle.std.proofs.Common.{◌≡◌, ◌⊎◌, ℕ, ◌+◌, ◌-◌, ◌<◌, ◌≤◌, List, ◌++◌, All, ◌*◌, ◌^◌, Bool, true, false, ◌||◌, Option, None, Some, Ok, length, get_or, refl, sym, ap, ◌∙◌, inl, inr, arith}
use Rattle.std.proofs.lemmas.Bool.{cases_Bool, cases_lt, le-ltb, ltb-false, or_parts}
use Rattle.std.specs.Prelude.{codes, nat_lt, option_map}
use Rattle.snd_disk.specs.Runs.{HasFieldOf}
use Rattle.snd_chunks.proofs.Public.{chain_end, in_order, is_head, IsHead, Reaches, same_chunk, same_number_at, tail_from_same}
use Rattle.snd_chunks.specs.declared.chunk.Chunk.{Chunk}
use Rattle.snd_chunks.specs.declared.front.Ending.TheVariants.{AtSound}
use Rattle.snd_chunks.specs.declared.front.Front.{Front}
use Rattle.snd_chunks.specs.Chunks.{chunk_at, padded_end, tail}
use Rattle.snd_fields.proofs.Numbers.{number_fits}
use Rattle.snd_fields.specs.Field.{number}
use Rattle.snd_fields.specs.Laws.{IsByte}
use Rattle.snd_fields.specs.declared.field.Order.TheVariants.{Little}
use Rattle.snd_layout.proofs.Formats.{format_fits}
use Rattle.snd_layout.specs.Blocks.{is_adpcm}
use Rattle.snd_layout.specs.Container.{HoldDeclared, KeepsHead, is_in_some}
use Rattle.snd_layout.specs.Fit.{fit_refusal}
use Rattle.snd_layout.specs.Format.{format_of}
use Rattle.snd_layout.specs.Params.{AreParams, Parameters}
use Rattle.snd_layout.specs.Shape.{Shape, end}
use Rattle.snd_layout.specs.declared.kind.Kind.TheVariants.{Wave}
use Rattle.snd_wave.proofs.LayoutFacts.{FieldsStandApart, SameButNumbers, is_among, padded_data_end}
use Rattle.snd_chunks.specs.Parts.{body_of, fact_chunk, fact_count, format_chunk, frame_count, front_refusal, held, side_field}
use Rattle.snd_wave.specs.Layout.{data_end, outer_end, pieces_of, wave_front, wave_layout, wave_shape, wave_tail}
use Rattle.snd_wave.proofs.Agreements.{front_same, opens_too, outside, side_is, sound_same}
use Rattle.snd_wave.proofs.Counted.{out_of_fields}
use Rattle.snd_wave.proofs.Counts.{none_behind, numbers_stand_before, reached, trailing_is_stated}
use Rattle.snd_wave.proofs.Opens.{Opens, opened, opens}
use Rattle.snd_wave.proofs.Shapes.{counted_bytes}
use Rattle.snd_wave.proofs.Standing.{StandsBefore, fields_are_apart, stands_before}

-- before the data, every byte beside the size of the whole and the count that is not read is that of a file
abbrev pub KeepsCount : Shape → List ℕ → List ℕ → Type 0
KeepsCount h file x = (i : ℕ) → i < h.start → is_in_some h.outer i ≡ false → is_in_some h.side i ≡ false → get_or x i 0 ≡ get_or file i 0

-- then the layout is made from the same parts
record Stays (x y : List ℕ) (h : Shape) : Type 0 where
  params : Parameters
  sound : Chunk
  old : h ≡ wave_shape y (wave_front y) params sound
  new : wave_layout x ≡ Ok (wave_shape x (wave_front y) params sound)
  count : (bytes : ℕ) → frame_count params bytes (option_map (fact_count 4 x) (fact_chunk 4 (wave_front y).chunks)) ≡ frame_count params bytes (option_map (fact_count 4 y) (fact_chunk 4 (wave_front y).chunks))

not_side : (p : Parameters) (fact : Option Chunk) (i : ℕ) → is_adpcm p.codec ≡ true → is_in_some (side_field 4 p fact) i ≡ false
not_side p fact i adpcm = rw adpcm refl

-- in other codecs than ADPCM the count of a `fact` does not count
same_frames : (p : Parameters) (bytes : ℕ) (fact : Option Chunk) (x y : List ℕ) → (is_adpcm p.codec ≡ true → option_map (fact_count 4 x) fact ≡ option_map (fact_count 4 y) fact)
    → frame_count p bytes (option_map (fact_count 4 x) fact) ≡ frame_count p bytes (option_map (fact_count 4 y) fact)
same_frames p bytes None x y same = refl
same_frames p bytes (Some fact) x y same = elim (cases_Bool (is_adpcm p.codec)) [
  | inl is ↦ ap (frame_count p bytes) (same is)
  | inr other ↦ rw other refl
]

module _ (x y : List ℕ) (p : Parameters) (sound : Chunk) (same : KeepsCount (wave_shape y (wave_front y) p sound) y x) (within : sound.at ≤ length x)
    (reach : Reaches (chunk_at Little y) (codes "data") (length y) 257 12 (wave_front y).chunks sound) where
  abbrev shape : Shape
  shape = wave_shape y (wave_front y) p sound

  abbrev fact : Option Chunk
  fact = fact_chunk 4 (wave_front y).chunks

  head : IsHead Little y reach.last sound
  head = is_head Little y reach.last sound reach.at

  late : 12 ≤ reach.last
  late = (in_order Little y (codes "data") (length y) 12 reach.last (wave_front y).chunks reach.chain).0

  -- the numbers are at some of the places that may change
  but_numbers : SameButNumbers shape x y
  but_numbers i lt none =
      let one = or_parts (is_in_some shape.outer i || is_in_some shape.side i || is_among shape.inner.at 4 i) (is_among (shape.start - 4) 4 i) none in
      let two = or_parts (is_in_some shape.outer i || is_in_some shape.side i) (is_among shape.inner.at 4 i) one.0 in
      let three = or_parts (is_in_some shape.outer i) (is_in_some shape.side i) two.0 in
      same i lt three.0 three.1

  stands : (f : Chunk) → fact ≡ Some f → StandsBefore sound f
  stands f found = stands_before y sound reach (Some f) found

  head_same : (i : ℕ) → sound.at ≤ i + 8 → i < sound.at → get_or x i 0 ≡ get_or y i 0
  head_same i from to =
      same i to (outside 4 4 i (inr (omega (arith, from, head.at, late)))) (side_is p fact i (λ f found.
      let before : f.at + 4 ≤ sound.at - 8 = (stands f found).before in
      inr (omega (arith, before, from))))

  sound_stays : (sound_same x y p sound but_numbers within reach).chunk ≡ sound
  sound_stays =
      let there = sound_same x y p sound but_numbers within reach in
      let is : chunk_at Little x reach.last ≡ Some sound = same_chunk Little x y reach.last sound reach.at (omega (arith, head.at, within)) head_same in
      let both : Some there.chunk ≡ Some sound = sym there.is ∙ is in
      cc

  laid : (format : Chunk) → front_refusal (wave_front y) ≡ None → format_chunk (wave_front y).chunks ≡ Some format → (wave_front y).ending ≡ AtSound sound → format_of (body_of y format) ≡ Ok p
      → wave_layout x ≡ Ok (wave_shape x (wave_front y) p sound)
  laid format none found ends read =
      let there = sound_same x y p sound but_numbers within reach in
      let shape_is : wave_shape x (wave_front x) p there.chunk ≡ wave_shape x (wave_front y) p sound =
      ap (λ (c : Chunk). wave_shape x (wave_front x) p c) sound_stays ∙ ap (λ (f : Front). wave_shape x f p sound) (front_same x y p sound but_numbers within reach) in
      opened x (wave_shape x (wave_front x) p there.chunk) (opens_too x y p sound but_numbers within reach format none found ends read) ∙ ap (λ (s : Shape). Ok s) shape_is

  count_same : is_adpcm p.codec ≡ true → (f : Option Chunk) → fact ≡ f → option_map (fact_count 4 x) f ≡ option_map (fact_count 4 y) f
  count_same adpcm None found = refl
  count_same adpcm (Some f) found =
      let placed : StandsBefore sound f = stands f found in
      ap (λ (n : ℕ). Some n) (same_number_at Little 4 f.at x y (λ i from to.
      same i (omega (arith, to, placed.before)) (outside 4 4 i (inr (omega (arith, from, placed.behind)))) (not_side p fact i adpcm)))

stays : (x y : List ℕ) (h : Shape) → wave_layout y ≡ Ok h → h.start ≤ length x → KeepsCount h y x → Stays x y h
stays x y h is within same =
    let from : Opens y (wave_front y) h = opens y h is in
    let reach = reached y from.sound from.sound_is in
    let within_too : from.sound.at ≤ length x = rw from.shape at within in
    let same_too : KeepsCount (wave_shape y (wave_front y) from.params from.sound) y x = rw from.shape at same in
    record {
      params = from.params;
      sound = from.sound;
      old = from.shape;
      new = laid x y from.params from.sound same_too within_too reach from.format from.no_refusal from.format_is from.sound_is from.params_are;
      count = λ bytes. same_frames from.params bytes (fact_chunk 4 (wave_front y).chunks) x y
          (λ adpcm. count_same x y from.params from.sound same_too within_too reach adpcm (fact_chunk 4 (wave_front y).chunks) refl);
    }

-- what else a layout hangs on
same_shape : (x y : List ℕ) (front : Front) (p : Parameters) (sound : Chunk) → (wave_shape x front p sound).frames ≡ (wave_shape y front p sound).frames
    → nat_lt (data_end x sound) (outer_end x) ≡ nat_lt (data_end y sound) (outer_end y) → wave_tail x front sound ≡ wave_tail y front sound → wave_shape x front p sound ≡ wave_shape y front p sound
same_shape x y front p sound frames trailing behind =
    let s = wave_shape x front p sound in
    let t = wave_shape y front p sound in
    ap (λ (n : ℕ). record s { frames = n }) frames ∙ ap (λ (goes_on : Bool). record s { frames = t.frames; trailing = goes_on }) trailing
    ∙ ap (λ (l : List Chunk). record s { frames = t.frames; trailing = t.trailing; pieces = pieces_of false front.chunks ++ pieces_of true l }) behind

-- ---- how far the parts reach

pub start_within : (b : List ℕ) (h : Shape) → wave_layout b ≡ Ok h → h.start ≤ length b
start_within b h is =
    let from : Opens b (wave_front b) h = opens b h is in
    let reach = reached b from.sound from.sound_is in
    let head : IsHead Little b reach.last from.sound = is_head Little b reach.last from.sound reach.at in
    omega (arith, ap (λ (s : Shape). s.start) from.shape, head.at, head.within)

-- the data of the frames end with those that the file holds
pub frames_end : (b : List ℕ) (h : Shape) → wave_layout b ≡ Ok h → AreParams h.params → end h h.frames ≤ padded_data_end h (length b)
frames_end b h is good =
    let from : Opens b (wave_front b) h = opens b h is in
    let fits : fit_refusal Wave from.params ≡ None = format_fits (body_of b from.format) from.params from.params_are in
    let good_too : AreParams from.params = rw from.shape at good in
    let few = counted_bytes from.params (held (length b) from.sound) (option_map (fact_count 4 b) (fact_chunk 4 (wave_front b).chunks)) good_too fits in
    rw from.shape (omega (arith, few))

-- in a file of bytes they begin early, and are declared with 32 bits
pub few_before : (b : List ℕ) (h : Shape) → All IsByte b → wave_layout b ≡ Ok h → (h.declared < 2 ^ 32) × (h.start < 2 ^ 42)
few_before b h bytes is =
    let from : Opens b (wave_front b) h = opens b h is in
    let reach = reached b from.sound from.sound_is in
    let head : IsHead Little b reach.last from.sound = is_head Little b reach.last from.sound reach.at in
    let near : reach.last ≤ 12 + length (wave_front b).chunks * 2 ^ 33 = chain_end Little b (codes "data") (length b) 12 reach.last (wave_front b).chunks bytes reach.chain in
    let start : h.start ≡ from.sound.at = ap (λ (s : Shape). s.start) from.shape in
    let few : number Little b (h.start - 4) 4 < 2 ^ 32 = number_fits Little b (h.start - 4) 4 bytes in
    (omega (arith, (numbers_stand_before b h is).0, few), omega (arith, start, near, head.at, reach.few))

-- ---- the old count

pub in_field : (x b : List ℕ) (at n i : ℕ) → HasFieldOf x b at n → at ≤ i → i < at + n → get_or x i 0 ≡ get_or b i 0
in_field x b at n i has from to =
    let place : at + (i - at) ≡ i = omega arith in
    let there : get_or x (at + (i - at)) 0 ≡ get_or b (at + (i - at)) 0 = has (i - at) (omega arith) in
    rw place at there

keeps_count : (b x : List ℕ) (h : Shape) → KeepsHead h b x → HasFieldOf x b h.inner.at h.inner.size → KeepsCount h b x
keeps_count b x h keeps inner i lt outer side = elim (cases_lt i h.inner.at) [
  | inl before ↦ keeps i lt (out_of_fields h i (outside h.inner.at h.inner.size i (inl before)) outer side)
  | inr from ↦ elim (cases_lt i (h.inner.at + h.inner.size)) [
    | inl to ↦ in_field x b h.inner.at h.inner.size i inner from to
    | inr behind ↦ keeps i lt (out_of_fields h i (outside h.inner.at h.inner.size i (inr behind)) outer side)
  ]
]

-- the whole of a file that does not go on behind its data ends by those that it declares
pub outer_stops : (b : List ℕ) (h : Shape) → wave_layout b ≡ Ok h → h.trailing ≡ false → outer_end b ≤ padded_end h.start h.declared
outer_stops b h is free =
    let ends : outer_end b ≤ padded_data_end h (length b) = ltb-false (padded_data_end h (length b)) (outer_end b) (sym (trailing_is_stated b h is) ∙ free) in
    omega (arith, ends)

pub old_count_reads_back : (b x : List ℕ) (h : Shape) → wave_layout b ≡ Ok h → All IsByte b → h.trailing ≡ false → HoldDeclared h b x → KeepsHead h b x → HasFieldOf x b h.inner.at h.inner.size
    → outer_end x ≤ padded_end h.start h.declared → wave_layout x ≡ Ok h
old_count_reads_back b x h is bytes free hold keeps inner ends =
    let few = few_before b h bytes is in
    let there : Stays x b h = stays x b h is (omega (arith, hold.new)) (keeps_count b x h keeps inner) in
    let start : h.start ≡ there.sound.at = ap (λ (s : Shape). s.start) there.old in
    let declared : h.declared ≡ there.sound.len = ap (λ (s : Shape). s.declared) there.old in
    let in_x : held (length x) there.sound ≡ there.sound.len = omega (arith, start, declared, hold.new, few.0, few.1) in
    let in_b : held (length b) there.sound ≡ there.sound.len = omega (arith, start, declared, hold.old, few.0, few.1) in
    let by_x : outer_end x ≤ data_end x there.sound = omega (arith, ends, in_x, start, declared) in
    let by_b : outer_end b ≤ data_end b there.sound = omega (arith, outer_stops b h is free, in_b, start, declared) in
    let front : Front = wave_front b in
    there.new
    ∙ ap (λ (s : Shape). Ok s) (same_shape x b front there.params there.sound
    (ap (λ (n : ℕ). frame_count there.params n (option_map (fact_count 4 x) (fact_chunk 4 front.chunks))) (in_x ∙ sym in_b) ∙ there.count (held (length b) there.sound))
    (le-ltb (data_end x there.sound) (outer_end x) by_x ∙ sym (le-ltb (data_end b there.sound) (outer_end b) by_b))
    (none_behind x front there.sound by_x ∙ sym (none_behind b front there.sound by_b)) ∙ sym there.old)

-- ---- all but the data

pub same_outside_data_reads_back : (b x : List ℕ) (h : Shape) → wave_layout b ≡ Ok h → length x ≡ length b
    → ((i : ℕ) → (i < h.start) ⊎ (padded_data_end h (length b) ≤ i) → get_or x i 0 ≡ get_or b i 0) → wave_layout x ≡ Ok h
same_outside_data_reads_back b x h is long same =
    let apart : FieldsStandApart h = fields_are_apart b h is in
    let there : Stays x b h = stays x b h is (omega (arith, long, start_within b h is)) (λ i lt outer side. same i (inl lt)) in
    let front : Front = wave_front b in
    let most : ℕ = 256 - length front.chunks in
    let riff : number Little x 4 4 ≡ number Little b 4 4 = same_number_at Little 4 4 x b (λ i from to. same i (inl (omega (arith, to, apart.inner, apart.start)))) in
    let outer : outer_end x ≡ outer_end b = omega (arith, riff, long) in
    let reach : padded_data_end h (length b) ≡ data_end b there.sound = ap (λ (s : Shape). padded_data_end s (length b)) there.old in
    let ends : data_end x there.sound ≡ data_end b there.sound = ap (λ (n : ℕ). padded_end there.sound.at (held n there.sound)) long in
    let behind : wave_tail x front there.sound ≡ wave_tail b front there.sound =
    ap (λ (n : ℕ). tail (chunk_at Little x) n most (data_end x there.sound)) outer
    ∙ ap (λ (n : ℕ). tail (chunk_at Little x) (outer_end b) most n) ends
    ∙ tail_from_same Little x b (outer_end b) most (data_end b there.sound) long (λ i from. same i (inr (omega (arith, reach, from)))) in
    there.new
    ∙ ap (λ (s : Shape). Ok s) (same_shape x b front there.params there.sound
    (ap (λ (n : ℕ). frame_count there.params (held n there.sound) (option_map (fact_count 4 x) (fact_chunk 4 front.chunks))) long ∙ there.count (held (length b) there.sound))
    (ap (λ (n : ℕ). nat_lt n (outer_end x)) ends ∙ ap (nat_lt (data_end b there.sound)) outer) behind ∙ sym there.old)
