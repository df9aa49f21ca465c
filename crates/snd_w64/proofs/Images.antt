-- Files whose fields are partly old and partly new, or whose data have changed.
use Rattle.std.proofs.Common.{◌≡◌, ◌⊎◌, ℕ, ◌+◌, ◌-◌, ◌/◌, ◌<◌, ◌≤◌, ◌^◌, List, ◌++◌, Bool, true, false, ◌&&◌, Option, None, Some, Ok, length, take, drop, get_or, refl, sym, ap, subst, ◌∙◌, inl, inr, arith}
use Rattle.std.proofs.lemmas.Bool.{and_parts, cases_Bool, cases_lt, eqb-true, le-ltb, ltb-false}
use Rattle.std.proofs.lemmas.List.{places, take-append-drop}
use Rattle.std.proofs.lemmas.Slice.Eq.{bytes_eq-Decides}
use Rattle.std.specs.Prelude.{◌==◌, codes, nat_lt, option_map}
use Rattle.std.specs.Str.{bytes_eq}
use Rattle.snd_chunks.proofs.Public.{has_left, has_right, same_number_at}
use Rattle.snd_chunks.specs.declared.chunk.Chunk.{Chunk}
use Rattle.snd_disk.specs.Runs.{HasAt, HasFieldOf}
use Rattle.snd_fields.specs.Field.{bytes_of}
use Rattle.snd_fields.specs.declared.field.Order.TheVariants.{Little}
use Rattle.snd_layout.proofs.Formats.{format_fits}
use Rattle.snd_layout.specs.Blocks.{block_frames, is_adpcm}
use Rattle.snd_layout.specs.Container.{KeepsHead, NewCountReadsBack, OldCountReadsBack, OuterIsWithin, OuterReaches, OuterStops, PiecesStay, SameOutsideDataReadsBack, Says, VoiceDeclares, VoiceReadsBack, is_in, is_in_some}
use Rattle.snd_layout.specs.Fit.{fit_refusal}
use Rattle.snd_layout.specs.Params.{AreParams, Parameters, data_bytes}
use Rattle.snd_layout.specs.Shape.{Shape, end}
use Rattle.snd_layout.specs.declared.field.Field.{Field}
use Rattle.snd_layout.specs.declared.kind.Kind.TheVariants.{W64, Voc}
use Rattle.snd_w64.specs.Container.{w64}
use Rattle.snd_chunks.specs.Parts.{body_of, fact_chunk, fact_count, frame_count, held, inner_field, is_joined, reached, side_field}
use Rattle.snd_w64.specs.Layout.{chunk_at, data_end, id_end, letters, letters_at, outer_end, raised, shape_of, size_at, w64_front, w64_layout, w64_shape, whole_size}
use Rattle.snd_w64.specs.Values.{data_size, inner_value, outer_value, whole_of}
use Rattle.snd_w64.proofs.Agreements.{IsBeside, SameChunks, Stand, StandsBefore, lays, out_of_fields, outside, sound_same, stand}
use Rattle.snd_w64.proofs.Blocks.{frames_fit}
use Rattle.snd_w64.proofs.Chains.{head_id, same_chunk}
use Rattle.snd_w64.proofs.Counts.{counted, has_number, within_blocks}
use Rattle.snd_w64.proofs.FieldLaws.{FieldsStand, closed_is, fields_stand, inner_eight, inner_joined, said}
use Rattle.snd_w64.proofs.Opens.{Opens, opens}
use Rattle.snd_w64.proofs.Raising.{raised-grows, raised-least}

-- ---- what a layout hangs on

inner_same : (p : Parameters) (fact : Option Chunk) (sound sound' : Chunk) → sound'.at ≡ sound.at → inner_field 8 24 p fact sound' ≡ inner_field 8 24 p fact sound
inner_same p None sound sound' at = rw at refl
inner_same p (Some fact) sound sound' at = rw at refl

by_counts : (p : Parameters) (fact : Option Chunk) (sound sound' : Chunk) (count count' : Option ℕ) (size size' whole whole' frames declared : ℕ) (trailing : Bool) → sound'.at ≡ sound.at → frame_count p (held size' sound') count' ≡ frames → sound'.len ≡ declared
    → nat_lt (data_end size' sound') (outer_end size' whole') ≡ trailing → shape_of p fact sound' count' size' whole' ≡ record (shape_of p fact sound count size whole) { frames = frames; declared = declared; trailing = trailing }
by_counts p fact sound sound' count count' size size' whole whole' frames declared trailing at framed length goes_on =
    let s : Shape = shape_of p fact sound count size whole in
    let t : Shape = shape_of p fact sound' count' size' whole' in
    ap (λ (n : ℕ). record s { start = n; frames = t.frames; declared = t.declared; inner = t.inner; trailing = t.trailing }) at
    ∙ ap (λ (f : Field). record s { frames = t.frames; declared = t.declared; inner = f; trailing = t.trailing }) (inner_same p fact sound sound' at)
    ∙ ap (λ (n : ℕ). record s { frames = n; declared = t.declared; trailing = t.trailing }) framed
    ∙ ap (λ (n : ℕ). record s { frames = frames; declared = n; trailing = t.trailing }) length
    ∙ ap (λ (g : Bool). record s { frames = frames; declared = declared; trailing = g }) goes_on

-- in other codecs than ADPCM the count of a `fact` does not count
same_frames : (p : Parameters) (bytes : ℕ) (fact : Option Chunk) (x y : List ℕ) → (is_adpcm p.codec ≡ true → option_map (fact_count 8 x) fact ≡ option_map (fact_count 8 y) fact)
    → frame_count p bytes (option_map (fact_count 8 x) fact) ≡ frame_count p bytes (option_map (fact_count 8 y) fact)
same_frames p bytes None x y same = refl
same_frames p bytes (Some fact) x y same = elim (cases_Bool (is_adpcm p.codec)) [
  | inl is ↦ ap (frame_count p bytes) (same is)
  | inr other ↦ rw other refl
]

-- ---- places beside the fields

not_side : (p : Parameters) (fact : Option Chunk) (i : ℕ) → is_adpcm p.codec ≡ true → is_in_some (side_field 8 p fact) i ≡ false
not_side p fact i adpcm = rw adpcm refl

side_out : (p : Parameters) (fact : Option Chunk) (i : ℕ) → IsBeside fact i → is_in_some (side_field 8 p fact) i ≡ false
side_out p None i beside = elim (cases_Bool (is_adpcm p.codec)) [ inl is ↦ rw is refl | inr other ↦ rw other refl ]
side_out p (Some fact) i beside = elim (cases_Bool (is_adpcm p.codec)) [
  | inl is ↦ rw is refl
  | inr other ↦ rw other (outside (record { at = fact.at; size = 8 }) i (beside fact refl))
]

-- where the field that decides the count has 32 bytes, the `fact` is joined with the head of the data
record IsJoined (p : Parameters) (fact : Option Chunk) (sound : Chunk) : Type 0 where
  chunk : Chunk
  is : fact ≡ Some chunk
  adpcm : is_adpcm p.codec ≡ true
  at : (inner_field 8 24 p fact sound).at ≡ chunk.at
  ends : chunk.at + 32 ≡ sound.at

joined_is : (p : Parameters) (fact : Option Chunk) (sound : Chunk) → ((f : Chunk) → fact ≡ Some f → StandsBefore sound f) → (inner_field 8 24 p fact sound).size ≡ 32 → IsJoined p fact sound
joined_is p None sound stands size = elim (cases_Bool (is_adpcm p.codec)) [
  | inl is ↦ absurd (let h = rw is at size in omega (arith, h))
  | inr other ↦ absurd (let h = rw other at size in omega (arith, h))
]
joined_is p (Some fact) sound stands size = elim (cases_Bool (is_adpcm p.codec && is_joined 8 24 (Some fact) sound)) [
  | inl both ↦
      let before : StandsBefore sound fact = stands fact refl in
      let all = and_parts (is_adpcm p.codec) (is_joined 8 24 (Some fact) sound) both in
      let parts = and_parts (fact.len == 8) (fact.next + 24 == sound.at) all.1 in
      let next : fact.next ≡ fact.at + 8 = before.joined (eqb-true fact.len 8 parts.0) in
      let joined : fact.next + 24 ≡ sound.at = eqb-true (fact.next + 24) sound.at parts.1 in
      record { chunk = fact; is = refl; adpcm = all.0; at = rw both refl; ends = omega (arith, next, joined) }
  | inr other ↦ absurd (let h = rw other at size in omega (arith, h))
]

-- a place before the head of the data, and beside the count, is not in the field that decides the count
inner_out : (p : Parameters) (fact : Option Chunk) (sound : Chunk) (i : ℕ) → ((f : Chunk) → fact ≡ Some f → StandsBefore sound f) → IsBeside fact i → i < sound.at - 24 → is_in (inner_field 8 24 p fact sound) i ≡ false
inner_out p None sound i stands beside early = elim (cases_Bool (is_adpcm p.codec)) [
  | inl is ↦ rw is (outside (record { at = sound.at - 8; size = 8 }) i (inl (omega (arith, early))))
  | inr other ↦ rw other (outside (record { at = sound.at - 8; size = 8 }) i (inl (omega (arith, early))))
]
inner_out p (Some fact) sound i stands beside early = elim (cases_Bool (is_adpcm p.codec && is_joined 8 24 (Some fact) sound)) [
  | inl both ↦
      let before : StandsBefore sound fact = stands fact refl in
      let parts = and_parts (fact.len == 8) (fact.next + 24 == sound.at) (and_parts (is_adpcm p.codec) (is_joined 8 24 (Some fact) sound) both).1 in
      let next : fact.next ≡ fact.at + 8 = before.joined (eqb-true fact.len 8 parts.0) in
      let joined : fact.next + 24 ≡ sound.at = eqb-true (fact.next + 24) sound.at parts.1 in
      rw both (outside (record { at = fact.at; size = 32 }) i (elim (beside fact refl) [ inl lt ↦ inl lt | inr le ↦ absurd (omega (arith, le, next, joined, early)) ]))
  | inr other ↦ rw other (outside (record { at = sound.at - 8; size = 8 }) i (inl (omega (arith, early))))
]

-- a place from the head of the data on is beside the count
beside_head : (sound : Chunk) (fact : Option Chunk) (i : ℕ) → ((f : Chunk) → fact ≡ Some f → StandsBefore sound f) → sound.at ≤ i + 24 → IsBeside fact i
beside_head sound fact i stands from f found = inr (omega (arith, from, (stands f found).before, (stands f found).count))

-- ---- files that differ in the size of the whole and the count that is not read alone

-- before the data, every byte beside these is that of a file
abbrev KeepsCount : Shape → List ℕ → List ℕ → Type 0
KeepsCount h file x = (i : ℕ) → i < h.start → is_in_some h.outer i ≡ false → is_in_some h.side i ≡ false → get_or x i 0 ≡ get_or file i 0

record Stays (x y : List ℕ) (h : Shape) : Type 0 where
  params : Parameters
  sound : Chunk
  old : h ≡ w64_shape y (w64_front y) params sound
  new : w64_layout x ≡ Ok (w64_shape x (w64_front y) params sound)
  count : (bytes : ℕ) → frame_count params bytes (option_map (fact_count 8 x) (fact_chunk 8 (w64_front y).chunks)) ≡ frame_count params bytes (option_map (fact_count 8 y) (fact_chunk 8 (w64_front y).chunks))
  within : sound.at ≤ 2 ^ 63 - 8

module _ (x y : List ℕ) (p : Parameters) (sound : Chunk) (same : KeepsCount (w64_shape y (w64_front y) p sound) y x) (within : sound.at ≤ reached (length x)) (there : Stand y sound) where
  abbrev fact : Option Chunk
  fact = fact_chunk 8 (w64_front y).chunks

  chunks_same : SameChunks x y sound
  chunks_same i from to beside = same i (omega (arith, to)) (outside (record { at = 16; size = 8 }) i (inr (omega (arith, from)))) (side_out p fact i beside)

  head_same : (i : ℕ) → sound.at ≤ i + 24 → i < sound.at → get_or x i 0 ≡ get_or y i 0
  head_same i from to = same i to (outside (record { at = 16; size = 8 }) i (inr (omega (arith, from, there.at, there.late)))) (side_out p fact i (beside_head sound fact i there.fact from))

  sound_stays : (sound_same x y p sound chunks_same within there).chunk ≡ sound
  sound_stays =
      let new = sound_same x y p sound chunks_same within there in
      let is : chunk_at x there.reach.last ≡ Some sound = same_chunk x y there.reach.last sound there.reach.at (omega (arith, there.at, within)) head_same in
      let both : Some new.chunk ≡ Some sound = sym new.is ∙ is in
      cc

  count_same : is_adpcm p.codec ≡ true → (f : Option Chunk) → fact ≡ f → option_map (fact_count 8 x) f ≡ option_map (fact_count 8 y) f
  count_same adpcm None found = refl
  count_same adpcm (Some f) found =
      let placed : StandsBefore sound f = there.fact f found in
      ap (λ (n : ℕ). Some n) (same_number_at Little 8 f.at x y (λ i from to.
      same i (omega (arith, to, placed.before, placed.count)) (outside (record { at = 16; size = 8 }) i (inr (omega (arith, from, placed.behind)))) (not_side p fact i adpcm)))

stays : (x y : List ℕ) (h : Shape) → w64_layout y ≡ Ok h → h.start ≤ reached (length x) → KeepsCount h y x → Stays x y h
stays x y h is within same =
    let from : Opens y (w64_front y) h = opens y h is in
    let there : Stand y from.sound = stand y from.sound from.sound_is in
    let within_too : from.sound.at ≤ reached (length x) = rw from.shape at within in
    let same_too : KeepsCount (w64_shape y (w64_front y) from.params from.sound) y x = rw from.shape at same in
    record {
      params = from.params;
      sound = from.sound;
      old = from.shape;
      new = lays x y from.params from.sound (chunks_same x y from.params from.sound same_too within_too there) within_too there h from refl refl
          ∙ ap (λ (c : Chunk). Ok (w64_shape x (w64_front y) from.params c)) (sound_stays x y from.params from.sound same_too within_too there);
      count = λ bytes. same_frames from.params bytes (fact_chunk 8 (w64_front y).chunks) x y
          (λ adpcm. count_same x y from.params from.sound same_too within_too there adpcm (fact_chunk 8 (w64_front y).chunks) refl);
      within = omega (arith, within_too);
    }

-- ---- the old count

in_field : (x b : List ℕ) (at n i : ℕ) → HasFieldOf x b at n → at ≤ i → i < at + n → get_or x i 0 ≡ get_or b i 0
in_field x b at n i has from to =
    let place : at + (i - at) ≡ i = omega arith in
    let there : get_or x (at + (i - at)) 0 ≡ get_or b (at + (i - at)) 0 = has (i - at) (omega arith) in
    rw place at there

keeps_count : (b x : List ℕ) (h : Shape) → KeepsHead h b x → HasFieldOf x b h.inner.at h.inner.size → KeepsCount h b x
keeps_count b x h keeps inner i lt outer side = elim (cases_lt i h.inner.at) [
  | inl before ↦ keeps i lt (out_of_fields h i (outside h.inner i (inl before)) outer side)
  | inr from ↦ elim (cases_lt i (h.inner.at + h.inner.size)) [
    | inl to ↦ in_field x b h.inner.at h.inner.size i inner from to
    | inr behind ↦ keeps i lt (out_of_fields h i (outside h.inner i (inr behind)) outer side)
  ]
]

start_within : (b : List ℕ) (h : Shape) → w64_layout b ≡ Ok h → h.start ≤ reached (length b)
start_within b h is =
    let from : Opens b (w64_front b) h = opens b h is in
    let there : Stand b from.sound = stand b from.sound from.sound_is in
    omega (arith, ap (λ (s : Shape). s.start) from.shape, there.at, there.head.within)

-- where the whole ends by the declared data, it ends by those that the file holds
ends_held : (size whole : ℕ) (sound : Chunk) → sound.at ≤ 2 ^ 63 - 8 → sound.at + sound.len ≤ size → outer_end size whole ≤ raised (sound.at + sound.len) → outer_end size whole ≤ data_end size sound
ends_held size whole sound early within ends = elim (cases_lt (2 ^ 63 - 8) (sound.at + sound.len)) [
  | inl past ↦ omega (arith, raised-least (sound.at + held size sound), past, within, early)
  | inr all ↦
      let is : held size sound ≡ sound.len = omega (arith, all, within) in
      omega (arith, ends, ap (λ (n : ℕ). raised (sound.at + n)) is)
]

same_held : (size size' : ℕ) (sound : Chunk) → sound.at + sound.len ≤ size → sound.at + sound.len ≤ size' → held size sound ≡ held size' sound
same_held size size' sound one two = omega (arith, one, two)

free_ends : (b : List ℕ) (h : Shape) → w64_layout b ≡ Ok h → h.trailing ≡ false → outer_end (length b) (whole_size b) ≤ raised (h.start + h.declared)
free_ends b h is free =
    let from : Opens b (w64_front b) h = opens b h is in
    let free_too : nat_lt (data_end (length b) from.sound) (outer_end (length b) (whole_size b)) ≡ false = rw from.shape at free in
    let ends : outer_end (length b) (whole_size b) ≤ data_end (length b) from.sound = ltb-false (data_end (length b) from.sound) (outer_end (length b) (whole_size b)) free_too in
    let grows : data_end (length b) from.sound ≤ raised (from.sound.at + from.sound.len) = raised-grows (from.sound.at + held (length b) from.sound) (from.sound.at + from.sound.len) (omega arith) in
    rw from.shape (omega (arith, ends, grows))

says : (x : List ℕ) (h : Shape) → w64_layout x ≡ Ok h → Says w64 x h
says x h is = record { goes_on = h.trailing; told = is; same = inr refl }

pub old_count_reads_back : OldCountReadsBack w64
old_count_reads_back b x h said_b bytes free known hold keeps inner ends =
    let is : w64_layout b ≡ Ok h = said b h said_b in
    let near : h.start ≤ 2 ^ 63 - 8 = omega (arith, start_within b h is) in
    let there : Stays x b h = stays x b h is (omega (arith, hold.new, near)) (keeps_count b x h keeps inner) in
    let start : h.start ≡ there.sound.at = ap (λ (s : Shape). s.start) there.old in
    let declared : h.declared ≡ there.sound.len = ap (λ (s : Shape). s.declared) there.old in
    let trailing : h.trailing ≡ nat_lt (data_end (length b) there.sound) (outer_end (length b) (whole_size b)) = ap (λ (s : Shape). s.trailing) there.old in
    let frames : h.frames ≡ frame_count there.params (held (length b) there.sound) (option_map (fact_count 8 b) (fact_chunk 8 (w64_front b).chunks)) = ap (λ (s : Shape). s.frames) there.old in
    let reach_x : outer_end (length x) (whole_size x) ≤ raised (there.sound.at + there.sound.len) = rw (← start, ← declared) ends in
    let by_x : outer_end (length x) (whole_size x) ≤ data_end (length x) there.sound = ends_held (length x) (whole_size x) there.sound there.within (omega (arith, start, declared, hold.new)) reach_x in
    let same : held (length x) there.sound ≡ held (length b) there.sound = same_held (length x) (length b) there.sound (omega (arith, start, declared, hold.new)) (omega (arith, start, declared, hold.old)) in
    let f : Option Chunk = fact_chunk 8 (w64_front b).chunks in
    says x h (there.new ∙ ap (λ (s : Shape). Ok s) (by_counts there.params f there.sound there.sound (option_map (fact_count 8 b) f) (option_map (fact_count 8 x) f) (length b) (length x) (whole_size b) (whole_size x) _ there.sound.len _ refl
    (ap (λ (n : ℕ). frame_count there.params n (option_map (fact_count 8 x) f)) same ∙ there.count (held (length b) there.sound)) refl
    (le-ltb (data_end (length x) there.sound) (outer_end (length x) (whole_size x)) by_x ∙ sym free ∙ trailing) ∙ sym there.old))

-- ---- the data alone

pub same_outside_data_reads_back : SameOutsideDataReadsBack w64
same_outside_data_reads_back b x h is good long same =
    let stands : FieldsStand h = fields_stand b h is in
    let within : h.start ≤ reached (length x) = omega (arith, long, start_within b h is) in
    let there : Stays x b h = stays x b h is within (λ i lt outer side. same i (inl lt)) in
    let f : Option Chunk = fact_chunk 8 (w64_front b).chunks in
    let whole : whole_size x ≡ whole_size b = same_number_at Little 8 16 x b (λ i from to. same i (inl (omega (arith, to, stands.inner, stands.start)))) in
    there.new ∙ ap (λ (s : Shape). Ok s) (by_counts there.params f there.sound there.sound (option_map (fact_count 8 b) f) (option_map (fact_count 8 x) f) (length b) (length x) (whole_size b) (whole_size x) _ there.sound.len _ refl
    (ap (λ (n : ℕ). frame_count there.params (held n there.sound) (option_map (fact_count 8 x) f)) long ∙ there.count (held (length b) there.sound)) refl
    (ap (λ (n : ℕ). nat_lt (data_end n there.sound) (outer_end n (whole_size x))) long ∙ ap (λ (n : ℕ). nat_lt (data_end (length b) there.sound) (outer_end (length b) n)) whole) ∙ sym there.old)

-- ---- how far a file counts

pub outer_is_within : OuterIsWithin w64
outer_is_within kind x = omega arith

pub outer_stops : OuterStops w64
outer_stops b x h said_b free outer fewer =
    let is : w64_layout b ≡ Ok h = said b h said_b in
    let stands : FieldsStand h = fields_stand b h is in
    let field : HasFieldOf x b 16 8 = rw stands.outer at outer in
    let whole : whole_size x ≡ whole_size b = same_number_at Little 8 16 x b (λ i from to. in_field x b 16 8 i field from to) in
    omega (arith, whole, fewer, free_ends b h is free)

pub outer_reaches : OuterReaches w64
unfolding outer_value
outer_reaches b x h n said_b outer =
    let stands : FieldsStand h = fields_stand b h (said b h said_b) in
    let has : HasAt x 16 (bytes_of Little 8 (whole_of (end h n))) = rw stands.outer at outer in
    let read : whole_size x ≡ whole_of (end h n) = has_number x 16 (whole_of (end h n)) has (omega arith) in
    omega (arith, read, closed_is h n)

pub pieces_stay : PiecesStay w64
pieces_stay b x h is good within keeps behind = rw (opens b h is).shape (λ k d lt. absurd (omega (arith, lt)))

pub voice_reads_back : VoiceReadsBack w64
voice_reads_back b x h says voc =
    let kind : h.kind ≡ W64 = (fields_stand b h (said b h says)).kind in
    absurd (let both : W64 ≡ Voc = sym kind ∙ voc in cc)

pub voice_declares : VoiceDeclares w64
voice_declares b h is voc =
    let kind : h.kind ≡ W64 = (fields_stand b h is).kind in
    absurd (let both : W64 ≡ Voc = sym kind ∙ voc in cc)

-- ---- the new count

data_letters : (id : List ℕ) → bytes_eq (letters id) (codes "data") ≡ true → id ≡ codes "data" ++ id_end
data_letters id is =
    let named : letters id ≡ codes "data" = (bytes_eq-Decides (letters id) (codes "data")).0 is in
    elim (cases_Bool (bytes_eq (drop 4 id) id_end)) [
      | inl ends ↦
          let front : take 4 id ≡ codes "data" = rw ends at named in
          let back : drop 4 id ≡ id_end = (bytes_eq-Decides (drop 4 id) id_end).0 ends in
          sym (take-append-drop 4 id) ∙ ap (λ (l : List ℕ). l ++ drop 4 id) front ∙ ap (λ (l : List ℕ). codes "data" ++ l) back
      | inr other ↦ absurd (let zeros = rw other at named in let first = ap (λ (l : List ℕ). get_or l 0 0) zeros in omega (arith, first))
    ]

by_part : (k : ℕ) (b : List ℕ) (p : ℕ) (v : List ℕ) (j : ℕ) → j < k → take k (drop p b) ≡ v → get_or b (p + j) 0 ≡ get_or v j 0
by_part k b p v j lt same = rw (← same) (grind (arith, places))

-- the data size is the last of the field that decides the count
size_there : (x : List ℕ) (h : Shape) (n : ℕ) → (h.inner.size ≡ 8) ⊎ (h.inner.size ≡ 32) → h.inner.at + h.inner.size ≡ h.start → HasAt x h.inner.at (inner_value h n) → HasAt x (h.start - 8) (bytes_of Little 8 (data_size h n))
size_there x h n (inl eight) ends has =
    let place : h.inner.at ≡ h.start - 8 = omega (arith, eight, ends) in
    let here : HasAt x h.inner.at (bytes_of Little 8 (data_size h n)) = rw (inner_eight h n eight) at has in
    rw (← place) here
size_there x h n (inr joined) ends has =
    let all : HasAt x h.inner.at (bytes_of Little 8 n ++ (codes "data" ++ id_end) ++ bytes_of Little 8 (data_size h n)) = rw (inner_joined h n joined) at has in
    has_right x h.inner.at (h.start - 8) (bytes_of Little 8 n ++ (codes "data" ++ id_end)) (bytes_of Little 8 (data_size h n)) (omega (arith, joined, ends)) all

joined_there : (x : List ℕ) (h : Shape) (n : ℕ) → h.inner.size ≡ 32 → h.inner.at + h.inner.size ≡ h.start → HasAt x h.inner.at (inner_value h n) → HasAt x h.inner.at (bytes_of Little 8 n) × HasAt x (h.start - 24) (codes "data" ++ id_end)
joined_there x h n joined ends has =
    let all : HasAt x h.inner.at (bytes_of Little 8 n ++ (codes "data" ++ id_end) ++ bytes_of Little 8 (data_size h n)) = rw (inner_joined h n joined) at has in
    let front : HasAt x h.inner.at (bytes_of Little 8 n ++ (codes "data" ++ id_end)) = has_left x h.inner.at (bytes_of Little 8 n ++ (codes "data" ++ id_end)) (bytes_of Little 8 (data_size h n)) all in (
      has_left x h.inner.at (bytes_of Little 8 n) (codes "data" ++ id_end) front,
      has_right x h.inner.at (h.start - 24) (bytes_of Little 8 n) (codes "data" ++ id_end) (omega (arith, joined, ends)) front,
    )

-- what the new count gives of a file
module _ (b x : List ℕ) (p : Parameters) (sound : Chunk) (n : ℕ) (there : Stand b sound) where
  abbrev h : Shape
  h = w64_shape b (w64_front b) p sound

  abbrev f : Option Chunk
  f = fact_chunk 8 (w64_front b).chunks

  module _ (stands : FieldsStand h) (good : AreParams p) (fits : fit_refusal W64 p ≡ None) (few : h.start + data_bytes p n + 8 ≤ 2 ^ 63) (joined : is_adpcm p.codec ≡ true → 12 ≤ h.inner.size)
      (keeps : KeepsHead h b x) (inner : HasAt x h.inner.at (inner_value h n)) (long : end h n ≤ length x) (ends : outer_end (length x) (whole_size x) ≤ raised (end h n)) where
    guid : HasAt b there.reach.last (codes "data" ++ id_end)
    guid j lt =
        let named : bytes_eq (letters_at b there.reach.last) (codes "data") ≡ true = rw (head_id b there.reach.last sound there.head) at there.reach.is in
        by_part 16 b there.reach.last (codes "data" ++ id_end) j lt (data_letters (take 16 (drop there.reach.last b)) named)

    -- the identifier of the data stands before their size
    marks_same : (i : ℕ) → sound.at ≤ i + 24 → i < sound.at - 8 → get_or x i 0 ≡ get_or b i 0
    marks_same i from to = by_size stands.sizes
      where
        by_size : (h.inner.size ≡ 8) ⊎ (h.inner.size ≡ 32) → get_or x i 0 ≡ get_or b i 0
        by_size (inl eight) =
            keeps i (omega (arith, to)) (out_of_fields h i (outside h.inner i (inl (omega (arith, eight, stands.start, to)))) (outside (record { at = 16; size = 8 }) i (inr (omega (arith, from, there.at, there.late))))
            (side_out p f i (beside_head sound f i there.fact from)))
        by_size (inr wide) =
            let new : HasAt x (sound.at - 24) (codes "data" ++ id_end) = (joined_there x h n wide stands.start inner).1 in
            let place : i ≡ (sound.at - 24) + (i - (sound.at - 24)) = omega (arith, from) in
            let place_too : i ≡ there.reach.last + (i - (sound.at - 24)) = omega (arith, from, there.at) in
            ap (λ k. get_or x k 0) place ∙ new (i - (sound.at - 24)) (omega (arith, from, to, there.at)) ∙ sym (guid (i - (sound.at - 24)) (omega (arith, from, to, there.at))) ∙ ap (λ k. get_or b k 0) (sym place_too)

    all_same : SameChunks x b sound
    all_same i from to beside = elim (cases_lt i (sound.at - 24)) [
      | inl early ↦ keeps i (omega (arith, to)) (out_of_fields h i (inner_out p f sound i there.fact beside early) (outside (record { at = 16; size = 8 }) i (inr (omega (arith, from)))) (side_out p f i beside))
      | inr late ↦ marks_same i (omega (arith, late)) to
    ]

    within : sound.at ≤ reached (length x)
    within = omega (arith, few, long, raised-least (end h n))

    abbrev new : Chunk
    new = (sound_same x b p sound all_same within there).chunk

    at_same : new.at ≡ sound.at
    at_same = (sound_same x b p sound all_same within there).at

    size_is : size_at x there.reach.last ≡ data_size h n
    size_is =
        let has : HasAt x (sound.at - 8) (bytes_of Little 8 (data_size h n)) = size_there x h n stands.sizes stands.start inner in
        let place : sound.at - 8 ≡ there.reach.last + 16 = omega (arith, there.at) in
        let here : HasAt x (there.reach.last + 16) (bytes_of Little 8 (data_size h n)) = rw place at has in
        has_number x (there.reach.last + 16) (data_size h n) here (omega (arith, few))

    len_is : new.len ≡ data_bytes p n
    len_is = omega (arith, (sound_same x b p sound all_same within there).len, size_is, few)

    held_is : held (length x) new ≡ data_bytes p n
    held_is = omega (arith, len_is, at_same, few, long, raised-least (end h n))

    count_is : is_adpcm p.codec ≡ true → option_map (fact_count 8 x) f ≡ Some n
    count_is adpcm =
        let wide : h.inner.size ≡ 32 = elim stands.sizes [ inl eight ↦ absurd (omega (arith, joined adpcm, eight)) | inr is ↦ is ] in
        let fact : IsJoined p f sound = joined_is p f sound there.fact wide in
        let has : HasAt x h.inner.at (bytes_of Little 8 n) = (joined_there x h n wide stands.start inner).0 in
        let here : HasAt x fact.chunk.at (bytes_of Little 8 n) = rw fact.at at has in
        let fit : n < 2 ^ 64 = frames_fit p n ((n + block_frames p.codec - 1) / block_frames p.codec) good fits (within_blocks p n good fits) (omega (arith, few)) in
        rw fact.is (ap (λ (k : ℕ). Some k) (has_number x fact.chunk.at n here fit))

    ends_at : data_end (length x) new ≡ raised (end h n)
    ends_at = ap (λ (k : ℕ). raised (k + held (length x) new)) at_same ∙ ap (λ (k : ℕ). raised (sound.at + k)) held_is

    says_new : (s : Shape) (from : Opens b (w64_front b) s) → from.sound ≡ sound → from.params ≡ p → w64_layout x ≡ Ok (record h { frames = n; declared = data_bytes p n; trailing = false })
    says_new s from sound_is params_is =
        lays x b p sound all_same within there s from sound_is params_is
        ∙ ap (λ (t : Shape). Ok t) (by_counts p f sound new (option_map (fact_count 8 b) f) (option_map (fact_count 8 x) f) (length b) (length x) (whole_size b) (whole_size x) n (data_bytes p n) false at_same
        (ap (λ (k : ℕ). frame_count p k (option_map (fact_count 8 x) f)) held_is ∙ counted p n (option_map (fact_count 8 x) f) good fits count_is) len_is
        (le-ltb (data_end (length x) new) (outer_end (length x) (whole_size x)) (omega (arith, ends, ends_at))))

record OfParts (b x : List ℕ) (h : Shape) (n : ℕ) : Type 0 where
  stands : FieldsStand h
  params : AreParams h.params
  few : h.start + data_bytes h.params n + 8 ≤ 2 ^ 63
  joined : is_adpcm h.params.codec ≡ true → 12 ≤ h.inner.size
  keeps : KeepsHead h b x
  inner : HasAt x h.inner.at (inner_value h n)
  long : end h n ≤ length x
  ends : outer_end (length x) (whole_size x) ≤ raised (end h n)

new_layout : (b x : List ℕ) (h : Shape) (n : ℕ) → w64_layout b ≡ Ok h → OfParts b x h n → w64_layout x ≡ Ok (record h { frames = n; declared = data_bytes h.params n; trailing = false })
new_layout b x h n is of =
    let from : Opens b (w64_front b) h = opens b h is in
    let there : Stand b from.sound = stand b from.sound from.sound_is in
    let fits : fit_refusal W64 from.params ≡ None = format_fits (body_of b from.format) from.params from.params_are in
    let parts : OfParts b x (w64_shape b (w64_front b) from.params from.sound) n = subst (λ (s : Shape). OfParts b x s n) from.shape of in
    subst (λ (s : Shape). w64_layout x ≡ Ok (record s { frames = n; declared = data_bytes s.params n; trailing = false })) (sym from.shape)
    (says_new b x from.params from.sound n there parts.stands parts.params fits parts.few parts.joined parts.keeps parts.inner parts.long parts.ends h from refl refl)

pub new_count_reads_back : NewCountReadsBack w64
new_count_reads_back b x h n may keeps inner long ends =
    let is : w64_layout b ≡ Ok h = said b h may.says in
    record {
      goes_on = false;
      told = new_layout b x h n is (record {
        stands = fields_stand b h is;
        params = may.params;
        few = may.on_disk;
        joined = may.joined;
        keeps = keeps;
        inner = inner;
        long = long;
        ends = omega (arith, ends, closed_is h n);
      });
      same = inr (sym may.free);
    }
