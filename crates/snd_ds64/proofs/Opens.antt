-- A promoted file opens as RF64.
use Rattle.std.proofs.Common.{◌≡◌, ℕ, ◌+◌, ◌-◌, ◌<◌, ◌≤◌, ◌^◌, List, [], ◌++◌, All, true, false, Option, None, Some, Ok, length, take, drop, get_or, refl, sym, ap, subst, ◌∙◌, inl, arith}
use Rattle.std.proofs.lemmas.Bool.{le-leb, le-ltb}
use Rattle.std.proofs.lemmas.List.{append-nil}
use Rattle.std.specs.Prelude.{IfSome, Result, codes, min, nat_le, nat_lt, unwrap_or}
use Rattle.std.specs.Str.{bytes_eq}
use Rattle.snd_chunks.proofs.Public.{IsBetween, StandsIn, SameHead as SameBytes, find_has, has_number, has_part, in_order, no_tail, refused, same_chain, same_part, stands_in, walks}
use Rattle.snd_chunks.specs.Chunks.{chunk_at, padded_end}
use Rattle.snd_chunks.specs.Parts.{body_of, format_chunk, front_refusal, has_id, is_format, whole_frames}
use Rattle.snd_chunks.specs.declared.chunk.Chunk.{Chunk}
use Rattle.snd_chunks.specs.declared.front.Ending.TheVariants.{AtSound}
use Rattle.snd_chunks.specs.declared.front.Front.{Front}
use Rattle.snd_disk.specs.Runs.{HasAt}
use Rattle.snd_fields.specs.Field.{bytes_of, number}
use Rattle.snd_fields.specs.declared.field.Order.TheVariants.{Little}
use Rattle.snd_layout.specs.Blocks.{is_adpcm}
use Rattle.snd_layout.specs.Fit.{fit_refusal}
use Rattle.snd_layout.specs.Format.{format_of}
use Rattle.snd_layout.specs.Params.{AreParams, Parameters, data_bytes}
use Rattle.snd_layout.specs.Shape.{IsReserve, Shape, end}
use Rattle.snd_layout.specs.declared.kind.Kind.TheVariants.{Rf64, Wave}
use Rattle.snd_layout.specs.declared.piece.Piece.{Piece}
use Rattle.snd_layout.specs.declared.refusal.OpenRefusal.{OpenRefusal}
use Rattle.snd_rf64.specs.Layout.{data_end, fitted, has_sizes, held, outer_end, rf64_front, rf64_layout, rf64_shape, rf64_tail, shape_at, sizes_in, sizes_of}
use Rattle.snd_wave.proofs.Public.{counted}
use Rattle.snd_wave.specs.Layout.{pieces_of, wave_front}
use Rattle.snd_ds64.proofs.Fronts.{HasMiddle, front_parts, has_long}
use Rattle.snd_ds64.proofs.Kept.{promoted_keeps, front_there}
use Rattle.snd_ds64.proofs.Reservations.{Reserved, not_format, reserved_parts}
use Rattle.snd_ds64.specs.Laws.{OpensPromoted, PromotedReadsBack}
use Rattle.snd_ds64.specs.Promoted.{MayPromote, new_front, promoted, promoted_shape}

-- ---- a layout from its parts

made_of : (x : List ℕ) (front : Front) (format sound : Chunk) (p : Parameters) → sizes_of x ≡ Ok (sizes_in x) → rf64_front x (padded_end 20 (number Little x 16 4)) ≡ front → front_refusal front ≡ None
    → format_chunk front.chunks ≡ Some format → front.ending ≡ AtSound sound → fitted (format_of (body_of x format)) ≡ Ok p → rf64_layout x ≡ Ok (rf64_shape x (sizes_in x) front p sound.at)
unfolding rf64_layout
made_of x front format sound p told walked none found ends read = rw (told, walked, none, found, read, ends) refl

fitted_is : (p : Parameters) (r : Result Parameters OpenRefusal) → r ≡ Ok p → fit_refusal Rf64 p ≡ None → fitted r ≡ Ok p
fitted_is p r is fits = rw (is, fits) refl

-- a walk that found the same format and came to the data is not refused either
still_none : (f f' : Front) (sound sound' : Chunk) → front_refusal f ≡ None → f.ending ≡ AtSound sound → f'.ending ≡ AtSound sound' → format_chunk f'.chunks ≡ format_chunk f.chunks → front_refusal f' ≡ None
still_none f f' sound sound' none ends ends' same =
    refused (is_format (format_chunk f.chunks)) sound' f' ends' (ap is_format same) ∙ sym (refused (is_format (format_chunk f.chunks)) sound f ends refl) ∙ none

-- what a file says whose whole ends with its data, all of which are there
free_shape : (x : List ℕ) (f : Front) (p : Parameters) (start n : ℕ) → AreParams p → fit_refusal Wave p ≡ None → is_adpcm p.codec ≡ false
    → (sizes_in x).sound ≡ data_bytes p n → (sizes_in x).whole + 8 ≡ padded_end start (data_bytes p n) → start + data_bytes p n ≤ length x → start + data_bytes p n + 8 ≤ 2 ^ 63
    → rf64_shape x (sizes_in x) f p start ≡ shape_at p start n (data_bytes p n) false (pieces_of false f.chunks)
free_shape x f p start n good fits fixed sound whole there on_disk =
    let ends : outer_end (length x) (sizes_in x).whole ≤ data_end (length x) start (sizes_in x).sound = omega (arith, sound, whole, there) in
    let none : rf64_tail x (sizes_in x) f start ≡ [] = no_tail Little x (outer_end (length x) (sizes_in x).whole) (255 - length f.chunks) (data_end (length x) start (sizes_in x).sound) ends in
    let all : held (length x) start (sizes_in x).sound ≡ data_bytes p n = omega (arith, sound, there, on_disk) in
    let frames : whole_frames p (held (length x) start (sizes_in x).sound) ≡ n = ap (whole_frames p) all ∙ counted p n None good fits (λ is. absurd (let no : true ≡ false = sym is ∙ fixed in cc)) in
    ap (λ m. shape_at p start m (sizes_in x).sound (nat_lt (data_end (length x) start (sizes_in x).sound) (outer_end (length x) (sizes_in x).whole)) (pieces_of false f.chunks ++ pieces_of true (rf64_tail x (sizes_in x) f start))) frames
    ∙ ap (λ m. shape_at p start n m (nat_lt (data_end (length x) start (sizes_in x).sound) (outer_end (length x) (sizes_in x).whole)) (pieces_of false f.chunks ++ pieces_of true (rf64_tail x (sizes_in x) f start))) sound
    ∙ ap (λ t. shape_at p start n (data_bytes p n) t (pieces_of false f.chunks ++ pieces_of true (rf64_tail x (sizes_in x) f start))) (le-ltb (data_end (length x) start (sizes_in x).sound) (outer_end (length x) (sizes_in x).whole) ends)
    ∙ ap (λ (l : List Chunk). shape_at p start n (data_bytes p n) false (pieces_of false f.chunks ++ pieces_of true l)) none
    ∙ ap (λ (l : List Piece). shape_at p start n (data_bytes p n) false l) (append-nil (pieces_of false f.chunks))

-- ---- a file with the new first bytes

module _ (b x : List ℕ) (h : Shape) (n : ℕ) (may : MayPromote b h n) (has : HasAt x 0 (new_front h n)) (same : (i : ℕ) → 48 ≤ i → i + 4 < h.start → get_or x i 0 ≡ get_or b i 0) (there : end h n ≤ length x) (was : Reserved b h) where
  ordered : (was.lead.next ≤ was.last) × All (IsBetween was.lead.next was.last) was.others
  ordered = in_order Little b (codes "data") (length b) was.lead.next was.last was.others was.chain

  parts : HasMiddle x (codes "ds64") (bytes_of Little 4 (unwrap_or h.reserve 0)) (bytes_of Little 8 (padded_end h.start (data_bytes h.params n) - 8)) (bytes_of Little 8 (data_bytes h.params n))
  parts = front_parts h n x has

  -- the reservation ends before the data
  least : 48 ≤ was.lead.next
  least = omega (arith, was.stands.at, was.stands.next, was.lead_has.least)

  next : was.lead.next ≡ padded_end 20 was.lead.len
  next = was.stands.next ∙ ap (λ k. padded_end k was.lead.len) was.lead_has.at

  last : was.last + 8 ≡ h.start
  last = omega (arith, was.start, was.at_sound.at)

  ends : was.lead.next + 8 ≤ h.start
  ends = omega (arith, ordered.0, last)

  -- the numbers
  small : was.lead.len < 2 ^ 32
  small = (subst (λ (o : Option ℕ). IfSome o (IsReserve h.kind h.params.codec h.start)) was.size was.lies.rule.reserved).few

  size_read : number Little x 16 4 ≡ was.lead.len
  size_read = has_number Little x 16 (unwrap_or h.reserve 0) parts.size (subst (λ (o : Option ℕ). unwrap_or o 0 < 2 ^ 32) (sym was.size) small) ∙ ap (λ (o : Option ℕ). unwrap_or o 0) was.size

  whole_read : number Little x 20 8 ≡ padded_end h.start (data_bytes h.params n) - 8
  whole_read = has_long x 20 (padded_end h.start (data_bytes h.params n) - 8) parts.whole (omega (arith, may.on_disk))

  sound_read : number Little x 28 8 ≡ data_bytes h.params n
  sound_read = has_long x 28 (data_bytes h.params n) parts.sound (omega (arith, may.on_disk))

  next_read : padded_end 20 (number Little x 16 4) ≡ was.lead.next
  next_read = ap (padded_end 20) size_read ∙ sym next

  has_all : has_sizes (length x) x ≡ true
  has_all =
      let id : take 4 (drop 12 x) ≡ codes "ds64" = has_part 4 x 12 (codes "ds64") refl (omega (arith, there, least, ends)) parts.id in
      let long : nat_le 28 was.lead.len ≡ true = le-leb 28 was.lead.len was.lead_has.least in
      let within : nat_le (20 + was.lead.len) (length x) ≡ true = le-leb (20 + was.lead.len) (length x) (omega (arith, there, next, ends)) in
      rw (id, size_read, long, within) refl

  told : sizes_of x ≡ Ok (sizes_in x)
  told =
      let long : nat_lt (length x) 48 ≡ false = le-ltb (length x) 48 (omega (arith, there, least, ends)) in
      rw (long, has_all) refl

  -- the walk
  heads_same : All (SameBytes x b) was.others
  heads_same k d lt i from to =
      let between : IsBetween was.lead.next was.last (get_or was.others k d) = ordered.1 k d lt in
      same i (omega (arith, between.after, least, from)) (omega (arith, between.before, last, to))

  sound_too : StandsIn Little x was.last was.sound
  sound_too = stands_in Little x b was.last was.sound was.is_there (omega (arith, last, there)) (λ i from to. same i (omega (arith, from, ordered.0, least)) (omega (arith, to, last)))

  front_x : rf64_front x was.lead.next ≡ record { chunks = was.others; ending = AtSound sound_too.chunk }
  unfolding rf64_front
  front_x =
      walks (chunk_at Little x) (codes "data") (length x) 256 was.lead.next was.others was.last sound_too.chunk
      (same_chain Little x b (codes "data") was.lead.next was.last was.others was.chain (omega (arith, last, there)) heads_same) sound_too.is
      (ap (λ (l : List ℕ). bytes_eq l (codes "data")) sound_too.id ∙ was.is_sound) was.few

  format_too : format_chunk was.others ≡ Some was.format
  format_too = not_format was.lead was.others (Some was.format) was.lead_has.id was.format_is

  body_same : body_of x was.format ≡ body_of b was.format
  body_same =
      let between : IsBetween was.lead.next was.last was.format = (find_has (has_id (codes "fmt ")) (IsBetween was.lead.next was.last) was.others was.format ordered.1 format_too).0 in
      same_part was.format.len was.format.at x b (omega (arith, between.before, last, there)) (omega (arith, between.before, was.at_sound.within))
      (λ i from to. same i (omega (arith, from, between.after, least)) (omega (arith, to, between.before, last)))

  says : rf64_layout x ≡ Ok (promoted_shape h n)
  says =
      let front : Front = record { chunks = was.others; ending = AtSound sound_too.chunk } in
      let formats : format_chunk was.others ≡ format_chunk (wave_front b).chunks = format_too ∙ sym was.format_is ∙ ap format_chunk (sym was.chunks_are) in
      let none : front_refusal (record { chunks = was.others; ending = AtSound sound_too.chunk }) ≡ None = still_none (wave_front b) front was.sound sound_too.chunk was.no_refusal was.sound_is refl formats in
      let read : fitted (format_of (body_of x was.format)) ≡ Ok h.params = fitted_is h.params (format_of (body_of x was.format)) (ap format_of body_same ∙ was.params_are) was.fits in
      let start : sound_too.chunk.at ≡ h.start = sound_too.at ∙ sym was.start in
      let sound : (sizes_in x).sound ≡ data_bytes h.params n = ap (λ k. min k (2 ^ 63 - 1)) sound_read ∙ omega (arith, may.on_disk) in
      let whole : (sizes_in x).whole + 8 ≡ padded_end h.start (data_bytes h.params n) = omega (arith, whole_read, least, ends) in
      made_of x front was.format sound_too.chunk h.params told (ap (rf64_front x) next_read ∙ front_x) none format_too refl read
      ∙ ap (λ k. Ok (rf64_shape x (sizes_in x) front h.params k)) start
      ∙ ap (λ (s : Shape). Ok s) (free_shape x front h.params h.start n was.lies.params was.wave_fits was.lead_has.fixed sound whole there may.on_disk
      ∙ ap (shape_at h.params h.start n (data_bytes h.params n) false) (sym was.pieces))

pub promoted_reads_back : PromotedReadsBack
promoted_reads_back b x h n may has same there = says b x h n may has same there (reserved_parts b h n may)

pub opens_promoted : OpensPromoted
opens_promoted b h n may =
    let kept = promoted_keeps b h n may in
    promoted_reads_back b (promoted b h n) h n may (front_there b h n may) (λ i from to. kept.1 i from (inl to)) (omega (arith, kept.0, may.there))
