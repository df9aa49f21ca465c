-- The frames of an open file after a step of editing that writes.
use Rattle.std.proofs.Common.{◌≡◌, ◌∙◌, ap, sym, subst, refl, inl, inr, ℕ, ◌+◌, ◌-◌, ◌*◌, ◌/◌, ◌%◌, ◌<◌, ◌≤◌, Bool, true, false, ◌||◌, ℤ, List, ◌++◌, All, Option, None, Some, length, map, take, drop, max, get_or, arith}
use Rattle.std.specs.Prelude.{is_none, nat_lt}
use Rattle.std.proofs.Math.Nat.{mul-div_cancel_left, mul-le-mul_left}
use Rattle.std.proofs.lemmas.Bool.{cases_lt, cond_both}
use Rattle.std.proofs.lemmas.List.{length-drop, length-map, length-take-le, places}
use Rattle.snd_disk.proofs.Public.{length-over}
use Rattle.snd_layout.specs.Params.{Parameters, data_bytes}
use Rattle.snd_layout.specs.Shape.{KeepsRule, Shape, end}
use Rattle.snd_blocks.specs.Sound.{frames_in}
use Rattle.snd_container.specs.Sound.{decoded, decoded_as, fixed_of, kept_as, kept_numbers, sound_bytes}
use Rattle.snd_container.proofs.Public.{byte_count_pos, free, length-samples}
use Rattle.snd_container.specs.Values.{closed_end}
use Rattle.snd_patch.specs.Sealed.{SameBesideFields, counted, over_closing, sealed}
use Rattle.snd_patch.proofs.Public.{closing_same, sealed_keeps}
use Rattle.snd_pcm.specs.Groups.{first_groups, groups}
use Rattle.snd_container.specs.Fixed.{InRange, byte_count, kept_number, samples, samples_bytes}
use Rattle.snd_container.specs.declared.fixed.Fixed.{Fixed}
use Rattle.snd_pcm.proofs.Series.{length-first_groups}
use Rattle.snd_edits.specs.Editing.{Editing}
use Rattle.snd_edits.specs.Edits.{closed_behind, coded, count_written, over_data, put_frames, sealed_where, written_bytes, written_frames, written_shape}
use Rattle.snd_edits.specs.Known.{Known}
use Rattle.snd_edits.specs.Reading.{FitCodec, bytes_of_frames}
use Rattle.snd_edits.specs.WriteCalls.{known_written}
use Rattle.snd_edits.proofs.FixedFrames.{frames_fixed}
use Rattle.snd_edits.proofs.Ranges.{in_form}
use Rattle.snd_edits.proofs.Overwritten.{data_put, data_stay, groups_put, samples_put}
use Rattle.snd_edits.proofs.Sealing.{coded_is, end_is, ends_before, length-coded}
use Rattle.snd_edits.proofs.SoundFrames.{linear_align, linear_bytes}

times_max : (a x y : ℕ) → a * max x y ≡ max (a * x) (a * y)
times_max a x y = elim (cases_lt x y) [
  | inl lt ↦
      let above : x ≤ y = omega (arith, lt) in
      ap (λ (m : ℕ). a * m) (let e : max x y ≡ y = omega (arith, lt) in e) ∙ (let e : a * y ≡ max (a * x) (a * y) = omega (arith, mul-le-mul_left a above) in e)
  | inr le ↦ ap (λ (m : ℕ). a * m) (let e : max x y ≡ x = omega (arith, le) in e) ∙ (let e : a * x ≡ max (a * x) (a * y) = omega (arith, mul-le-mul_left a le) in e)
]

-- ---- frames that are written

module _ (h : Shape) (form : Fixed) (b : List ℕ) (place k : ℕ) (xs : List ℤ) (is : fixed_of h.params.codec ≡ Some form) (some : 1 ≤ h.params.channels)
    (fits : end h h.frames ≤ length b) (within : place ≤ h.frames) (count : length xs ≡ h.params.channels * k) (fit : All (InRange form) xs) where
  abbrev w : ℕ
  w = byte_count form

  abbrev c : ℕ
  c = h.params.channels

  abbrev old : List ℕ
  old = sound_bytes b h

  size_of : (n : ℕ) → data_bytes h.params n ≡ w * (c * n)
  size_of n = linear_bytes h.params form n is

  length_old : length old ≡ w * (c * h.frames)
  length_old = length-take-le (data_bytes h.params h.frames) (drop h.start b) (omega (arith, fits, length-drop h.start b)) ∙ size_of h.frames

  length_new : length (coded h.params xs) ≡ w * (c * k)
  length_new = length-coded h.params form xs is ∙ ap (λ (m : ℕ). w * m) count

  pub size_written : data_bytes h.params (count_written h place k) ≡ max (data_bytes h.params h.frames) (data_bytes h.params place + length (coded h.params xs))
  size_written =
      let sum : w * (c * (place + k)) ≡ w * (c * place) + w * (c * k) = omega arith in
      size_of (max h.frames (place + k)) ∙ ap (λ (m : ℕ). w * m) (times_max c h.frames (place + k)) ∙ times_max w (c * h.frames) (c * (place + k))
      ∙ omega (arith, sum, size_of h.frames, size_of place, length_new)

  data_over : take (data_bytes h.params (count_written h place k)) (drop h.start (over_data b h place xs))
      ≡ take (w * (c * place)) old ++ samples_bytes form xs ++ drop (w * (c * place + length xs)) old
  data_over =
      let q = data_bytes h.params place in
      let s = coded h.params xs in
      let before : q ≤ data_bytes h.params h.frames = omega (arith, ends_before h place h.frames (ap is_none is) within) in
      let sum : q + length s ≡ w * (c * place + length xs) = omega (arith, size_of place, length-coded h.params form xs is) in
      ap (λ (m : ℕ). take m (drop h.start (over_data b h place xs))) size_written
      ∙ data_put b h.start (data_bytes h.params h.frames) q s fits before
      ∙ ap (λ (m : ℕ). take m old ++ s ++ drop (q + length s) old) (size_of place)
      ∙ ap (λ (l : List ℕ). take (w * (c * place)) old ++ l ++ drop (q + length s) old) (sym (coded_is h.params form xs is))
      ∙ ap (λ (m : ℕ). take (w * (c * place)) old ++ samples_bytes form xs ++ drop m old) sum

  total : length (samples form old) ≡ c * h.frames
  total = length-samples form old ∙ ap (λ (m : ℕ). m / w) length_old ∙ mul-div_cancel_left (c * h.frames) (byte_count_pos form)

  groups_by : (n : ℕ) (ys : List ℤ) → length ys ≡ c * n → groups c ys ≡ first_groups c n ys
  groups_by n ys size = ap (λ (m : ℕ). first_groups c (m / c) ys) size ∙ ap (λ (m : ℕ). first_groups c m ys) (mul-div_cancel_left n (let e : 0 < c = omega (arith, some) in e))

  frames_over : groups c (samples form (take (data_bytes h.params (count_written h place k)) (drop h.start (over_data b h place xs))))
      ≡ put_frames (groups c (samples form old)) place (groups c (map (kept_number form) xs))
  frames_over =
      let ys = samples form old in
      let zs = map (kept_number form) xs in
      let size_of_kept : length zs ≡ c * k = length-map xs (kept_number form) ∙ count in
      let n = count_written h place k in
      let new = take (data_bytes h.params n) (drop h.start (over_data b h place xs)) in
      let long : end h n ≤ length (over_data b h place xs) = omega (arith, size_written, length-over b (end h place) (coded h.params xs), fits) in
      let size : length new ≡ w * (c * n) = length-take-le (data_bytes h.params n) (drop h.start (over_data b h place xs)) (omega (arith, long, length-drop h.start (over_data b h place xs))) ∙ size_of n in
      let whole : length (samples form new) ≡ c * n = length-samples form new ∙ ap (λ (m : ℕ). m / w) size ∙ mul-div_cancel_left (c * n) (byte_count_pos form) in
      let begins : c * place ≤ c * h.frames = mul-le-mul_left c within in
      let sum : c * place + length xs ≡ c * (place + k) = omega (arith, count) in
      groups_by n (samples form new) whole
      ∙ ap (λ l. first_groups c n (samples form l)) data_over
      ∙ ap (first_groups c n) (samples_put form (c * place) old xs (c * h.frames) length_old begins fit)
      ∙ ap (λ (m : ℕ). first_groups c n (take (c * place) ys ++ zs ++ drop m ys)) sum
      ∙ groups_put c place k h.frames ys zs total size_of_kept within
      ∙ ap (λ l. put_frames l place (first_groups c k zs)) (sym (groups_by h.frames ys total))
      ∙ ap (λ l. put_frames (groups c ys) place l) (sym (groups_by k zs size_of_kept))

  pub decoded_over : decoded h.params (take (data_bytes h.params (count_written h place k)) (drop h.start (over_data b h place xs)))
      ≡ put_frames (decoded h.params (sound_bytes b h)) place (groups c (kept_numbers h.params xs))
  decoded_over =
      ap (λ (o : Option Fixed). decoded_as o c (take (data_bytes h.params (count_written h place k)) (drop h.start (over_data b h place xs)))) is
      ∙ frames_over ∙ ap (λ (o : Option Fixed). put_frames (decoded_as o c old) place (groups c (kept_as o xs))) (sym is)

-- what stays of the data once they are closed and sealed
closed_where : (automatic : Bool) (y : List ℕ) (h : Shape) (n : ℕ) → KeepsRule h → SameBesideFields h n y (sealed_where automatic (closed_behind y h n) h n)
closed_where automatic y h n rule = λ i lt out.
    cond_both automatic (sealed (closed_behind y h n) h n) (closed_behind y h n) (λ x. get_or x i 0 ≡ get_or (closed_behind y h n) i 0)
    (λ is. sealed_keeps (closed_behind y h n) h n rule i lt out) (λ other. refl)
    ∙ cond_both (nat_lt h.frames n) (over_closing y h n) y (λ x. get_or x i 0 ≡ get_or y i 0) (λ is. closing_same y h n i lt out) (λ other. refl)

pub written_decoded : (automatic : Bool) (h : Shape) (b : List ℕ) (place k : ℕ) (xs : List ℤ) (o : Option Fixed) → fixed_of h.params.codec ≡ o → is_none o ≡ false → KeepsRule h → 1 ≤ h.params.channels
    → end h h.frames ≤ length b → place ≤ h.frames → length xs ≡ h.params.channels * k → FitCodec h.params.codec xs
    → end h (count_written h place k) ≤ length (written_bytes automatic b h place (count_written h place k) xs)
    → decoded h.params (take (data_bytes h.params (count_written h place k)) (drop h.start (written_bytes automatic b h place (count_written h place k) xs)))
    ≡ put_frames (decoded h.params (sound_bytes b h)) place (groups h.params.channels (kept_numbers h.params xs))
written_decoded automatic h b place k xs None is linear rule some fits within count fit long = absurd (cc)
written_decoded automatic h b place k xs (Some form) is linear rule some fits within count fit long =
    let n = count_written h place k in
    let y = over_data b h place xs in
    let size = size_written h form b place k xs is some fits within count (in_form h.params.codec form xs is fit) in
    let long' : end h n ≤ length y = omega (arith, size, length-over b (end h place) (coded h.params xs), fits) in
    ap (decoded h.params) (data_stay h n y (written_bytes automatic b h place n xs) rule long' long (closed_where automatic y h n rule))
    ∙ decoded_over h form b place k xs is some fits within count (in_form h.params.codec form xs is fit)

-- ---- the bytes of frames

coded_as_frames : (p : Parameters) (xs : List ℤ) (k : ℕ) (o : Option Fixed) → fixed_of p.codec ≡ o → is_none o ≡ false → length xs ≡ p.channels * k → length (coded p xs) ≡ bytes_of_frames p k
coded_as_frames p xs k None is linear count = absurd (cc)
coded_as_frames p xs k (Some form) is linear count =
    length-coded p form xs is ∙ ap (λ (m : ℕ). byte_count form * m) count
    ∙ (let e : byte_count form * (p.channels * k) ≡ k * (byte_count form * p.channels) = omega arith in e) ∙ ap (λ (m : ℕ). k * m) (sym (linear_align p.codec form p.channels is))

pub coded_size : (p : Parameters) (xs : List ℤ) (k : ℕ) → is_none (fixed_of p.codec) ≡ false → length xs ≡ p.channels * k → length (coded p xs) ≡ bytes_of_frames p k
coded_size p xs k linear count = coded_as_frames p xs k (fixed_of p.codec) refl linear count

written_end_as : (h : Shape) (xs : List ℤ) (place k : ℕ) (o : Option Fixed) → fixed_of h.params.codec ≡ o → is_none o ≡ false → length xs ≡ h.params.channels * k → end h place + length (coded h.params xs) ≡ end h (place + k)
written_end_as h xs place k None is linear count = absurd (cc)
written_end_as h xs place k (Some form) is linear count =
    let w = byte_count form in
    let bytes : length (coded h.params xs) ≡ w * (h.params.channels * k) = length-coded h.params form xs is ∙ ap (λ (m : ℕ). w * m) count in
    let sum : w * (h.params.channels * (place + k)) ≡ w * (h.params.channels * place) + w * (h.params.channels * k) = omega arith in
    omega (arith, bytes, sum, end_is h form place is, end_is h form (place + k) is)

pub written_end : (h : Shape) (xs : List ℤ) (place k : ℕ) → is_none (fixed_of h.params.codec) ≡ false → length xs ≡ h.params.channels * k → end h place + length (coded h.params xs) ≡ end h (place + k)
written_end h xs place k linear count = written_end_as h xs place k (fixed_of h.params.codec) refl linear count

pub whole_frames : (n channels k : ℕ) → 1 ≤ channels → n % channels ≡ 0 → k ≡ n / channels → n ≡ channels * k
whole_frames n channels k some whole is = (let e : n ≡ channels * (n / channels) = omega (arith, some, whole) in e) ∙ ap (λ (m : ℕ). channels * m) (sym is)

pub end_max : (h : Shape) (n m : ℕ) → end h (max n m) ≤ max (end h n) (end h m)
end_max h n m = elim (cases_lt n m) [
  | inl lt ↦ subst (λ (i : ℕ). end h i ≤ max (end h n) (end h m)) (let e : m ≡ max n m = omega (arith, lt) in e) (omega arith)
  | inr le ↦ subst (λ (i : ℕ). end h i ≤ max (end h n) (end h m)) (let e : n ≡ max n m = omega (arith, le) in e) (omega arith)
]

-- ---- an open file once frames are written

length-put : {X : Type 0} (f : List X) (place : ℕ) (gs : List X) → place ≤ length f → length (put_frames f place gs) ≡ max (length f) (place + length gs)
length-put f place gs within = grind (arith, places)

length-kept : (o : Option Fixed) (xs : List ℤ) → length (kept_as o xs) ≡ length xs
length-kept None xs = refl
length-kept (Some form) xs = length-map xs (kept_number form)

-- what is known of frames that are written
pub record CanPut (h : Shape) (b : List ℕ) (place k : ℕ) (xs : List ℤ) : Type 0 where
  pub rule : KeepsRule h
  pub linear : is_none (fixed_of h.params.codec) ≡ false
  pub some : 1 ≤ h.params.channels
  pub fits : end h h.frames ≤ length b
  pub within : place ≤ h.frames
  pub whole : length xs ≡ h.params.channels * k
  pub fit : FitCodec h.params.codec xs

abbrev shape_sound : Bool → List ℕ → Shape → ℕ → List (List ℤ)
shape_sound automatic x h n = decoded (written_shape automatic h n).params (sound_bytes x (written_shape automatic h n))

sound_where : (automatic : Bool) (h : Shape) (n : ℕ) (x : List ℕ) → shape_sound automatic x h n ≡ decoded h.params (take (data_bytes h.params n) (drop h.start x))
sound_where true h n x = refl
sound_where false h n x = refl

linear_where : (automatic : Bool) (h : Shape) (n : ℕ) → is_none (fixed_of h.params.codec) ≡ false → is_none (fixed_of (written_shape automatic h n).params.codec) ≡ false
linear_where true h n linear = linear
linear_where false h n linear = linear

frames_where : (automatic : Bool) (h : Shape) (n : ℕ) → (written_shape automatic h n).frames ≡ n
frames_where true h n = refl
frames_where false h n = refl

pub written_sound : (e : Editing) (k : ℕ) (xs : List ℤ) → CanPut e.shape e.bytes e.write_place k xs → e.frames ≡ frames_in e.bytes e.shape
    → end e.shape (count_written e.shape e.write_place k) ≤ length (written_bytes e.automatic e.bytes e.shape e.write_place (count_written e.shape e.write_place k) xs)
    → (written_frames k xs e).frames ≡ frames_in (written_frames k xs e).bytes (written_frames k xs e).shape
written_sound e k xs can sound long =
    let n = count_written e.shape e.write_place k in
    ap (λ l. put_frames l e.write_place (groups e.shape.params.channels (kept_numbers e.shape.params xs))) (sound ∙ frames_fixed e.bytes e.shape can.linear)
    ∙ sym (written_decoded e.automatic e.shape e.bytes e.write_place k xs (fixed_of e.shape.params.codec) refl can.linear can.rule can.some can.fits can.within can.whole can.fit long)
    ∙ sym (sound_where e.automatic e.shape n (written_bytes e.automatic e.bytes e.shape e.write_place n xs))
    ∙ sym (frames_fixed (written_frames k xs e).bytes (written_frames k xs e).shape (linear_where e.automatic e.shape n can.linear))

pub written_count : (e : Editing) (k : ℕ) (xs : List ℤ) → CanPut e.shape e.bytes e.write_place k xs → e.shape.frames ≡ length e.frames
    → (written_frames k xs e).shape.frames ≡ length (written_frames k xs e).frames
written_count e k xs can count =
    let c = e.shape.params.channels in
    let zs = kept_numbers e.shape.params xs in
    let gs = groups c zs in
    let size : length zs ≡ c * k = length-kept (fixed_of e.shape.params.codec) xs ∙ can.whole in
    let some : length gs ≡ k = length-first_groups c (length zs / c) zs ∙ ap (λ (m : ℕ). m / c) size ∙ mul-div_cancel_left k (let e : 0 < c = omega (arith, can.some) in e) in
    let total : length (put_frames e.frames e.write_place gs) ≡ max (length e.frames) (e.write_place + length gs) = length-put e.frames e.write_place gs (omega (arith, can.within, count)) in
    frames_where e.automatic e.shape (count_written e.shape e.write_place k) ∙ (let e : max e.shape.frames (e.write_place + k) ≡ length (put_frames e.frames e.write_place gs) = omega (arith, total, some, count) in e)

pub closed_counted : (h : Shape) (n : ℕ) → closed_end (counted h n) n ≡ closed_end h n
closed_counted h n = ap (λ (l : List ℕ). end h n + length l) (free h n (counted h n).declared h.trailing n).closing

closed_record : (h : Shape) (n : ℕ) → closed_end (record h { frames = n }) n ≡ closed_end h n
closed_record h n = ap (λ (l : List ℕ). end h n + length l) (free h n h.declared h.trailing n).closing

still_closed_at : (automatic : Bool) (h : Shape) (n size : ℕ) → (h.trailing ≡ false → closed_end h n ≤ size) → (written_shape automatic h n).trailing ≡ false
    → closed_end (written_shape automatic h n) (written_shape automatic h n).frames ≤ size
still_closed_at true h n size closed free = subst (λ (m : ℕ). m ≤ size) (sym (closed_counted h n)) (closed free)
still_closed_at false h n size closed free = subst (λ (m : ℕ). m ≤ size) (sym (closed_record h n)) (closed free)

pub still_closed : (automatic : Bool) (h l : Shape) (n size : ℕ) → l ≡ written_shape automatic h n → (h.trailing ≡ false → closed_end h n ≤ size) → l.trailing ≡ false → closed_end l l.frames ≤ size
still_closed automatic h l n size is closed = subst (λ (s : Shape). s.trailing ≡ false → closed_end s s.frames ≤ size) (sym is) (still_closed_at automatic h n size closed)

-- what a handle knows then
pub known_is : (xs : List ℤ) (k : Known) (l : Shape) (next : ℕ) → next ≡ k.write_place + length xs / k.shape.params.channels
    → l ≡ written_shape k.automatic k.shape (count_written k.shape k.write_place (next - k.write_place))
    → record { shape = l; place = k.place; write_place = next; automatic = k.automatic; written = k.written || nat_lt 0 (next - k.write_place); broken = k.broken } ≡ known_written xs k
known_is xs k l next is shape =
    let count = length xs / k.shape.params.channels in
    let total : next - k.write_place ≡ count = omega (arith, is) in
    let made = λ (s : Shape) (p : ℕ) (t : Bool). record k { shape = s; write_place = p; written = t } in
    ap (λ (s : Shape). made s next (k.written || nat_lt 0 (next - k.write_place))) (shape ∙ ap (λ (m : ℕ). written_shape k.automatic k.shape (count_written k.shape k.write_place m)) total)
    ∙ ap (λ (p : ℕ). made (written_shape k.automatic k.shape (count_written k.shape k.write_place count)) p (k.written || nat_lt 0 (next - k.write_place))) is
    ∙ ap (λ (m : ℕ). made (written_shape k.automatic k.shape (count_written k.shape k.write_place count)) (k.write_place + count) (k.written || nat_lt 0 m)) total
