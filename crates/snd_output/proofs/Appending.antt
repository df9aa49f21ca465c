-- Frames of one file that are put behind those of another, a block at a time.
use Rattle.std.proofs.Common.{◌≡◌, ◌≢◌, ◌∙◌, ap, sym, subst, refl, inl, inr, ⊎_elim, ℕ, ◌+◌, ◌-◌, ◌*◌, ◌/◌, ◌%◌, ◌<◌, ◌≤◌, ℤ, Bool, true, false, cond, List, ◌++◌, None, Some, length, take, drop, min, arith}
use Rattle.std.proofs.Math.Nat.{add-div_right, div-add-mod, div-zero, mul-div_cancel_left, mul-le-mul_left, mul-mod_right}
use Rattle.std.proofs.lemmas.Nat.{le-div}
use Rattle.std.specs.Prelude.{Err, Result, is_some}
use Rattle.std.proofs.lemmas.Bool.{cases_lt}
use Rattle.std.proofs.lemmas.List.{append-nil, append_assoc, length-map, length-take-le, map-append, places, same_lists}
use Rattle.snd_blocks.proofs.Public.{has_bad_part}
use Rattle.snd_blocks.specs.Frames.{has_bad}
use Rattle.snd_disk.specs.State.{AtMost, Rises}
use Rattle.snd_layout.specs.Blocks.{block_align, block_frames, is_adpcm}
use Rattle.snd_layout.specs.Params.{Parameters, data_bytes}
use Rattle.snd_layout.specs.Shape.{Shape, room}
use Rattle.snd_layout.specs.declared.codec.Codec.{Codec}
use Rattle.snd_pcm.specs.Groups.{first_groups}
use Rattle.snd_pcm.specs.Width.{changed}
use Rattle.snd_disk.specs.declared.disk.Step.{Step}
use Rattle.snd_edits.specs.declared.error.ReadError.{ReadError}
use Rattle.snd_edits.specs.declared.error.ReadError.TheVariants.{BadBlock, Broken, DiskFault, PartFrame}
use Rattle.snd_edits.specs.Calls.{IsReady, ReadLeaves, count_read}
use Rattle.snd_edits.specs.Editing.{Editing, frames_read, moved_by}
use Rattle.snd_edits.specs.Known.{Known}
use Rattle.snd_edits.specs.Reading.{FitCodec, bytes_to_read}
use Rattle.snd_edits.proofs.Public.{data_more}
use Rattle.snd_output.specs.declared.stop.Stop.{Stop}
use Rattle.snd_output.specs.declared.stop.Stop.TheVariants.{Changed, Fault, Memory}
use Rattle.snd_output.specs.Ends.{IfChanged}
use Rattle.snd_output.specs.Appended.{AppendLeaves, CountsEither, CountsFault, CountsRead, HasRoom, IsAtEnd, IsLonger, MayAppend, MayGive, SomeLeave, bytes_by_calls, left_in, next_numbers, numbers_left, read_on}
use Rattle.snd_output.specs.Widths.{change_numbers, joined, width_of}
use Rattle.snd_output.proofs.Numbers.{joined_all, joined_groups, joined_on}

-- room for more frames is room for fewer
pub room_fewer : (k : Known) (m n : ℕ) → 1 ≤ block_frames k.shape.params.codec → m ≤ n → HasRoom n k → HasRoom m k
room_fewer k m n some le roomy =
    let more : data_bytes k.shape.params (k.write_place + m) ≤ data_bytes k.shape.params (k.write_place + n) = data_more k.shape.params (k.write_place + m) (k.write_place + n) some (omega (arith, le)) in
    record { in_room = omega (arith, more, roomy.in_room); few = λ is wave. omega (arith, le, roomy.few is wave) }

-- ---- one block

-- the numbers of the frames that a block was given
pub block_numbers : (c k : ℕ) (block : List ℤ) (r : Editing) → first_groups c k block ≡ frames_read r k → take (k * c) block ≡ next_numbers k r
block_numbers c k block r gives = sym (joined_groups c k block) ∙ ap joined gives

module _ (ys : List ℤ) (k : ℕ) (to : Known) (some : 1 ≤ to.shape.params.channels) (count : length ys ≡ k * to.shape.params.channels) where
  abbrev c : ℕ
  c = to.shape.params.channels

  whole : length ys ≡ c * k
  whole = count ∙ (let e : k * c ≡ c * k = omega arith in e)

  pub frames_are : length ys / c ≡ k
  frames_are = ap (λ (m : ℕ). m / c) whole ∙ mul-div_cancel_left k (let e : 0 < c = omega (arith, some) in e)

  no_part : length ys % c ≡ 0
  no_part = ap (λ (m : ℕ). m % c) whole ∙ mul-mod_right c k

  -- they may be given
  pub may_give : IsAtEnd to → HasRoom k to → FitCodec to.shape.params.codec ys → MayGive ys to
  may_give at_end roomy fit = record { at_end = at_end; whole = no_part; in_range = fit; roomy = subst (λ (m : ℕ). HasRoom m to) (sym frames_are) roomy }

  -- and the handle then knows of them
  pub given_longer : (to' : Known) → IsLonger (length ys / to.shape.params.channels) to to' → IsLonger k to to'
  given_longer to' is = subst (λ (m : ℕ). IsLonger m to to') frames_are is

-- ---- the numbers of a block

-- as many frames as a block has places for, and as are left
pub count_fits : (from : Known) (places k : ℕ) → 1 ≤ from.shape.params.channels → places % from.shape.params.channels ≡ 0 → k ≡ count_read places from → (k ≤ left_in from) × (k * from.shape.params.channels ≤ places)
count_fits from places k some whole is =
    let c = from.shape.params.channels in
    let q = places / c in
    let all : places ≡ c * q = omega (arith, some, whole) in
    let few : k ≤ q = few_of q (left_in from) is in
    let times : c * k ≤ c * q = mul-le-mul_left c few in
    (left_of q (left_in from) is, subst (λ (m : ℕ). m ≤ places) (let e : c * k ≡ k * c = omega arith in e) (omega (arith, times, all)))
  where
    few_of : (q l : ℕ) → k ≡ min q l → k ≤ q
    few_of q l e = omega (arith, e)

    left_of : (q l : ℕ) → k ≡ min q l → k ≤ l
    left_of q l e = omega (arith, e)

pub length_changed : (old new : Codec) (xs ys : List ℤ) (m : ℕ) → ys ≡ change_numbers old new (take m xs) → m ≤ length xs → length ys ≡ m
length_changed old new xs ys m is fits = ap length is ∙ length-map (take m xs) (changed (width_of old) (width_of new)) ∙ length-take-le m xs fits

module _ (from to : Known) (k m : ℕ) (block ys : List ℤ) (old new : Codec) (may : MayAppend from to) (whole_block : length block % from.shape.params.channels ≡ 0) (is : k ≡ count_read (length block) from)
    (channels : m ≡ from.shape.params.channels) (one : 1 ≤ m) (changes : ys ≡ change_numbers old new (take (k * m) block)) where
  one_channel : 1 ≤ from.shape.params.channels
  one_channel = omega (arith, channels, one)

  to_channel : 1 ≤ to.shape.params.channels
  to_channel = omega (arith, one_channel, may.alike)

  fits : (k ≤ left_in from) × (k * from.shape.params.channels ≤ length block)
  fits = count_fits from (length block) k one_channel whole_block is

  ys_count : length ys ≡ k * to.shape.params.channels
  ys_count =
      let same : k * m ≡ k * from.shape.params.channels = ap (λ (i : ℕ). k * i) channels in
      length_changed old new block ys (k * m) changes (omega (arith, same, fits.1)) ∙ same ∙ ap (λ (i : ℕ). k * i) may.alike

  -- they may be given, and the handle then knows of them
  pub block_may : new ≡ to.shape.params.codec → FitCodec new ys → 1 ≤ block_frames to.shape.params.codec → MayGive ys to
  block_may codec fit frames = may_give ys k to to_channel ys_count may.at_end (room_fewer to k (left_in from) frames fits.0 may.in_room) (subst (λ (q : Codec). FitCodec q ys) codec fit)

  pub block_known : (to' : Known) → IsLonger (length ys / to.shape.params.channels) to to' → IsLonger k to to'
  block_known to' is = given_longer ys k to to_channel ys_count to' is

  -- they are the next of the file that is read
  pub block_is : (r : Editing) → old ≡ from.shape.params.codec → new ≡ to.shape.params.codec → first_groups from.shape.params.channels k block ≡ frames_read r k
      → ys ≡ change_numbers from.shape.params.codec to.shape.params.codec (next_numbers k r)
  block_is r codec codec' gives =
      changes
      ∙ ap (λ (i : ℕ). change_numbers old new (take (k * i) block)) channels
      ∙ ap (change_numbers old new) (block_numbers from.shape.params.channels k block r gives)
      ∙ ap (λ (q : Codec). change_numbers q new (next_numbers k r)) codec
      ∙ ap (λ (q : Codec). change_numbers from.shape.params.codec q (next_numbers k r)) codec'

-- ---- block after block

pub read_none : (n : ℕ) (from : Known) → from ≡ read_on (n - n) from
read_none n from = ap (λ (i : ℕ). record from { place = i }) (let e : from.place ≡ from.place + (n - n) = omega arith in e)

pub moved_none : (n : ℕ) (r : Editing) → r ≡ moved_by (n - n) r
moved_none n r = ap (λ (i : ℕ). record r { place = i }) (let e : r.place ≡ r.place + (n - n) = omega arith in e)

pub moved_twice : (j k i : ℕ) (r : Editing) → i ≡ j + k → moved_by k (moved_by j r) ≡ moved_by i r
moved_twice j k i r is = ap (λ (n : ℕ). record r { place = n }) (let e : r.place + j + k ≡ r.place + i = omega (arith, is) in e)

pub numbers_none : (n : ℕ) (from to : Codec) (xs : List ℤ) (r : Editing) → xs ≡ xs ++ change_numbers from to (next_numbers (n - n) r)
numbers_none n from to xs r = sym (append-nil xs) ∙ ap (λ (i : ℕ). xs ++ change_numbers from to (next_numbers i r)) (let e : 0 ≡ n - n = omega arith in e)

-- a block has places for a frame
pub one_fits : (places c : ℕ) → 1 ≤ c → c ≤ places → 1 ≤ places / c
one_fits places c some fits = elim (cases_lt 0 (places / c)) [
  | inl lt ↦ omega (arith, lt)
  | inr le ↦
      let none : c * (places / c) ≡ 0 = ap (λ (i : ℕ). c * i) (let e : places / c ≡ 0 = omega (arith, le) in e) ∙ (let e : c * 0 ≡ 0 = omega arith in e) in
      let all : places ≡ c * (places / c) + places % c = omega (arith, some) in
      let below : places % c < c = omega (arith, some) in
      absurd (omega (arith, all, none, below, fits))
]

-- the places of a block for whole frames
pub whole_places : (n c : ℕ) → 1 ≤ c → c ≤ n → (c ≤ n - n % c) × ((n - n % c) % c ≡ 0)
whole_places n c some fits =
    let same : n - n % c ≡ c * (n / c) = omega (arith, some) in
    let times : c * 1 ≤ c * (n / c) = mul-le-mul_left c (one_fits n c some fits) in
    (omega (arith, same, times), ap (λ (i : ℕ). i % c) same ∙ mul-mod_right c (n / c))

-- where none are read into places for a frame or more, none are left
pub none_left : (from : Known) (places k : ℕ) → 1 ≤ from.shape.params.channels → from.shape.params.channels ≤ places → k ≡ count_read places from → k ≡ 0 → left_in from ≡ 0
none_left from places k some fits is none = least (places / from.shape.params.channels) (left_in from) (one_fits places from.shape.params.channels some fits) is
  where
    least : (q l : ℕ) → 1 ≤ q → k ≡ min q l → l ≡ 0
    least q l one e = omega (arith, one, e, none)

pub read_twice : (j k : ℕ) (from : Known) → read_on k (read_on j from) ≡ read_on (j + k) from
read_twice j k from = ap (λ (n : ℕ). record from { place = n }) (let e : from.place + j + k ≡ from.place + (j + k) = omega arith in e)

pub longer_none : (to : Known) → IsLonger 0 to to
longer_none to = record { working = refl; by_hand = refl; shape = refl; place = omega arith; behind = λ was. was }

pub longer_as : (n m : ℕ) (a b : Known) → n ≡ m → IsLonger n a b → IsLonger m a b
longer_as n m a b same is = subst (λ (i : ℕ). IsLonger i a b) same is

pub longer_then : (j k : ℕ) (a b c : Known) → IsLonger j a b → IsLonger k b c → IsLonger (j + k) a c
longer_then j k a b c first second = record {
  working = second.working ∙ first.working;
  by_hand = second.by_hand ∙ first.by_hand;
  shape = second.shape ∙ ap (λ (s : Shape). record s { frames = c.shape.frames }) first.shape;
  place = omega (arith, first.place, second.place);
  behind = λ was. second.behind (first.behind was);
}

-- more frames may be put behind them
pub at_end_then : (j : ℕ) (a b : Known) → IsAtEnd a → IsLonger j a b → IsAtEnd b
at_end_then j a b was is = record {
  working = is.working ∙ was.working;
  by_hand = is.by_hand ∙ was.by_hand;
  free = ap (λ (s : Shape). s.trailing) is.shape ∙ was.free;
  behind = is.behind was.behind;
}

pub room_then : (j n : ℕ) (a b : Known) → HasRoom (j + n) a → IsLonger j a b → HasRoom n b
room_then j n a b roomy is = record {
  in_room = subst (λ (s : Shape). data_bytes s.params (b.write_place + n) ≤ room s) (sym is.shape)
      (subst (λ (m : ℕ). data_bytes a.shape.params m ≤ room a.shape) (let e : a.write_place + (j + n) ≡ b.write_place + n = omega (arith, is.place) in e) roomy.in_room);
  few = λ blocks wave.
      let most = roomy.few (sym (ap (λ (s : Shape). is_adpcm s.params.codec) is.shape) ∙ blocks) (sym (ap (λ (s : Shape). s.kind) is.shape) ∙ wave) in
      omega (arith, is.place, most);
}

-- .. where all that were left may
pub may_go_on : (from to to' : Known) (j : ℕ) → MayAppend from to → j ≤ left_in from → IsLonger j to to' → MayAppend (read_on j from) to'
may_go_on from to to' j may within is =
    let all : left_in from ≡ j + (from.shape.frames - (from.place + j)) = omega (arith, within) in
    record {
      working = may.working;
      at_end = at_end_then j to to' may.at_end is;
      alike = may.alike ∙ ap (λ (s : Shape). s.params.channels) (sym is.shape);
      in_room = room_then j (from.shape.frames - (from.place + j)) to to' (subst (λ (m : ℕ). HasRoom m to) all may.in_room) is;
    }

changed_joined : (from to : Codec) (xs ys : List ℤ) → change_numbers from to xs ++ change_numbers from to ys ≡ change_numbers from to (xs ++ ys)
changed_joined from to xs ys = sym (map-append (changed (width_of from) (width_of to)) xs ys)

-- the numbers of two blocks
pub numbers_twice : (from to : Codec) (xs : List ℤ) (r : Editing) (j k : ℕ)
    → xs ++ change_numbers from to (next_numbers j r) ++ change_numbers from to (next_numbers k (moved_by j r)) ≡ xs ++ change_numbers from to (next_numbers (j + k) r)
numbers_twice from to xs r j k =
    append_assoc xs (change_numbers from to (next_numbers j r)) (change_numbers from to (next_numbers k (moved_by j r)))
    ∙ ap (λ (l : List ℤ). xs ++ l) (changed_joined from to (next_numbers j r) (next_numbers k (moved_by j r)))
    ∙ ap (λ (l : List ℤ). xs ++ change_numbers from to l) (joined_on r.frames r.place j k)

-- .. and of all
pub all_numbers : (r : Editing) (n : ℕ) → n ≡ length r.frames - r.place → next_numbers n r ≡ numbers_left r
all_numbers r n is = ap (λ (m : ℕ). joined (take m (drop r.place r.frames))) is ∙ joined_all r.frames r.place

-- ---- faults

pub read_failed : (T U : Type 0) (old new other : ℕ) (stop : Stop) (result : Result T Stop) → result ≡ Err stop → CountsRead {T = U} old new (Err stop) → CountsEither old new other other result
read_failed T U old new other Fault result is counts = subst (CountsEither old new other other) (sym is) (counts.0, omega arith, inl counts.1)
read_failed T U old new other Memory result is counts = absurd counts
read_failed T U old new other Changed result is counts = subst (CountsEither old new other other) (sym is) (counts, refl)

pub write_failed : (T U : Type 0) (same other old new : ℕ) (stop : Stop) (result : Result T Stop) → result ≡ Err stop → same ≡ other → CountsFault {T = U} old new (Err stop) → CountsEither other same old new result
write_failed T U same other old new Fault result is calm counts = subst (CountsEither other same old new) (sym is) (omega (arith, calm), counts.0, inr counts.1)
write_failed T U same other old new Memory result is calm counts = absurd counts
write_failed T U same other old new Changed result is calm counts = absurd counts

-- after calls that did not fail
pub failed_later : (T U : Type 0) (old mid new old' mid' new' : ℕ) (stop : Stop) (result : Result T Stop) → result ≡ Err stop → mid ≡ old → mid' ≡ old' → CountsEither {T = U} mid new mid' new' (Err stop) → CountsEither old new old' new' result
failed_later T U old mid new old' mid' new' Fault result is calm calm' counts =
    subst (CountsEither old new old' new') (sym is) (
      subst (λ (n : ℕ). n ≤ new) calm counts.0,
      subst (λ (n : ℕ). n ≤ new') calm' counts.1,
      ⊎_elim (λ rose. inl (subst (λ (n : ℕ). Rises n new) calm rose)) (λ rose. inr (subst (λ (n : ℕ). Rises n new') calm' rose)) counts.2,
    )
failed_later T U old mid new old' mid' new' Memory result is calm calm' counts = absurd counts
failed_later T U old mid new old' mid' new' Changed result is calm calm' counts = subst (CountsEither old new old' new') (sym is) (counts.0 ∙ calm, counts.1 ∙ calm')

-- what the files know then, where none was read, where none was written, and after calls that did not fail
pub left_unread : {T : Type 0} (n : ℕ) (from from' to : Known) (stop : Stop) (result : Result T Stop) → result ≡ Err stop → SomeLeave from from' (Err stop) → from.broken ≡ None → to.broken ≡ None → AppendLeaves n from from' to to result
left_unread n from from' to Fault result is left working to_works = subst (AppendLeaves n from from' to to) (sym is) (inl left)
left_unread n from from' to Memory result is left working to_works = subst (AppendLeaves n from from' to to) (sym is) (inl left)
left_unread n from from' to Changed result is left working to_works =
    subst (AppendLeaves n from from' to to) (sym is) (left.0, ap (λ (k : Known). k.broken) left.1 ∙ working, to_works)

pub left_unwritten : {T : Type 0} (n old new : ℕ) (from from' to to' : Known) (stop : Stop) (result : Result T Stop) → result ≡ Err stop → CountsFault {T = T} old new (Err stop) → is_some to'.broken ≡ true
    → AppendLeaves n from from' to to' result
left_unwritten n old new from from' to to' Fault result is counts broken = subst (AppendLeaves n from from' to to') (sym is) (inr broken)
left_unwritten n old new from from' to to' Memory result is counts broken = absurd counts
left_unwritten n old new from from' to to' Changed result is counts broken = absurd counts

pub left_later : {T : Type 0} (n m : ℕ) (first from from' to_first to to' : Known) (stop : Stop) (result : Result T Stop) → result ≡ Err stop → from.shape ≡ first.shape
    → AppendLeaves {T = T} m from from' to to' (Err stop) → AppendLeaves n first from' to_first to' result
left_later n m first from from' to_first to to' Fault result is same left = subst (AppendLeaves n first from' to_first to') (sym is) left
left_later n m first from from' to_first to to' Memory result is same left = subst (AppendLeaves n first from' to_first to') (sym is) left
left_later n m first from from' to_first to to' Changed result is same left =
    subst (AppendLeaves n first from' to_first to') (sym is) (ap (λ (s : Shape). is_adpcm s.params.codec) (sym same) ∙ left.0, left.1, left.2)

-- ---- a file that has changed

pub never_changed : {T : Type 0} (P : Type 0) (old new : ℕ) (stop : Stop) (result : Result T Stop) → result ≡ Err stop → CountsFault {T = T} old new (Err stop) → IfChanged P result
never_changed P old new Fault result is counts = subst (IfChanged P) (sym is) tt
never_changed P old new Memory result is counts = absurd counts
never_changed P old new Changed result is counts = absurd counts

-- a frame that is bad is one of those that are left
dropped_on : (frames : List (List ℤ)) (place j : ℕ) → drop (place + j) frames ≡ drop j (drop place frames)
dropped_on frames place j = same_lists _ _ (grind (arith, places)) (λ k d lt. grind (arith, places))

pub bad_ahead : (frames : List (List ℤ)) (place j k : ℕ) → has_bad (take k (drop (place + j) frames)) ≡ true → has_bad (drop place frames) ≡ true
bad_ahead frames place j k bad =
    has_bad_part (drop place frames) j k (sym (ap (λ (l : List (List ℤ)). has_bad (take k l)) (dropped_on frames place j)) ∙ bad)

-- a file that is ready is read, but for a fault and for a bad block
pub never_refused : (places : ℕ) (old new : Known) (result : Result ℕ ReadError) (error : ReadError) → IsReady places old
    → ReadLeaves places old new result → result ≡ Err error → error ≢ BadBlock → ((step : Step) → error ≢ DiskFault step) → ⊥
never_refused places old new result error ready left is good other = by_error error (subst (ReadLeaves places old new) is left) good other
  where
    by_error : (why : ReadError) → ReadLeaves places old new (Err why) → why ≢ BadBlock → ((step : Step) → why ≢ DiskFault step) → ⊥
    by_error (Broken step) leaves sound none = let e : None ≡ Some step = sym ready.working ∙ leaves.0 in cc
    by_error PartFrame leaves sound none = leaves.1 ready.whole
    by_error BadBlock leaves sound none = sound refl
    by_error (DiskFault step) leaves sound none = none step refl

-- ---- what is asked of the file that is read

-- blocks of some frames and of some more
pub div_sum : (m j k : ℕ) → j / m + k / m ≤ (j + k) / m
div_sum m j k = elim (cases_lt 0 m) [
  | inl some ↦
      let first : m * (j / m) + j % m ≡ j = div-add-mod j m in
      let second : m * (k / m) + k % m ≡ k = div-add-mod k m in
      let times : (j / m + k / m) * m ≡ m * (j / m) + m * (k / m) = omega arith in
      le-div (j / m + k / m) (j + k) m some (omega (arith, first, second, times))
  | inr none ↦
      let zero_is : m ≡ 0 = omega (arith, none) in
      let by_none : j / 0 + k / 0 ≤ (j + k) / 0 = omega (arith, div-zero j, div-zero k, div-zero (j + k)) in
      subst (λ (n : ℕ). j / n + k / n ≤ (j + k) / n) (sym zero_is) by_none
]

-- how many calls may have read two blocks more, where j frames were read, so many in each, and so many are left
abbrev turns : ℕ → ℕ → ℕ → ℕ → ℕ
turns each j left count = j / each + (1 - min 1 left) + (1 - min 1 count)

-- what was asked by then
abbrev asked_as : Bool → ℕ → ℕ → ℕ → ℕ → ℕ → ℕ → ℕ
asked_as blocks per align each j left count = cond blocks ((j / per + 2 * turns each j left count) * align) (j * align)

abbrev pub asked_by : Parameters → ℕ → ℕ → ℕ → ℕ → ℕ
asked_by p each j left count = asked_as (is_adpcm p.codec) (block_frames p.codec) (block_align p.channels p.codec) each j left count

one_turn : (each j left k : ℕ) → 1 ≤ each → k ≡ min each left → turns each j left 1 + 1 ≤ turns each (j + k) (left - k) k
one_turn each j left k some is = elim (cases_lt left each) [
  | inl fewer ↦
      let all : k ≡ left = omega (arith, is, fewer) in
      let sum = div_sum each j k in
      omega (arith, all, sum)
  | inr more ↦
      let whole : k ≡ each = omega (arith, is, more) in
      let next : (j + each) / each ≡ j / each + 1 = add-div_right j some in
      let same : (j + k) / each ≡ (j + each) / each = ap (λ (n : ℕ). (j + n) / each) whole in
      omega (arith, whole, next, same, some)
]

asked_more : (blocks : Bool) (per align each j left k : ℕ) → 1 ≤ each → (blocks ≡ true → k ≡ min each left)
    → asked_as blocks per align each j left 1 + cond blocks ((k / per + 2) * align) (k * align) ≤ asked_as blocks per align each (j + k) (left - k) k
asked_more true per align each j left k some is =
    let before = j / per + 2 * turns each j left 1 in
    let after = (j + k) / per + 2 * turns each (j + k) (left - k) k in
    let fewer : before + (k / per + 2) ≤ after = omega (arith, div_sum per j k, one_turn each j left k some (is refl)) in
    let times : align * (before + (k / per + 2)) ≤ align * after = mul-le-mul_left align fewer in
    sums before (k / per + 2) after times
  where
    sums : (x y z : ℕ) → align * (x + y) ≤ align * z → x * align + y * align ≤ z * align
    sums x y z le = omega (arith, le)
asked_more false per align each j left k some is = omega arith

asked_end : (blocks : Bool) (per align each n j left count : ℕ) → j ≤ n → asked_as blocks per align each j left count ≤ cond blocks ((n / per + 2 * (n / each + 2)) * align) (n * align)
asked_end true per align each n j left count within =
    let rest : j + (n - j) ≡ n = omega (arith, within) in
    let frames : j / per ≤ n / per = omega (arith, div_sum per j (n - j), ap (λ (i : ℕ). i / per) rest) in
    let calls : j / each ≤ n / each = omega (arith, div_sum each j (n - j), ap (λ (i : ℕ). i / each) rest) in
    let before = j / per + 2 * turns each j left count in
    let after = n / per + 2 * (n / each + 2) in
    let fewer : before ≤ after = omega (arith, frames, calls) in
    let times : align * before ≤ align * after = mul-le-mul_left align fewer in
    turned before after times
  where
    turned : (x z : ℕ) → align * x ≤ align * z → x * align ≤ z * align
    turned x z le = omega (arith, le)
asked_end false per align each n j left count within =
    let times : align * j ≤ align * n = mul-le-mul_left align within in
    omega (arith, times)

pub asked_none : (p : Parameters) (each place left count asked : ℕ) → AtMost asked (asked_by p each (place - place) left count) asked
asked_none p each place left count asked = record { later = omega arith; most = omega arith }

-- after what was asked for j frames, that for k more, by a file with the same parameters: in ADPCM as many as fit or are left
pub asked_on : (now : Known) (p : Parameters) (each j left k i old mid new : ℕ) → now.shape.params ≡ p → 1 ≤ each → (is_adpcm p.codec ≡ true → k ≡ min each left) → i ≡ j + k
    → AtMost old (asked_by p each j left 1) mid → AtMost mid (bytes_to_read now.shape.params k) new → AtMost old (asked_by p each i (left - k) k) new
asked_on now p each j left k i old mid new same some is sum before asked =
    let read : bytes_to_read now.shape.params k ≡ bytes_to_read p k = ap (λ (q : Parameters). bytes_to_read q k) same in
    let more = asked_more (is_adpcm p.codec) (block_frames p.codec) (block_align p.channels p.codec) each j left k some is in
    let both : AtMost old (asked_by p each (j + k) (left - k) k) new =
    record { later = omega (arith, before.later, asked.later); most = most_of (asked_by p each j left 1) (bytes_to_read p k) (bytes_to_read now.shape.params k) (asked_by p each (j + k) (left - k) k) read more before asked } in
    subst (λ (n : ℕ). AtMost old (asked_by p each n (left - k) k) new) (sym sum) both
  where
    most_of : (x y y' z : ℕ) → y' ≡ y → x + y ≤ z → AtMost old x mid → AtMost mid y' new → new ≤ old + z
    most_of x y y' z e le one two = omega (arith, e, le, one.most, two.most)

-- while some were read
pub asked_before : (p : Parameters) (each j left count old new : ℕ) → 1 ≤ count → AtMost old (asked_by p each j left count) new → AtMost old (asked_by p each j left 1) new
asked_before p each j left count old new some asked =
    let same : 1 - min 1 count ≡ 1 - min 1 1 = omega (arith, some) in
    let blocks : (j / block_frames p.codec + 2 * turns each j left count) * block_align p.channels p.codec ≡ (j / block_frames p.codec + 2 * turns each j left 1) * block_align p.channels p.codec =
    ap (λ (n : ℕ). (j / block_frames p.codec + 2 * (j / each + (1 - min 1 left) + n)) * block_align p.channels p.codec) same in
    subst (λ (n : ℕ). AtMost old (cond (is_adpcm p.codec) n (j * block_align p.channels p.codec)) new) blocks asked

-- in the end no more than for all
pub asked_all : (p : Parameters) (each n j left count old new : ℕ) → j ≤ n → AtMost old (asked_by p each j left count) new → AtMost old (bytes_by_calls p each n) new
asked_all p each n j left count old new within asked =
    let most = asked_end (is_adpcm p.codec) (block_frames p.codec) (block_align p.channels p.codec) each n j left count within in
    most_by (asked_by p each j left count) (bytes_by_calls p each n) most asked
  where
    most_by : (x z : ℕ) → x ≤ z → AtMost old x new → AtMost old z new
    most_by x z le was = record { later = was.later; most = omega (arith, le, was.most) }

-- how many frames a block has places for, whose places are for whole ones
pub each_whole : (n c : ℕ) → 1 ≤ c → (n - n % c) / c ≡ n / c
each_whole n c some =
    let same : n - n % c ≡ c * (n / c) = omega (arith, some) in
    ap (λ (i : ℕ). i / c) same ∙ mul-div_cancel_left (n / c) (let e : 0 < c = omega (arith, some) in e)
