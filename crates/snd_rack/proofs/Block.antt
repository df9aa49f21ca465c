-- Frames that pass one stage after the other.
use Rattle.std.proofs.Common.{inl, inr, ◌≡◌, ℕ, zero, suc, ◌+◌, ◌-◌, ◌*◌, ◌/◌, ◌%◌, ◌<◌, ◌≤◌, ◌^◌, Bool, false, true, not, nat_lt, slice_index_or, ℤ, pos, neg_ℤ, ◌*ℤ◌, ◌≤ℤ◌, List, [], ◌∷◌, ◌++◌, drop, get_or, length, map, min, take, refl, sym, subst, ap, ◌∙◌, arith}
use Rattle.std.proofs.Math.Nat.{div-eq_of_lt, mul_comm, mul-add-mod_self_right, mul-div_cancel, mul-le-mul_left, mul-le-mul_right, mul-mod_left, zero-div}
use Rattle.std.proofs.lemmas.Bool.{cases_Bool, cases_lt, ltb-true}
use Rattle.std.proofs.Math.Seq.{drop-cons}
use Rattle.std.proofs.lemmas.Grind.{flat_map-append}
use Rattle.std.proofs.lemmas.List.{append-nil, append_assoc, length-append, length-drop, length-map, length-take-le, map-append, take-append-drop, take_at}
use Rattle.std.specs.List.{flat_map, list_all, refill}
use Rattle.snd_rack.specs.Rises.{fade_from}
use Rattle.snd_pcm.specs.Width.{floor_div}
use Rattle.std.proofs.lemmas.List.Elements.{All-append}
use Rattle.snd_pcm.specs.Groups.{groups}
use Rattle.snd_rack.specs.Held.{Held, InRange, MayPass, next, passed}
use Rattle.snd_rack.specs.Passing.{AllHaveRoom, EachMay, EachMayPass, MayPassAll, MayPassBlock, each_by, each_passed, joined, later, next_by, passed_all, passed_block}
use Rattle.snd_rack.specs.Rack.{channels_behind, is_bad}
use Rattle.snd_rack.specs.Stage.{IsSettled, Stated, clamped, mapped}
use Rattle.snd_rack.proofs.Cut.{Sized, count_is, groups-cons, groups_joined, groups_sized, groups_split, joined_groups, length_groups, no_group, size_joined}
use Rattle.snd_rack.proofs.Passed.{later_twice, length_mapped, passed_joined}

-- ---- one stage

-- one more frame has passed
module _ (h : Held) (k : ℕ) (frame rest whole : List ℤ) (some : 0 < k) (len : length frame ≡ k) (is : whole ≡ frame ++ rest) where
  frames_are : groups k whole ≡ frame ∷ groups k rest
  frames_are = ap (groups k) is ∙ groups-cons k frame rest some len

  count_one : length whole / k ≡ suc (length rest / k)
  count_one = sym (length_groups k whole) ∙ ap length frames_are ∙ ap suc (length_groups k rest)

  pub frames_on : (into made new : List ℤ) (then : Held) → new ≡ into ++ made → made ≡ passed h frame → then ≡ next h
      → new ++ joined (each_by then (groups k rest)) ≡ into ++ joined (each_by h (groups k whole))
  frames_on into made new then new_is made_is then_is =
      ap (λ l. l ++ joined (each_by then (groups k rest))) new_is ∙ ap (λ l. (into ++ l) ++ joined (each_by then (groups k rest))) made_is
      ∙ ap (λ (l : Held). (into ++ passed h frame) ++ joined (each_by l (groups k rest))) then_is
      ∙ append_assoc into (passed h frame) (joined (each_by (next h) (groups k rest)))
      ∙ sym (ap (λ l. into ++ joined (each_by h l)) frames_are)

  pub room_on : (into made all : List ℤ) → made ≡ passed h frame → into ++ joined (each_by h (groups k whole)) ≡ all → length into + length made ≤ length all
  room_on into made all made_is is =
      let opened_is : joined (each_by h (groups k whole)) ≡ passed h frame ++ joined (each_by (next h) (groups k rest)) = ap (λ l. joined (each_by h l)) frames_are in
      let one = length-append into (joined (each_by h (groups k whole))) in
      let two = length-append (passed h frame) (joined (each_by (next h) (groups k rest))) in
      omega (arith, one, two, ap length opened_is, ap length is, ap length made_is)

  pub may_on : (then : Held) → then ≡ next h → EachMay h (groups k whole) → MayPass h frame × EachMay then (groups k rest)
  may_on then then_is may =
      let both = subst (EachMay h) frames_are may in
      (both.0, subst (λ l. EachMay l (groups k rest)) (sym then_is) both.1)

  pub states_on : (then : Held) → then ≡ next h → next_by (length rest / k) then ≡ next_by (length whole / k) h
  states_on then then_is = ap (next_by (length rest / k)) then_is ∙ sym (ap (λ n. next_by n h) count_one)

-- where no whole frame is left
pub none_left : (h : Held) (k : ℕ) (rest into : List ℤ) → length rest < k → into ≡ into ++ joined (each_by h (groups k rest))
none_left h k rest into lt = sym (append-nil into) ∙ sym (ap (λ l. into ++ joined (each_by h l)) (no_group k rest lt))

pub state_left : (h : Held) (k : ℕ) (rest : List ℤ) → length rest < k → h ≡ next_by (length rest / k) h
state_left h k rest lt = sym (ap (λ n. next_by n h) (div-eq_of_lt lt))

-- ---- a stage that does the same to every sample

each_alike : (f : ℤ → ℤ) (h : Held) (frames : List (List ℤ)) → ((i : ℕ) (frame : List ℤ) → mapped h.stated h.low h.high i frame ≡ map f frame)
    → joined (each_by h frames) ≡ map f (joined frames)
each_alike f h [] e = refl
each_alike f h (frame ∷ frames) e =
    ap (λ l. l ++ joined (each_by (next h) frames)) (e h.seen frame) ∙ ap (λ l. map f frame ++ l) (each_alike f (next h) frames e) ∙ sym (map-append f frame (joined frames))

whole_is : (c : ℕ) (xs : List ℤ) → 0 < c → length xs % c ≡ 0 → length xs ≡ length xs / c * c
whole_is c xs some whole = omega (arith, whole)

pub block_alike : (f : ℤ → ℤ) (h : Held) (c : ℕ) (xs : List ℤ) → ((i : ℕ) (frame : List ℤ) → mapped h.stated h.low h.high i frame ≡ map f frame)
    → MayPassBlock h c xs → map f xs ≡ passed_block h c xs
block_alike f h c xs e may =
    sym (each_alike f h (groups c xs) e ∙ ap (map f) (joined_groups c (length xs / c) xs may.some (whole_is c xs may.some may.whole)))

frames_range : (h : Held) (frames : List (List ℤ)) → EachMay h frames → InRange h.low h.high (joined frames)
frames_range h [] may = λ k d lt. absurd (omega (arith, lt))
frames_range h (frame ∷ frames) may = All-append (λ (x : ℤ). (h.low ≤ℤ x) × (x ≤ℤ h.high)) frame (joined frames) may.0.in_range (frames_range (next h) frames may.1)

pub block_range : (h : Held) (c : ℕ) (xs : List ℤ) → MayPassBlock h c xs → InRange h.low h.high xs
block_range h c xs may =
    subst (InRange h.low h.high) (joined_groups c (length xs / c) xs may.some (whole_is c xs may.some may.whole)) (frames_range h (groups c xs) may.may)

-- the count stays at its greatest number
pub next_by_is : (n : ℕ) (h : Held) → h.seen ≤ 2 ^ 64 - 1 → next_by n h ≡ record h { seen = min (h.seen + n) (2 ^ 64 - 1) }
next_by_is zero h le =
    let same : h.seen ≡ min (h.seen + 0) (2 ^ 64 - 1) = omega (arith, le) in
    ap (λ (m : ℕ). record h { seen = m }) same
next_by_is (suc n) h le =
    let same : min (min (h.seen + 1) (2 ^ 64 - 1) + n) (2 ^ 64 - 1) ≡ min (h.seen + suc n) (2 ^ 64 - 1) = omega arith in
    next_by_is n (next h) (omega arith) ∙ ap (λ (m : ℕ). record h { seen = m }) same

-- ---- several stages

each_opened : (h : Held) (hs : List Held) (frames : List (List ℤ)) → each_passed (h ∷ hs) frames ≡ each_passed hs (each_by h frames)
each_opened h hs [] = refl
each_opened h hs (frame ∷ frames) = ap (λ l. passed_all hs (passed h frame) ∷ l) (each_opened (next h) (map next hs) frames)

may_opened : (h : Held) (hs : List Held) (frames : List (List ℤ)) → EachMayPass (h ∷ hs) frames → EachMay h frames × EachMayPass hs (each_by h frames)
may_opened h hs [] may = (tt, tt)
may_opened h hs (frame ∷ frames) may =
    let rest = may_opened (next h) (map next hs) frames may.1 in
    ((may.0.0, rest.0), (may.0.1, rest.1))

pub each_none : (frames : List (List ℤ)) → each_passed [] frames ≡ frames
each_none [] = refl
each_none (frame ∷ frames) = ap (λ l. frame ∷ l) (each_none frames)

later_none : (n : ℕ) → later n [] ≡ []
later_none zero = refl
later_none (suc n) = later_none n

later_opened : (n : ℕ) (h : Held) (hs : List Held) → later n (h ∷ hs) ≡ next_by n h ∷ later n hs
later_opened zero h hs = refl
later_opened (suc n) h hs = later_opened n (next h) (map next hs)

pub later_is : (n : ℕ) (hs : List Held) → map (next_by n) hs ≡ later n hs
later_is n [] = sym (later_none n)
later_is n (h ∷ hs) = ap (λ l. next_by n h ∷ l) (later_is n hs) ∙ sym (later_opened n h hs)

length_by : (h : Held) (frames : List (List ℤ)) → length (each_by h frames) ≡ length frames
length_by h [] = refl
length_by h (frame ∷ frames) = ap suc (length_by (next h) frames)

sized_by : (h : Held) (c : ℕ) (frames : List (List ℤ)) → Sized c frames → Sized (channels_behind c h.stated) (each_by h frames)
sized_by h c [] all = tt
sized_by h c (frame ∷ frames) all =
    (length_mapped h.stated h.low h.high h.seen frame ∙ ap (λ m. channels_behind m h.stated) all.0, sized_by (next h) c frames all.1)

within : (s : Stated) (c : ℕ) → IsSettled s → 1 ≤ c → c ≤ 256 → (1 ≤ channels_behind c s) × (channels_behind c s ≤ 256)
within (Stated.gain a b) c settled some most = (some, most)
within Stated.invert c settled some most = (some, most)
within (Stated.pick places) c settled some most = settled
within (Stated.fade n) c settled some most = (some, most)

first_settled : (h : Held) (frames : List (List ℤ)) → 1 ≤ length frames → EachMay h frames → IsSettled h.stated
first_settled h [] some may = absurd (omega (arith, some))
first_settled h (frame ∷ frames) some may = may.0.settled

first_there : (h : Held) (c : ℕ) (frames : List (List ℤ)) → 1 ≤ length frames → Sized c frames → EachMay h frames → is_bad c h.stated ≡ false
first_there h c [] some all may = absurd (omega (arith, some))
first_there h c (frame ∷ frames) some all may = sym (ap (λ m. is_bad m h.stated) all.0) ∙ may.0.there

-- a block of n frames comes to the first of several stages
module _ (h : Held) (hs : List Held) (c n : ℕ) (xs : List ℤ) (some : 1 ≤ c) (most : c ≤ 256) (one : 1 ≤ n) (len : length xs ≡ n * c)
    (may : EachMayPass (h ∷ hs) (groups c xs)) where
  abbrev pub behind : ℕ
  behind = channels_behind c h.stated

  count : length (groups c xs) ≡ n
  count = length_groups c xs ∙ count_is c n xs some len

  both : EachMay h (groups c xs) × EachMayPass hs (each_by h (groups c xs))
  both = may_opened h hs (groups c xs) may

  settled : IsSettled h.stated
  settled = first_settled h (groups c xs) (omega (arith, count, one)) both.0

  pub bounds : (1 ≤ behind) × (behind ≤ 256)
  bounds = within h.stated c settled some most

  sized : Sized behind (each_by h (groups c xs))
  sized = sized_by h c (groups c xs) (groups_sized c n xs some len)

  pub size_then : length (passed_block h c xs) ≡ n * behind
  size_then = size_joined behind (each_by h (groups c xs)) sized ∙ ap (λ m. m * behind) (length_by h (groups c xs) ∙ count)

  pub block_may : n * behind ≤ 16384 → MayPassBlock h c xs
  block_may fits = record {
    some = some;
    most = most;
    whole = ap (λ m. m % c) len ∙ mul-mod_left n c;
    settled = settled;
    there = first_there h c (groups c xs) (omega (arith, count, one)) (groups_sized c n xs some len) both.0;
    may = both.0;
    room = omega (arith, size_then, fits);
  }

  frames_then : groups behind (passed_block h c xs) ≡ each_by h (groups c xs)
  frames_then = groups_joined behind (each_by h (groups c xs)) bounds.0 sized

  module _ (new : List ℤ) (made : new ≡ passed_block h c xs) where
    pub may_then : EachMayPass hs (groups behind new)
    may_then = subst (EachMayPass hs) (sym (ap (groups behind) made ∙ frames_then)) both.1

    pub passed_then : joined (each_passed hs (groups behind new)) ≡ joined (each_passed (h ∷ hs) (groups c xs))
    passed_then = ap (λ l. joined (each_passed hs l)) (ap (groups behind) made ∙ frames_then) ∙ sym (ap joined (each_opened h hs (groups c xs)))

-- stages from a place on, where one stands there
opened : {B : Type 0} (held : B → Held) (old : List B) (i : ℕ) (x : B) → i < length old → x ≡ get_or old i x → map held (drop i old) ≡ held x ∷ map held (drop (i + 1) old)
opened held old i x lt is =
    let more : suc i ≡ i + 1 = omega arith in
    ap (map held) (drop-cons old i x lt ∙ ap (λ y. y ∷ drop (suc i) old) (sym is) ∙ ap (λ n. x ∷ drop n old) more)

-- one stage of a list, where a block of n frames passes those from there on
module _ {B : Type 0} (held : B → Held) (old : List B) (i : ℕ) (x : B) (lt : i < length old) (is : x ≡ get_or old i x)
    (c n : ℕ) (xs : List ℤ) (some : 1 ≤ c) (most : c ≤ 256) (one : 1 ≤ n) (len : length xs ≡ n * c)
    (may : EachMayPass (map held (drop i old)) (groups c xs)) where
  abbrev left : List Held
  left = map held (drop (i + 1) old)

  here : EachMayPass (held x ∷ left) (groups c xs)
  here = subst (λ hs. EachMayPass hs (groups c xs)) (opened held old i x lt is) may

  room : AllHaveRoom (map held (drop i old)) c n → AllHaveRoom (held x ∷ left) c n
  room fits = subst (λ hs. AllHaveRoom hs c n) (opened held old i x lt is) fits

  pub may_here : AllHaveRoom (map held (drop i old)) c n → MayPassBlock (held x) c xs
  may_here fits = block_may (held x) left c n xs some most one len here (room fits).0

  module _ (new : List ℤ) (made : new ≡ passed_block (held x) c xs) where
    abbrev width_then : ℕ
    width_then = channels_behind c (held x).stated

    size : length new ≡ n * width_then
    size = ap length made ∙ size_then (held x) left c n xs some most one len here

    width : length new / n ≡ width_then
    width = count_is n width_then new one (size ∙ mul_comm n width_then)

    within_then : (1 ≤ width_then) × (width_then ≤ 256)
    within_then = bounds (held x) left c n xs some most one len here

    pub size_on : length new ≡ n * (length new / n)
    size_on = size ∙ ap (λ m. n * m) (sym width)

    pub some_on : 1 ≤ length new / n
    some_on = omega (arith, width, within_then.0)

    pub most_on : length new / n ≤ 256
    most_on = omega (arith, width, within_then.1)

    pub room_left : AllHaveRoom (map held (drop i old)) c n → AllHaveRoom left (length new / n) n
    room_left fits = subst (λ m. AllHaveRoom left m n) (sym width) (room fits).1

    pub may_left : EachMayPass left (groups (length new / n) new)
    may_left = subst (λ m. EachMayPass left (groups m new)) (sym width) (may_then (held x) left c n xs some most one len here new made)

    pub passed_left : joined (each_passed left (groups (length new / n) new)) ≡ joined (each_passed (map held (drop i old)) (groups c xs))
    passed_left =
        ap (λ m. joined (each_passed left (groups m new))) width ∙ passed_then (held x) left c n xs some most one len here new made
        ∙ sym (ap (λ hs. joined (each_passed hs (groups c xs))) (opened held old i x lt is))

-- 64 frames or fewer have places behind each stage that is settled
all_fit : (hs : List Held) (c n : ℕ) (frame : List ℤ) → 1 ≤ c → c ≤ 256 → n ≤ 64 → MayPassAll hs frame → AllHaveRoom hs c n
all_fit [] c n frame some most few may = tt
all_fit (h ∷ hs) c n frame some most few may =
    let then = channels_behind c h.stated in
    let bounds = within h.stated c may.0.settled some most in
    let times : then * n ≤ then * 64 = mul-le-mul_left {m = n} {n = 64} then few in
    (omega (arith, times, bounds.1), all_fit hs then n (passed h frame) bounds.0 bounds.1 few may.1)

pub few_fit : (hs : List Held) (c n : ℕ) (frames : List (List ℤ)) → 1 ≤ c → c ≤ 256 → n ≤ 64 → 1 ≤ length frames → EachMayPass hs frames → AllHaveRoom hs c n
few_fit hs c n [] some most few one may = absurd (omega (arith, one))
few_fit hs c n (frame ∷ frames) some most few one may = all_fit hs c n frame some most few may.0

-- behind the last one
pub all_passed : (hs : List Held) (c n : ℕ) (xs : List ℤ) → hs ≡ [] → 1 ≤ c → length xs ≡ n * c → xs ≡ joined (each_passed hs (groups c xs))
all_passed hs c n xs none some len =
    sym (ap (λ l. joined (each_passed l (groups c xs))) none ∙ ap joined (each_none (groups c xs)) ∙ joined_groups c n xs some len)

-- ---- a block after the other

may_split : (hs : List Held) (xs ys : List (List ℤ)) → EachMayPass hs (xs ++ ys) → EachMayPass hs xs × EachMayPass (later (length xs) hs) ys
may_split hs [] ys may = (tt, may)
may_split hs (x ∷ xs) ys may =
    let rest = may_split (map next hs) xs ys may.1 in
    ((may.0, rest.0), rest.1)

-- some frames of a list pass, and then the others
module _ (hs : List Held) (k m : ℕ) (piece rest whole : List ℤ) (some : 0 < k) (len : length piece ≡ m * k) (is : whole ≡ piece ++ rest) where
  groups_are : groups k whole ≡ groups k piece ++ groups k rest
  groups_are = ap (groups k) is ∙ groups_split k m piece rest some len

  pub counts_are : length whole / k ≡ length piece / k + length rest / k
  counts_are = sym (length_groups k whole) ∙ ap length groups_are ∙ length-append (groups k piece) (groups k rest)
      ∙ ap (λ n. n + length (groups k rest)) (length_groups k piece) ∙ ap (λ n. length piece / k + n) (length_groups k rest)

  made_of : joined (each_passed hs (groups k whole)) ≡ joined (each_passed hs (groups k piece)) ++ joined (each_passed (later (length piece / k) hs) (groups k rest))
  made_of =
      ap (λ l. joined (each_passed hs l)) groups_are ∙ ap joined (passed_joined hs (groups k piece) (groups k rest))
      ∙ flat_map-append (λ (frame : List ℤ). frame) (each_passed hs (groups k piece)) (each_passed (later (length (groups k piece)) hs) (groups k rest))
      ∙ ap (λ n. joined (each_passed hs (groups k piece)) ++ joined (each_passed (later n hs) (groups k rest))) (length_groups k piece)

  pub block_on : (into made new : List ℤ) (then : List Held) → new ≡ into ++ made → made ≡ joined (each_passed hs (groups k piece)) → then ≡ later (length piece / k) hs
      → new ++ joined (each_passed then (groups k rest)) ≡ into ++ joined (each_passed hs (groups k whole))
  block_on into made new then new_is made_is then_is =
      ap (λ l. l ++ joined (each_passed then (groups k rest))) new_is ∙ ap (λ l. (into ++ l) ++ joined (each_passed then (groups k rest))) made_is
      ∙ ap (λ (l : List Held). (into ++ joined (each_passed hs (groups k piece))) ++ joined (each_passed l (groups k rest))) then_is
      ∙ append_assoc into (joined (each_passed hs (groups k piece))) (joined (each_passed (later (length piece / k) hs) (groups k rest)))
      ∙ sym (ap (λ l. into ++ l) made_of)

  pub block_room : (into made all : List ℤ) → made ≡ joined (each_passed hs (groups k piece)) → into ++ joined (each_passed hs (groups k whole)) ≡ all → length into + length made ≤ length all
  block_room into made all made_is is =
      let one = length-append into (joined (each_passed hs (groups k whole))) in
      let two = length-append (joined (each_passed hs (groups k piece))) (joined (each_passed (later (length piece / k) hs) (groups k rest))) in
      omega (arith, one, two, ap length made_of, ap length is, ap length made_is)

  pub both_may : EachMayPass hs (groups k whole) → EachMayPass hs (groups k piece) × EachMayPass (later (length piece / k) hs) (groups k rest)
  both_may may =
      let both = may_split hs (groups k piece) (groups k rest) (subst (EachMayPass hs) groups_are may) in
      (both.0, subst (λ n. EachMayPass (later n hs) (groups k rest)) (length_groups k piece) both.1)

  pub block_states : (now : List Held) → now ≡ later (length piece / k) hs → later (length rest / k) now ≡ later (length whole / k) hs
  block_states now then_is = ap (later (length rest / k)) then_is ∙ later_twice (length piece / k) (length rest / k) hs ∙ sym (ap (λ n. later n hs) counts_are)

-- what stands behind the last whole frame is left out
module _ (k : ℕ) (xs : List ℤ) (some : 0 < k) where
  abbrev whole : ℕ
  whole = length xs - length xs % k

  front_len : length (take whole xs) ≡ length xs / k * k
  front_len =
      let size = length-take-le whole xs (omega arith) in
      omega (arith, size, some)

  back : groups k (drop whole xs) ≡ []
  back = no_group k (drop whole xs) (omega (arith, length-drop whole xs, some))

  pub same_groups : groups k (take whole xs) ≡ groups k xs
  same_groups =
      sym (ap (groups k) (sym (take-append-drop whole xs)) ∙ groups_split k (length xs / k) (take whole xs) (drop whole xs) some front_len
      ∙ ap (λ l. groups k (take whole xs) ++ l) back ∙ append-nil (groups k (take whole xs)))

  pub same_count : length (take whole xs) / k ≡ length xs / k
  same_count = ap (λ n. n / k) front_len ∙ mul-div_cancel (length xs / k) some

  pub front_whole : length (take whole xs) % k ≡ 0
  front_whole = ap (λ n. n % k) front_len ∙ mul-mod_left (length xs / k) k

-- a piece of at most 64 frames
module _ (c r p rest : ℕ) (some : 1 ≤ c) (whole : r % c ≡ 0) (is : p ≡ min (64 * c) r) (more : 0 < r) (parts : r ≡ p + rest) where
  r_is : r ≡ r / c * c
  r_is = omega (arith, some, whole)

  pub piece_is : p ≡ min 64 (r / c) * c
  piece_is = elim (cases_lt 64 (r / c)) [
    | inl lt ↦ (let le : 64 * c ≤ r / c * c = mul-le-mul_right {m = 64} {n = r / c} c (omega (arith, lt)) in
        let m : min 64 (r / c) ≡ 64 = omega (arith, lt) in
        let p_is : p ≡ 64 * c = omega (arith, is, r_is, le) in
        p_is ∙ sym (ap (λ k. k * c) m))
    | inr ge ↦ (let le : r / c * c ≤ 64 * c = mul-le-mul_right {m = r / c} {n = 64} c (omega (arith, ge)) in
        let m : min 64 (r / c) ≡ r / c = omega (arith, ge) in
        let p_is : p ≡ r / c * c = omega (arith, is, r_is, le) in
        p_is ∙ sym (ap (λ k. k * c) m))
  ]

  pub piece_count : p / c ≡ min 64 (r / c)
  piece_count = ap (λ k. k / c) piece_is ∙ mul-div_cancel (min 64 (r / c)) some

  pub piece_few : p / c ≤ 64
  piece_few = omega (arith, piece_count)

  pub piece_one : 1 ≤ p / c
  piece_one = elim (cases_lt 0 (r / c)) [
    | inl lt ↦ omega (arith, piece_count, lt)
    | inr ge ↦ (let none : r / c ≡ 0 = omega (arith, ge) in
        let zero_is : r ≡ 0 = r_is ∙ ap (λ k. k * c) none ∙ (let e : 0 * c ≡ 0 = omega arith in e) in
        absurd (omega (arith, zero_is, more)))
  ]

  pub piece_whole : p % c ≡ 0
  piece_whole = ap (λ k. k % c) piece_is ∙ mul-mod_left (min 64 (r / c)) c

  pub rest_whole : rest % c ≡ 0
  rest_whole = sym (ap (λ k. k % c) (parts ∙ ap (λ k. k + rest) piece_is) ∙ mul-add-mod_self_right (min 64 (r / c)) c rest) ∙ whole

-- the frames of a block
pub frames_are_so_many : (c n r : ℕ) → 1 ≤ c → 1 ≤ r / c → r % c ≡ 0 → n ≡ r / c → (r ≡ n * c) × (r / n ≡ c)
frames_are_so_many c n r some one whole is =
    let len : r ≡ n * c = (let e : r ≡ r / c * c = omega (arith, some, whole) in e) ∙ ap (λ k. k * c) (sym is) in
    let positive : 0 < n = omega (arith, is, one) in
    (len, ap (λ k. k / n) (len ∙ mul_comm n c) ∙ mul-div_cancel c positive)

pub state_as : (new old same : Held) (m n : ℕ) → new ≡ next_by m old → m ≡ n → old ≡ same → new ≡ next_by n same
state_as new old same m n is count alike = is ∙ ap (λ k. next_by k old) count ∙ ap (next_by n) alike

pub states_left : (hs : List Held) (k : ℕ) (rest : List ℤ) → length rest ≡ 0 → hs ≡ later (length rest / k) hs
states_left hs k rest none = sym (ap (λ n. later (n / k) hs) none ∙ ap (λ n. later n hs) (zero-div k))

-- ---- what the code of a stage owes

refilled : (n : ℕ) (xs ws : List ℤ) → length ws ≡ n → refill n xs ws ≡ ws
refilled n xs ws size = take_at ws (drop (length ws) xs) n size

made_alike : (f : ℤ → ℤ) (h : Held) (c : ℕ) (xs ys : List ℤ) → ((i : ℕ) (frame : List ℤ) → mapped h.stated h.low h.high i frame ≡ map f frame)
    → ys ≡ map f xs → MayPassBlock h c xs → refill (length xs) xs ys ≡ passed_block h c xs
made_alike f h c xs ys e is may = refilled (length xs) xs ys (ap length is ∙ length-map xs f) ∙ is ∙ block_alike f h c xs e may

module _ (h : Held) (c : ℕ) (xs now : List ℤ) (low high : ℤ) (low_is : low ≡ h.low) (high_is : high ≡ h.high) (now_is : now ≡ xs) (may : MayPassBlock h c xs) where
  pub range_as : InRange low high now
  range_as = subst (InRange low high) (sym now_is) (subst (λ (l : ℤ). InRange l high xs) (sym low_is) (subst (λ (u : ℤ). InRange h.low u xs) (sym high_is) (block_range h c xs may)))

  pub scaled_as : (a b : ℕ) (ys : List ℤ) → h.stated ≡ Stated.gain a b → ys ≡ map (λ x. clamped low high (floor_div (x *ℤ pos a) b)) now → refill (length xs) xs ys ≡ passed_block h c xs
  scaled_as a b ys stated is =
      let f : ℤ → ℤ = λ x. clamped h.low h.high (floor_div (x *ℤ pos a) b) in
      made_alike f h c xs ys (λ i frame. ap (λ s. mapped s h.low h.high i frame) stated)
      (is ∙ ap (λ (l : ℤ). map (λ x. clamped l high (floor_div (x *ℤ pos a) b)) now) low_is ∙ ap (λ (u : ℤ). map (λ x. clamped h.low u (floor_div (x *ℤ pos a) b)) now) high_is ∙ ap (map f) now_is) may

  pub turned_as : (ys : List ℤ) → h.stated ≡ Stated.invert → ys ≡ map (λ x. clamped low high (neg_ℤ x)) now → refill (length xs) xs ys ≡ passed_block h c xs
  turned_as ys stated is =
      let f : ℤ → ℤ = λ x. clamped h.low h.high (neg_ℤ x) in
      made_alike f h c xs ys (λ i frame. ap (λ s. mapped s h.low h.high i frame) stated)
      (is ∙ ap (λ (l : ℤ). map (λ x. clamped l high (neg_ℤ x)) now) low_is ∙ ap (λ (u : ℤ). map (λ x. clamped h.low u (neg_ℤ x)) now) high_is ∙ ap (map f) now_is) may

pub counted_as : (h : Held) (n seen : ℕ) → h.seen ≤ 2 ^ 64 - 1 → seen ≡ min (h.seen + n) (2 ^ 64 - 1) → record h { seen = seen } ≡ next_by n h
counted_as h n seen le is = ap (λ (m : ℕ). record h { seen = m }) is ∙ sym (next_by_is n h le)

-- ---- a choice of samples

-- one more frame behind a function of frames
module _ (F : List ℤ → List ℤ) (k : ℕ) (frame rest whole : List ℤ) (some : 0 < k) (len : length frame ≡ k) (is : whole ≡ frame ++ rest) where
  flat_is : flat_map F (groups k whole) ≡ F frame ++ flat_map F (groups k rest)
  flat_is = ap (flat_map F) (ap (groups k) is ∙ groups-cons k frame rest some len)

  pub flat_on : (into new : List ℤ) → new ≡ into ++ F frame → new ++ flat_map F (groups k rest) ≡ into ++ flat_map F (groups k whole)
  flat_on into new new_is =
      ap (λ l. l ++ flat_map F (groups k rest)) new_is ∙ append_assoc into (F frame) (flat_map F (groups k rest)) ∙ sym (ap (λ l. into ++ l) flat_is)

  pub flat_room : (into all : List ℤ) → into ++ flat_map F (groups k whole) ≡ all → length into + length (F frame) ≤ length all
  flat_room into all all_is =
      let one = length-append into (flat_map F (groups k whole)) in
      let two = length-append (F frame) (flat_map F (groups k rest)) in
      omega (arith, one, two, ap length flat_is, ap length all_is)

pub flat_left : (F : List ℤ → List ℤ) (k : ℕ) (rest into : List ℤ) → length rest < k → into ≡ into ++ flat_map F (groups k rest)
flat_left F k rest into lt = sym (append-nil into) ∙ sym (ap (λ l. into ++ flat_map F l) (no_group k rest lt))

each_flat : (F : List ℤ → List ℤ) (h : Held) (frames : List (List ℤ)) → ((i : ℕ) (frame : List ℤ) → mapped h.stated h.low h.high i frame ≡ F frame)
    → joined (each_by h frames) ≡ flat_map F frames
each_flat F h [] e = refl
each_flat F h (frame ∷ frames) e = ap (λ l. l ++ joined (each_by (next h) frames)) (e h.seen frame) ∙ ap (λ l. F frame ++ l) (each_flat F (next h) frames e)

module _ (h : Held) (places : List ℕ) (c : ℕ) (xs : List ℤ) (stated : h.stated ≡ Stated.pick places) (may : MayPassBlock h c xs) where
  abbrev picked : List ℤ → List ℤ
  picked frame = map (λ place. slice_index_or frame place (pos 0)) places

  pub picked_as : flat_map picked (groups c xs) ≡ passed_block h c xs
  picked_as = sym (each_flat picked h (groups c xs) (λ i frame. ap (λ s. mapped s h.low h.high i frame) stated))

  pub picked_room : length (flat_map picked (groups c xs)) ≤ 16384
  picked_room = omega (arith, ap length picked_as, may.room)

  pub picked_there : list_all (λ place. nat_lt place c) places ≡ true
  picked_there = not_false (list_all (λ place. nat_lt place c) places) (sym (ap (is_bad c) stated) ∙ may.there)
    where
      not_false : (b : Bool) → not b ≡ false → b ≡ true
      not_false true e = refl
      not_false false e = sym e

-- ---- a rise

abbrev pub fade_at : ℤ → ℤ → ℕ → ℕ → Held
fade_at low high n i = record (fade_from n i) { low = low; high = high }

each_fade : (low high : ℤ) (n i : ℕ) (frames : List (List ℤ)) → each_by (fade_from n i) frames ≡ each_by (fade_at low high n i) frames
each_fade low high n i [] = refl
each_fade low high n i (frame ∷ frames) = ap (λ l. mapped (Stated.fade n) low high i frame ∷ l) (each_fade low high n (min (i + 1) (2 ^ 64 - 1)) frames)

pub risen_as : (low high : ℤ) (n i c : ℕ) (xs : List ℤ) → passed_block (fade_from n i) c xs ≡ passed_block (fade_at low high n i) c xs
risen_as low high n i c xs = ap joined (each_fade low high n i (groups c xs))

not_below : (i n : ℕ) → n ≤ i → nat_lt i n ≡ false
not_below i n le = elim (cases_Bool (nat_lt i n)) [ inl lt ↦ absurd (omega (arith, ltb-true i n lt, le)) | inr past ↦ past ]

each_full : (n i : ℕ) (frames : List (List ℤ)) → n ≤ i → n < 2 ^ 32 → each_by (fade_from n i) frames ≡ frames
each_full n i [] le few = refl
each_full n i (frame ∷ frames) le few =
    let past = not_below i n le in
    let full : mapped (Stated.fade n) (pos 0) (pos 0) i frame ≡ frame = rw past refl in
    ap (λ l. l ∷ each_by (fade_from n (min (i + 1) (2 ^ 64 - 1))) frames) full
    ∙ ap (λ l. frame ∷ l) (each_full n (min (i + 1) (2 ^ 64 - 1)) frames (omega (arith, le, few)) few)

pub full_as : (n i c : ℕ) (xs : List ℤ) → n ≤ i → n < 2 ^ 32 → 1 ≤ c → length xs % c ≡ 0 → xs ≡ passed_block (fade_from n i) c xs
full_as n i c xs le few some whole =
    sym (ap joined (each_full n i (groups c xs) le few) ∙ joined_groups c (length xs / c) xs some (whole_is c xs some whole))

-- a frame of a rise has places where what becomes of all has
pub rise_room : (n i k : ℕ) (frame rest whole : List ℤ) → 0 < k → length frame ≡ k → whole ≡ frame ++ rest → (into all : List ℤ) (most : ℕ)
    → into ++ joined (each_by (fade_from n i) (groups k whole)) ≡ all → length all ≤ most → length into + length frame ≤ most
rise_room n i k frame rest whole some len is into all most all_is le =
    let room = room_on (fade_from n i) k frame rest whole some len is into (passed (fade_from n i) frame) all refl all_is in
    let size : length (passed (fade_from n i) frame) ≡ length frame = length_mapped (Stated.fade n) (pos 0) (pos 0) i frame in
    omega (arith, room, size, le)
