-- Frames that pass stages.
use Rattle.std.proofs.Common.{inl, inr, ◌≡◌, ℕ, zero, suc, ◌+◌, ◌-◌, ◌*◌, ◌<◌, ◌≤◌, ◌^◌, ℤ, pos, ◌≤ℤ◌, false, List, [], ◌∷◌, ◌++◌, length, map, drop, take, min, nat_lt, slice_index_or, refl, sym, subst, ap, ◌∙◌, arith}
use Rattle.std.proofs.lemmas.Bool.{cases_Bool, or_parts}
use Rattle.std.proofs.Math.Seq.{take-add}
use Rattle.std.proofs.lemmas.Grind.{flat_map-append}
use Rattle.std.proofs.lemmas.List.{get_or-append-add, get_or_append_left, length-append, length-drop, length-map, length-take, length-take-le, take-append-drop}
use Rattle.std.proofs.lemmas.List.Elements.{All-append}
use Rattle.snd_pcm.specs.Groups.{first_groups}
use Rattle.snd_rack.specs.Held.{Held, InRange, MayPass, next, passed}
use Rattle.snd_rack.specs.Passing.{AllSettled, ArePassable, EachMayPass, IsPassable, MayPassAll, all_held, channels_through, each_passed, held_as, joined, later, passed_all}
use Rattle.snd_rack.specs.Rack.{bad_place, channels_after, channels_behind, frame_through, is_bad, racked_from}
use Rattle.snd_rack.specs.Stage.{Stated, each_from, mapped}
use Rattle.snd_rack.proofs.Composed.{in_pieces, one_after_other, stays_in_range}

-- how many samples a frame has behind a stage
pub length_mapped : (s : Stated) (low high : ℤ) (i : ℕ) (frame : List ℤ) → length (mapped s low high i frame) ≡ channels_behind (length frame) s
length_mapped (Stated.gain a b) low high i frame = length-map frame _
length_mapped Stated.invert low high i frame = length-map frame _
length_mapped (Stated.pick places) low high i frame = length-map places _
length_mapped (Stated.fade n) low high i frame = elim (cases_Bool (nat_lt i n)) [ inl lt ↦ rw lt (length-map frame _) | inr past ↦ rw past refl ]

module _ (low high : ℤ) (below : low ≤ℤ pos 0) (above : pos 0 ≤ℤ high) where
  -- one that passes a stage, and passes on
  pub may_pass : (h : Held) (frame : List ℤ) → IsPassable low high (length frame) h → InRange low high frame → MayPass h frame
  may_pass h frame p all = record {
    settled = p.settled;
    in_range = λ k d lt. (subst (λ (l : ℤ). l ≤ℤ slice_index_or frame k d) (sym p.low_is) (all k d lt).0, subst (λ (u : ℤ). slice_index_or frame k d ≤ℤ u) (sym p.high_is) (all k d lt).1);
    there = p.there;
  }

  pub range_on : (h : Held) (frame : List ℤ) → IsPassable low high (length frame) h → InRange low high frame → InRange low high (passed h frame)
  range_on h frame p all =
      let m = may_pass h frame p all in
      let made = stays_in_range h.stated h.low h.high h.seen frame (subst (λ (l : ℤ). l ≤ℤ pos 0) (sym p.low_is) below) (subst (λ (u : ℤ). pos 0 ≤ℤ u) (sym p.high_is) above) p.settled m.in_range in
      λ k d lt. (subst (λ (l : ℤ). l ≤ℤ slice_index_or (passed h frame) k d) p.low_is (made k d lt).0, subst (λ (u : ℤ). slice_index_or (passed h frame) k d ≤ℤ u) p.high_is (made k d lt).1)

  pub passable_on : (h : Held) (hs : List Held) (frame new : List ℤ) → new ≡ passed h frame → ArePassable low high (length frame) (h ∷ hs) → ArePassable low high (length new) hs
  passable_on h hs frame new is p = subst (λ (c : ℕ). ArePassable low high c hs) (sym (ap length is ∙ length_mapped h.stated h.low h.high h.seen frame)) p.1

  -- .. all of them
  pub may_pass_all : (hs : List Held) (frame : List ℤ) → ArePassable low high (length frame) hs → InRange low high frame → MayPassAll hs frame
  may_pass_all [] frame p all = tt
  may_pass_all (h ∷ hs) frame p all =
      (may_pass h frame p.0 all, may_pass_all hs (passed h frame) (passable_on h hs frame (passed h frame) refl p) (range_on h frame p.0 all))

  pub all_in_range : (hs : List Held) (frame : List ℤ) → ArePassable low high (length frame) hs → InRange low high frame
      → InRange low high (passed_all hs frame) × (length (passed_all hs frame) ≡ channels_through hs (length frame))
  all_in_range [] frame p all = (all, refl)
  all_in_range (h ∷ hs) frame p all =
      let rest = all_in_range hs (passed h frame) (passable_on h hs frame (passed h frame) refl p) (range_on h frame p.0 all) in
      (rest.0, rest.1 ∙ ap (channels_through hs) (length_mapped h.stated h.low h.high h.seen frame))

-- ---- frame after frame

-- a stage that passes frames stays one
pub passable_next : (low high : ℤ) (c : ℕ) (hs : List Held) → ArePassable low high c hs → ArePassable low high c (map next hs)
passable_next low high c [] p = tt
passable_next low high c (h ∷ hs) p = (record { kind_is = p.0.kind_is; settled = p.0.settled; low_is = p.0.low_is; high_is = p.0.high_is; there = p.0.there }, passable_next low high (channels_behind c h.stated) hs p.1)

pub passable_later : (n : ℕ) (low high : ℤ) (c : ℕ) (hs : List Held) → ArePassable low high c hs → ArePassable low high c (later n hs)
passable_later zero low high c hs p = p
passable_later (suc n) low high c hs p = passable_later n low high c (map next hs) (passable_next low high c hs p)

pub channels_next : (c : ℕ) (hs : List Held) → channels_through (map next hs) c ≡ channels_through hs c
channels_next c [] = refl
channels_next c (h ∷ hs) = channels_next (channels_behind c h.stated) hs

pub channels_later : (n c : ℕ) (hs : List Held) → channels_through (later n hs) c ≡ channels_through hs c
channels_later zero c hs = refl
channels_later (suc n) c hs = channels_later n c (map next hs) ∙ channels_next c hs

pub later_twice : (m n : ℕ) (hs : List Held) → later n (later m hs) ≡ later (m + n) hs
later_twice zero n hs =
    let none : n ≡ 0 + n = omega arith in
    ap (λ k. later k hs) none
later_twice (suc m) n hs =
    let more : suc (m + n) ≡ suc m + n = omega arith in
    later_twice m n (map next hs) ∙ ap (λ k. later k hs) more

-- in two pieces
pub passed_joined : (hs : List Held) (xs ys : List (List ℤ)) → each_passed hs (xs ++ ys) ≡ each_passed hs xs ++ each_passed (later (length xs) hs) ys
passed_joined hs [] ys = refl
passed_joined hs (x ∷ xs) ys = ap (λ l. passed_all hs x ∷ l) (passed_joined (map next hs) xs ys)

-- ---- the stages of a rack

next_held : (low high : ℤ) (k : ℕ) (items : List Stated) → k + 1 < 2 ^ 64 → map next (all_held low high k items) ≡ all_held low high (k + 1) items
next_held low high k [] lt = refl
next_held low high k (s ∷ items) lt =
    let seen : min (k + 1) (2 ^ 64 - 1) ≡ k + 1 = omega (arith, lt) in
    ap (λ n. held_as low high n s ∷ map next (all_held low high k items)) seen ∙ ap (λ l. held_as low high (k + 1) s ∷ l) (next_held low high k items lt)

pub held_later : (low high : ℤ) (k n : ℕ) (items : List Stated) → k + n < 2 ^ 64 → later n (all_held low high k items) ≡ all_held low high (k + n) items
held_later low high k zero items lt =
    let none : k ≡ k + 0 = omega arith in
    ap (λ m. all_held low high m items) none
held_later low high k (suc n) items lt =
    let more : k + 1 + n ≡ k + suc n = omega arith in
    ap (later n) (next_held low high k items (omega (arith, lt))) ∙ held_later low high (k + 1) n items (omega (arith, lt))
    ∙ ap (λ m. all_held low high m items) more

passed_through : (low high : ℤ) (k : ℕ) (items : List Stated) (frame : List ℤ) → passed_all (all_held low high k items) frame ≡ frame_through items low high k frame
passed_through low high k [] frame = refl
passed_through low high k (s ∷ items) frame = passed_through low high k items (mapped s low high k frame)

-- frames pass them as the definition says
each_through : (low high : ℤ) (k : ℕ) (items : List Stated) (frames : List (List ℤ)) → k + length frames < 2 ^ 64
    → each_passed (all_held low high k items) frames ≡ each_from k (frame_through items low high) frames
each_through low high k items [] lt = refl
each_through low high k items (frame ∷ frames) lt =
    ap (λ l. l ∷ each_passed (map next (all_held low high k items)) frames) (passed_through low high k items frame)
    ∙ ap (λ hs. frame_through items low high k frame ∷ each_passed hs frames) (next_held low high k items (omega (arith, lt)))
    ∙ ap (λ l. frame_through items low high k frame ∷ l) (each_through low high (k + 1) items frames (omega (arith, lt)))

pub passed_is : (low high : ℤ) (k : ℕ) (items : List Stated) (frames : List (List ℤ)) → k + length frames < 2 ^ 64
    → each_passed (all_held low high k items) frames ≡ racked_from k items low high frames
passed_is low high k items frames lt = each_through low high k items frames lt ∙ sym (one_after_other items low high k frames)

-- started stages of a rack that fits the frames may be passed
pub all_passable : (low high : ℤ) (k c : ℕ) (items : List Stated) → AllSettled items → bad_place items c ≡ false → ArePassable low high c (all_held low high k items)
all_passable low high k c [] settled good = tt
all_passable low high k c (s ∷ items) settled good =
    let parts = or_parts (is_bad c s) (bad_place items (channels_behind c s)) good in
    (record { kind_is = refl; settled = settled.0; low_is = refl; high_is = refl; there = parts.0 }, all_passable low high k (channels_behind c s) items settled.1 parts.1)

pub channels_held : (low high : ℤ) (k c : ℕ) (items : List Stated) → channels_through (all_held low high k items) c ≡ channels_after items c
channels_held low high k c [] = refl
channels_held low high k c (s ∷ items) = channels_held low high k (channels_behind c s) items

-- ---- ranges of parts

pub range_front : (low high : ℤ) (front back whole : List ℤ) → whole ≡ front ++ back → InRange low high whole → InRange low high front
range_front low high front back whole is all = λ k d lt.
    let here : slice_index_or whole k d ≡ slice_index_or front k d = ap (λ l. slice_index_or l k d) is ∙ get_or_append_left front back d k lt in
    let within : k < length whole = omega (arith, ap length is, length-append front back, lt) in
    subst (λ (x : ℤ). (low ≤ℤ x) × (x ≤ℤ high)) here (all k d within)

pub range_back : (low high : ℤ) (front back whole : List ℤ) → whole ≡ front ++ back → InRange low high whole → InRange low high back
range_back low high front back whole is all = λ k d lt.
    let here : slice_index_or whole (length front + k) d ≡ slice_index_or back k d = ap (λ l. slice_index_or l (length front + k) d) is ∙ get_or-append-add front back k d in
    let within : length front + k < length whole = omega (arith, ap length is, length-append front back, lt) in
    subst (λ (x : ℤ). (low ≤ℤ x) × (x ≤ℤ high)) here (all (length front + k) d within)

-- ---- frames of a size in a range

abbrev pub FramesIn : ℤ → ℤ → ℕ → List (List ℤ) → Type 0
FramesIn low high c [] = Unit {0}
FramesIn low high c (frame ∷ frames) = ((length frame ≡ c) × InRange low high frame) × FramesIn low high c frames

pub groups_in : (low high : ℤ) (c n : ℕ) (numbers : List ℤ) → n * c ≤ length numbers → InRange low high numbers → FramesIn low high c (first_groups c n numbers)
groups_in low high c zero numbers le all = tt
groups_in low high c (suc n) numbers le all =
    let parts : numbers ≡ take c numbers ++ drop c numbers = sym (take-append-drop c numbers) in
    let here : c ≤ length numbers = omega (arith, le) in (
      (length-take-le c numbers here, range_front low high (take c numbers) (drop c numbers) numbers parts all),
      groups_in low high c n (drop c numbers) (omega (arith, le, length-drop c numbers)) (range_back low high (take c numbers) (drop c numbers) numbers parts all),
    )

module _ (low high : ℤ) (below : low ≤ℤ pos 0) (above : pos 0 ≤ℤ high) (c : ℕ) where
  -- they may pass
  pub each_may : (hs : List Held) (frames : List (List ℤ)) → ArePassable low high c hs → FramesIn low high c frames → EachMayPass hs frames
  each_may hs [] p all = tt
  each_may hs (frame ∷ frames) p all =
      (may_pass_all low high below above hs frame (subst (λ (n : ℕ). ArePassable low high n hs) (sym all.0.0) p) all.0.1, each_may (map next hs) frames (passable_next low high c hs p) all.1)

  -- .. and what becomes of them is in the range, and has its size
  pub passed_in : (hs : List Held) (frames : List (List ℤ)) → ArePassable low high c hs → FramesIn low high c frames
      → InRange low high (joined (each_passed hs frames)) × (length (joined (each_passed hs frames)) ≡ length frames * channels_through hs c)
  passed_in hs [] p all = (λ k d lt. absurd (omega (arith, lt)), omega arith)
  passed_in hs (frame ∷ frames) p all =
      let one = all_in_range low high below above hs frame (subst (λ (n : ℕ). ArePassable low high n hs) (sym all.0.0) p) all.0.1 in
      let rest = passed_in (map next hs) frames (passable_next low high c hs p) all.1 in
      let size : length (passed_all hs frame) ≡ channels_through hs c = one.1 ∙ ap (channels_through hs) all.0.0 in
      let more = ap (λ (n : ℕ). length frames * n) (channels_next c hs) in (
        All-append (λ (x : ℤ). (low ≤ℤ x) × (x ≤ℤ high)) (passed_all hs frame) (joined (each_passed (map next hs) frames)) one.0 rest.0,
        omega (arith, length-append (passed_all hs frame) (joined (each_passed (map next hs) frames)), size, rest.1, more),
      )

-- ---- the frames of a list in two turns

-- so many frames of a rack's, and more of them by way of its stages as these then stand, are the frames of both
pub racked_on : (low high : ℤ) (items : List Stated) (frames : List (List ℤ)) (j k : ℕ) → j ≤ length frames → j + k < 2 ^ 64
    → joined (racked_from 0 items low high (take j frames)) ++ joined (each_passed (all_held low high j items) (take k (drop j frames)))
    ≡ joined (racked_from 0 items low high (take (j + k) frames))
racked_on low high items frames j k le lt =
    let first : List (List ℤ) = take j frames in
    let then : List (List ℤ) = take k (drop j frames) in
    let size : 0 + length first ≡ j = omega (arith, length-take-le j frames le) in
    let few : j + length then < 2 ^ 64 = omega (arith, length-take k (drop j frames), lt) in
    ap (λ l. joined (racked_from 0 items low high first) ++ joined l) (passed_is low high j items then few)
    ∙ ap (λ n. joined (racked_from 0 items low high first) ++ joined (racked_from n items low high then)) (sym size)
    ∙ sym (flat_map-append (λ (frame : List ℤ). frame) (racked_from 0 items low high first) (racked_from (0 + length first) items low high then))
    ∙ ap joined (sym (in_pieces items low high 0 first then))
    ∙ ap (λ l. joined (racked_from 0 items low high l)) (sym (take-add j k frames))
