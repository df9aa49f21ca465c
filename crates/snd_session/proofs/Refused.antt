-- Why a command on an open file is refused, in the words of the calls and in those of the rules.
use Rattle.std.proofs.Common.{◌≡◌, ◌≢◌, ℕ, ℤ, ◌%◌, ◌^◌, ◌<◌, ◌≤◌, Bool, true, false, not, T, ◌&&◌, ◌||◌, List, Option, None, Some, inl, inr, length, refl, sym, ap, ◌∙◌, subst, arith}
use Rattle.std.specs.Prelude.{All, int_le, nat_le, nat_lt}
use Rattle.std.proofs.lemmas.Bool.{and_from, and_left, and_parts, cases_lt, cases_Bool, leb-false, lt-leb, lt-ltb, le-ltb, ltb-false}
use Rattle.std.proofs.lemmas.List.Elements.{All-weaker}
use Rattle.std.proofs.lemmas.List.Sums.{AllPass-from_list_all, list_all-from_AllPass}
use Rattle.snd_container.specs.Sound.{fixed_of}
use Rattle.snd_layout.specs.Params.{data_bytes}
use Rattle.snd_layout.specs.Shape.{Shape, room}
use Rattle.snd_layout.specs.declared.codec.Codec.{Codec}
use Rattle.snd_layout.specs.declared.codec.Codec.TheVariants.{U8, S8, S16, S24, S32, MuLaw, ALaw, Ima, Ms}
use Rattle.snd_layout.specs.declared.kind.Kind.{Kind}
use Rattle.snd_layout.proofs.Public.{wave_only}
use Rattle.snd_edits.specs.Encoding.{MayEncode}
use Rattle.snd_edits.specs.Known.{Known}
use Rattle.snd_edits.specs.Pacing.{HasRoomToEncode}
use Rattle.snd_edits.specs.Reading.{FitCodec, range_of}
use Rattle.snd_edits.specs.WriteCalls.{AreFrames, MayCut, MayTrim, MayWrite, end_written, is_whole_field}
use Rattle.snd_container.specs.Fixed.{InRange, range_form}
use Rattle.snd_container.specs.declared.fixed.Fixed.{Fixed}
use Rattle.snd_pcm.specs.Pcm.{high, low}
use Rattle.snd_rules.specs.Rules.{are_between, auto_refusal, blocks_refusal, encode_refusal, form_of, growth_refusal, is_between, is_voc, lacks_room, refused_if, trim_refusal, truncate_refusal, write_refusal}
use Rattle.snd_layout.specs.Kinds.{is_wave}
use Rattle.snd_lines.specs.declared.refusal.Refusal.{Refusal}
use Rattle.snd_lines.specs.declared.refusal.Refusal.TheVariants.{PartFrame, SampleRange, SeekRange, TrailingData, ContainerFull, Straddle}

-- ---- tests

pub not_refused : (so : Bool) (refusal : Refusal) (rest : Option Refusal) → so ≡ false → refused_if so refusal rest ≡ rest
not_refused so refusal rest is = ap (λ b. refused_if b refusal rest) is

pub is_refused : (so : Bool) (refusal : Refusal) (rest : Option Refusal) → so ≡ true → refused_if so refusal rest ≡ Some refusal
is_refused so refusal rest is = ap (λ b. refused_if b refusal rest) is

some_rest : (n : ℕ) → n ≢ 0 → nat_lt 0 n ≡ true
some_rest n some = elim (cases_lt 0 n) [ inl lt ↦ lt-ltb 0 n lt | inr le ↦ absurd (some (omega arith)) ]

no_rest : (n : ℕ) → n ≡ 0 → nat_lt 0 n ≡ false
no_rest n none = le-ltb 0 n (omega (arith, none))

-- ---- cuts

cut_free : (to : ℕ) (k : Known) → MayCut to k → (nat_lt to k.shape.frames && k.shape.trailing) ≡ false
cut_free to k may = elim (cases_lt to k.shape.frames) [
  | inl lt ↦ ap (λ b. nat_lt to k.shape.frames && b) (may.free lt) ∙ and_none (nat_lt to k.shape.frames)
  | inr le ↦ and_left (nat_lt to k.shape.frames) k.shape.trailing (le-ltb to k.shape.frames le)
]
  where
    and_none : (b : Bool) → (b && false) ≡ false
    and_none true = refl
    and_none false = refl

pub truncate_free : (to : ℕ) (k : Known) → MayCut to k → truncate_refusal to k.shape ≡ None
truncate_free to k may =
    not_refused (nat_lt k.shape.frames to) SeekRange _ (le-ltb k.shape.frames to may.within) ∙ not_refused _ TrailingData None (cut_free to k may)

pub truncate_past : (to : ℕ) (h : Shape) → h.frames < to → truncate_refusal to h ≡ Some SeekRange
truncate_past to h lt = is_refused (nat_lt h.frames to) SeekRange _ (lt-ltb h.frames to lt)

pub truncate_trailing : (to : ℕ) (h : Shape) → to < h.frames → h.trailing ≡ true → truncate_refusal to h ≡ Some TrailingData
truncate_trailing to h lt trailing =
    not_refused (nat_lt h.frames to) SeekRange _ (le-ltb h.frames to (omega arith))
    ∙ is_refused (nat_lt to h.frames && h.trailing) TrailingData None (and_from _ _ (lt-ltb to h.frames lt) trailing)

-- ---- numbers in the range of a codec

is_true : (b : Bool) → T b → b ≡ true
is_true true holds = refl
is_true false holds = absurd holds

between_in : (form : Fixed) (x : ℤ) → InRange form x → is_between form x ≡ true
between_in form x within = and_from _ _ (is_true _ within.0.le) (is_true _ within.1.le)

in_between : (form : Fixed) (x : ℤ) → is_between form x ≡ true → InRange form x
in_between form x test =
    let both = and_parts (int_le (low (range_form form)) x) (int_le x (high (range_form form))) test in
    (record { le = subst T (sym both.0) tt }, record { le = subst T (sym both.1) tt })

-- the range is that of 16 bits where numbers have no fixed size
range_is : (codec : Codec) → range_of codec ≡ Some (form_of (fixed_of codec))
range_is U8 = refl
range_is S8 = refl
range_is (S16 order) = refl
range_is (S24 order) = refl
range_is (S32 order) = refl
range_is MuLaw = refl
range_is ALaw = refl
range_is (Ima align per_block) = refl
range_is (Ms align per_block) = refl

are_fit : (codec : Codec) (xs : List ℤ) → FitCodec codec xs → not (are_between (fixed_of codec) xs) ≡ false
are_fit codec xs fit =
    let form = form_of (fixed_of codec) in
    ap not (list_all-from_AllPass (is_between form) xs (All-weaker (InRange form) (λ x. is_between form x ≡ true) (between_in form) xs (fit form (range_is codec))))

are_unfit : (codec : Codec) (xs : List ℤ) → (FitCodec codec xs → ⊥) → not (are_between (fixed_of codec) xs) ≡ true
are_unfit codec xs unfit = elim (cases_Bool (are_between (fixed_of codec) xs)) [
  | inl fit ↦ absurd (unfit (λ f is.
      let form = form_of (fixed_of codec) in
      let same : form ≡ f = let both : Some form ≡ Some f = sym (range_is codec) ∙ is in cc in
      let all : All (InRange form) xs = All-weaker (λ x. is_between form x ≡ true) (InRange form) (in_between form) xs (AllPass-from_list_all (is_between form) xs fit) in
      subst (λ (l : Fixed). All (InRange l) xs) same all))
  | inr none ↦ ap not none
]

-- ---- frames that are written

pub write_part : (xs : List ℤ) (h : Shape) (place : ℕ) → length xs % h.params.channels ≢ 0 → write_refusal xs place h ≡ Some PartFrame
write_part xs h place part = is_refused (nat_lt 0 (length xs % h.params.channels)) PartFrame _ (some_rest _ part)

pub write_range : (xs : List ℤ) (h : Shape) (place : ℕ) → length xs % h.params.channels ≡ 0 → (FitCodec h.params.codec xs → ⊥) → write_refusal xs place h ≡ Some SampleRange
write_range xs h place whole unfit =
    not_refused (nat_lt 0 (length xs % h.params.channels)) PartFrame _ (no_rest _ whole)
    ∙ is_refused (not (are_between (fixed_of h.params.codec) xs)) SampleRange _ (are_unfit h.params.codec xs unfit)

write_frames : (xs : List ℤ) (h : Shape) (place : ℕ) → AreFrames xs h → write_refusal xs place h ≡ growth_refusal (end_written xs h place) h
write_frames xs h place are =
    not_refused (nat_lt 0 (length xs % h.params.channels)) PartFrame _ (no_rest _ are.whole)
    ∙ not_refused (not (are_between (fixed_of h.params.codec) xs)) SampleRange _ (are_fit h.params.codec xs are.in_range)

growth_by : (to : ℕ) (h : Shape) → h.frames < to → growth_refusal to h ≡ refused_if h.trailing TrailingData (refused_if (nat_lt (room h) (data_bytes h.params to)) ContainerFull None)
growth_by to h lt = simp (lt-ltb h.frames to lt)

pub write_trailing : (xs : List ℤ) (h : Shape) (place : ℕ) → AreFrames xs h → h.frames < end_written xs h place → h.trailing ≡ true → write_refusal xs place h ≡ Some TrailingData
write_trailing xs h place are lt trailing = write_frames xs h place are ∙ growth_by _ h lt ∙ is_refused h.trailing TrailingData _ trailing

pub write_full : (xs : List ℤ) (h : Shape) (place : ℕ) → AreFrames xs h → h.frames < end_written xs h place → h.trailing ≡ false → room h < data_bytes h.params (end_written xs h place)
    → write_refusal xs place h ≡ Some ContainerFull
write_full xs h place are lt free full =
    write_frames xs h place are ∙ growth_by _ h lt ∙ not_refused h.trailing TrailingData _ free ∙ is_refused (nat_lt (room h) (data_bytes h.params (end_written xs h place))) ContainerFull None (lt-ltb _ _ full)

growth_free : (to : ℕ) (h : Shape) → (h.frames < to → h.trailing ≡ false) → (h.frames < to → data_bytes h.params to ≤ room h) → growth_refusal to h ≡ None
growth_free to h free fits = elim (cases_lt h.frames to) [
  | inl lt ↦ growth_by to h lt ∙ not_refused h.trailing TrailingData _ (free lt) ∙ not_refused (nat_lt (room h) (data_bytes h.params to)) ContainerFull None (le-ltb _ _ (fits lt))
  | inr le ↦ simp (le-ltb h.frames to le)
]

pub write_free : (xs : List ℤ) (h : Shape) (place : ℕ) → MayWrite xs h place → write_refusal xs place h ≡ None
write_free xs h place may = write_frames xs h place may.frames ∙ growth_free _ h may.free may.in_room

-- ---- frames that are made blocks

pub encode_part : (xs : List ℤ) (h : Shape) (place : ℕ) → length xs % h.params.channels ≢ 0 → encode_refusal xs place h ≡ Some PartFrame
encode_part xs h place part = is_refused (nat_lt 0 (length xs % h.params.channels)) PartFrame _ (some_rest _ part)

pub encode_range : (xs : List ℤ) (h : Shape) (place : ℕ) → length xs % h.params.channels ≡ 0 → (FitCodec h.params.codec xs → ⊥) → encode_refusal xs place h ≡ Some SampleRange
encode_range xs h place whole unfit =
    not_refused (nat_lt 0 (length xs % h.params.channels)) PartFrame _ (no_rest _ whole)
    ∙ is_refused (not (are_between (fixed_of h.params.codec) xs)) SampleRange _ (are_unfit h.params.codec xs unfit)

encode_frames : (xs : List ℤ) (h : Shape) (place : ℕ) → AreFrames xs h → encode_refusal xs place h ≡ blocks_refusal place (end_written xs h place) h
encode_frames xs h place are =
    not_refused (nat_lt 0 (length xs % h.params.channels)) PartFrame _ (no_rest _ are.whole)
    ∙ not_refused (not (are_between (fixed_of h.params.codec) xs)) SampleRange _ (are_fit h.params.codec xs are.in_range)

-- there is room where neither test fails, and none where one does
has_room : (to : ℕ) (h : Shape) → lacks_room to h ≡ false → HasRoomToEncode h to
has_room to h has =
    let both = or_parts (nat_lt (room h) (data_bytes h.params to)) (is_wave h.kind && nat_le (2 ^ 32) to) has in
    record {
      in_room = ltb-false (room h) (data_bytes h.params to) both.0;
      few = λ wave. leb-false (2 ^ 32) to (ap (λ (k : Kind). is_wave k && nat_le (2 ^ 32) to) (sym wave) ∙ both.1);
    }
  where
    or_parts : (a b : Bool) → (a || b) ≡ false → (a ≡ false) × (b ≡ false)
    or_parts true b is = absurd (cc)
    or_parts false b is = (refl, is)

few_lacks : (to : ℕ) (h : Shape) → HasRoomToEncode h to → lacks_room to h ≡ false
few_lacks to h has = elim (cases_Bool (is_wave h.kind)) [
  | inl wave ↦ none_of _ _ (le-ltb (room h) (data_bytes h.params to) has.in_room) (ap (λ (b : Bool). b && nat_le (2 ^ 32) to) wave ∙ lt-leb (2 ^ 32) to (has.few (wave_only h.kind wave)))
  | inr other ↦ none_of _ _ (le-ltb (room h) (data_bytes h.params to) has.in_room) (ap (λ (b : Bool). b && nat_le (2 ^ 32) to) other)
]
  where
    none_of : (a b : Bool) → a ≡ false → b ≡ false → (a || b) ≡ false
    none_of true b not_a not_b = absurd (cc)
    none_of false b not_a not_b = not_b

pub encode_full : (xs : List ℤ) (h : Shape) (place : ℕ) → AreFrames xs h → place < end_written xs h place → (HasRoomToEncode h (end_written xs h place) → ⊥) → encode_refusal xs place h ≡ Some ContainerFull
encode_full xs h place are more full = elim (cases_Bool (lacks_room (end_written xs h place) h)) [
  | inl lacks ↦ encode_frames xs h place are ∙ is_refused (nat_lt place (end_written xs h place) && lacks_room (end_written xs h place) h) ContainerFull None (and_from _ _ (lt-ltb _ _ more) lacks)
  | inr has ↦ absurd (full (has_room (end_written xs h place) h has))
]

pub encode_free : (xs : List ℤ) (h : Shape) (place : ℕ) → MayEncode xs h place → encode_refusal xs place h ≡ None
encode_free xs h place may = encode_frames xs h place may.frames ∙ not_refused _ ContainerFull None (elim (cases_lt place (end_written xs h place)) [
  | inl more ↦ ap (λ (b : Bool). b && lacks_room (end_written xs h place) h) (lt-ltb _ _ more) ∙ few_lacks (end_written xs h place) h (may.fits more)
  | inr none ↦ and_left (nat_lt place (end_written xs h place)) (lacks_room (end_written xs h place) h) (le-ltb _ _ none)
])

-- ---- updates, and what stands behind the data

pub auto_free : (on : Bool) (h : Shape) → (on ≡ true → is_whole_field h ≡ true) → auto_refusal on h ≡ None
auto_free true h whole = ap (λ b. refused_if (not b) Straddle None) (whole refl)
auto_free false h whole = refl

pub trim_free : (k : Known) → MayTrim k → trim_refusal k.shape ≡ None
trim_free k may = elim (cases_Bool k.shape.trailing) [
  | inl on ↦ not_refused _ TrailingData None (ap (λ b. b && not (is_voc k.shape.kind)) on ∙ ap (λ kind. not (is_voc kind)) (may.free on))
  | inr off ↦ not_refused _ TrailingData None (ap (λ b. b && not (is_voc k.shape.kind)) off)
]
