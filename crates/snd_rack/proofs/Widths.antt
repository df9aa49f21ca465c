-- Stages that leave a frame as many samples as it had.
use Rattle.std.proofs.Common.{◌≡◌, ◌∙◌, ℕ, zero, suc, ◌*◌, ◌/◌, ◌%◌, ◌≤◌, Bool, true, false, not, ℤ, List, [], ◌∷◌, Option, None, Some, cond, length, map, slice_get, refl, sym, subst, ap, arith}
use Rattle.std.specs.List.{list_all}
use Rattle.std.specs.Option.{is_some}
use Rattle.std.proofs.Math.Nat.{div-mul-le_self}
use Rattle.std.proofs.lemmas.Bool.{and_parts}
use Rattle.std.proofs.lemmas.List.{length-append}
use Rattle.snd_rack.specs.Boxes.{Finds, count_of, is_kind}
use Rattle.snd_pcm.specs.Groups.{groups}
use Rattle.snd_rack.specs.Held.{Held, next, passed}
use Rattle.snd_rack.specs.Passing.{AllHaveRoom, ArePassable, channels_through, each_passed, joined, passed_all}
use Rattle.snd_rack.specs.Rack.{channels_behind}
use Rattle.snd_rack.specs.Stage.{Stated, keeps_width, kind_of}
use Rattle.snd_rack.specs.declared.setting.StageKind.{StageKind}
use Rattle.snd_rack.specs.declared.setting.StageKind.TheVariants.{Gain, Invert, Pick, Fade}
use Rattle.snd_rack.proofs.Cut.{Sized, length_groups, sized_first}
use Rattle.snd_rack.proofs.Passed.{channels_next, length_mapped}
use Rattle.snd_rack.proofs.Placed.{count_first}

-- ---- whether one is a map

counted : (kind x : StageKind) (xs : List StageKind) → is_kind kind x ≡ false → count_of kind (x ∷ xs) ≡ count_of kind xs
counted kind x xs apart =
    let none : ◌≡◌ {A = ℕ} (cond (is_kind kind x) 1 0) 0 = ap (λ (b : Bool). cond {A = ℕ} b 1 0) apart in
    omega (arith, count_first kind x xs, none)

no_map : (kinds : List StageKind) → count_of Pick kinds ≡ 0 → list_all keeps_width kinds ≡ true
no_map [] none = refl
no_map (Gain ∷ kinds) none = no_map kinds (sym (counted Pick Gain kinds refl) ∙ none)
no_map (Invert ∷ kinds) none = no_map kinds (sym (counted Pick Invert kinds refl) ∙ none)
no_map (Pick ∷ kinds) none = absurd (omega (arith, count_first Pick Pick kinds, none))
no_map (Fade ∷ kinds) none = no_map kinds (sym (counted Pick Fade kinds refl) ∙ none)

a_map : (kinds : List StageKind) (at : ℕ) → slice_get kinds at ≡ Some Pick → list_all keeps_width kinds ≡ false
a_map [] at there = absurd (cc)
a_map (Pick ∷ kinds) at there = refl
a_map (Gain ∷ kinds) zero there = absurd (cc)
a_map (Gain ∷ kinds) (suc at) there = a_map kinds at there
a_map (Invert ∷ kinds) zero there = absurd (cc)
a_map (Invert ∷ kinds) (suc at) there = a_map kinds at there
a_map (Fade ∷ kinds) zero there = absurd (cc)
a_map (Fade ∷ kinds) (suc at) there = a_map kinds at there

not_not : (b answer : Bool) → not b ≡ not answer → answer ≡ b
not_not true true is = refl
not_not true false is = absurd (cc)
not_not false true is = absurd (cc)
not_not false false is = refl

pub as_found : (kinds : List StageKind) (o : Option ℕ) (answer : Bool) → Finds Pick 0 kinds o → is_some o ≡ not answer → answer ≡ list_all keeps_width kinds
as_found kinds None answer none is = not_not true answer is ∙ sym (no_map kinds none)
as_found kinds (Some at) answer found is = not_not false answer is ∙ sym (a_map kinds at found.2)

-- ---- where none is

width_kept : (s : Stated) (channels : ℕ) → keeps_width (kind_of s) ≡ true → channels_behind channels s ≡ channels
width_kept (Stated.gain a b) channels keeps = refl
width_kept Stated.invert channels keeps = refl
width_kept (Stated.pick places) channels keeps = absurd (cc)
width_kept (Stated.fade n) channels keeps = refl

-- ---- how many samples frames have behind stages

all_size : (hs : List Held) (frame : List ℤ) → length (passed_all hs frame) ≡ channels_through hs (length frame)
all_size [] frame = refl
all_size (h ∷ hs) frame = all_size hs (passed h frame) ∙ ap (channels_through hs) (length_mapped h.stated h.low h.high h.seen frame)

each_size : (hs : List Held) (c : ℕ) (frames : List (List ℤ)) → Sized c frames → length (joined (each_passed hs frames)) ≡ length frames * channels_through hs c
each_size hs c [] all = omega arith
each_size hs c (frame ∷ frames) all =
    let one : length (passed_all hs frame) ≡ channels_through hs c = all_size hs frame ∙ ap (channels_through hs) all.0 in
    let more = ap (λ (n : ℕ). length frames * n) (channels_next c hs) in
    omega (arith, length-append (passed_all hs frame) (joined (each_passed (map next hs) frames)), one, each_size (map next hs) c frames all.1, more)

passed_size : (hs : List Held) (c : ℕ) (xs : List ℤ) → length (joined (each_passed hs (groups c xs))) ≡ length xs / c * channels_through hs c
passed_size hs c xs =
    each_size hs c (groups c xs) (sized_first c (length xs / c) xs (div-mul-le_self (length xs) c))
    ∙ ap (λ n. n * channels_through hs c) (length_groups c xs)

-- ---- boxes of which none is a map

module _ {B : Type 0} (held : B → Held) where
  abbrev Keep : List B → Type 0
  Keep stages = list_all keeps_width (map (λ b. (held b).kind) stages) ≡ true

  abbrev AreOfKinds : List B → Type 0
  AreOfKinds stages = map (λ b. (held b).kind) stages ≡ map (λ b. kind_of (held b).stated) stages

  first_kept : (b : B) (stages : List B) (channels : ℕ) → Keep (b ∷ stages) → AreOfKinds (b ∷ stages)
      → (channels_behind channels (held b).stated ≡ channels) × Keep stages × AreOfKinds stages
  first_kept b stages channels keep kinds =
      let parts = and_parts (keeps_width (held b).kind) (list_all keeps_width (map (λ b. (held b).kind) stages)) keep in
      let same : (held b).kind ≡ kind_of (held b).stated = cc in
      let rest : AreOfKinds stages = cc in
      (width_kept (held b).stated channels (sym (ap keeps_width same) ∙ parts.0), parts.1, rest)

  -- frames have places behind each stage where they have before the first
  pub kept_fit : (stages : List B) (channels frames : ℕ) → Keep stages → AreOfKinds stages → frames * channels ≤ 16384 → AllHaveRoom (map held stages) channels frames
  kept_fit [] channels frames keep kinds fits = tt
  kept_fit (b ∷ stages) channels frames keep kinds fits =
      let first = first_kept b stages channels keep kinds in (
        subst (λ n. frames * n ≤ 16384) (sym first.0) fits,
        subst (λ n. AllHaveRoom (map held stages) n frames) (sym first.0) (kept_fit stages channels frames first.1 first.2 fits),
      )

  -- .. and as many samples
  pub through_kept : (stages : List B) (channels : ℕ) → Keep stages → AreOfKinds stages → channels_through (map held stages) channels ≡ channels
  through_kept [] channels keep kinds = refl
  through_kept (b ∷ stages) channels keep kinds =
      let first = first_kept b stages channels keep kinds in
      ap (channels_through (map held stages)) first.0 ∙ through_kept stages channels first.1 first.2

  -- started stages are of the kinds of their settings
  pub kinds_passable : (low high : ℤ) (channels : ℕ) (stages : List B) → ArePassable low high channels (map held stages) → AreOfKinds stages
  kinds_passable low high channels [] passable = refl
  kinds_passable low high channels (b ∷ stages) passable =
      ap (λ k. k ∷ map (λ b. (held b).kind) stages) passable.0.kind_is
      ∙ ap (λ l. kind_of (held b).stated ∷ l) (kinds_passable low high (channels_behind channels (held b).stated) stages passable.1)

  -- and no more samples than behind them
  pub size_kept : (stages : List B) (channels most : ℕ) (xs : List ℤ) → 1 ≤ channels → length xs % channels ≡ 0 → Keep stages → AreOfKinds stages
      → length (joined (each_passed (map held stages) (groups channels xs))) ≤ most → length xs ≤ most
  size_kept stages channels most xs some whole keep kinds fits =
      let size = passed_size (map held stages) channels xs in
      let same = ap (λ n. length xs / channels * n) (through_kept stages channels keep kinds) in
      let all : length xs ≡ length xs / channels * channels = omega (arith, some, whole) in
      omega (arith, all, same, size, fits)
