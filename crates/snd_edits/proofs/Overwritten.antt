-- The frames of data that are overwritten, cut or sealed.
use Rattle.std.proofs.Common.{◌≡◌, ◌∙◌, ap, sym, refl, inl, inr, ℕ, ◌+◌, ◌-◌, ◌*◌, ◌/◌, ◌<◌, ◌≤◌, Bool, true, false, ◌&&◌, ◌||◌, ℤ, List, [], ◌++◌, All, Option, None, Some, IfSome, length, map, take, drop, get_or, max, arith}
use Rattle.std.specs.Prelude.{nat_le}
use Rattle.std.proofs.Math.Nat.{mul-div_cancel_left}
use Rattle.std.proofs.lemmas.Bool.{cases_lt, le-ltb}
use Rattle.std.proofs.lemmas.List.{drop_all, drop_at, ext_get_or, get_or-drop, get_or-take, length-append, length-drop, length-take-le, nil_from_length, places, same_lists, take-append-drop}
use Rattle.snd_disk.specs.Bytes.{over}
use Rattle.snd_layout.specs.Params.{data_bytes}
use Rattle.snd_layout.specs.Shape.{EndsBy, KeepsRule, Shape, end}
use Rattle.snd_layout.specs.declared.field.Field.{Field}
use Rattle.snd_patch.specs.Sealed.{SameBesideFields}
use Rattle.snd_layout.specs.Container.{is_in, is_in_fields, is_in_some}
use Rattle.snd_pcm.specs.Groups.{first_groups}
use Rattle.snd_container.specs.Fixed.{InRange, byte_count, kept_number, samples, samples_bytes}
use Rattle.snd_container.specs.declared.fixed.Fixed.{Fixed}
use Rattle.snd_container.proofs.Public.{byte_count_pos, count_of_bytes, length-samples, numbers_are_kept, samples_of_joined, samples_of_parts}
use Rattle.snd_pcm.proofs.Series.{length-first_groups}
use Rattle.snd_edits.specs.Edits.{put_frames}
use Rattle.snd_edits.proofs.SoundFrames.{front_of_groups, groups_of_front, groups_of_piece, rest_of_groups}

-- ---- frames of numbers that stand side by side

module _ {X : Type 0} (k : ℕ) where
  groups_joined : (n m : ℕ) (a b : List X) → length a ≡ k * n → first_groups k (n + m) (a ++ b) ≡ first_groups k n a ++ first_groups k m b
  groups_joined n m a b size =
      let all = first_groups k (n + m) (a ++ b) in
      let left : n + m - n ≡ m = omega arith in
      sym (take-append-drop n all)
      ∙ ap (λ l. l ++ drop n all) (front_of_groups k n (n + m) (a ++ b) (omega arith) ∙ groups_of_piece k n a b size)
      ∙ ap (λ l. first_groups k n a ++ l) (rest_of_groups k n (n + m) (a ++ b) (omega arith)
      ∙ ap (λ (i : ℕ). first_groups k i (drop (k * n) (a ++ b))) left ∙ ap (first_groups k m) (drop_at a b (k * n) size))

  no_groups : (n : ℕ) (xs : List X) → n ≡ 0 → first_groups k n xs ≡ []
  no_groups n xs is = ap (λ (i : ℕ). first_groups k i xs) is

  -- the groups behind some of them, where there are any
  groups_behind : (p n : ℕ) (xs : List X) → first_groups k (n - p) (drop (k * p) xs) ≡ drop p (first_groups k n xs)
  groups_behind p n xs = elim (cases_lt n p) [
    | inl lt ↦ no_groups (n - p) (drop (k * p) xs) (omega (arith, lt)) ∙ sym (drop_all p (first_groups k n xs) (omega (arith, lt, length-first_groups k n xs)))
    | inr le ↦ sym (rest_of_groups k p n xs le)
  ]

  -- items of whole groups put over others
  pub groups_put : (p m n : ℕ) (all new : List X) → length all ≡ k * n → length new ≡ k * m → p ≤ n
      → first_groups k (max n (p + m)) (take (k * p) all ++ new ++ drop (k * (p + m)) all) ≡ put_frames (first_groups k n all) p (first_groups k m new)
  groups_put p m n all new size count within =
      let front : length (take (k * p) all) ≡ k * p = length-take-le (k * p) all (grind (arith, within, size)) in
      let both : length (take (k * p) all ++ new) ≡ k * (p + m) = length-append (take (k * p) all) new ∙ (let e : length (take (k * p) all) + length new ≡ k * (p + m) = omega (arith, front, count) in e) in
      let whole : max n (p + m) ≡ p + m + (n - (p + m)) = omega arith in
      let some : length (first_groups k m new) ≡ m = length-first_groups k m new in
      ap (λ (i : ℕ). first_groups k i (take (k * p) all ++ new ++ drop (k * (p + m)) all)) whole
      ∙ groups_joined (p + m) (n - (p + m)) (take (k * p) all ++ new) (drop (k * (p + m)) all) both
      ∙ ap (λ l. l ++ first_groups k (n - (p + m)) (drop (k * (p + m)) all)) (groups_joined p m (take (k * p) all) new front
      ∙ ap (λ l. l ++ first_groups k m new) (groups_of_front k p all ∙ sym (front_of_groups k p n all within)))
      ∙ ap (λ l. take p (first_groups k n all) ++ first_groups k m new ++ l) (groups_behind (p + m) n all)
      ∙ ap (λ (i : ℕ). take p (first_groups k n all) ++ first_groups k m new ++ drop (p + i) (first_groups k n all)) (sym some)

-- ---- numbers of bytes that stand side by side

module _ (form : Fixed) where
  -- the samples of bytes behind some of them, where there are any
  samples_behind : (n : ℕ) (bytes : List ℕ) (all : ℕ) → length bytes ≡ byte_count form * all → samples form (drop (byte_count form * n) bytes) ≡ drop n (samples form bytes)
  samples_behind n bytes all size = elim (cases_lt all n) [
    | inl lt ↦
        let w = byte_count form in
        let none : length (drop (w * n) bytes) ≡ 0 = length-drop (w * n) bytes ∙ (let e : length bytes - w * n ≡ 0 = grind (arith, lt, size) in e) in
        let count : length (samples form (drop (w * n) bytes)) ≡ 0 = length-samples form (drop (w * n) bytes) ∙ ap (λ (m : ℕ). m / w) none ∙ (let e : 0 / w ≡ 0 = omega (arith, byte_count_pos form) in e) in
        let total : length (samples form bytes) ≡ all = length-samples form bytes ∙ ap (λ (m : ℕ). m / w) size ∙ mul-div_cancel_left all (byte_count_pos form) in
        nil_from_length (samples form (drop (w * n) bytes)) count ∙ sym (drop_all n (samples form bytes) (omega (arith, total, lt)))
    | inr le ↦ (samples_of_parts form bytes n (grind (arith, le, size))).1
  ]

  pub samples_put : (p : ℕ) (bytes : List ℕ) (xs : List ℤ) (all : ℕ) → length bytes ≡ byte_count form * all → p ≤ all → All (InRange form) xs
      → samples form (take (byte_count form * p) bytes ++ samples_bytes form xs ++ drop (byte_count form * (p + length xs)) bytes)
      ≡ take p (samples form bytes) ++ map (kept_number form) xs ++ drop (p + length xs) (samples form bytes)
  samples_put p bytes xs all size within fit =
      let w = byte_count form in
      let front : length (take (w * p) bytes) ≡ w * p = length-take-le (w * p) bytes (grind (arith, within, size)) in
      let new : length (samples_bytes form xs) ≡ w * length xs = (count_of_bytes form xs).0 in
      let both : length (take (w * p) bytes ++ samples_bytes form xs) ≡ w * (p + length xs) =
      length-append (take (w * p) bytes) (samples_bytes form xs) ∙ (let e : length (take (w * p) bytes) + length (samples_bytes form xs) ≡ w * (p + length xs) = omega (arith, front, new) in e) in
      samples_of_joined form (take (w * p) bytes ++ samples_bytes form xs) (drop (w * (p + length xs)) bytes) (p + length xs) both
      ∙ ap (λ l. l ++ samples form (drop (w * (p + length xs)) bytes)) (samples_of_joined form (take (w * p) bytes) (samples_bytes form xs) p front
      ∙ ap (λ l. l ++ samples form (samples_bytes form xs)) (samples_of_parts form bytes p (grind (arith, within, size))).0
      ∙ ap (λ l. take p (samples form bytes) ++ l) (numbers_are_kept form xs fit))
      ∙ ap (λ l. take p (samples form bytes) ++ map (kept_number form) xs ++ l) (samples_behind (p + length xs) bytes all size)

-- ---- bytes put over data

pub data_put : (b : List ℕ) (start size q : ℕ) (s : List ℕ) → start + size ≤ length b → q ≤ size
    → take (max size (q + length s)) (drop start (over b (start + q) s)) ≡ take q (take size (drop start b)) ++ s ++ drop (q + length s) (take size (drop start b))
data_put b start size q s fits within = same_lists _ _ (grind (arith, places)) (λ k d lt. grind (arith, places))

-- ---- data of which every byte stays

and_false : (t : Bool) → (t && false) ≡ false
and_false true = refl
and_false false = refl

out_of_field : (f : Field) (start i : ℕ) → EndsBy start f → start ≤ i → is_in f i ≡ false
out_of_field f start i by behind = ap (λ (t : Bool). nat_le f.at i && t) (le-ltb i (f.at + f.size) (omega (arith, by, behind))) ∙ and_false (nat_le f.at i)

out_of_some : (field : Option Field) (start i : ℕ) → IfSome field (EndsBy start) → start ≤ i → is_in_some field i ≡ false
out_of_some None start i by behind = refl
out_of_some (Some f) start i by behind = out_of_field f start i by behind

none_of : (s t u : Bool) → s ≡ false → t ≡ false → u ≡ false → (s || t || u) ≡ false
none_of s t u one two three = rw (one, two, three) refl

-- no place of the data is one of the fields
pub data_beside : (h : Shape) (i : ℕ) → KeepsRule h → h.start ≤ i → is_in_fields h i ≡ false
data_beside h i rule behind =
    none_of _ _ _ (out_of_field h.inner h.start i rule.inner_end behind) (out_of_some h.outer h.start i rule.outer_end behind) (out_of_some h.side h.start i rule.side_end behind)

pub same_data : (b x : List ℕ) (start size : ℕ) → start + size ≤ length b → start + size ≤ length x → ((i : ℕ) → start ≤ i → i < start + size → get_or x i 0 ≡ get_or b i 0)
    → take size (drop start x) ≡ take size (drop start b)
same_data b x start size fits fits' same =
    let one : length (take size (drop start x)) ≡ size = length-take-le size (drop start x) (omega (arith, fits', length-drop start x)) in
    let two : length (take size (drop start b)) ≡ size = length-take-le size (drop start b) (omega (arith, fits, length-drop start b)) in
    ext_get_or 0 _ _ (one ∙ sym two) (λ i lt.
    get_or-take size (drop start x) i 0 (omega (arith, lt, one)) ∙ get_or-drop start x i 0
    ∙ same (start + i) (omega arith) (omega (arith, lt, one))
    ∙ sym (get_or-drop start b i 0) ∙ sym (get_or-take size (drop start b) i 0 (omega (arith, lt, one))))

-- where only fields change before their end, the data of n frames stay
pub data_stay : (h : Shape) (n : ℕ) (b x : List ℕ) → KeepsRule h → end h n ≤ length b → end h n ≤ length x → SameBesideFields h n b x
    → take (data_bytes h.params n) (drop h.start x) ≡ take (data_bytes h.params n) (drop h.start b)
data_stay h n b x rule fits fits' same = same_data b x h.start (data_bytes h.params n) fits fits' (λ i behind lt. same i lt (data_beside h i rule behind))
