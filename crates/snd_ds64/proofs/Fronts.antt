-- The first bytes of an RF64 file, and the parts of them that are read.
use Rattle.std.proofs.Common.{◌≡◌, ℕ, ◌-◌, ◌<◌, ◌^◌, List, [], ◌∷◌, ◌++◌, length, get_or, refl, ap, ◌∙◌, arith, length-append}
use Rattle.std.specs.Prelude.{codes, unwrap_or}
use Rattle.snd_chunks.proofs.Public.{has_left, has_right}
use Rattle.snd_chunks.specs.Chunks.{padded_end}
use Rattle.snd_disk.specs.Runs.{HasAt}
use Rattle.snd_fields.proofs.Numbers.{length-bytes_of, number_of_bytes, number_same}
use Rattle.snd_fields.specs.Field.{bytes_of, number}
use Rattle.snd_fields.specs.declared.field.Order.TheVariants.{Little}
use Rattle.snd_layout.specs.Params.{data_bytes}
use Rattle.snd_layout.specs.Shape.{Shape}
use Rattle.snd_rf64.specs.Values.{inner_value, outer_value, side_value}
use Rattle.snd_rf64.specs.Written.{no_size}
use Rattle.snd_ds64.specs.Promoted.{new_front, new_size}

-- ---- joined lists

nine_long : (a b c d e f g i j : List ℕ) → length a ≡ 4 → length b ≡ 4 → length c ≡ 4 → length d ≡ 4 → length e ≡ 4 → length f ≡ 8 → length g ≡ 8 → length i ≡ 8 → length j ≡ 4
    → length (a ++ b ++ c ++ d ++ e ++ f ++ g ++ i ++ j) ≡ 48
nine_long a b c d e f g i j la lb lc ld le lf lg li lj =
    omega (
      arith,
      length-append (a ++ b ++ c ++ d ++ e ++ f ++ g ++ i) j,
      length-append (a ++ b ++ c ++ d ++ e ++ f ++ g) i,
      length-append (a ++ b ++ c ++ d ++ e ++ f) g,
      length-append (a ++ b ++ c ++ d ++ e) f,
      length-append (a ++ b ++ c ++ d) e,
      length-append (a ++ b ++ c) d,
      length-append (a ++ b) c,
      length-append a b,
    )

-- the fourth to the seventh of nine
pub record HasMiddle (x d e f g : List ℕ) : Type 0 where
  pub id : HasAt x 12 d
  pub size : HasAt x 16 e
  pub whole : HasAt x 20 f
  pub sound : HasAt x 28 g

nine_parts : (x a b c d e f g i j : List ℕ) → length a ≡ 4 → length b ≡ 4 → length c ≡ 4 → length d ≡ 4 → length e ≡ 4 → length f ≡ 8 → HasAt x 0 (a ++ b ++ c ++ d ++ e ++ f ++ g ++ i ++ j)
    → HasMiddle x d e f g
nine_parts x a b c d e f g i j la lb lc ld le lf has =
    let eighth : HasAt x 0 (a ++ b ++ c ++ d ++ e ++ f ++ g ++ i) = has_left x 0 (a ++ b ++ c ++ d ++ e ++ f ++ g ++ i) j has in
    let seventh : HasAt x 0 (a ++ b ++ c ++ d ++ e ++ f ++ g) = has_left x 0 (a ++ b ++ c ++ d ++ e ++ f ++ g) i eighth in
    let sixth : HasAt x 0 (a ++ b ++ c ++ d ++ e ++ f) = has_left x 0 (a ++ b ++ c ++ d ++ e ++ f) g seventh in
    let fifth : HasAt x 0 (a ++ b ++ c ++ d ++ e) = has_left x 0 (a ++ b ++ c ++ d ++ e) f sixth in
    let fourth : HasAt x 0 (a ++ b ++ c ++ d) = has_left x 0 (a ++ b ++ c ++ d) e fifth in
    let three : length (a ++ b ++ c) ≡ 12 = omega (arith, length-append (a ++ b) c, length-append a b) in
    let four : length (a ++ b ++ c ++ d) ≡ 16 = omega (arith, length-append (a ++ b ++ c) d, three) in
    let five : length (a ++ b ++ c ++ d ++ e) ≡ 20 = omega (arith, length-append (a ++ b ++ c ++ d) e, four) in
    let six : length (a ++ b ++ c ++ d ++ e ++ f) ≡ 28 = omega (arith, length-append (a ++ b ++ c ++ d ++ e) f, five) in
    record {
      id = has_right x 0 12 (a ++ b ++ c) d (omega (arith, three)) fourth;
      size = has_right x 0 16 (a ++ b ++ c ++ d) e (omega (arith, four)) fifth;
      whole = has_right x 0 20 (a ++ b ++ c ++ d ++ e) f (omega (arith, five)) sixth;
      sound = has_right x 0 28 (a ++ b ++ c ++ d ++ e ++ f) g (omega (arith, six)) seventh;
    }

-- ---- the first bytes

module _ (h : Shape) (n : ℕ) where
  -- the values, written out
  abbrev pub size_bytes : List ℕ
  size_bytes = bytes_of Little 4 (unwrap_or h.reserve 0)

  abbrev pub whole_bytes : List ℕ
  whole_bytes = bytes_of Little 8 (padded_end h.start (data_bytes h.params n) - 8)

  abbrev pub sound_bytes : List ℕ
  sound_bytes = bytes_of Little 8 (data_bytes h.params n)

  abbrev pub plain_front : List ℕ
  plain_front =
      codes "RF64" ++ bytes_of Little 4 no_size ++ codes "WAVE" ++ codes "ds64" ++ size_bytes ++ whole_bytes ++ sound_bytes ++ bytes_of Little 8 n ++ bytes_of Little 4 0

  pub front_is : new_front h n ≡ plain_front
  unfolding new_front outer_value inner_value side_value
  front_is = refl

  pub length-new_front : length (new_front h n) ≡ 48
  length-new_front =
      ap length front_is
      ∙ nine_long (codes "RF64") (bytes_of Little 4 no_size) (codes "WAVE") (codes "ds64") size_bytes whole_bytes sound_bytes (bytes_of Little 8 n) (bytes_of Little 4 0) refl (length-bytes_of Little 4 no_size) refl refl
      (length-bytes_of Little 4 (unwrap_or h.reserve 0)) (length-bytes_of Little 8 (padded_end h.start (data_bytes h.params n) - 8)) (length-bytes_of Little 8 (data_bytes h.params n)) (length-bytes_of Little 8 n) (length-bytes_of Little 4 0)

  pub front_parts : (x : List ℕ) → HasAt x 0 (new_front h n) → HasMiddle x (codes "ds64") size_bytes whole_bytes sound_bytes
  front_parts x has =
      let plain : HasAt x 0 plain_front = rw front_is at has in
      nine_parts x (codes "RF64") (bytes_of Little 4 no_size) (codes "WAVE") (codes "ds64") size_bytes whole_bytes sound_bytes (bytes_of Little 8 n) (bytes_of Little 4 0) refl (length-bytes_of Little 4 no_size) refl refl
      (length-bytes_of Little 4 (unwrap_or h.reserve 0)) (length-bytes_of Little 8 (padded_end h.start (data_bytes h.params n) - 8)) plain

  -- they hang neither on the frames that there were nor on the declared length
  pub front_stays : (frames declared : ℕ) → new_front (record h { frames = frames; declared = declared }) n ≡ new_front h n
  unfolding new_front outer_value inner_value side_value
  front_stays frames declared = refl

pub length-new_size : length new_size ≡ 4
unfolding new_size
length-new_size = length-bytes_of Little 4 no_size

-- a number of 8 bytes that stands at a place
pub has_long : (b : List ℕ) (p n : ℕ) → HasAt b p (bytes_of Little 8 n) → n < 2 ^ 64 → number Little b p 8 ≡ n
has_long b p n has few =
    number_same Little 8 p 0 b (bytes_of Little 8 n) (λ i q r lt qe re.
    let same : i ≡ r = omega (arith, re) in
    ap (λ k. get_or b k 0) qe ∙ has i (omega (arith, length-bytes_of Little 8 n)) ∙ ap (λ k. get_or (bytes_of Little 8 n) k 0) same)
    ∙ number_of_bytes Little 8 n few

pub size_is : 255 ∷ 255 ∷ 255 ∷ 255 ∷ [] ≡ new_size
unfolding new_size
size_is = refl

module _ (h : Shape) (n : ℕ) where
  -- the first bytes as they are put together
  pub front_put : (bytes whole size : ℕ) (v0 v1 v2 v3 v4 v5 v6 v7 v8 v9 : List ℕ) → bytes ≡ data_bytes h.params n → whole ≡ padded_end h.start bytes - 8 → size ≡ unwrap_or h.reserve 0 → v0 ≡ [] → v1 ≡ v0 ++ codes "RF64"
      → v2 ≡ v1 ++ bytes_of Little 4 no_size → v3 ≡ v2 ++ codes "WAVE" → v4 ≡ v3 ++ codes "ds64" → v5 ≡ v4 ++ bytes_of Little 4 size → v6 ≡ v5 ++ bytes_of Little 8 whole → v7 ≡ v6 ++ bytes_of Little 8 bytes
      → v8 ≡ v7 ++ bytes_of Little 8 n → v9 ≡ v8 ++ bytes_of Little 4 0 → v9 ≡ new_front h n
  unfolding new_front outer_value inner_value side_value
  front_put bytes whole size v0 v1 v2 v3 v4 v5 v6 v7 v8 v9 counted ended sized e0 e1 e2 e3 e4 e5 e6 e7 e8 e9 = rw (e9, e8, e7, e6, e5, e4, e3, e2, e1, e0, ended, counted, sized) refl
