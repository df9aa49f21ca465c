-- A head that is made reads back, and all laws of a container.
use Rattle.std.proofs.Common.{◌≡◌, ◌∙◌, ap, sym, refl, ℕ, ◌+◌, ◌*◌, ◌/◌, ◌^◌, ◌<◌, ◌≤◌, List, ◌++◌, All, None, Ok, length, get_or, arith, rules}
use Rattle.std.proofs.lemmas.List.{length-append, places}
use Rattle.std.proofs.lemmas.List.Elements.{All-append}
use Rattle.snd_disk.specs.Runs.{HasAt}
use Rattle.snd_fields.proofs.Numbers.{bytes_are_bytes, length-bytes_of}
use Rattle.snd_fields.specs.Field.{bytes_of}
use Rattle.snd_fields.specs.Laws.{IsByte}
use Rattle.snd_fields.specs.declared.field.Order.{Order}
use Rattle.snd_fields.specs.declared.field.Order.TheVariants.{Little, Big}
use Rattle.snd_layout.specs.Blocks.{block_align}
use Rattle.snd_layout.specs.Container.{IsNew, KeepsLaws, OuterIsWithin, OuterReaches, OuterStops}
use Rattle.snd_layout.specs.Fit.{fit_refusal}
use Rattle.snd_layout.specs.Params.{AreParams, Parameters}
use Rattle.snd_layout.specs.Shape.{Shape}
use Rattle.snd_au.proofs.Encodings.{AreFixed, are_fixed, few_encodings, states}
use Rattle.snd_layout.proofs.Codecs.{blocks_of}
use Rattle.snd_au.proofs.Kept.{apart, are_bytes, closes, declares, ends_in_order, fill, fits, has_number, laid, lies, marks, new_count, old_count, outside_data, pieces_stay, same_fields, same_values, voice}
use Rattle.snd_au.specs.Container.{au}
use Rattle.snd_au.specs.Layout.{au_layout, au_shape, held, kind_of, numbers_of}
use Rattle.snd_au.specs.Written.{au_head, encoding_of, made_shape, mark}
use Rattle.snd_au.specs.declared.numbers.Numbers.{Numbers}

-- ---- bytes that stand in others

last : (a v : List ℕ) (k : ℕ) → length a ≡ k → HasAt (a ++ v) k v
last a v k long j lt = rw (← long) (grind (arith, places))

front : (a rest v : List ℕ) (at : ℕ) → at + length v ≤ length a → HasAt a at v → HasAt (a ++ rest) at v
front a rest v at within has j lt = before a rest (at + j) (omega (arith, within, lt)) ∙ has j lt
  where
    before : (a rest : List ℕ) (i : ℕ) → i < length a → get_or (a ++ rest) i 0 ≡ get_or a i 0
    before a rest i lt = grind (arith, places)

-- a mark and five numbers
unfoldable joined : Order → ℕ → ℕ → ℕ → ℕ → ℕ → List ℕ
joined order o s e r c = mark order ++ bytes_of order 4 o ++ bytes_of order 4 s ++ bytes_of order 4 e ++ bytes_of order 4 r ++ bytes_of order 4 c

four : (order : Order) (n : ℕ) → length (bytes_of order 4 n) ≡ 4
four order n = length-bytes_of order 4 n

marked : (order : Order) → length (mark order) ≡ 4
marked Big = refl
marked Little = refl

more : (a v : List ℕ) (k m : ℕ) → length a ≡ k → length v ≡ 4 → m ≡ k + 4 → length (a ++ v) ≡ m
more a v k m long of sum = omega (arith, length-append a v, long, of, sum)

module _ (order : Order) (o s e r c : ℕ) where
  abbrev B : ℕ → List ℕ
  B n = bytes_of order 4 n

  -- the front up to each number
  abbrev to_o : List ℕ
  to_o = mark order ++ B o

  abbrev to_s : List ℕ
  to_s = to_o ++ B s

  abbrev to_e : List ℕ
  to_e = to_s ++ B e

  abbrev to_r : List ℕ
  to_r = to_e ++ B r

  long_o : length to_o ≡ 8
  long_o = more (mark order) (B o) 4 8 (marked order) (four order o) refl

  long_s : length to_s ≡ 12
  long_s = more to_o (B s) 8 12 long_o (four order s) refl

  long_e : length to_e ≡ 16
  long_e = more to_s (B e) 12 16 long_s (four order e) refl

  long_r : length to_r ≡ 20
  long_r = more to_e (B r) 16 20 long_e (four order r) refl

  length-joined : length (joined order o s e r c) ≡ 24
  unfolding joined
  length-joined = more to_r (B c) 20 24 long_r (four order c) refl

  at_4 : HasAt (joined order o s e r c) 4 (B o)
  unfolding joined
  at_4 =
      front to_r (B c) (B o) 4 (omega (arith, long_r, four order o)) (front to_e (B r) (B o) 4 (omega (arith, long_e, four order o)) (front to_s (B e) (B o) 4 (omega (arith, long_s, four order o))
      (front to_o (B s) (B o) 4 (omega (arith, long_o, four order o)) (last (mark order) (B o) 4 (marked order)))))

  at_8 : HasAt (joined order o s e r c) 8 (B s)
  unfolding joined
  at_8 =
      front to_r (B c) (B s) 8 (omega (arith, long_r, four order s)) (front to_e (B r) (B s) 8 (omega (arith, long_e, four order s)) (front to_s (B e) (B s) 8 (omega (arith, long_s, four order s))
      (last to_o (B s) 8 long_o)))

  at_12 : HasAt (joined order o s e r c) 12 (B e)
  unfolding joined
  at_12 = front to_r (B c) (B e) 12 (omega (arith, long_r, four order e)) (front to_e (B r) (B e) 12 (omega (arith, long_e, four order e)) (last to_s (B e) 12 long_s))

  at_16 : HasAt (joined order o s e r c) 16 (B r)
  unfolding joined
  at_16 = front to_r (B c) (B r) 16 (omega (arith, long_r, four order r)) (last to_e (B r) 16 long_e)

  at_20 : HasAt (joined order o s e r c) 20 (B c)
  unfolding joined
  at_20 = last to_r (B c) 20 long_r

  numbers : o < 2 ^ 32 → s < 2 ^ 32 → e < 2 ^ 32 → r < 2 ^ 32 → c < 2 ^ 32 → numbers_of order (joined order o s e r c) ≡ record { offset = o; bytes = s; encoding = e; rate = r; channels = c }
  numbers lo ls le lr lc =
      let x : List ℕ = joined order o s e r c in
      same_fields _ _ _ _ _ _ _ _ _ _ (has_number order x 4 o at_4 lo) (has_number order x 8 s at_8 ls) (has_number order x 12 e at_12 le) (has_number order x 16 r at_16 lr) (has_number order x 20 c at_20 lc)

mark_bytes : (order : Order) → All IsByte (mark order)
mark_bytes Big = search rules
mark_bytes Little = search rules

joined_bytes : (order : Order) (o s e r c : ℕ) → All IsByte (joined order o s e r c)
unfolding joined
joined_bytes order o s e r c =
    let are : (n : ℕ) → All IsByte (bytes_of order 4 n) = λ n. (bytes_are_bytes order 4 n).1 in
    All-append IsByte _ (bytes_of order 4 c) (All-append IsByte _ (bytes_of order 4 r) (All-append IsByte _ (bytes_of order 4 e)
    (All-append IsByte _ (bytes_of order 4 s) (All-append IsByte (mark order) (bytes_of order 4 o) (mark_bytes order) (are o)) (are s)) (are e)) (are r)) (are c)

-- ---- the head that is made

head_is : (order : Order) (p : Parameters) → au_head order p ≡ joined order 24 0 (encoding_of p.codec) p.rate p.channels
unfolding joined au_head
head_is order p = refl

abbrev new_numbers : Parameters → Numbers
new_numbers p = record { offset = 24; bytes = 0; encoding = encoding_of p.codec; rate = p.rate; channels = p.channels }

head_numbers : (order : Order) (p : Parameters) → AreParams p → numbers_of order (au_head order p) ≡ new_numbers p
head_numbers order p good =
    ap (numbers_of order) (head_is order p)
    ∙ numbers order 24 0 (encoding_of p.codec) p.rate p.channels (omega arith) (omega arith) (omega (arith, few_encodings p.codec)) good.most_rate (omega (arith, good.most_channels))

head_long : (order : Order) (p : Parameters) → length (au_head order p) ≡ 24
head_long order p = ap length (head_is order p) ∙ length-joined order 24 0 (encoding_of p.codec) p.rate p.channels

new_shape : (order : Order) (size : ℕ) (p : Parameters) → 1 ≤ block_align p.channels p.codec → au_shape order size (new_numbers p) p ≡ made_shape order p
new_shape order size p some =
    let none : held size (new_numbers p) ≡ 0 = omega arith in
    let zero : 0 ≡ 0 * block_align p.channels p.codec = omega arith in
    let frames : held size (new_numbers p) / block_align p.channels p.codec ≡ 0 = ap (λ (k : ℕ). k / block_align p.channels p.codec) (none ∙ zero) ∙ blocks_of 0 (block_align p.channels p.codec) some in
    ap (λ (k : ℕ). record (made_shape order p) { frames = k }) frames

reads_back : (order : Order) (p : Parameters) → AreParams p → fit_refusal (kind_of order) p ≡ None → au_layout order (au_head order p) ≡ Ok (made_shape order p)
reads_back order p good fit =
    let fixed : AreFixed p = are_fixed order p good fit in
    laid order (au_head order p) (new_numbers p) p (head_numbers order p good) (omega arith) (omega (arith, head_long order p)) (states order (new_numbers p) p good fit refl refl refl)
    ∙ ap (λ (s : Shape). Ok s) (new_shape order (length (au_head order p)) p fixed.some)

is_new : (order : Order) (p : Parameters) → AreParams p → fit_refusal (kind_of order) p ≡ None → IsNew (kind_of order) (au order) p
is_new order p good fit = record {
  told = reads_back order p good fit;
  bytes = rw (head_is order p) (joined_bytes order 24 0 (encoding_of p.codec) p.rate p.channels);
  is_kind = refl;
  params = refl;
  frames = refl;
  start = sym (head_long order p);
  known = refl;
  free = refl;
  pieces = refl;
}

-- ---- all laws

reaches : (order : Order) → OuterReaches (au order)
reaches order b x h n says has = omega arith

stops : (order : Order) → OuterStops (au order)
stops order b x h says free has few = omega arith

within : (order : Order) → OuterIsWithin (au order)
within order kind x = omega arith

pub keeps_laws : (order : Order) → KeepsLaws (kind_of order) (au order)
keeps_laws order = record {
  marks = marks order;
  lies = lies order;
  old = old_count order;
  new = new_count order;
  outside = outside_data order;
  voice = voice order;
  declares = declares order;
  reaches = reaches order;
  stops = stops order;
  within = within order;
  order = ends_in_order order;
  closes = closes order;
  apart = apart order;
  fill = fill order;
  fit = fits order;
  free = same_values order;
  bytes = are_bytes order;
  pieces = pieces_stay order;
  made = is_new order;
}
