-- The frames of blocks, and those of one of them.
use Rattle.std.proofs.Common.{◌≡◌, ◌∙◌, ap, sym, subst, refl, ℕ, ℤ, zero, suc, ◌+◌, ◌-◌, ◌*◌, ◌/◌, ◌<◌, ◌≤◌, true, false, List, [], ◌∷◌, ◌++◌, inl, inr, length, take, drop, arith}
use Rattle.std.specs.List.{flat_map}
use Rattle.std.proofs.Math.Nat.{mul-div_left}
use Rattle.std.proofs.lemmas.Bool.{cases_Bool}
use Rattle.std.proofs.lemmas.List.{drop-append-le, drop-drop, drop-take, drop_all, drop_at, drop_more, length-drop, length-replicate, length-take-le, take-append-drop, take-append-le, take-take, take_at}
use Rattle.std.proofs.lemmas.List.Folds.{list_any-append}
use Rattle.snd_layout.specs.Blocks.{block_align, block_frames}
use Rattle.snd_layout.specs.Params.{Parameters}
use Rattle.snd_layout.specs.Shape.{Shape, end}
use Rattle.snd_pcm.specs.Groups.{first_groups, groups}
use Rattle.snd_pcm.proofs.Series.{get_or-first_groups, length-first_groups}
use Rattle.snd_blocks.specs.Calls.{AreBlocks, block_at}
use Rattle.snd_blocks.specs.Frames.{block_samples, frames_in_blocks, frames_of, has_bad, is_bad_block, is_bad_frame}
use Rattle.snd_blocks.proofs.Places.{block_is_counted}

-- ---- groups of parts of a list

module _ {X : Type 0} (k : ℕ) where
  pub groups_of_front : (n : ℕ) (xs : List X) → first_groups k n (take (k * n) xs) ≡ first_groups k n xs
  groups_of_front zero xs = refl
  groups_of_front (suc n) xs =
      let more : k * suc n ≡ k + k * n = omega arith in
      ap (λ (m : ℕ). first_groups k (suc n) (take m xs)) more
      ∙ ap (λ l. l ∷ first_groups k n (drop k (take (k + k * n) xs))) (take-take k (k + k * n) xs (omega arith))
      ∙ ap (λ l. take k xs ∷ first_groups k n l) (drop-take k (k * n) xs)
      ∙ ap (λ l. take k xs ∷ l) (groups_of_front n (drop k xs))

  front_of_groups : (n all : ℕ) (xs : List X) → n ≤ all → take n (first_groups k all xs) ≡ first_groups k n xs
  front_of_groups zero all xs within = refl
  front_of_groups (suc n) zero xs within = absurd (omega arith)
  front_of_groups (suc n) (suc all) xs within = ap (λ l. take k xs ∷ l) (front_of_groups n all (drop k xs) (omega arith))

  rest_of_groups : (n all : ℕ) (xs : List X) → n ≤ all → drop n (first_groups k all xs) ≡ first_groups k (all - n) (drop (k * n) xs)
  rest_of_groups zero all xs within =
      ap (λ (i : ℕ). first_groups k i xs) (let e : all ≡ all - 0 = omega arith in e)
      ∙ ap (λ (i : ℕ). first_groups k (all - 0) (drop i xs)) (let e : 0 ≡ k * 0 = omega arith in e)
  rest_of_groups (suc n) zero xs within = absurd (omega arith)
  rest_of_groups (suc n) (suc all) xs within =
      rest_of_groups n all (drop k xs) (omega arith)
      ∙ ap (first_groups k (all - n)) (drop-drop (k * n) k xs)
      ∙ ap (λ (i : ℕ). first_groups k (all - n) (drop i xs)) (let e : k + k * n ≡ k * suc n = omega arith in e)
      ∙ ap (λ (i : ℕ). first_groups k i (drop (k * suc n) xs)) (let e : all - n ≡ suc all - suc n = omega arith in e)

  -- some of the groups, from a place on
  pub groups_from : (n place count : ℕ) (xs : List X) → place + count ≤ n → take count (drop place (first_groups k n xs)) ≡ first_groups k count (drop (k * place) xs)
  groups_from n place count xs within =
      ap (take count) (rest_of_groups place n xs (omega arith))
      ∙ front_of_groups count (n - place) (drop (k * place) xs) (omega arith)

  -- the groups of two parts
  pub groups_joined : (m n : ℕ) (xs ys : List X) → length xs ≡ k * m → first_groups k (m + n) (xs ++ ys) ≡ first_groups k m xs ++ first_groups k n ys
  groups_joined m n xs ys size =
      sym (take-append-drop m (first_groups k (m + n) (xs ++ ys)))
      ∙ ap (λ l. l ++ drop m (first_groups k (m + n) (xs ++ ys))) (front_of_groups m (m + n) (xs ++ ys) (omega arith) ∙ sym (groups_of_front m (xs ++ ys)) ∙ ap (first_groups k m) (take_at xs ys (k * m) size))
      ∙ ap (λ l. first_groups k m xs ++ l)
      (rest_of_groups m (m + n) (xs ++ ys) (omega arith)
      ∙ ap (first_groups k (m + n - m)) (drop_at xs ys (k * m) size)
      ∙ ap (λ (i : ℕ). first_groups k i ys) (let e : m + n - m ≡ n = omega arith in e))

-- ---- pieces of one length

module _ {X Y : Type 0} (f : X → List Y) (m : ℕ) (same : (x : X) → length (f x) ≡ m) where
  pub drop_pieces : (n : ℕ) (xs : List X) → drop (n * m) (flat_map f xs) ≡ flat_map f (drop n xs)
  drop_pieces zero xs = ap (λ (i : ℕ). drop i (flat_map f xs)) (let e : 0 * m ≡ 0 = omega arith in e)
  drop_pieces (suc n) [] = drop_all (suc n * m) [] (omega arith)
  drop_pieces (suc n) (x ∷ xs) =
      ap (λ (i : ℕ). drop i (f x ++ flat_map f xs)) (let e : suc n * m ≡ m + n * m = omega arith in e)
      ∙ sym (drop-drop (n * m) m (f x ++ flat_map f xs))
      ∙ ap (drop (n * m)) (drop_at (f x) (flat_map f xs) m (same x))
      ∙ drop_pieces n xs

-- ---- the frames of one block

pub count_frames : (p : Parameters) (block : List ℕ) → length (frames_of p block) ≡ block_frames p.codec
count_frames p block = elim (cases_Bool (is_bad_block p.channels p.codec block)) [
  | inl bad ↦ rw bad (length-replicate (block_frames p.codec) [])
  | inr good ↦ rw good (length-first_groups p.channels (block_frames p.codec) (block_samples p.channels p.codec block))
]

-- the frames of blocks of some bytes, from one of the blocks on
from_block : (p : Parameters) (n number : ℕ) (bytes : List ℕ) → number < n
    → drop (number * block_frames p.codec) (flat_map (frames_of p) (first_groups (block_align p.channels p.codec) n bytes))
    ≡ frames_of p (take (block_align p.channels p.codec) (drop (number * block_align p.channels p.codec) bytes))
    ++ flat_map (frames_of p) (drop (number + 1) (first_groups (block_align p.channels p.codec) n bytes))
from_block p n number bytes lt =
    let k = block_align p.channels p.codec in
    let all = first_groups k n bytes in
    drop_pieces (frames_of p) (block_frames p.codec) (count_frames p) number all
    ∙ ap (flat_map (frames_of p)) (drop_more all number [] (omega (arith, length-first_groups k n bytes)))
    ∙ ap (λ l. frames_of p l ++ flat_map (frames_of p) (drop (number + 1) all))
    (get_or-first_groups k n bytes number [] lt ∙ ap (λ (m : ℕ). take k (drop m bytes)) (let e : k * number ≡ number * k = omega arith in e))

-- the bytes of a block among those of all
pub bytes_of_block : (k n number start : ℕ) (b : List ℕ) → number < n → take k (drop (number * k) (take (n * k) (drop start b))) ≡ take k (drop (start + number * k) b)
bytes_of_block k n number start b lt =
    let left = n - number - 1 in
    let whole : n ≡ number + 1 + left = omega arith in
    let split : n * k ≡ number * k + (k + left * k) = ap (λ (m : ℕ). m * k) whole ∙ (let e : (number + 1 + left) * k ≡ number * k + (k + left * k) = omega arith in e) in
    ap (λ (m : ℕ). take k (drop (number * k) (take m (drop start b)))) split
    ∙ ap (take k) (drop-take (number * k) (k + left * k) (drop start b))
    ∙ take-take k (k + left * k) (drop (number * k) (drop start b)) (omega arith)
    ∙ ap (take k) (drop-drop (number * k) start b)

-- the counted frames of a layout, from one of a block on
pub frames_in_block : (b : List ℕ) (s : Shape) (number skip count : ℕ) → AreBlocks s.params → end s s.frames ≤ length b
    → number * block_frames s.params.codec + skip + count ≤ s.frames → skip + count ≤ block_frames s.params.codec → 1 ≤ count
    → take count (drop (number * block_frames s.params.codec + skip) (frames_in_blocks b s)) ≡ take count (drop skip (frames_of s.params (block_at b s number)))
unfolding frames_in_blocks
frames_in_block b s number skip count blocks fits counted within some =
    let p = s.params in
    let k = block_align p.channels p.codec in
    let per = block_frames p.codec in
    let n = (s.frames + per - 1) / per in
    let bytes = take (n * k) (drop s.start b) in
    let f = frames_of p in
    let at = number * per + skip in
    let before : number + 1 ≤ n = block_is_counted number per s.frames blocks.some_frames (omega arith) in
    let size : length bytes ≡ n * k = length-take-le (n * k) (drop s.start b) (omega (arith, fits, length-drop s.start b)) in
    let blocks_there : length bytes / k ≡ n = ap (λ (m : ℕ). m / k) size ∙ mul-div_left n (let h : 0 < k = omega (arith, blocks.some_bytes) in h) in
    let all = flat_map f (groups k bytes) in
    let rest = flat_map f (drop (number + 1) (first_groups k n bytes)) in
    let left : s.frames ≡ at + (s.frames - at) = omega arith in
    let block = block_at b s number in
    let long : skip ≤ length (f block) = omega (arith, within, count_frames p block) in
    ap (λ (m : ℕ). take count (drop at (take m all))) left
    ∙ ap (take count) (drop-take at (s.frames - at) all)
    ∙ take-take count (s.frames - at) (drop at all) (omega arith)
    ∙ ap (take count)
    (sym (drop-drop skip (number * per) all)
    ∙ ap (drop skip)
    (ap (λ (m : ℕ). drop (number * per) (flat_map f (first_groups k m bytes))) blocks_there
    ∙ from_block p n number bytes (omega arith)
    ∙ ap (λ l. f l ++ rest) (bytes_of_block k n number s.start b (omega arith)))
    ∙ drop-append-le skip (f block) rest long)
    ∙ take-append-le count (drop skip (f block)) rest (omega (arith, within, length-drop skip (f block), count_frames p block))

-- ---- bad frames

pub has_bad_part : (frames : List (List ℤ)) (skip count : ℕ) → has_bad (take count (drop skip frames)) ≡ true → has_bad frames ≡ true
has_bad_part frames skip count bad =
    let rest = drop skip frames in
    let split = list_any-append is_bad_frame (take count rest) (drop count rest) in
    let whole = list_any-append is_bad_frame (take skip frames) rest in
    let joined = take-append-drop count rest in
    let all = take-append-drop skip frames in
    let here : has_bad rest ≡ true = subst (λ l. has_bad l ≡ true) joined (split ∙ rw bad refl) in
    subst (λ l. has_bad l ≡ true) all (whole ∙ rw here (grind arith))

pub no_bad_part : (frames : List (List ℤ)) (skip count : ℕ) → has_bad frames ≡ false → has_bad (take count (drop skip frames)) ≡ false
no_bad_part frames skip count good = elim (cases_Bool (has_bad (take count (drop skip frames)))) [
  | inl bad ↦ absurd (let h = has_bad_part frames skip count bad in cc)
  | inr none ↦ none
]

no_bad_front : (k : ℕ) (xs : List ℤ) → 1 ≤ k → k ≤ length xs → is_bad_frame (take k xs) ≡ false
no_bad_front zero xs some room = absurd (omega arith)
no_bad_front (suc k) [] some room = absurd (omega arith)
no_bad_front (suc k) (x ∷ xs) some room = refl

-- groups of at least one number are no bad frames
pub no_bad_groups : (k n : ℕ) (xs : List ℤ) → 1 ≤ k → k * n ≤ length xs → has_bad (first_groups k n xs) ≡ false
no_bad_groups k zero xs some room = refl
no_bad_groups k (suc n) xs some room =
    let more : k * suc n ≡ k + k * n = omega arith in
    let first : is_bad_frame (take k xs) ≡ false = no_bad_front k xs some (omega arith) in
    let others = no_bad_groups k n (drop k xs) some (omega (arith, length-drop k xs)) in
    rw (first, others) refl
