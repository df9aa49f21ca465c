-- The pieces that are taken, one after the other.
use Rattle.std.proofs.Common.{◌≡◌, ◌∙◌, ap, sym, refl, ℕ, ◌+◌, ◌*◌, ◌<◌, ◌≤◌, true, false, List, [], ◌∷◌, ◌++◌, All, Some, length, take, drop, arith, length-append}
use Rattle.std.proofs.lemmas.List.{append-nil, length-replicate, places, same_lists, take-append-drop, take_all, take_more}
use Rattle.std.proofs.lemmas.List.Elements.{All-append, All-cons, All-filter, All-head, All-nil, All-tail, All-take, filter-append}
use Rattle.std.proofs.lemmas.List.Sums.{sum_by-take-le, sum_by_push}
use Rattle.std.proofs.lemmas.Option.{get_or_from_slice_get, slice_get_within}
use Rattle.std.proofs.lemmas.Bool.{and_parts, leb-true, not-true}
use Rattle.std.specs.List.{filter}
use Rattle.std.specs.Prelude.{map, slice_get}
use Rattle.snd_chunks.proofs.Public.{length-chunk_bytes, length-chunks_bytes}
use Rattle.snd_chunks.specs.Written.{chunks_bytes}
use Rattle.snd_disk.specs.State.{AtMost}
use Rattle.snd_fields.specs.declared.field.Order.TheVariants.{Little}
use Rattle.snd_layout.specs.Opened.{EndsIn}
use Rattle.snd_layout.specs.declared.piece.Piece.{Piece}
use Rattle.snd_container.specs.Room.{chunk_size}
use Rattle.snd_chunks.specs.Heads.{chunk_read, outline}
use Rattle.snd_layout.specs.Kinds.{is_wave_own}
use Rattle.snd_carry.specs.Carried.{TakesBytes, body_bytes, carried_pieces, is_carried}

-- one more behind others that are fewer than n, and one behind n
take_room : {A : Type 0} (n : ℕ) (xs : List A) (x : A) → length (take n xs) < n → take n (xs ++ x ∷ []) ≡ take n xs ++ x ∷ []
take_room n xs x few = same_lists _ _ (grind (arith, places)) (λ k d lt. grind (arith, places))

take_full : {A : Type 0} (n : ℕ) (xs ys : List A) → n ≤ length (take n xs) → take n (xs ++ ys) ≡ take n xs
take_full n xs ys full = same_lists _ _ (grind (arith, places)) (λ k d lt. grind (arith, places))

filter_one : (p : Piece) → is_carried p ≡ true → filter is_carried (p ∷ []) ≡ p ∷ []
filter_one p is = rw is refl

filter_none : (p : Piece) → is_carried p ≡ false → filter is_carried (p ∷ []) ≡ []
filter_none p is = rw is refl

-- the pieces up to one more
module _ (ps : List Piece) (i : ℕ) (p : Piece) (there : slice_get ps i ≡ Some p) where
  next : filter is_carried (take (i + 1) ps) ≡ filter is_carried (take i ps) ++ filter is_carried (p ∷ [])
  next =
      ap (filter is_carried) (take_more ps i p (slice_get_within ps i p there) ∙ ap (λ (x : Piece). take i ps ++ x ∷ []) (get_or_from_slice_get ps i p p there))
      ∙ filter-append is_carried (take i ps) (p ∷ [])

  pub carried_more : is_carried p ≡ true → length (carried_pieces (take i ps)) < 240 → carried_pieces (take (i + 1) ps) ≡ carried_pieces (take i ps) ++ p ∷ []
  carried_more is few =
      ap (take 240) (next ∙ ap (λ (l : List Piece). filter is_carried (take i ps) ++ l) (filter_one p is)) ∙ take_room 240 (filter is_carried (take i ps)) p few

  pub carried_other : is_carried p ≡ false → carried_pieces (take (i + 1) ps) ≡ carried_pieces (take i ps)
  carried_other is = ap (take 240) (next ∙ ap (λ (l : List Piece). filter is_carried (take i ps) ++ l) (filter_none p is) ∙ append-nil (filter is_carried (take i ps)))

  pub carried_full : 240 ≤ length (carried_pieces (take i ps)) → carried_pieces (take (i + 1) ps) ≡ carried_pieces (take i ps)
  carried_full full = ap (take 240) next ∙ take_full 240 (filter is_carried (take i ps)) (filter is_carried (p ∷ [])) full

pub all_taken : (ps : List Piece) (i : ℕ) → length ps ≤ i → carried_pieces (take i ps) ≡ carried_pieces ps
all_taken ps i all = ap carried_pieces (take_all i ps all)

-- the bodies of those up to a place are no more than all
front_of : {A : Type 0} (n : ℕ) (xs ys : List A) → take n xs ≡ take (length (take n xs)) (take n (xs ++ ys))
front_of n xs ys = same_lists _ _ (grind (arith, places)) (λ k d lt. grind (arith, places))

fronts : (n : ℕ) (xs ys : List Piece) → body_bytes (take n xs) ≤ body_bytes (take n (xs ++ ys))
fronts n xs ys =
    let some : body_bytes (take (length (take n xs)) (take n (xs ++ ys))) ≤ body_bytes (take n (xs ++ ys)) = sum_by-take-le (λ (p : Piece). p.len) (take n (xs ++ ys)) (length (take n xs)) in
    omega (arith, ap body_bytes (front_of n xs ys), some)

pub bodies_so_far : (ps : List Piece) (i : ℕ) → body_bytes (carried_pieces (take i ps)) ≤ body_bytes (carried_pieces ps)
bodies_so_far ps i =
    let all : filter is_carried ps ≡ filter is_carried (take i ps) ++ filter is_carried (drop i ps) = ap (filter is_carried) (sym (take-append-drop i ps)) ∙ filter-append is_carried (take i ps) (drop i ps) in
    omega (arith, fronts 240 (filter is_carried (take i ps)) (filter is_carried (drop i ps)), ap (λ (l : List Piece). body_bytes (take 240 l)) all)

-- the bytes that they take
abbrev pub sizes : List Piece → ℕ
sizes [] = 0
sizes (p ∷ ps) = chunk_size p.len + sizes ps

pub sizes_more : (ps : List Piece) (p : Piece) → sizes (ps ++ p ∷ []) ≡ sizes ps + chunk_size p.len
sizes_more [] p = omega arith
sizes_more (x ∷ xs) p = omega (arith, sizes_more xs p)

few_in : (n : ℕ) (ps : List Piece) → length (take n ps) ≤ n
few_in n ps = grind (arith, places)

pub few_carried : (ps : List Piece) → length (carried_pieces ps) ≤ 240
few_carried ps = few_in 240 (filter is_carried ps)

-- an identifier of four bytes, as each piece has
abbrev pub IsFour : Piece → Type 0
IsFour p = length p.id.0 ≡ 4

pub fours_more : (ps : List Piece) (p : Piece) → All IsFour ps → IsFour p → All IsFour (ps ++ p ∷ [])
fours_more ps p are is = All-append IsFour ps (p ∷ []) are (All-cons IsFour p [] is (All-nil IsFour))

no_bytes : length (chunks_bytes Little []) ≡ 0
unfolding chunks_bytes
no_bytes = refl

body_length : (b : List ℕ) (at len : ℕ) → at + len ≤ length b → length (take len (drop at b)) ≡ len
body_length b at len ends = grind (arith, places)

sizes_are : (b : List ℕ) (ps : List Piece) → All IsFour ps → All (EndsIn (length b)) ps → length (chunks_bytes Little (map (chunk_read b) ps)) ≡ sizes ps
sizes_are b [] fours ends = no_bytes
sizes_are b (p ∷ ps) fours ends =
    omega (
      arith,
      length-chunks_bytes Little (chunk_read b p) (map (chunk_read b) ps),
      length-chunk_bytes Little (chunk_read b p) 0 (All-head IsFour p ps fours),
      body_length b p.at p.len (All-head (EndsIn (length b)) p ps ends),
      sizes_are b ps (All-tail IsFour p ps fours) (All-tail (EndsIn (length b)) p ps ends),
    )

pub outlines_are : (ps : List Piece) → All IsFour ps → length (chunks_bytes Little (map outline ps)) ≡ sizes ps
outlines_are [] fours = no_bytes
outlines_are (p ∷ ps) fours =
    omega (
      arith,
      length-chunks_bytes Little (outline p) (map outline ps),
      length-chunk_bytes Little (outline p) 0 (All-head IsFour p ps fours),
      length-replicate {A = ℕ} p.len 0,
      outlines_are ps (All-tail IsFour p ps fours),
    )

pub takes_bytes : (ps : List Piece) (n : ℕ) → All IsFour (carried_pieces ps) → n ≡ sizes (carried_pieces ps) → TakesBytes ps n
takes_bytes ps n fours is b ends =
    sizes_are b (carried_pieces ps) fours (All-take (EndsIn (length b)) 240 (filter is_carried ps) (All-filter is_carried (EndsIn (length b)) ps ends)) ∙ sym is

-- so many of them take so many bytes
pub record IsSized (taken : List Piece) (count size : ℕ) : Type 0 where
  pub counted : count ≡ length taken
  pub sized : size ≡ sizes taken
  pub few : size ≤ 65544 * count
  pub fours : All IsFour taken

pub sized_none : IsSized [] 0 0
sized_none = record { counted = refl; sized = refl; few = omega arith; fours = All-nil IsFour }

pub small : (p : Piece) → is_carried p ≡ true → p.len ≤ 65536
small p is = leb-true _ _ (and_parts _ _ is).0

pub not_own : (p : Piece) → is_carried p ≡ true → is_wave_own p.id.0 ≡ false
not_own p is = not-true (is_wave_own p.id.0) (and_parts _ _ is).1

pub sized_more : (taken : List Piece) (p : Piece) (count size more n : ℕ) → IsSized taken count size → is_carried p ≡ true → IsFour p → more ≡ count + 1 → n ≡ size + chunk_size p.len → IsSized (taken ++ p ∷ []) more n
sized_more taken p count size more n was is four one bytes = record {
  counted = omega (arith, one, was.counted, length-append taken (p ∷ []));
  sized = omega (arith, bytes, was.sized, sizes_more taken p);
  few = omega (arith, bytes, one, was.few, small p is);
  fours = fours_more taken p was.fours four;
}

-- a place where no piece stands gives this one
abbrev pub nowhere : Piece
nowhere = record { id = record { 0 = [] }; at = 0; len = 0; after = false }

-- counts of bytes that rise by so much for each
times_more : (m n : ℕ) → m * (n + 1) ≡ m * n + m
times_more m n = grind arith

pub more_asked : (a b c m n k : ℕ) → k ≡ n + 1 → AtMost a (m * n) b → AtMost b m c → AtMost a (m * k) c
more_asked a b c m n k one first second =
    let more : m * k ≡ m * n + m = ap (λ (i : ℕ). m * i) one ∙ times_more m n in
    record { later = omega (arith, first.later, second.later); most = omega (arith, first.most, second.most, more) }

-- no more than are asked for 240 of them, and with one more for fewer
times_less : (m i k : ℕ) → i ≤ k → m * i ≤ m * k
times_less m i k le = grind arith

pub all_asked : (a b m n all : ℕ) → m * 240 ≤ all → n ≤ 240 → AtMost a (m * n) b → AtMost a all b
all_asked a b m n all most few was =
    let less : m * n ≤ m * 240 = times_less m n 240 few in
    record { later = was.later; most = omega (arith, was.most, less, most) }

pub last_asked : (a b c m n all : ℕ) → m * 240 ≤ all → n < 240 → AtMost a (m * n) b → AtMost b m c → AtMost a all c
last_asked a b c m n all most few was is =
    all_asked a c m (n + 1) all most (omega (arith, few)) (more_asked a b c m n (n + 1) refl was is)

-- the body of one piece more is asked for; and no more than those of all
pub body_asked : (a b c : ℕ) (xs ys : List Piece) (p : Piece) → ys ≡ xs ++ p ∷ [] → AtMost a (body_bytes xs) b → AtMost b p.len c → AtMost a (body_bytes ys) c
body_asked a b c xs ys p more first second =
    let one : body_bytes ys ≡ body_bytes xs + p.len = ap body_bytes more ∙ sum_by_push (λ (q : Piece). q.len) xs p in
    record { later = omega (arith, first.later, second.later); most = omega (arith, first.most, second.most, one) }

pub within_all : (a b m n : ℕ) → m ≤ n → AtMost a m b → AtMost a n b
within_all a b m n le was = record { later = was.later; most = omega (arith, was.most, le) }
