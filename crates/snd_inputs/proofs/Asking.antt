-- What is asked to copy the frames of files.
use Rattle.std.proofs.Common.{◌≡◌, ◌∙◌, ap, sym, subst, refl, ℕ, ◌+◌, ◌*◌, ◌/◌, ◌≤◌, Bool, cond, true, false, List, [], ◌∷◌, ◌++◌, Option, None, Some, Ok, length, take, drop, length-append, arith}
use Rattle.std.proofs.lemmas.List.{take-append-drop, take_more}
use Rattle.std.proofs.lemmas.Option.{get_or_from_slice_get, slice_get_within}
use Rattle.std.specs.Str.{bytes_eq}
use Rattle.std.proofs.Math.Nat.{mul-le-mul_left, mul-le-mul_right}
use Rattle.std.specs.Prelude.{slice_get}
use Rattle.snd_disk.specs.Device.{Tells}
use Rattle.snd_disk.specs.Shelf.{Files, Gives, KeepsFiles, Puts, SameFiles, ShelfState, put}
use Rattle.snd_disk.specs.State.{Adds, AtMost}
use Rattle.snd_disk.specs.declared.disk.Disk.{Ghosts}
use Rattle.snd_disk.specs.declared.shelf.Shelf.{Ghosts as ShelfMeaning}
use Rattle.snd_inputs.proofs.Weighing.{whole_within}
use Rattle.snd_inputs.specs.Asking.{AsksForEach, size_of, sizes_of}
use Rattle.snd_inputs.specs.Copying.{bytes_checked, bytes_to_copy}
use Rattle.snd_inputs.specs.Looking.{AsksToLook}
use Rattle.snd_inputs.specs.Opening.{IsOpen, IsUnread}
use Rattle.snd_inputs.specs.declared.input.Input.{Input}
use Rattle.snd_layout.specs.Shape.{Shape, end}
use Rattle.snd_edits.specs.Editing.{first_editing, opening_of}
use Rattle.snd_edits.specs.Known.{Known}
use Rattle.snd_output.specs.Appended.{bytes_by_calls, left_in}

-- one thing is asked behind another, and no more than so much in all
pub asks_then : (a b c m n all : ℕ) → AtMost a m b → AtMost b n c → m + n ≤ all → AtMost a all c
asks_then a b c m n all first second within = record { later = omega (arith, first.later, second.later); most = omega (arith, first.most, second.most, within) }

pub asks_less : (a b m n : ℕ) → m ≤ n → AtMost a m b → AtMost a n b
asks_less a b m n le was = record { later = was.later; most = omega (arith, was.most, le) }

-- so that of a file that is unread no more is asked for all its frames
pub asks_to_copy : (k : Known) (places a b : ℕ) → IsUnread k → places ≡ 16384 → AtMost a (bytes_by_calls k.shape.params (places / k.shape.params.channels) (left_in k)) b
    → AtMost a (0 + bytes_to_copy k.shape.params k.shape.frames) b
asks_to_copy k places a b unread size was =
    let first : left_in k ≡ k.shape.frames = omega (arith, unread.first) in
    let each : bytes_by_calls k.shape.params (places / k.shape.params.channels) (left_in k) ≡ bytes_to_copy k.shape.params (left_in k) =
    ap (λ (n : ℕ). bytes_by_calls k.shape.params (n / k.shape.params.channels) (left_in k)) size in
    let all : bytes_to_copy k.shape.params (left_in k) ≡ bytes_to_copy k.shape.params k.shape.frames = ap (λ (n : ℕ). bytes_to_copy k.shape.params n) first in
    asks_less a b _ _ (same_bytes (bytes_by_calls k.shape.params (places / k.shape.params.channels) (left_in k)) (bytes_to_copy k.shape.params k.shape.frames) (each ∙ all)) was
  where
    same_bytes : (x y : ℕ) → x ≡ y → x ≤ 0 + y
    same_bytes x y e = omega (arith, e)

-- ---- the files of names

sizes_same : (f f' : Files) → SameFiles f f' → (names : List (List ℕ)) → sizes_of f' names ≡ sizes_of f names
sizes_same f f' same [] = refl
sizes_same f f' same (name ∷ names) = omega (arith, ap size_of (same name), sizes_same f f' same names)

sizes_joined : (f : Files) (xs ys : List (List ℕ)) → sizes_of f (xs ++ ys) ≡ sizes_of f xs + sizes_of f ys
sizes_joined f [] ys = omega arith
sizes_joined f (x ∷ xs) ys = omega (arith, sizes_joined f xs ys)

-- without the file of a name they are no more
size_without : (named : Bool) (o : Option (List ℕ)) → size_of (cond named None o) ≤ size_of o
size_without true o = omega arith
size_without false o = omega arith

sizes_without : (f f' : Files) (out : List ℕ) → SameFiles (put f out None) f' → (names : List (List ℕ)) → sizes_of f' names ≤ sizes_of f names
sizes_without f f' out same [] = omega arith
sizes_without f f' out same (name ∷ names) =
    omega (arith, ap size_of (same name), size_without (bytes_eq name out) (f name), sizes_without f f' out same names)

pub one_more : (names : List (List ℕ)) (i : ℕ) (name : List ℕ) → slice_get names i ≡ Some name → take (i + 1) names ≡ take i names ++ name ∷ []
one_more names i name there =
    take_more names i name (slice_get_within names i name there) ∙ ap (λ (x : List ℕ). take i names ++ x ∷ []) (get_or_from_slice_get names i name name there)

module _ {S : Type 0} (state : S → ShelfState) where
  pub each_less : (m n m' n' : ℕ) (names : List (List ℕ)) (old new : S) → m ≤ m' → n ≤ n' → AsksForEach m n state names old new → AsksForEach m' n' state names old new
  each_less m n m' n' names old new lem len was files told =
      asks_less _ _ _ _ (omega (arith, mul-le-mul_right (sizes_of files names) lem, mul-le-mul_right (length names) len)) (was files told)

  -- the files of the names are read, and then read once more
  pub both_then : (m n m' n' : ℕ) (names : List (List ℕ)) (old mid new : S) → KeepsFiles (state old) (state mid) → AsksForEach m n state names old mid → AsksForEach m' n' state names mid new
      → AsksForEach (m + m') (n + n') state names old new
  both_then m n m' n' names old mid new kept first second files told =
      let now = kept files told in
      asks_then _ _ _ _ _ _ (first files told) (second now.0 now.1) (omega (arith, ap (λ (k : ℕ). m' * k) (sizes_same files now.0 now.2 names)))

  -- .. or those of some, and those of others
  pub each_then : (m n : ℕ) (xs ys : List (List ℕ)) (old mid new : S) → KeepsFiles (state old) (state mid) → AsksForEach m n state xs old mid → AsksForEach m n state ys mid new
      → AsksForEach m n state (xs ++ ys) old new
  each_then m n xs ys old mid new kept first second files told =
      let now = kept files told in
      asks_then _ _ _ _ _ _ (first files told) (second now.0 now.1)
      (omega (arith, ap (λ (k : ℕ). m * k) (sizes_same files now.0 now.2 ys), ap (λ (k : ℕ). m * k) (sizes_joined files xs ys), ap (λ (k : ℕ). n * k) (length-append xs ys)))

  -- no more for the first ones than for all
  pub each_front : (m n : ℕ) (names : List (List ℕ)) (i : ℕ) (old new : S) → AsksForEach m n state (take i names) old new → AsksForEach m n state names old new
  each_front m n names i old new was files told =
      let all : take i names ++ drop i names ≡ names = take-append-drop i names in
      asks_less _ _ _ _
      (omega (
        arith,
        ap (λ (l : List (List ℕ)). m * sizes_of files l) all,
        ap (λ (k : ℕ). m * k) (sizes_joined files (take i names) (drop i names)),
        ap (λ (l : List (List ℕ)). n * length l) all,
        ap (λ (k : ℕ). n * k) (length-append (take i names) (drop i names)),
      ))
      (was files told)

  -- those up to a name, and then that of the name
  pub asks_next : (m n : ℕ) (names : List (List ℕ)) (i : ℕ) (name : List ℕ) → slice_get names i ≡ Some name → (old mid new : S) → KeepsFiles (state old) (state mid)
      → AsksForEach m n state (take i names) old mid → AsksForEach m n state (name ∷ []) mid new → AsksForEach m n state names old new
  asks_next m n names i name there old mid new kept first second =
      each_front m n names (i + 1) old new
      (subst (λ (l : List (List ℕ)). AsksForEach m n state l old new) (sym (one_more names i name there)) (each_then m n (take i names) (name ∷ []) old mid new kept first second))

  -- nothing is asked, and files that are looked at
  pub asks_none : (m n : ℕ) (names : List (List ℕ)) (old new : S) → (state new).asked ≡ (state old).asked → AsksForEach m n state names old new
  asks_none m n names old new same files told = record { later = omega (arith, same); most = omega (arith, same) }

  pub asks_looks : (m n : ℕ) (names : List (List ℕ)) (old new : S) → 16384 ≤ n → AsksToLook (length names) (state old) (state new) → AsksForEach m n state names old new
  asks_looks m n names old new few looks files told = asks_less _ _ _ _ (omega (arith, mul-le-mul_right (length names) few)) looks

  -- beside a file that is taken out and given back, of which nothing is asked
  pub asks_beside : (m n : ℕ) (names : List (List ℕ)) (out : List ℕ) (old mid mid' new : S) (disk : ℕ) → Puts (state old) (state mid) out None → (state mid).asked ≡ (state old).asked
      → AsksForEach m n state names mid mid' → disk ≡ 0 → Adds (state mid').asked disk (state new).asked → AsksForEach m n state names old new
  asks_beside m n names out old mid mid' new disk puts same asked none adds files told =
      let now = puts files told in
      let between = asked now.0 now.1 in
      let less : m * sizes_of now.0 names ≤ m * sizes_of files names = mul-le-mul_left m (sizes_without files now.0 out now.2 names) in
      record { later = omega (arith, same, between.later, adds.later); most = omega (arith, same, between.most, adds.most, none, less) }

-- ---- one file that is read whole

module _ {S D : Type 0} (s : ShelfMeaning S D) (d : Ghosts D) (old mid new : S) (input : Input D d) (from to given : D) (name : List ℕ) (opens : IsOpen s d name old mid input)
    (from_is : from ≡ input.disk) (to_is : given ≡ to) (gives : Gives (s.state mid) (s.state new) name (d.state given)) where
  -- so much is asked of the file of a name, which was opened, and is given back
  pub asks_held : (most : ℕ) → ((b : List ℕ) → opening_of b ≡ Ok (first_editing b input.layout) → end input.layout input.layout.frames ≤ length b → most ≤ size_of (Some b))
      → ((b : List ℕ) → Tells d.state input.disk b → (d.state input.disk).size ≡ length b)
      → AtMost (d.state from).asked most (d.state to).asked → AsksForEach 1 16384 s.state (name ∷ []) old new
  asks_held most fits told_size copies files told =
      let found = opens.opened files told in
      let size : (d.state input.disk).size ≡ length found.0 = told_size found.0 found.3.bytes in
      let first : (d.state from).asked ≤ 16384 = omega (arith, ap (λ (x : D). (d.state x).asked) from_is, opens.asked) in
      let adds : Adds (s.state mid).asked (d.state to).asked (s.state new).asked = subst (λ (y : D). Adds (s.state mid).asked (d.state y).asked (s.state new).asked) to_is gives.asked in
      let within : end input.layout input.layout.frames ≤ length found.0 = omega (arith, input.held, size) in
      let few : most ≤ size_of (Some found.0) = fits found.0 found.2 within in
      let bytes : sizes_of files (name ∷ []) ≡ size_of (Some found.0) + 0 = ap (λ (o : Option (List ℕ)). size_of o + 0) found.1 in
      record { later = omega (arith, opens.out.bytes.asked, adds.later); most = omega (arith, opens.out.bytes.asked, adds.most, copies.most, first, few, bytes) }

  -- its frames are copied
  pub asks_whole : (h : Shape) → h ≡ input.layout → ((b : List ℕ) → Tells d.state input.disk b → (d.state input.disk).size ≡ length b)
      → AtMost (d.state from).asked (0 + bytes_to_copy h.params h.frames) (d.state to).asked → AsksForEach 1 16384 s.state (name ∷ []) old new
  asks_whole h shape told_size copies =
      let same : 0 + bytes_to_copy h.params h.frames ≡ 0 + bytes_to_copy input.layout.params input.layout.frames = ap (λ (l : Shape). 0 + bytes_to_copy l.params l.frames) shape in
      asks_held (0 + bytes_to_copy input.layout.params input.layout.frames)
      (λ b opened within. copied_of _ _ _ (whole_within b input.layout input.fits input.good within opened)) told_size
      (subst (λ (n : ℕ). AtMost (d.state from).asked n (d.state to).asked) same copies)
    where
      copied_of : (x y z : ℕ) → x + y ≤ z → 0 + y ≤ z
      copied_of x y z le = omega (arith, le)

  -- .. or its blocks are checked
  pub asks_checked : ((b : List ℕ) → Tells d.state input.disk b → (d.state input.disk).size ≡ length b)
      → AtMost (d.state from).asked (bytes_checked input.layout) (d.state to).asked → AsksForEach 1 16384 s.state (name ∷ []) old new
  asks_checked told_size checks =
      asks_held (bytes_checked input.layout) (λ b opened within. checked_of _ _ _ (whole_within b input.layout input.fits input.good within opened)) told_size checks
    where
      checked_of : (x y z : ℕ) → x + y ≤ z → x ≤ z
      checked_of x y z le = omega (arith, le)
