-- What a file says that has kept the field that decides its count, or has a new one there, or all but its data.
use Rattle.std.proofs.Common.{◌≡◌, ℕ, ◌+◌, ◌-◌, ◌*◌, ◌%◌, ◌^◌, ◌<◌, ◌≤◌, List, [], ◌++◌, All, Bool, true, false, Ok, length, get_or, refl, sym, ap, subst, ◌∙◌, inl, inr, arith}
use Rattle.std.proofs.lemmas.Bool.{le-ltb, ltb-false}
use Rattle.std.proofs.lemmas.List.{append-nil, length-replicate}
use Rattle.std.specs.Prelude.{min, nat_lt}
use Rattle.snd_chunks.proofs.Public.{chain_end, has_number, is_head, IsHead, no_tail, same_number_at, tail_from_same}
use Rattle.snd_chunks.specs.declared.chunk.Chunk.{Chunk}
use Rattle.snd_chunks.specs.declared.front.Front.{Front}
use Rattle.snd_chunks.specs.Chunks.{chunk_at, padded_end, tail}
use Rattle.snd_chunks.specs.Written.{pad}
use Rattle.snd_disk.specs.Runs.{HasAt, HasFieldOf}
use Rattle.snd_fields.proofs.Numbers.{number_fits}
use Rattle.snd_fields.specs.Field.{bytes_of, number}
use Rattle.snd_fields.specs.Laws.{IsByte}
use Rattle.snd_fields.specs.declared.field.Order.TheVariants.{Big}
use Rattle.snd_layout.specs.Container.{EndsAreInOrder, NewCountReadsBack, OldCountReadsBack, OuterIsWithin, OuterReaches, OuterStops, SameOutsideDataReadsBack, Says, VoiceDeclares, VoiceReadsBack, counted_shape}
use Rattle.snd_layout.specs.Params.{Parameters, data_bytes}
use Rattle.snd_layout.specs.Shape.{Shape, end, room}
use Rattle.snd_layout.specs.declared.kind.Kind.{Kind}
use Rattle.snd_layout.specs.declared.kind.Kind.TheVariants.{Svx, Voc}
use Rattle.snd_layout.specs.declared.piece.Piece.{Piece}
use Rattle.snd_chunks.specs.Parts.{held}
use Rattle.snd_svx.specs.Container.{svx}
use Rattle.snd_svx.specs.declared.header.Header.{Header}
use Rattle.snd_svx.specs.Layout.{data_end, declared_in, outer_end, pieces_of, shape_of, svx_front, svx_layout, svx_shape, svx_tail, voice}
use Rattle.snd_svx.specs.Values.{closing, form_size, inner_value, outer_value}
use Rattle.snd_svx.proofs.Agreements.{Agrees, Stands, agrees, stands}
use Rattle.snd_svx.proofs.Opens.{Opens, opens}

-- ---- the kind, and what a file says

pub kind_is : (b : List ℕ) (h : Shape) → svx_layout b ≡ Ok h → h.kind ≡ Svx
kind_is b h is = ap (λ (s : Shape). s.kind) (opens b h is).shape

not_both_kinds : (kind : Kind) → kind ≡ Voc → kind ≡ Svx → ⊥
not_both_kinds kind one other = let both : Voc ≡ Svx = sym one ∙ other in cc

pub said : (b : List ℕ) (h : Shape) → Says svx b h → svx_layout b ≡ Ok h
said b h says = elim says.same [
  | inl other ↦ absurd (not_both_kinds h.kind other (kind_is b (record h { trailing = says.goes_on }) says.told))
  | inr same ↦ says.told ∙ ap (λ (t : Bool). Ok (record h { trailing = t })) same
]

pub says : (b : List ℕ) (h : Shape) → svx_layout b ≡ Ok h → Says svx b h
says b h is = record { goes_on = h.trailing; told = is; same = inr refl }

-- ---- each frame is one byte

pub voice_bytes : (rate n : ℕ) → data_bytes (voice rate) n ≡ n
voice_bytes rate n = omega arith

pub closing_is : (p : Parameters) (n : ℕ) → length (pad (data_bytes p n)) ≡ data_bytes p n % 2
closing_is p n = length-replicate {A = ℕ} (data_bytes p n % 2) 0

-- ---- where a layout stands

pub record Sized (b : List ℕ) (sound : Chunk) : Type 0 where
  pub few : sound.len < 2 ^ 32
  pub near : sound.at ≤ 20 + 257 * 2 ^ 33

pub sized : (b : List ℕ) (chunk sound : Chunk) → All IsByte b → Stands b chunk sound → Sized b sound
sized b chunk sound bytes there =
    let head : IsHead Big b there.reach.last sound = is_head Big b there.reach.last sound there.reach.at in
    let near = chain_end Big b _ (length b) 12 there.reach.last (svx_front b).chunks bytes there.reach.chain in
    let few : number Big b (sound.at - 4) 4 < 2 ^ 32 = number_fits Big b (sound.at - 4) 4 bytes in
    record { few = omega (arith, there.size, few); near = omega (arith, near, head.at, there.reach.few) }

-- ---- layouts from their parts

pub same_shape : (p : Parameters) (start start' frames frames' declared declared' count : ℕ) (t t' : Bool) (l l' : List Piece) → start ≡ start' → frames ≡ frames' → declared ≡ declared' → t ≡ t' → l ≡ l'
    → shape_of p start frames declared count t l ≡ shape_of p start' frames' declared' count t' l'
same_shape p start start' frames frames' declared declared' count t t' l l' one two three four five = rw (one, two, three, four, five) refl

-- a file that ends by its data has no piece behind them
pub no_pieces : (x : List ℕ) (f : Front) (sound : Chunk) → outer_end x ≤ data_end x sound → pieces_of false f.chunks ++ pieces_of true (svx_tail x f sound) ≡ pieces_of false f.chunks
no_pieces x f sound ends =
    let none : svx_tail x f sound ≡ [] = no_tail Big x (outer_end x) _ (data_end x sound) ends in
    ap (λ (l : List Chunk). pieces_of false f.chunks ++ pieces_of true l) none ∙ append-nil (pieces_of false f.chunks)

abbrev closed_shape : Front → Header → Chunk → ℕ → ℕ → Shape
closed_shape f header chunk start n = shape_of (voice header.rate) start n n chunk.at false (pieces_of false f.chunks)

-- a file whose body's size says n bytes, which are there, and whose whole ends by them
closed : (x : List ℕ) (f : Front) (header : Header) (chunk sound : Chunk) (start n : ℕ) → sound.at ≡ start → sound.len ≡ n → start + n ≤ length x → start + n ≤ 2 ^ 63 - 8 → outer_end x ≤ padded_end start n
    → svx_shape x f header chunk sound ≡ closed_shape f header chunk start n
closed x f header chunk sound start n at size within on_disk ends =
    let all : held (length x) sound ≡ n = omega (arith, at, size, within, on_disk) in
    let declared : declared_in sound ≡ n = omega (arith, size, on_disk) in
    let reach : data_end x sound ≡ padded_end start n = ap (padded_end sound.at) all ∙ ap (λ k. padded_end k n) at in
    let ends_too : outer_end x ≤ data_end x sound = omega (arith, ends, reach) in
    same_shape (voice header.rate) sound.at start (held (length x) sound) n (declared_in sound) n chunk.at (nat_lt (data_end x sound) (outer_end x)) false _ (pieces_of false f.chunks)
    at all declared (le-ltb (data_end x sound) (outer_end x) ends_too) (no_pieces x f sound ends_too)

-- a layout that does not go on ends by its data
pub stops_there : (b : List ℕ) (h : Shape) (from : Opens b (svx_front b) h) → h.trailing ≡ false → outer_end b ≤ data_end b from.sound
stops_there b h from free = ltb-false (data_end b from.sound) (outer_end b) (sym (ap (λ (s : Shape). s.trailing) from.shape) ∙ free)

-- ---- the old count

pub old_count : OldCountReadsBack svx
old_count b x h told bytes free known hold keeps inner ends =
    let is = said b h told in
    let a : Agrees x b h = agrees x b h is (omega (arith, hold.new)) keeps in
    let sizes : Sized b a.from.sound = sized b a.from.chunk a.from.sound bytes a.there in
    let start : h.start ≡ a.from.sound.at = ap (λ (s : Shape). s.start) a.from.shape in
    let declared : h.declared ≡ declared_in a.from.sound = ap (λ (s : Shape). s.declared) a.from.shape in
    let len : h.declared ≡ a.from.sound.len = omega (arith, declared, sizes.few) in
    let place : h.inner.at ≡ a.from.sound.at - 4 = ap (λ (s : Shape). s.inner.at) a.from.shape in
    let four : h.inner.size ≡ 4 = ap (λ (s : Shape). s.inner.size) a.from.shape in
    let same : number Big x (a.from.sound.at - 4) 4 ≡ number Big b (a.from.sound.at - 4) 4 =
    same_number_at Big 4 (a.from.sound.at - 4) x b (λ i from to.
    let at : h.inner.at + (i - h.inner.at) ≡ i = omega (arith, place, from) in
    let got : get_or x (h.inner.at + (i - h.inner.at)) 0 ≡ get_or b (h.inner.at + (i - h.inner.at)) 0 = inner (i - h.inner.at) (omega (arith, four, place, from, to)) in
    rw at at got) in
    let size : a.sound.len ≡ a.from.sound.len = a.size ∙ same ∙ sym a.there.size in
    let stop : outer_end b ≤ data_end b a.from.sound = stops_there b h a.from free in
    let old : svx_shape b (svx_front b) a.from.header a.from.chunk a.from.sound ≡ closed_shape (svx_front b) a.from.header a.from.chunk a.from.sound.at a.from.sound.len =
    closed b (svx_front b) a.from.header a.from.chunk a.from.sound a.from.sound.at a.from.sound.len refl refl (omega (arith, hold.old, start, len)) (omega (arith, sizes.few, sizes.near)) (omega (arith, stop, sizes.few, sizes.near, hold.old, start, len)) in
    let new : svx_shape x (svx_front b) a.from.header a.from.chunk a.sound ≡ closed_shape (svx_front b) a.from.header a.from.chunk a.from.sound.at a.from.sound.len =
    closed x (svx_front b) a.from.header a.from.chunk a.sound a.from.sound.at a.from.sound.len a.at size (omega (arith, hold.new, start, len)) (omega (arith, sizes.few, sizes.near)) (omega (arith, ends, start, len)) in
    says x h (a.new ∙ ap (λ (s : Shape). Ok s) (new ∙ sym old ∙ sym a.from.shape))

-- ---- the new count

-- the parts of a layout that does not go on
counted : (b : List ℕ) (h : Shape) (from : Opens b (svx_front b) h) (n : ℕ) → h.trailing ≡ false → counted_shape h n ≡ closed_shape (svx_front b) from.header from.chunk from.sound.at n
counted b h from n free =
    let stop : outer_end b ≤ data_end b from.sound = stops_there b h from free in
    ap (λ (s : Shape). counted_shape s n) from.shape
    ∙ same_shape (voice from.header.rate) from.sound.at from.sound.at n n (data_bytes (voice from.header.rate) n) n from.chunk.at (nat_lt (data_end b from.sound) (outer_end b)) false _ (pieces_of false (svx_front b).chunks)
    refl refl (voice_bytes from.header.rate n) (le-ltb (data_end b from.sound) (outer_end b) stop) (no_pieces b (svx_front b) from.sound stop)

pub new_count : NewCountReadsBack svx
unfolding closing inner_value
new_count b x h n may keeps inner long ends =
    let is = said b h may.says in
    let from : Opens b (svx_front b) h = opens b h is in
    let bytes_are : data_bytes h.params n ≡ n = ap (λ (s : Shape). data_bytes s.params n) from.shape ∙ voice_bytes from.header.rate n in
    let close = closing_is h.params n in
    let a : Agrees x b h = agrees x b h is (omega (arith, long)) keeps in
    let sizes : Sized b a.from.sound = sized b a.from.chunk a.from.sound may.bytes a.there in
    let start : h.start ≡ a.from.sound.at = ap (λ (s : Shape). s.start) a.from.shape in
    let declared : h.declared ≡ declared_in a.from.sound = ap (λ (s : Shape). s.declared) a.from.shape in
    let limit : room h ≡ 2 ^ 32 + 6 - h.start = ap (λ (s : Shape). room s) a.from.shape ∙ ap (λ k. 2 ^ 32 + 6 - k) (sym start) in
    let few : n < 2 ^ 32 = omega (arith, may.room.in_room, bytes_are, limit, declared, sizes.few, start, a.there.behind, a.there.long, a.there.before) in
    let place : h.inner.at ≡ a.from.sound.at - 4 = ap (λ (s : Shape). s.inner.at) a.from.shape in
    let has : HasAt x h.inner.at (bytes_of Big 4 n) = subst (λ k. HasAt x h.inner.at (bytes_of Big 4 k)) bytes_are inner in
    let read : number Big x (a.from.sound.at - 4) 4 ≡ n = ap (λ k. number Big x k 4) (sym place) ∙ has_number Big x h.inner.at n has few in
    let new : svx_shape x (svx_front b) a.from.header a.from.chunk a.sound ≡ closed_shape (svx_front b) a.from.header a.from.chunk a.from.sound.at n =
    closed x (svx_front b) a.from.header a.from.chunk a.sound a.from.sound.at n a.at (a.size ∙ read) (omega (arith, long, start, bytes_are)) (omega (arith, may.on_disk, start, bytes_are)) (omega (arith, ends, start, bytes_are, close)) in
    says x (counted_shape h n) (a.new ∙ ap (λ (s : Shape). Ok s) (new ∙ sym (counted b h a.from n may.free)))

-- ---- all but the data

pub same_outside : SameOutsideDataReadsBack svx
same_outside b x h is good long same =
    let from : Opens b (svx_front b) h = opens b h is in
    let s : Stands b from.chunk from.sound = stands b h from in
    let start_at : h.start ≡ from.sound.at = ap (λ (s : Shape). s.start) from.shape in
    let a : Agrees x b h = agrees x b h is (omega (arith, long, start_at, s.within)) (λ i lt beside. same i (inl lt)) in
    let start : h.start ≡ a.from.sound.at = ap (λ (s : Shape). s.start) a.from.shape in
    let frames : end h h.frames ≡ a.from.sound.at + held (length b) a.from.sound =
    ap (λ (s : Shape). end s s.frames) a.from.shape ∙ ap (λ k. a.from.sound.at + k) (voice_bytes a.from.header.rate (held (length b) a.from.sound)) in
    let before : (i : ℕ) → i < a.from.sound.at → get_or x i 0 ≡ get_or b i 0 = λ i lt. same i (inl (omega (arith, start, lt))) in
    let size : a.sound.len ≡ a.from.sound.len = a.size ∙ same_number_at Big 4 (a.from.sound.at - 4) x b (λ i from to. before i (omega (arith, to, a.there.before, a.there.long))) ∙ sym a.there.size in
    let form : number Big x 4 4 ≡ number Big b 4 4 = same_number_at Big 4 4 x b (λ i from to. before i (omega (arith, to, a.there.before, a.there.long))) in
    let outer : outer_end x ≡ outer_end b = omega (arith, form, long) in
    let some : held (length x) a.sound ≡ held (length b) a.from.sound = omega (arith, size, a.at, long) in
    let ends : data_end x a.sound ≡ data_end b a.from.sound = ap (padded_end a.sound.at) some ∙ ap (λ k. padded_end k (held (length b) a.from.sound)) a.at in
    let most : ℕ = 256 - length (svx_front b).chunks in
    let behind : svx_tail x (svx_front b) a.sound ≡ svx_tail b (svx_front b) a.from.sound =
    ap (λ (n : ℕ). tail (chunk_at Big x) n most (data_end x a.sound)) outer
    ∙ ap (λ (n : ℕ). tail (chunk_at Big x) (outer_end b) most n) ends
    ∙ tail_from_same Big x b (outer_end b) most (data_end b a.from.sound) long (λ i from. same i (inr (omega (arith, frames, from)))) in
    a.new
    ∙ ap (λ (s : Shape). Ok s) (same_shape (voice a.from.header.rate) a.sound.at a.from.sound.at (held (length x) a.sound) (held (length b) a.from.sound) (declared_in a.sound) (declared_in a.from.sound) a.from.chunk.at
    (nat_lt (data_end x a.sound) (outer_end x)) (nat_lt (data_end b a.from.sound) (outer_end b)) _ _
    a.at some (ap (λ k. min k (2 ^ 63 - 1)) size) (ap (λ k. nat_lt k (outer_end x)) ends ∙ ap (nat_lt (data_end b a.from.sound)) outer)
    (ap (λ (l : List Chunk). pieces_of false (svx_front b).chunks ++ pieces_of true l) behind) ∙ sym a.from.shape)

pub no_voice : VoiceReadsBack svx
no_voice b x h says kind = absurd (not_both_kinds h.kind kind (kind_is b h (said b h says)))

pub declares : VoiceDeclares svx
declares b h is kind = absurd (not_both_kinds h.kind kind (kind_is b h is))

-- ---- the size of the whole

pub reaches : OuterReaches svx
unfolding closing outer_value
reaches b x h n told has =
    let is = said b h told in
    let from : Opens b (svx_front b) h = opens b h is in
    let there : Stands b from.chunk from.sound = stands b h from in
    let start : h.start ≡ from.sound.at = ap (λ (s : Shape). s.start) from.shape in
    let close = closing_is h.params n in
    let value : HasAt x 4 (bytes_of Big 4 (form_size h.start (data_bytes h.params n))) = rw (ap (λ (s : Shape). s.outer) from.shape) at has in
    let read : number Big x 4 4 ≡ form_size h.start (data_bytes h.params n) = has_number Big x 4 (form_size h.start (data_bytes h.params n)) value (omega arith) in
    omega (arith, read, close, start, there.before, there.long)

pub stops : OuterStops svx
stops b x h told free same few =
    let is = said b h told in
    let from : Opens b (svx_front b) h = opens b h is in
    let stop : outer_end b ≤ data_end b from.sound = stops_there b h from free in
    let start : h.start ≡ from.sound.at = ap (λ (s : Shape). s.start) from.shape in
    let declared : h.declared ≡ declared_in from.sound = ap (λ (s : Shape). s.declared) from.shape in
    let field : HasFieldOf x b 4 4 = rw (ap (λ (s : Shape). s.outer) from.shape) at same in
    let form : number Big x 4 4 ≡ number Big b 4 4 = same_number_at Big 4 4 x b (λ i from to.
    let at : 4 + (i - 4) ≡ i = omega (arith, from) in
    let got : get_or x (4 + (i - 4)) 0 ≡ get_or b (4 + (i - 4)) 0 = field (i - 4) (omega (arith, from, to)) in
    rw at at got) in
    let some : held (length b) from.sound ≤ declared_in from.sound = omega arith in
    omega (arith, form, few, stop, start, declared, some)

pub within : OuterIsWithin svx
within kind x = omega arith

pub order : EndsAreInOrder svx
unfolding closing
order b h n told =
    let is = said b h told in
    let close = closing_is h.params n in
    (λ more. omega (arith, more, close), λ less. omega (arith, less, close))
