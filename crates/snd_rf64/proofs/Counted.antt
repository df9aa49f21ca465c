-- Files whose fields are partly old and partly new, and those of which the data alone have changed.
use Rattle.std.proofs.Common.{◌≡◌, ◌⊎◌, ℕ, ◌+◌, ◌-◌, ◌%◌, ◌<◌, ◌≤◌, ◌^◌, List, [], ◌∷◌, ◌++◌, true, false, None, Ok, length, get_or, refl, sym, ap, subst, ◌∙◌, inl, inr, arith}
use Rattle.std.proofs.lemmas.Bool.{cases_lt, le-ltb, ltb-false}
use Rattle.std.proofs.lemmas.List.{append-nil}
use Rattle.std.specs.Prelude.{min, nat_lt, replicate}
use Rattle.snd_chunks.proofs.Public.{no_tail, same_number_at, tail_from_same}
use Rattle.snd_chunks.specs.declared.chunk.Chunk.{Chunk}
use Rattle.snd_chunks.specs.declared.front.Front.{Front}
use Rattle.snd_chunks.specs.Chunks.{chunk_at, padded_end, tail}
use Rattle.snd_disk.specs.Runs.{HasAt, HasFieldOf}
use Rattle.snd_fields.proofs.Numbers.{length-bytes_of, number_fits, number_of_bytes, number_same, bytes_are_bytes}
use Rattle.snd_fields.specs.Field.{bytes_of, number}
use Rattle.snd_fields.specs.declared.field.Order.TheVariants.{Little, Big}
use Rattle.snd_layout.specs.Blocks.{is_adpcm}
use Rattle.snd_layout.specs.Container.{HoldDeclared, KeepsHead, counted_shape}
use Rattle.snd_layout.specs.Fit.{fit_refusal}
use Rattle.snd_layout.specs.Params.{AreParams, Parameters, data_bytes}
use Rattle.snd_layout.specs.Shape.{Shape, end}
use Rattle.snd_layout.specs.declared.codec.Codec.{Codec}
use Rattle.snd_layout.specs.declared.codec.Codec.TheVariants.{U8, S8, S16, S24, S32, MuLaw, ALaw, Ima, Ms}
use Rattle.snd_layout.specs.declared.kind.Kind.TheVariants.{Rf64, Wave}
use Rattle.snd_layout.specs.declared.piece.Piece.{Piece}
use Rattle.snd_wave.proofs.Public.{counted, counted_bytes, in_field}
use Rattle.snd_chunks.specs.Parts.{whole_frames}
use Rattle.snd_wave.specs.Layout.{pieces_of}
use Rattle.snd_rf64.specs.Layout.{data_end, held, outer_end, rf64_front, rf64_layout, rf64_shape, rf64_tail, shape_at, sizes_in}
use Rattle.snd_rf64.specs.Values.{closing, inner_value, outer_value}
use Rattle.snd_rf64.specs.declared.sizes.Sizes.{Sizes}
use Rattle.snd_rf64.proofs.Stays.{Stays, stays}

-- ---- what closes data

pub closed_odd : (h : Shape) (n bytes : ℕ) (first v : List ℕ) → bytes ≡ data_bytes h.params n → bytes % 2 ≡ 1 → first ≡ [] → v ≡ first ++ 0 ∷ [] → v ≡ closing h n
unfolding closing
closed_odd h n bytes first v counted odd none put = put ∙ ap (λ (l : List ℕ). l ++ 0 ∷ []) none ∙ ap (λ k. replicate k 0) (sym odd ∙ ap (λ k. k % 2) counted)

pub closed_even : (h : Shape) (n bytes : ℕ) (v : List ℕ) → bytes ≡ data_bytes h.params n → (bytes % 2 ≡ 1 → ⊥) → v ≡ [] → v ≡ closing h n
unfolding closing
closed_even h n bytes v counted even none =
    let zero : bytes % 2 ≡ 0 = omega (arith, even) in
    none ∙ ap (λ k. replicate k 0) (sym zero ∙ ap (λ k. k % 2) counted)

pub outer_is : (h : Shape) (n start bytes size : ℕ) (v : List ℕ) → h.start ≡ start → bytes ≡ data_bytes h.params n → size ≡ padded_end start bytes - 8 → v ≡ bytes_of Little 8 size → v ≡ outer_value h n
unfolding outer_value
outer_is h n start bytes size v at counted is put = put ∙ ap (bytes_of Little 8) (is ∙ ap (λ k. padded_end k bytes - 8) (sym at) ∙ ap (λ k. padded_end h.start k - 8) counted)

-- ---- codecs

codecs : (c r : ℕ) (codec : Codec) → fit_refusal Rf64 (record { channels = c; rate = r; codec = codec }) ≡ None → (is_adpcm codec ≡ false) × (fit_refusal Wave (record { channels = c; rate = r; codec = codec }) ≡ None)
codecs c r U8 fits = (refl, refl)
codecs c r S8 fits = absurd (cc)
codecs c r (S16 Little) fits = (refl, refl)
codecs c r (S16 Big) fits = absurd (cc)
codecs c r (S24 Little) fits = (refl, refl)
codecs c r (S24 Big) fits = absurd (cc)
codecs c r (S32 Little) fits = (refl, refl)
codecs c r (S32 Big) fits = absurd (cc)
codecs c r MuLaw fits = (refl, refl)
codecs c r ALaw fits = (refl, refl)
codecs c r (Ima align per_block) fits = absurd (cc)
codecs c r (Ms align per_block) fits = absurd (cc)

-- what RF64 holds is not ADPCM, and WAVE holds it
pub plain_codec : (p : Parameters) → fit_refusal Rf64 p ≡ None → is_adpcm p.codec ≡ false
plain_codec p fits = (codecs p.channels p.rate p.codec fits).0

pub fits_wave : (p : Parameters) → fit_refusal Rf64 p ≡ None → fit_refusal Wave p ≡ None
fits_wave p fits = (codecs p.channels p.rate p.codec fits).1

-- the frames of data of so many
pub frames_of : (p : Parameters) (n : ℕ) → AreParams p → fit_refusal Rf64 p ≡ None → whole_frames p (data_bytes p n) ≡ n
frames_of p n good fits = counted p n None good (fits_wave p fits) (λ is. absurd (let no : true ≡ false = sym is ∙ plain_codec p fits in cc))

pub frames_few : (p : Parameters) (bytes : ℕ) → AreParams p → fit_refusal Rf64 p ≡ None → data_bytes p (whole_frames p bytes) ≤ bytes
frames_few p bytes good fits = counted_bytes p bytes None good (fits_wave p fits)

-- ---- numbers

same_as_bytes : (b : List ℕ) (p n : ℕ) → HasAt b p (bytes_of Little 8 n) → number Little b p 8 ≡ number Little (bytes_of Little 8 n) 0 8
same_as_bytes b p n has =
    number_same Little 8 p 0 b (bytes_of Little 8 n) (λ i q r lt qe re.
    let same : i ≡ r = omega (arith, re) in
    ap (λ k. get_or b k 0) qe ∙ has i (omega (arith, length-bytes_of Little 8 n)) ∙ ap (λ k. get_or (bytes_of Little 8 n) k 0) same)

pub has_long : (b : List ℕ) (p n : ℕ) → HasAt b p (bytes_of Little 8 n) → n < 2 ^ 64 → number Little b p 8 ≡ n
has_long b p n has few = same_as_bytes b p n has ∙ number_of_bytes Little 8 n few

pub long_least : (b : List ℕ) (p n : ℕ) → HasAt b p (bytes_of Little 8 n) → number Little b p 8 ≤ n
long_least b p n has = elim (cases_lt n (2 ^ 64)) [
  | inl few ↦ omega (arith, has_long b p n has few)
  | inr many ↦
      let fits : number Little (bytes_of Little 8 n) 0 8 < 2 ^ 64 = number_fits Little (bytes_of Little 8 n) 0 8 (bytes_are_bytes Little 8 n).1 in
      omega (arith, same_as_bytes b p n has, fits, many)
]

-- ---- a file that does not go on behind its data

pub free_shape : (b : List ℕ) (sizes : Sizes) (f : Front) (p : Parameters) (start : ℕ) → outer_end (length b) sizes.whole ≤ data_end (length b) start sizes.sound
    → rf64_shape b sizes f p start ≡ shape_at p start (whole_frames p (held (length b) start sizes.sound)) sizes.sound false (pieces_of false f.chunks)
free_shape b sizes f p start ends =
    let frames = whole_frames p (held (length b) start sizes.sound) in
    let none : rf64_tail b sizes f start ≡ [] = no_tail Little b (outer_end (length b) sizes.whole) (255 - length f.chunks) (data_end (length b) start sizes.sound) ends in
    ap (λ t. shape_at p start frames sizes.sound t (pieces_of false f.chunks ++ pieces_of true (rf64_tail b sizes f start))) (le-ltb (data_end (length b) start sizes.sound) (outer_end (length b) sizes.whole) ends)
    ∙ ap (λ (l : List Chunk). shape_at p start frames sizes.sound false (pieces_of false f.chunks ++ pieces_of true l)) none
    ∙ ap (λ (l : List Piece). shape_at p start frames sizes.sound false l) (append-nil (pieces_of false f.chunks))

pub free_ends : (x b : List ℕ) (h : Shape) (there : Stays x b h) → h.trailing ≡ false → outer_end (length b) there.sizes.whole ≤ data_end (length b) there.sound.at there.sizes.sound
free_ends x b h there free =
    ltb-false (data_end (length b) there.sound.at there.sizes.sound) (outer_end (length b) there.sizes.whole) (sym (ap (λ (s : Shape). s.trailing) there.old) ∙ free)

-- ---- the old count

pub old_count : (b x : List ℕ) (h : Shape) → rf64_layout b ≡ Ok h → h.trailing ≡ false → HoldDeclared h b x → KeepsHead h b x → HasFieldOf x b h.inner.at h.inner.size
    → outer_end (length x) (number Little x 20 8) ≤ padded_end h.start h.declared → rf64_layout x ≡ Ok h
old_count b x h is free hold keeps inner ends =
    let there : Stays x b h = stays x b h is (omega (arith, hold.new)) keeps in
    let s : Sizes = there.sizes in
    let f : Front = rf64_front b s.next in
    let p : Parameters = there.params in
    let start : h.start ≡ there.sound.at = ap (λ (s : Shape). s.start) there.old in
    let declared : h.declared ≡ s.sound = ap (λ (s : Shape). s.declared) there.old in
    let inner_too : HasFieldOf x b 28 8 = rw there.old at inner in
    let size : number Little x 28 8 ≡ number Little b 28 8 = same_number_at Little 8 28 x b (λ i from to. in_field x b 28 8 i inner_too from to) in
    let sound : (sizes_in x).sound ≡ s.sound = ap (λ n. min n (2 ^ 63 - 1)) size ∙ sym (ap (λ (t : Sizes). t.sound) there.told) in
    let by_x : outer_end (length x) (sizes_in x).whole ≤ data_end (length x) there.sound.at (sizes_in x).sound = omega (arith, ends, start, declared, sound, hold.new) in
    let held_same : held (length x) there.sound.at (sizes_in x).sound ≡ held (length b) there.sound.at s.sound = omega (arith, start, declared, sound, hold.new, hold.old) in
    there.new
    ∙ ap (λ (t : Shape). Ok t) (free_shape x (sizes_in x) f p there.sound.at by_x
    ∙ ap (λ n. shape_at p there.sound.at (whole_frames p n) (sizes_in x).sound false (pieces_of false f.chunks)) held_same
    ∙ ap (λ n. shape_at p there.sound.at (whole_frames p (held (length b) there.sound.at s.sound)) n false (pieces_of false f.chunks)) sound
    ∙ sym (free_shape b s f p there.sound.at (free_ends x b h there free)) ∙ sym there.old)

-- ---- the new count

pub new_count : (b x : List ℕ) (h : Shape) (n : ℕ) → rf64_layout b ≡ Ok h → AreParams h.params → h.trailing ≡ false → end h n + 8 ≤ 2 ^ 63 → KeepsHead h b x → HasAt x h.inner.at (inner_value h n)
    → h.start + data_bytes h.params n ≤ length x → outer_end (length x) (number Little x 20 8) ≤ padded_end h.start (data_bytes h.params n) → rf64_layout x ≡ Ok (counted_shape h n)
unfolding inner_value
new_count b x h n is good free on_disk keeps inner long ends =
    let there : Stays x b h = stays x b h is (omega (arith, long)) keeps in
    let s : Sizes = there.sizes in
    let f : Front = rf64_front b s.next in
    let p : Parameters = there.params in
    let at : ℕ = there.sound.at in
    let start : h.start ≡ at = ap (λ (s : Shape). s.start) there.old in
    let params : h.params ≡ p = ap (λ (s : Shape). s.params) there.old in
    let good_too : AreParams p = rw params at good in
    let bytes : data_bytes h.params n ≡ data_bytes p n = ap (λ (q : Parameters). data_bytes q n) params in
    let place : h.inner.at ≡ 28 = ap (λ (s : Shape). s.inner.at) there.old in
    let inner_too : HasAt x 28 (bytes_of Little 8 (data_bytes h.params n)) = subst (λ k. HasAt x k (bytes_of Little 8 (data_bytes h.params n))) place inner in
    let size : number Little x 28 8 ≡ data_bytes p n = has_long x 28 (data_bytes h.params n) inner_too (omega (arith, on_disk)) ∙ bytes in
    let sound : (sizes_in x).sound ≡ data_bytes p n = ap (λ n. min n (2 ^ 63 - 1)) size ∙ omega (arith, on_disk, bytes) in
    let by_x : outer_end (length x) (sizes_in x).whole ≤ data_end (length x) at (sizes_in x).sound = omega (arith, ends, start, bytes, sound, long) in
    let all : held (length x) at (sizes_in x).sound ≡ data_bytes p n = omega (arith, start, bytes, sound, long, on_disk) in
    there.new
    ∙ ap (λ (t : Shape). Ok t) (free_shape x (sizes_in x) f p at by_x
    ∙ ap (λ m. shape_at p at (whole_frames p m) (sizes_in x).sound false (pieces_of false f.chunks)) all
    ∙ ap (λ m. shape_at p at m (sizes_in x).sound false (pieces_of false f.chunks)) (frames_of p n good_too there.fits)
    ∙ ap (λ m. shape_at p at n m false (pieces_of false f.chunks)) sound
    ∙ sym (ap (λ (t : Shape). counted_shape t n) (there.old ∙ free_shape b s f p at (free_ends x b h there free))))

-- ---- the data alone

-- the data of the frames end with those that the file holds
pub frames_end : (x b : List ℕ) (h : Shape) (there : Stays x b h) → AreParams h.params → end h h.frames ≤ data_end (length b) there.sound.at there.sizes.sound
frames_end x b h there good =
    let good_too : AreParams there.params = rw there.old at good in
    let few = frames_few there.params (held (length b) there.sound.at there.sizes.sound) good_too there.fits in
    rw there.old (omega (arith, few))

pub same_outside : (b x : List ℕ) (h : Shape) → rf64_layout b ≡ Ok h → AreParams h.params → h.start ≤ length b → length x ≡ length b
    → ((i : ℕ) → (i < h.start) ⊎ (end h h.frames ≤ i) → get_or x i 0 ≡ get_or b i 0) → rf64_layout x ≡ Ok h
same_outside b x h is good within long same =
    let there : Stays x b h = stays x b h is (omega (arith, long, within)) (λ i lt out. same i (inl lt)) in
    let s : Sizes = there.sizes in
    let f : Front = rf64_front b s.next in
    let p : Parameters = there.params in
    let at : ℕ = there.sound.at in
    let start : h.start ≡ at = ap (λ (s : Shape). s.start) there.old in
    let most : ℕ = 255 - length f.chunks in
    let early : (k j : ℕ) → j + k ≤ 48 → number Little x j k ≡ number Little b j k = λ k j few. same_number_at Little k j x b (λ i from to. same i (inl (omega (arith, few, to, start, there.begin.least, there.behind)))) in
    let sizes_are : sizes_in x ≡ s = rw (early 4 16 (omega arith), early 8 20 (omega arith), early 8 28 (omega arith)) (sym there.told) in
    let ended : end h h.frames ≤ data_end (length b) at s.sound = frames_end x b h there good in
    let tails : tail (chunk_at Little x) (outer_end (length b) s.whole) most (data_end (length b) at s.sound) ≡ rf64_tail b s f at =
    tail_from_same Little x b (outer_end (length b) s.whole) most (data_end (length b) at s.sound) long (λ i from. same i (inr (omega (arith, ended, from)))) in
    let shape_with : ℕ → Shape = λ m. shape_at p at (whole_frames p (held m at s.sound)) s.sound (nat_lt (data_end m at s.sound) (outer_end m s.whole))
    (pieces_of false f.chunks ++ pieces_of true (tail (chunk_at Little x) (outer_end m s.whole) most (data_end m at s.sound))) in
    there.new
    ∙ ap (λ (t : Shape). Ok t) (ap (λ (t : Sizes). rf64_shape x t f p at) sizes_are ∙ ap shape_with long
    ∙ ap (λ (l : List Chunk). shape_at p at (whole_frames p (held (length b) at s.sound)) s.sound (nat_lt (data_end (length b) at s.sound) (outer_end (length b) s.whole)) (pieces_of false f.chunks ++ pieces_of true l)) tails
    ∙ sym there.old)
