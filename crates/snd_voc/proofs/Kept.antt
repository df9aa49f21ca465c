-- The laws of Creative Voice files.
use Rattle.std.proofs.Common.{◌≡◌, ◌⊎◌, ℕ, ◌+◌, ◌-◌, ◌*◌, ◌/◌, ◌<◌, ◌≤◌, ◌^◌, Bool, true, false, List, [], ◌∷◌, All, length, get_or, Option, None, Some, Ok, refl, sym, ap, ◌∙◌, inl, inr, arith}
use Rattle.std.proofs.lemmas.Bool.{cases_Bool, cases_lt, eq-eqb, eqb-true, le-ltb, lt-leb, ltb-true, ne_eqb}
use Rattle.std.proofs.lemmas.List.{get_or_past}
use Rattle.std.specs.Prelude.{◌==◌, IsTrue, min, nat_le, nat_lt}
use Rattle.snd_disk.specs.Runs.{HasAt}
use Rattle.snd_fields.proofs.Numbers.{bytes_are_bytes, length-bytes_of, number_fits, number_of_bytes, number_same}
use Rattle.snd_fields.specs.Field.{bytes_of, number}
use Rattle.snd_fields.specs.Laws.{IsByte}
use Rattle.snd_fields.specs.declared.field.Order.TheVariants.{Little}
use Rattle.snd_layout.specs.Blocks.{block_align}
use Rattle.snd_layout.specs.Container.{AreBytes, ClosesNear, EndsAreInOrder, FieldsApart, FillsFields, FitsField, FitsFields, IsNew, KeepsHead, KeepsLaws, KeepsMarks, LiesIn, NewCountReadsBack, OldCountReadsBack, PiecesStay, SameBody, SameOutsideDataReadsBack, SameValues, Says, VoiceDeclares, VoiceReadsBack, is_in_fields}
use Rattle.snd_layout.specs.Fit.{fit_refusal}
use Rattle.snd_layout.specs.Params.{AreParams, Parameters, data_bytes}
use Rattle.snd_layout.specs.Shape.{IsPlaced, KeepsRule, Shape, end, is_kinds_start, room}
use Rattle.snd_layout.specs.declared.field.Field.{Field}
use Rattle.snd_layout.specs.declared.kind.Kind.TheVariants.{Voc}
use Rattle.snd_layout.specs.declared.piece.Piece.{Piece}
use Rattle.snd_voc.proofs.Formats.{IsGood, format_good}
use Rattle.snd_voc.proofs.Opens.{SameButSize, formats_there, moved, opens, stands}
use Rattle.snd_layout.proofs.Codecs.{blocks_of, whole_blocks}
use Rattle.snd_voc.proofs.Sizes.{blocks_rest, plain_bytes, quotient_is, some_align}
use Rattle.snd_voc.specs.Container.{voc}
use Rattle.snd_voc.specs.Layout.{data_start, declared, extra, goes_on, held, size_at, voc_layout, voc_shape}
use Rattle.snd_voc.specs.Values.{closing, format_size, inner_value, outer_value, side_value}
use Rattle.snd_voc.proofs.Made.{head_bytes, made_told}
use Rattle.snd_voc.specs.Written.{block_head, file_head, made_shape, voc_head}
use Rattle.snd_voc.specs.declared.blocks.Sound.{Sound}

-- ---- the values

one_closes : (h : Shape) (n : ℕ) → length (closing h n) ≡ 1
unfolding closing
one_closes h n = refl

closes : (h : Shape) → ClosesNear voc h
closes h = record { few = λ n. omega (arith, one_closes h n); ordered = λ n m le. omega (arith, le, one_closes h n, one_closes h m) }

inner_length : (h : Shape) (n : ℕ) → length (inner_value h n) ≡ 3
unfolding inner_value
inner_length h n = length-bytes_of Little 3 (data_bytes h.params n + format_size h)

no_outer : (h : Shape) (n : ℕ) → outer_value h n ≡ []
unfolding outer_value
no_outer h n = refl

no_side : (h : Shape) (n : ℕ) → side_value h n ≡ []
unfolding side_value
no_side h n = refl

fits_any : (field : Option Field) (v : List ℕ) → v ≡ [] → FitsField field v
fits_any None v none = tt
fits_any (Some field) v none = omega (arith, ap length none)

fit : (h : Shape) (frames : ℕ) → h.kind ≡ Voc → KeepsRule h → FitsFields voc h frames
fit h frames kind rule =
    let size : (h.inner.size == 3) ≡ true = rw kind at rule.inner_size in
    record {
      inner = omega (arith, inner_length h frames, eqb-true h.inner.size 3 size);
      few_inner = omega (arith, inner_length h frames);
      outer = fits_any h.outer (outer_value h frames) (no_outer h frames);
      few_outer = omega (arith, ap length (no_outer h frames));
      side = fits_any h.side (side_value h frames) (no_side h frames);
      few_side = omega (arith, ap length (no_side h frames));
    }

free : (h : Shape) (frames declared : ℕ) (trailing : Bool) (n : ℕ) → SameValues voc h (record h { frames = frames; declared = declared; trailing = trailing }) n
unfolding inner_value outer_value side_value closing
free h frames declared trailing n = record { inner = refl; outer = refl; side = refl; closing = refl }

no_bytes : All IsByte []
no_bytes k d lt = absurd (omega (arith, lt))

zero_byte : All IsByte (0 ∷ [])
zero_byte k d lt = let first : k ≡ 0 = omega (arith, lt) in rw first (omega arith)

bytes : (h : Shape) (frames : ℕ) → AreBytes voc h frames
unfolding inner_value outer_value side_value closing
bytes h frames = record { inner = (bytes_are_bytes Little 3 (data_bytes h.params frames + format_size h)).1; outer = no_bytes; side = no_bytes; closing = zero_byte }

order : EndsAreInOrder voc
order b h frames says = (λ le. omega (arith, le, one_closes h frames), λ le. omega (arith, le, one_closes h frames))

-- ---- the shape

off_fields : (h : Shape) (at i : ℕ) → h.inner ≡ record { at = at; size = 3 } → h.outer ≡ None → h.side ≡ None → (i < at) ⊎ (at + 3 ≤ i) → is_in_fields h i ≡ false
off_fields h at i inner outer side (inl before) =
    let test : nat_le at i ≡ false = lt-leb at i before in
    rw (inner, outer, side, test) refl
off_fields h at i inner outer side (inr behind) =
    let test : nat_lt i (at + 3) ≡ false = le-ltb i (at + 3) behind in
    elim (cases_Bool (nat_le at i)) [
      | inl from ↦ rw (inner, outer, side, test, from) refl
      | inr before ↦ rw (inner, outer, side, test, before) refl
    ]

-- what a layout says, whatever stands behind the data
record IsOf (b : List ℕ) (h : Shape) (s : Sound) (p : Parameters) : Type 0 where
  kind : h.kind ≡ Voc
  params : h.params ≡ p
  start : h.start ≡ data_start s
  frames : h.frames ≡ held (length b) (data_start s) (declared b s) / block_align p.channels p.codec
  stated : h.declared ≡ declared b s
  inner : h.inner ≡ record { at = s.at + 1; size = 3 }
  at : h.inner.at ≡ s.at + 1
  size : h.inner.size ≡ 3
  outer : h.outer ≡ None
  side : h.side ≡ None
  pieces : h.pieces ≡ []
  reserve : h.reserve ≡ None

is_of : (b : List ℕ) (h : Shape) (t : Bool) (s : Sound) (p : Parameters) → record h { trailing = t } ≡ voc_shape b s p → IsOf b h s p
is_of b h t s p is = record {
  kind = ap (λ (g : Shape). g.kind) is;
  params = ap (λ (g : Shape). g.params) is;
  start = ap (λ (g : Shape). g.start) is;
  frames = ap (λ (g : Shape). g.frames) is;
  stated = ap (λ (g : Shape). g.declared) is;
  inner = ap (λ (g : Shape). g.inner) is;
  at = ap (λ (g : Shape). g.inner.at) is;
  size = ap (λ (g : Shape). g.inner.size) is;
  outer = ap (λ (g : Shape). g.outer) is;
  side = ap (λ (g : Shape). g.side) is;
  pieces = ap (λ (g : Shape). g.pieces) is;
  reserve = ap (λ (g : Shape). g.reserve) is;
}

-- the layout of another file with the same parts
recast : (x b : List ℕ) (h : Shape) (t : Bool) (s : Sound) (p : Parameters) (frames stated : ℕ) → record h { trailing = t } ≡ voc_shape b s p → (voc_shape x s p).frames ≡ frames → declared x s ≡ stated
    → voc_shape x s p ≡ record h { frames = frames; declared = stated; trailing = goes_on x (data_start s + declared x s) }
recast x b h t s p frames stated is counted states =
    ap (λ (g : Shape). record g { frames = (voc_shape x s p).frames; declared = declared x s; trailing = goes_on x (data_start s + declared x s) }) (sym is)
    ∙ ap (λ k. record h { frames = k; declared = declared x s; trailing = goes_on x (data_start s + declared x s) }) counted
    ∙ ap (λ k. record h { frames = frames; declared = k; trailing = goes_on x (data_start s + declared x s) }) states

beside_size : (b x : List ℕ) (h : Shape) (s : Sound) (p : Parameters) → IsOf b h s p → KeepsHead h b x → SameButSize (s.at + 1) (data_start s) x b
beside_size b x h s p f keeps i lt beside = keeps i (omega (arith, f.start, lt)) (off_fields h (s.at + 1) i f.inner f.outer f.side beside)

small_extra : (s : Sound) → extra s ≤ 12
small_extra s = elim (cases_Bool (s.kind == 1)) [ inl one ↦ rw one (omega arith) | inr other ↦ rw other (omega arith) ]

-- the room of a head is what its 24 bits leave
room_is : (h : Shape) (s : Sound) → h.kind ≡ Voc → h.start ≡ data_start s → h.inner.at ≡ s.at + 1 → room h + extra s ≡ 2 ^ 24 - 1
room_is h s kind start at = elim (cases_Bool (s.kind == 1)) [
  | inl one ↦
      let extra_is : extra s ≡ 2 = rw one refl in
      let test : (h.start == h.inner.at + 5) ≡ true = eq-eqb h.start (h.inner.at + 5) (omega (arith, start, at, extra_is)) in
      let room_of : room h ≡ 2 ^ 24 - 3 = rw (kind, test) refl in
      omega (arith, room_of, extra_is)
  | inr other ↦
      let extra_is : extra s ≡ 12 = rw other refl in
      let test : (h.start == h.inner.at + 5) ≡ false = ne_eqb h.start (h.inner.at + 5) (λ same. omega (arith, start, at, extra_is, same)) in
      let room_of : room h ≡ 2 ^ 24 - 13 = rw (kind, test) refl in
      omega (arith, room_of, extra_is)
]

-- ---- partly old and partly new

old : OldCountReadsBack voc
old b x h says bytes_are free known hold keeps inner reach =
    let o = opens b (record h { trailing = says.goes_on }) says.told in
    let st = stands b (record h { trailing = says.goes_on }) o in
    let f : IsOf b h o.sound o.params = is_of b h says.goes_on o.sound o.params o.shape in
    let size : size_at x o.sound.at ≡ size_at b o.sound.at = number_same Little 3 (o.sound.at + 1) (o.sound.at + 1) x b (λ i q r lt qe re.
    let by_q : h.inner.at + i ≡ q = omega (arith, f.at, qe) in
    let by_r : h.inner.at + i ≡ r = omega (arith, f.at, re) in
    rw (← by_q, ← by_r) (inner i (omega (arith, f.size, lt)))) in
    let told = moved x b (record h { trailing = says.goes_on }) o (beside_size b x h o.sound o.params f keeps) (omega (arith, hold.new, f.start)) (omega (arith, size, st.enough)) in
    let states : declared x o.sound ≡ h.declared = ap (λ k. min (2 ^ 63 - 1) (k - extra o.sound)) size ∙ sym f.stated in
    let few : size_at b o.sound.at < 2 ^ 24 = number_fits Little b (o.sound.at + 1) 3 bytes_are in
    let near : o.sound.at ≤ 2 ^ 40 = st.near bytes_are in
    let short : h.declared < 2 ^ 24 = omega (arith, f.stated, few) in
    let start : data_start o.sound ≤ 2 ^ 41 = omega (arith, near, small_extra o.sound) in
    let in_x : held (length x) (data_start o.sound) (declared x o.sound) ≡ h.declared = omega (arith, hold.new, f.start, states, short, start) in
    let in_b : held (length b) (data_start o.sound) (declared b o.sound) ≡ h.declared = omega (arith, hold.old, f.start, f.stated, short, start) in
    let counted : (voc_shape x o.sound o.params).frames ≡ h.frames = ap (λ k. k / block_align o.params.channels o.params.codec) (in_x ∙ sym in_b) ∙ sym f.frames in
    record {
      goes_on = goes_on x (data_start o.sound + declared x o.sound);
      told = told ∙ ap (λ (g : Shape). Ok g) (recast x b h says.goes_on o.sound o.params h.frames h.declared o.shape counted states);
      same = inl f.kind;
    }

stated_size : (x : List ℕ) (h : Shape) (at frames n : ℕ) → h.inner.at ≡ at → HasAt x h.inner.at (inner_value h frames) → data_bytes h.params frames + format_size h ≡ n → n < 2 ^ 24 → number Little x at 3 ≡ n
unfolding inner_value
stated_size x h at frames n at_is has is fits =
    let length_is : length (bytes_of Little 3 (data_bytes h.params frames + format_size h)) ≡ 3 = length-bytes_of Little 3 (data_bytes h.params frames + format_size h) in
    number_same Little 3 at 0 x (bytes_of Little 3 (data_bytes h.params frames + format_size h)) (λ i q r lt qe re.
    let by_q : h.inner.at + i ≡ q = omega (arith, at_is, qe) in
    let by_r : i ≡ r = omega (arith, re) in
    rw (← by_q, ← by_r) (has i (omega (arith, length_is, lt))))
    ∙ ap (λ k. number Little (bytes_of Little 3 k) 0 3) is ∙ number_of_bytes Little 3 n fits

new : NewCountReadsBack voc
new b x h frames may keeps has closed reach =
    let says = may.says in
    let o = opens b (record h { trailing = says.goes_on }) says.told in
    let st = stands b (record h { trailing = says.goes_on }) o in
    let f : IsOf b h o.sound o.params = is_of b h says.goes_on o.sound o.params o.shape in
    let good : IsGood o.params = format_good b o.sound o.params (formats_there b o.sound o.params o.read).1 in
    let few : size_at b o.sound.at < 2 ^ 24 = number_fits Little b (o.sound.at + 1) 3 may.bytes in
    let room : room h + extra o.sound ≡ 2 ^ 24 - 1 = room_is h o.sound f.kind f.start f.at in
    let format : format_size h ≡ extra o.sound = omega (arith, f.start, f.at) in
    let size_fits : data_bytes h.params frames + extra o.sound < 2 ^ 24 = omega (arith, may.room.in_room, room, few, f.stated, st.enough) in
    let size : size_at x o.sound.at ≡ data_bytes h.params frames + extra o.sound = stated_size x h (o.sound.at + 1) frames (data_bytes h.params frames + extra o.sound) f.at has (omega (arith, format)) size_fits in
    let ends : h.start + data_bytes h.params frames ≤ length x = closed in
    let told = moved x b (record h { trailing = says.goes_on }) o (beside_size b x h o.sound o.params f keeps) (omega (arith, ends, f.start)) (omega (arith, size)) in
    let states : declared x o.sound ≡ data_bytes h.params frames = omega (arith, size, size_fits) in
    let plain : data_bytes h.params frames ≡ frames * block_align o.params.channels o.params.codec = ap (λ (q : Parameters). data_bytes q frames) f.params ∙ plain_bytes o.params frames good.1 in
    let in_x : held (length x) (data_start o.sound) (declared x o.sound) ≡ frames * block_align o.params.channels o.params.codec = omega (arith, states, plain, ends, f.start, may.on_disk) in
    let counted : (voc_shape x o.sound o.params).frames ≡ frames = ap (λ k. k / block_align o.params.channels o.params.codec) in_x ∙ blocks_of frames (block_align o.params.channels o.params.codec) (some_align o.params good.0 good.1) in
    record {
      goes_on = goes_on x (data_start o.sound + declared x o.sound);
      told = told ∙ ap (λ (g : Shape). Ok g) (recast x b h says.goes_on o.sound o.params frames (data_bytes h.params frames) o.shape counted states);
      same = inl f.kind;
    }

-- the frames end with the data that the file holds
frames_end : (b : List ℕ) (h : Shape) (s : Sound) (p : Parameters) → IsOf b h s p → IsGood p → data_bytes h.params h.frames ≤ held (length b) (data_start s) (declared b s)
frames_end b h s p f good =
    let plain : data_bytes h.params h.frames ≡ h.frames * block_align p.channels p.codec = ap (λ (q : Parameters). data_bytes q h.frames) f.params ∙ plain_bytes p h.frames good.1 in
    let blocks : h.frames * block_align p.channels p.codec ≡ held (length b) (data_start s) (declared b s) / block_align p.channels p.codec * block_align p.channels p.codec = ap (λ k. k * block_align p.channels p.codec) f.frames in
    omega (arith, plain, blocks, whole_blocks (held (length b) (data_start s) (declared b s)) (block_align p.channels p.codec))

outside : SameOutsideDataReadsBack voc
outside b x h is params long same =
    let o = opens b h is in
    let st = stands b h o in
    let f : IsOf b h o.sound o.params = is_of b h h.trailing o.sound o.params o.shape in
    let good : IsGood o.params = format_good b o.sound o.params (formats_there b o.sound o.params o.read).1 in
    let before : (i : ℕ) → i < data_start o.sound → get_or x i 0 ≡ get_or b i 0 = λ i lt. same i (inl (omega (arith, lt, f.start))) in
    let size : size_at x o.sound.at ≡ size_at b o.sound.at = number_same Little 3 (o.sound.at + 1) (o.sound.at + 1) x b (λ i q r lt qe re. rw (qe, re) (before (o.sound.at + 1 + i) (omega (arith, lt)))) in
    let told = moved x b h o (λ i lt beside. before i lt) (omega (arith, st.there, long)) (omega (arith, size, st.enough)) in
    let states : declared x o.sound ≡ declared b o.sound = ap (λ k. min (2 ^ 63 - 1) (k - extra o.sound)) size in
    let last : end h h.frames ≤ data_start o.sound + declared b o.sound = omega (arith, f.start, frames_end b h o.sound o.params f good) in
    let byte : get_or x (data_start o.sound + declared b o.sound) 0 ≡ get_or b (data_start o.sound + declared b o.sound) 0 = same (data_start o.sound + declared b o.sound) (inr last) in
    let more : goes_on x (data_start o.sound + declared b o.sound) ≡ goes_on b (data_start o.sound + declared b o.sound) = rw (long, byte) refl in
    let in_x : (voc_shape x o.sound o.params).frames ≡ h.frames = ap (λ k. held k (data_start o.sound) (declared x o.sound) / block_align o.params.channels o.params.codec) long ∙ ap (λ k. held (length b) (data_start o.sound) k / block_align o.params.channels o.params.codec) states ∙ sym f.frames in
    let trailing : goes_on x (data_start o.sound + declared x o.sound) ≡ h.trailing = ap (λ k. goes_on x (data_start o.sound + k)) states ∙ more ∙ sym (ap (λ (g : Shape). g.trailing) o.shape) in
    told ∙ ap (λ (g : Shape). Ok g) (recast x b h h.trailing o.sound o.params h.frames h.declared o.shape in_x (states ∙ sym f.stated) ∙ ap (λ (t : Bool). record h { trailing = t }) trailing)

-- a file goes on behind a place within it alone
goes_within : (b : List ℕ) (place : ℕ) → goes_on b place ≡ true → place < length b
goes_within b place more = elim (cases_lt place (length b)) [
  | inl within ↦ within
  | inr past ↦ absurd (
      let test : nat_lt (place + 1) (length b) ≡ false = le-ltb (place + 1) (length b) (omega (arith, past)) in
      let none : get_or b place 0 ≡ 0 = get_or_past b place 0 past in
      let h = rw (test, none) at more in cc)
]

voice : VoiceReadsBack voc
voice b x h says kind few_declared ends same =
    let o = opens b (record h { trailing = says.goes_on }) says.told in
    let st = stands b (record h { trailing = says.goes_on }) o in
    let f : IsOf b h o.sound o.params = is_of b h says.goes_on o.sound o.params o.shape in
    let good : IsGood o.params = format_good b o.sound o.params (formats_there b o.sound o.params o.read).1 in
    let before : (i : ℕ) → i < data_start o.sound → get_or x i 0 ≡ get_or b i 0 = λ i lt. same i (omega (arith, lt, f.start)) in
    let size : size_at x o.sound.at ≡ size_at b o.sound.at = number_same Little 3 (o.sound.at + 1) (o.sound.at + 1) x b (λ i q r lt qe re. rw (qe, re) (before (o.sound.at + 1 + i) (omega (arith, lt)))) in
    let told = moved x b (record h { trailing = says.goes_on }) o (λ i lt beside. before i lt) (omega (arith, ends, f.start)) (omega (arith, size, st.enough)) in
    let states : declared x o.sound ≡ declared b o.sound = ap (λ k. min (2 ^ 63 - 1) (k - extra o.sound)) size in
    let align : ℕ = block_align o.params.channels o.params.codec in
    let plain : data_bytes h.params h.frames ≡ h.frames * align = ap (λ (q : Parameters). data_bytes q h.frames) f.params ∙ plain_bytes o.params h.frames good.1 in
    let next : data_bytes h.params (h.frames + 1) ≡ (h.frames + 1) * align = ap (λ (q : Parameters). data_bytes q (h.frames + 1)) f.params ∙ plain_bytes o.params (h.frames + 1) good.1 in
    let some : 1 ≤ align = some_align o.params good.0 good.1 in
    let inside : data_bytes h.params h.frames ≤ held (length b) (data_start o.sound) (declared b o.sound) = frames_end b h o.sound o.params f good in
    let least : h.frames * align ≤ held (length x) (data_start o.sound) (declared x o.sound) = omega (arith, ends, plain, inside, f.start, states) in
    let most : held (length x) (data_start o.sound) (declared x o.sound) < (h.frames + 1) * align = omega (arith, states, f.stated, few_declared, next) in
    let counted : (voc_shape x o.sound o.params).frames ≡ h.frames = quotient_is h.frames (held (length x) (data_start o.sound) (declared x o.sound)) align some least most in
    record {
      goes_on = goes_on x (data_start o.sound + declared x o.sound);
      told = told ∙ ap (λ (g : Shape). Ok g) (recast x b h says.goes_on o.sound o.params h.frames h.declared o.shape counted (states ∙ sym f.stated));
      same = inl f.kind;
    }

declares : VoiceDeclares voc
declares b h is kind =
    let o = opens b h is in
    let st = stands b h o in
    let f : IsOf b h o.sound o.params = is_of b h h.trailing o.sound o.params o.shape in
    let good : IsGood o.params = format_good b o.sound o.params (formats_there b o.sound o.params o.read).1 in
    let align : ℕ = block_align o.params.channels o.params.codec in
    let next : data_bytes h.params (h.frames + 1) ≡ (h.frames + 1) * align = ap (λ (q : Parameters). data_bytes q (h.frames + 1)) f.params ∙ plain_bytes o.params (h.frames + 1) good.1 in
    let some : 1 ≤ align = some_align o.params good.0 good.1 in
    let all = held (length b) (data_start o.sound) (declared b o.sound) in
    let counted : h.frames * align ≡ all / align * align = ap (λ k. k * align) f.frames in
    let more : (h.frames + 1) * align ≡ h.frames * align + align = omega arith in (
      λ bytes_are trailing.
          let size : size_at b o.sound.at < 2 ^ 24 = number_fits Little b (o.sound.at + 1) 3 bytes_are in
          let near : o.sound.at ≤ 2 ^ 40 = st.near bytes_are in
          let start : data_start o.sound ≤ 2 ^ 41 = omega (arith, near, small_extra o.sound) in
          let within : data_start o.sound + declared b o.sound < length b = goes_within b (data_start o.sound + declared b o.sound) (sym (ap (λ (g : Shape). g.trailing) o.shape) ∙ trailing) in
          omega (arith, next, more, counted, blocks_rest all align some, f.stated, within, f.start, size, start),
      ap (λ (g : Shape). g.pieces) o.shape,
    )

-- ---- layouts

marks : (b : List ℕ) (h : Shape) → voc_layout b ≡ Ok h → KeepsMarks Voc h
marks b h is =
    let o = opens b h is in
    let st = stands b h o in
    let f : IsOf b h o.sound o.params = is_of b h h.trailing o.sound o.params o.shape in
    record {
      is_kind = f.kind;
      marks = λ i mark.
          let early : i < 20 = ltb-true i 20 mark in
          (omega (arith, f.start, st.behind, early), off_fields h (o.sound.at + 1) i f.inner f.outer f.side (inl (omega (arith, st.behind, early))));
    }

no_pieces : (P : Piece → Type 0) (pieces : List Piece) → pieces ≡ [] → All P pieces
no_pieces P pieces none = rw none (λ k d lt. absurd (omega (arith, lt)))

sound_start : (h : Shape) (s : Sound) → h.kind ≡ Voc → h.start ≡ data_start s → h.inner.at ≡ s.at + 1 → IsTrue (is_kinds_start h.kind h.inner h.start)
sound_start h s kind start at = elim (cases_Bool (s.kind == 1)) [
  | inl one ↦
      let extra_is : extra s ≡ 2 = rw one refl in
      let test : (h.start == h.inner.at + 5) ≡ true = eq-eqb h.start (h.inner.at + 5) (omega (arith, start, at, extra_is)) in
      rw (kind, test) refl
  | inr other ↦
      let extra_is : extra s ≡ 12 = rw other refl in
      let first : (h.start == h.inner.at + 5) ≡ false = ne_eqb h.start (h.inner.at + 5) (λ same. omega (arith, start, at, extra_is, same)) in
      let test : (h.start == h.inner.at + 15) ≡ true = eq-eqb h.start (h.inner.at + 15) (omega (arith, start, at, extra_is)) in
      rw (kind, first, test) refl
]

lies : (b : List ℕ) (h : Shape) → All IsByte b → voc_layout b ≡ Ok h → LiesIn b h
lies b h bytes_are is =
    let o = opens b h is in
    let st = stands b h o in
    let f : IsOf b h o.sound o.params = is_of b h h.trailing o.sound o.params o.shape in
    let good : IsGood o.params = format_good b o.sound o.params (formats_there b o.sound o.params o.read).1 in
    let few = frames_end b h o.sound o.params f good in
    let near : o.sound.at ≤ 2 ^ 40 = st.near bytes_are in
    let start : h.start ≤ 2 ^ 41 = omega (arith, f.start, near, small_extra o.sound) in
    let room : room h + extra o.sound ≡ 2 ^ 24 - 1 = room_is h o.sound f.kind f.start f.at in
    let stated : h.declared < 2 ^ 63 = omega (arith, f.stated) in
    record {
      params = rw f.params good.0;
      rule = record {
        fits = rw (f.kind, f.params) good.1;
        inner_size = rw (f.kind, f.size) refl;
        outer_size = rw (f.kind, f.outer) refl;
        side_size = rw (f.kind, f.side) refl;
        inner_end = omega (arith, f.at, f.size, f.start);
        outer_end = rw f.outer tt;
        side_end = rw f.side tt;
        sound_start = sound_start h o.sound f.kind f.start f.at;
        pieces_placed = no_pieces IsPlaced h.pieces f.pieces;
        data_end = omega (arith, few, start, f.start);
        in_room = λ known. omega (arith, few, f.stated);
        declared_fits = stated;
        reserved = rw f.reserve tt;
      };
      within = omega (arith, f.start, st.there);
      held = omega (arith, few, f.start, st.there);
      room_ends = omega (arith, start, room);
      declared = λ known. omega (arith, few, f.stated);
    }

apart : (b : List ℕ) (h : Shape) → Says voc b h → FieldsApart h
apart b h says =
    let o = opens b (record h { trailing = says.goes_on }) says.told in
    let f : IsOf b h o.sound o.params = is_of b h says.goes_on o.sound o.params o.shape in
    record { outer = rw f.outer tt; side = rw f.side tt; others = rw f.outer tt; whole = rw f.outer tt }

fill : (b : List ℕ) (h : Shape) (frames : ℕ) → Says voc b h → FillsFields voc h frames
fill b h frames says =
    let o = opens b (record h { trailing = says.goes_on }) says.told in
    let f : IsOf b h o.sound o.params = is_of b h says.goes_on o.sound o.params o.shape in
    record { inner = inner_length h frames ∙ sym f.size; outer = rw f.outer tt; side = rw f.side tt }

pieces : PiecesStay voc
pieces b x h is params within keeps more =
    let o = opens b h is in
    let f : IsOf b h o.sound o.params = is_of b h h.trailing o.sound o.params o.shape in
    no_pieces (SameBody x b) h.pieces f.pieces

made : (p : Parameters) → AreParams p → fit_refusal Voc p ≡ None → IsNew Voc voc p
unfolding made_shape voc_head file_head block_head
made p good fits = record {
  told = made_told p good fits;
  bytes = head_bytes p good fits;
  is_kind = refl;
  params = refl;
  frames = refl;
  start = refl;
  known = refl;
  free = refl;
  pieces = refl;
}

pub keeps_laws : KeepsLaws Voc voc
keeps_laws = record {
  marks = marks;
  lies = lies;
  old = old;
  new = new;
  outside = outside;
  voice = voice;
  declares = declares;
  reaches = λ b x h frames says has. omega arith;
  stops = λ b x h says free has long. omega arith;
  within = λ kind x. omega arith;
  order = order;
  closes = closes;
  apart = apart;
  fill = fill;
  fit = fit;
  free = free;
  bytes = bytes;
  pieces = pieces;
  made = made;
}
