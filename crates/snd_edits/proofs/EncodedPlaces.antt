-- How many blocks frames fill, and where these stand.
use Rattle.std.proofs.Common.{◌≡◌, ◌∙◌, ap, sym, subst, refl, inl, inr, ⊎_elim, ℕ, ◌+◌, ◌-◌, ◌*◌, ◌/◌, ◌^◌, ◌<◌, ◌≤◌, true, false, length, arith}
use Rattle.std.specs.Prelude.{◌⊎◌, nat_le}
use Rattle.std.proofs.lemmas.Bool.{and_parts}
use Rattle.std.proofs.Math.Nat.{div-eq_of_lt-le, div-mul-le_self, le-div_iff_mul-le, lt-div-mul-add, mul-le-mul_left, mul-le-mul_right}
use Rattle.snd_blocks.specs.Calls.{AreBlocks}
use Rattle.snd_block_writer.proofs.Public.{are_blocks}
use Rattle.snd_block_writer.specs.Coded.{block_numbers}
use Rattle.snd_block_writer.specs.Writing.{Writing, block_end, block_size, new_blocks, next_place, place_after}
use Rattle.snd_layout.specs.Blocks.{block_align, block_frames, is_adpcm}
use Rattle.snd_layout.specs.Container.{HasRoomFor}
use Rattle.snd_layout.specs.Fit.{is_pair}
use Rattle.snd_layout.specs.Params.{AreParams, Parameters, data_bytes}
use Rattle.snd_layout.specs.Shape.{KeepsRule, Shape, end, kind_room, room}
use Rattle.snd_layout.specs.declared.codec.Codec.{Codec}
use Rattle.snd_layout.specs.declared.codec.Codec.TheVariants.{Ima, Ms}
use Rattle.snd_layout.specs.declared.field.Field.{Field}
use Rattle.snd_layout.specs.declared.kind.Kind.{Kind}
use Rattle.snd_layout.specs.declared.kind.Kind.TheVariants.{Wave, W64}
use Rattle.snd_edits.specs.Encoding.{whole_frames}
use Rattle.snd_edits.specs.Pacing.{HasPlaceFor, KeepsPace}
use Rattle.snd_edits.proofs.BlockBytes.{block_sizes, numbers_in}
use Rattle.snd_layout.proofs.Public.{blocks_held, few_channels, is_held}

-- ---- numbers

-- with one channel or two, so many blocks are the whole ones of the frames before a place
pub blocks_before : (ch per blocks waiting more new to : ℕ) → (ch ≡ 1) ⊎ (ch ≡ 2) → 1 ≤ per → to * ch ≡ blocks * per * ch + waiting + more
    → new * (ch * per) ≤ waiting + more → waiting + more < new * (ch * per) + ch * per → ((blocks + new) * per ≤ to) × (to < (blocks + new + 1) * per)
blocks_before ch per blocks waiting more new to few some all least most =
    let sum : (blocks + new) * per ≡ blocks * per + new * per = omega arith in
    let next : (blocks + new + 1) * per ≡ blocks * per + new * per + per = omega arith in
    ⊎_elim
    (λ one.
    let a : to * ch ≡ to = ap (λ (c : ℕ). to * c) one ∙ (let e : to * 1 ≡ to = omega arith in e) in
    let b : blocks * per * ch ≡ blocks * per = ap (λ (c : ℕ). blocks * per * c) one ∙ (let e : blocks * per * 1 ≡ blocks * per = omega arith in e) in
    let c : new * (ch * per) ≡ new * per = ap (λ (c : ℕ). new * (c * per)) one ∙ (let e : new * (1 * per) ≡ new * per = omega arith in e) in
    let d : ch * per ≡ per = ap (λ (c : ℕ). c * per) one ∙ (let e : 1 * per ≡ per = omega arith in e) in
    (omega (arith, a, b, c, all, least, sum), omega (arith, a, b, c, d, all, most, next)))
    (λ two.
    let a : to * ch ≡ 2 * to = ap (λ (c : ℕ). to * c) two ∙ (let e : to * 2 ≡ 2 * to = omega arith in e) in
    let b : blocks * per * ch ≡ 2 * (blocks * per) = ap (λ (c : ℕ). blocks * per * c) two ∙ (let e : blocks * per * 2 ≡ 2 * (blocks * per) = omega arith in e) in
    let c : new * (ch * per) ≡ 2 * (new * per) = ap (λ (c : ℕ). new * (c * per)) two ∙ (let e : new * (2 * per) ≡ 2 * (new * per) = omega arith in e) in
    let d : ch * per ≡ 2 * per = ap (λ (c : ℕ). c * per) two in
    (omega (arith, a, b, c, all, least, sum), omega (arith, a, b, c, d, all, most, next)))
    few

-- so many whole blocks
pub whole_data : (p : Parameters) (blocks : ℕ) → 1 ≤ block_frames p.codec → data_bytes p (blocks * block_frames p.codec) ≡ blocks * block_align p.channels p.codec
whole_data p blocks some =
    let per = block_frames p.codec in
    let next : (blocks + 1) * per ≡ blocks * per + per = omega arith in
    ap (λ (m : ℕ). m * block_align p.channels p.codec) (div-eq_of_lt-le {k = blocks} per {m = blocks * per + per - 1} (omega (arith, some)) (omega (arith, next, some)))

-- the last of so many blocks is among those of frames that reach into it
pub blocks_within : (p : Parameters) (blocks frames : ℕ) → 1 ≤ block_frames p.codec → blocks * block_frames p.codec ≤ frames + block_frames p.codec - 1
    → blocks * block_align p.channels p.codec ≤ data_bytes p frames
blocks_within p blocks frames some reach =
    let per = block_frames p.codec in
    mul-le-mul_right (block_align p.channels p.codec) ((le-div_iff_mul-le {k = per} {x = blocks} {y = frames + per - 1} (omega (arith, some))).1 reach)

pub data_more : (p : Parameters) (n m : ℕ) → 1 ≤ block_frames p.codec → n ≤ m → data_bytes p n ≤ data_bytes p m
data_more p n m some le =
    let per = block_frames p.codec in
    let low = div-mul-le_self (n + per - 1) per in
    blocks_within p ((n + per - 1) / per) m some (omega (arith, low, le))

-- ---- places

module _ (h : Shape) (form : AreBlocks h.params) where
  abbrev per : ℕ
  per = block_frames h.params.codec

  pub whole_least : (to : ℕ) → whole_frames h.params to ≤ to
  whole_least to = div-mul-le_self to per

  module _ (w : Writing) (to more : ℕ) (numbers : block_numbers w.params ≡ block_numbers h.params) (size : block_size w ≡ block_align h.params.channels h.params.codec) (blocks : h.frames ≡ w.blocks * block_frames h.params.codec)
      (all : to * h.params.channels ≡ h.frames * h.params.channels + length w.waiting + more) where
    abbrev ch : ℕ
    ch = h.params.channels

    abbrev new : ℕ
    new = new_blocks w more

    counts : ((w.blocks + new) * per ≤ to) × (to < (w.blocks + new + 1) * per)
    counts =
        let n = block_numbers w.params in
        let low = div-mul-le_self (length w.waiting + more) n in
        let some : 0 < n = ⊎_elim
        (λ one. let e : ch * per ≡ 1 * per = ap (λ (c : ℕ). c * per) one in omega (arith, numbers, e, form.some_frames))
        (λ two. let e : ch * per ≡ 2 * per = ap (λ (c : ℕ). c * per) two in omega (arith, numbers, e, form.some_frames))
        form.channels in
        let high = lt-div-mul-add {a = length w.waiting + more} some in
        let a : new * (ch * per) ≡ new * n = ap (λ (m : ℕ). new * m) (sym numbers) in
        let b : h.frames * ch ≡ w.blocks * per * ch = ap (λ (m : ℕ). m * ch) blocks in
        blocks_before ch per w.blocks (length w.waiting) more new to form.channels form.some_frames (omega (arith, all, b)) (omega (arith, a, low)) (omega (arith, a, high, numbers))

    -- the blocks that are whole then are those of all frames
    pub whole_blocks_then : (w.blocks + new) * block_frames h.params.codec ≡ whole_frames h.params to
    whole_blocks_then = ap (λ (m : ℕ). m * per) (sym (div-eq_of_lt-le {k = w.blocks + new} per {m = to} counts.0 counts.1))

    -- and end with the data of these at the latest
    pub places_within : place_after h.start w more ≤ end h to
    places_within =
        let within = blocks_within h.params (w.blocks + new) to form.some_frames (omega (arith, counts.0, form.some_frames)) in
        let bytes : (w.blocks + new) * block_size w ≡ (w.blocks + new) * block_align h.params.channels h.params.codec = ap (λ (m : ℕ). (w.blocks + new) * m) size in
        omega (arith, within, bytes)

    pub place_behind_whole : place_after h.start w more ≡ end h (whole_frames h.params to)
    place_behind_whole =
        let bytes : (w.blocks + new) * block_size w ≡ (w.blocks + new) * block_align h.params.channels h.params.codec = ap (λ (m : ℕ). (w.blocks + new) * m) size in
        let stored = whole_data h.params (w.blocks + new) form.some_frames in
        ap (λ (m : ℕ). h.start + m) (bytes ∙ sym stored ∙ ap (data_bytes h.params) whole_blocks_then)

    pub next_is_end : next_place h.start w ≡ end h h.frames
    next_is_end =
        let bytes : w.blocks * block_size w ≡ w.blocks * block_align h.params.channels h.params.codec = ap (λ (m : ℕ). w.blocks * m) size in
        ap (λ (m : ℕ). h.start + m) (bytes ∙ sym (whole_data h.params w.blocks form.some_frames) ∙ ap (data_bytes h.params) (sym blocks))

-- ---- room

-- whose heads have room for fewer than 2 ^ 62 bytes behind the start
room_of : (kind : Kind) (p : Parameters) (start : ℕ) (inner : Field) → (kind ≡ Wave) ⊎ (kind ≡ W64)
    → (kind_room kind p start inner ≤ 2 ^ 62) × (start + 8 ≤ 2 ^ 63 → start + kind_room kind p start inner + 8 ≤ 2 ^ 63)
room_of kind p start inner either = ⊎_elim
    (λ is. subst (λ (k : Kind). (kind_room k p start inner ≤ 2 ^ 62) × (start + 8 ≤ 2 ^ 63 → start + kind_room k p start inner + 8 ≤ 2 ^ 63)) (sym is) (omega arith, λ fits. omega (arith, fits)))
    (λ is. subst (λ (k : Kind). (kind_room k p start inner ≤ 2 ^ 62) × (start + 8 ≤ 2 ^ 63 → start + kind_room k p start inner + 8 ≤ 2 ^ 63)) (sym is) (omega arith, λ fits. omega (arith, fits)))
    either

module _ (h : Shape) (rule : KeepsRule h) (blocks : is_adpcm h.params.codec ≡ true) where
  held : (h.kind ≡ Wave) ⊎ (h.kind ≡ W64)
  held = blocks_held h.kind h.params.channels h.params.codec blocks (is_held h.kind h.params rule.fits)

  pub small_room : room h ≤ 2 ^ 62
  small_room = (room_of h.kind h.params h.start h.inner held).0

  pub room_on_disk : h.start + room h + 8 ≤ 2 ^ 63
  room_on_disk = (room_of h.kind h.params h.start h.inner held).1 (omega (arith, rule.data_end))

  pub few_blocks_channels : h.params.channels ≤ 2
  few_blocks_channels = few_channels h.kind h.params.channels h.params.codec blocks (is_held h.kind h.params rule.fits)

  pub blocks_of : AreParams h.params → AreBlocks h.params
  blocks_of good = are_blocks h.params blocks few_blocks_channels good

  -- so many frames have room only if they are fewer than 2 ^ 63
  pub few_frames : AreParams h.params → (frames : ℕ) → data_bytes h.params frames ≤ room h → frames ≤ 2 ^ 63
  few_frames good frames fits =
      let size = block_sizes h rule good blocks in
      let least : frames * 1 ≤ frames * h.params.channels = mul-le-mul_left frames good.some_channel in
      omega (arith, numbers_in frames h.params.channels _ _ size.some size.numbers, fits, small_room, least)

-- ---- what may be counted

pub may_encode : (h : Shape) (place n : ℕ) → 1 ≤ block_frames h.params.codec → HasPlaceFor h place → h.start + room h + 8 ≤ 2 ^ 63 → n ≤ place → HasRoomFor h n × (end h n + 8 ≤ 2 ^ 63)
may_encode h place n some fits roomy le =
    let bytes = data_more h.params n place some le in
    let ends : end h n + 8 ≤ 2 ^ 63 = omega (arith, bytes, fits.fits.in_room, roomy) in
    (record { in_room = omega (arith, bytes, fits.fits.in_room); on_disk = omega (arith, ends); counted = λ wave blocks. omega (arith, fits.fits.few wave, le) }, ends)

-- a number of blocks fits a room by bytes where it does by blocks
pub room_for : (p : Parameters) (frames blocks r align : ℕ) → 1 ≤ block_align p.channels p.codec → blocks ≡ (frames + block_frames p.codec - 1) / block_frames p.codec → align ≡ block_align p.channels p.codec
    → (blocks ≤ r / align → data_bytes p frames ≤ r) × (data_bytes p frames ≤ r → blocks ≤ r / align)
room_for p frames blocks r align some is size =
    let bytes : data_bytes p frames ≡ blocks * align = ap (λ (n : ℕ). n * block_align p.channels p.codec) (sym is) ∙ ap (λ (n : ℕ). blocks * n) (sym size) in
    let by = le-div_iff_mul-le {k = align} {x = blocks} {y = r} (omega (arith, some, size)) in
    (λ few. omega (arith, bytes, by.0 few), λ few. by.1 (omega (arith, bytes, few)))

-- ---- the last block, which is not whole

-- with one channel or two, where numbers wait the frames before a place reach into one more block
pub reaches_into : (ch per blocks waiting place : ℕ) → (ch ≡ 1) ⊎ (ch ≡ 2) → place * ch ≡ blocks * per * ch + waiting → 1 ≤ waiting → waiting < ch * per → (blocks * per < place) × (place < (blocks + 1) * per)
reaches_into ch per blocks waiting place few all some last =
    let next : (blocks + 1) * per ≡ blocks * per + per = omega arith in
    ⊎_elim
    (λ one.
    let a : place * ch ≡ place = ap (λ (c : ℕ). place * c) one ∙ (let e : place * 1 ≡ place = omega arith in e) in
    let b : blocks * per * ch ≡ blocks * per = ap (λ (c : ℕ). blocks * per * c) one ∙ (let e : blocks * per * 1 ≡ blocks * per = omega arith in e) in
    let d : ch * per ≡ per = ap (λ (c : ℕ). c * per) one ∙ (let e : 1 * per ≡ per = omega arith in e) in
    (omega (arith, a, b, all, some), omega (arith, a, b, d, all, last, next)))
    (λ two.
    let a : place * ch ≡ 2 * place = ap (λ (c : ℕ). place * c) two ∙ (let e : place * 2 ≡ 2 * place = omega arith in e) in
    let b : blocks * per * ch ≡ 2 * (blocks * per) = ap (λ (c : ℕ). blocks * per * c) two ∙ (let e : blocks * per * 2 ≡ 2 * (blocks * per) = omega arith in e) in
    let d : ch * per ≡ 2 * per = ap (λ (c : ℕ). c * per) two in
    (omega (arith, a, b, all, some), omega (arith, a, b, d, all, last, next)))
    few

module _ (h : Shape) (form : AreBlocks h.params) (w : Writing) (place : ℕ) (pace : KeepsPace h place w) (few : length w.waiting < block_numbers w.params) where
  -- the next block begins behind the frames that are counted
  pub next_at_end : next_place h.start w ≡ end h h.frames
  next_at_end = next_is_end h form w place 0 pace.numbers pace.size pace.blocks (omega (arith, pace.waiting))

  counted_all : place * h.params.channels ≡ w.blocks * block_frames h.params.codec * h.params.channels + length w.waiting
  counted_all = pace.waiting ∙ ap (λ (n : ℕ). n * h.params.channels + length w.waiting) pace.blocks

  module _ (some : 1 ≤ length w.waiting) where
    into : (w.blocks * block_frames h.params.codec < place) × (place < (w.blocks + 1) * block_frames h.params.codec)
    into = reaches_into h.params.channels (block_frames h.params.codec) w.blocks (length w.waiting) place form.channels counted_all some (omega (arith, few, pace.numbers))

    -- which ends with the data of all
    pub last_ends : block_end h.start w ≡ end h place
    last_ends =
        let per = block_frames h.params.codec in
        let one : (w.blocks + 1) * block_size w ≡ w.blocks * block_size w + block_size w = omega arith in
        let next : (w.blocks + 1) * per ≡ w.blocks * per + per = omega arith in
        let more : (w.blocks + 1 + 1) * per ≡ w.blocks * per + per + per = omega arith in
        let count : (place + per - 1) / per ≡ w.blocks + 1 = div-eq_of_lt-le {k = w.blocks + 1} per {m = place + per - 1} (omega (arith, into.0, next, form.some_frames)) (omega (arith, into.1, next, more, form.some_frames)) in
        let bytes : data_bytes h.params place ≡ (w.blocks + 1) * block_size w =
        ap (λ (n : ℕ). n * block_align h.params.channels h.params.codec) count ∙ ap (λ (n : ℕ). (w.blocks + 1) * n) (sym pace.size) in
        omega (arith, bytes, one)

  -- where none waits, they end with the counted ones
  pub none_ends : length w.waiting ≡ 0 → place ≡ h.frames
  none_ends none = by h.params.channels form.channels (pace.waiting ∙ ap (λ (n : ℕ). h.frames * h.params.channels + n) none)
    where
      by : (ch : ℕ) → (ch ≡ 1) ⊎ (ch ≡ 2) → place * ch ≡ h.frames * ch + 0 → place ≡ h.frames
      by ch one all = ⊎_elim
          (λ is. let a : place * 1 ≡ h.frames * 1 + 0 = subst (λ (c : ℕ). place * c ≡ h.frames * c + 0) is all in omega (arith, a))
          (λ is. let a : place * 2 ≡ h.frames * 2 + 0 = subst (λ (c : ℕ). place * c ≡ h.frames * c + 0) is all in omega (arith, a))
          one
