-- What a layout owes, from plain facts.
use Rattle.std.proofs.Common.{◌≡◌, ℕ, ◌+◌, ◌*◌, ◌-◌, ◌/◌, ◌<◌, ◌≤◌, ◌^◌, Bool, true, false, not, ◌&&◌, List, [], ◌∷◌, ◌++◌, All, Option, None, Some, refl, ◌∙◌, inl, inr, arith}
use Rattle.std.proofs.lemmas.Bool.{and_parts, cases_Bool, eqb-true, leb-true, not-true}
use Rattle.std.proofs.lemmas.List.Elements.{All-append, All-filter, All-head, All-map, All-weaker}
use Rattle.std.proofs.lemmas.Nat.{div-add-mod', div_below, mul-le}
use Rattle.std.specs.List.{filter}
use Rattle.std.specs.Prelude.{◌==◌, IfSome, IsTrue, codes, nat_le}
use Rattle.snd_chunks.specs.declared.chunk.Chunk.{Chunk}
use Rattle.snd_chunks.specs.Walks.{EndsBy, IsSound}
use Rattle.snd_layout.specs.declared.codec.Codec.{Codec}
use Rattle.snd_layout.specs.declared.codec.Codec.TheVariants.{U8, S8, S16, S24, S32, MuLaw, ALaw, Ima, Ms}
use Rattle.snd_layout.specs.declared.kind.Kind.TheVariants.{Wave}
use Rattle.snd_layout.specs.Blocks.{block_align, block_frames, is_adpcm, is_ima_block, is_ms_block}
use Rattle.snd_layout.specs.Fit.{fit_refusal}
use Rattle.snd_layout.specs.Params.{AreParams, Parameters, block_refusal, data_bytes}
use Rattle.snd_layout.specs.Opened.{EndsIn}
use Rattle.snd_layout.specs.Shape.{IsPlaced, IsReserve, KeepsRule, Shape, is_inner_size, is_side_size}
use Rattle.snd_layout.specs.declared.field.Field.{Field}
use Rattle.snd_layout.specs.declared.piece.Piece.{Piece}
use Rattle.snd_chunks.specs.Parts.{IsFact, fact_place, frame_count, has_id, inner_field, is_joined, side_field, whole_frames}
use Rattle.snd_wave.specs.Layout.{is_own, is_reserve, piece_of, pieces_of, reserve_of}
use Rattle.snd_wave.specs.Parts.{IsBefore}
use Rattle.snd_layout.proofs.Frames.{blocks_have_frames, good_size}

align_of : (channels rate : ℕ) (codec : Codec) → 1 ≤ channels → fit_refusal Wave (record { channels = channels; rate = rate; codec = codec }) ≡ None → block_refusal channels codec ≡ None → 1 ≤ block_align channels codec
align_of channels rate (Ima align per_block) some fits good = elim (cases_Bool (nat_le channels 2)) [
  | inl few ↦
      let form : is_ima_block channels align per_block ≡ true = good_size _ align (rw few at good) in
      omega (arith, leb-true (4 * channels) align (and_parts (nat_le (4 * channels) align) _ (and_parts _ _ form).0).0)
  | inr many ↦ absurd (let h = rw many at fits in cc)
]
align_of channels rate (Ms align per_block) some fits good = elim (cases_Bool (nat_le channels 2)) [
  | inl few ↦
      let form : is_ms_block channels align per_block ≡ true = good_size _ align (rw few at good) in
      omega (arith, leb-true (7 * channels) align (and_parts (nat_le (7 * channels) align) _ (and_parts _ _ form).0).0)
  | inr many ↦ absurd (let h = rw many at fits in cc)
]
align_of channels rate U8 some fits good = omega arith
align_of channels rate S8 some fits good = omega arith
align_of channels rate (S16 order) some fits good = omega arith
align_of channels rate (S24 order) some fits good = omega arith
align_of channels rate (S32 order) some fits good = omega arith
align_of channels rate MuLaw some fits good = omega arith
align_of channels rate ALaw some fits good = omega arith

pub blocks_have_bytes : (p : Parameters) → AreParams p → fit_refusal Wave p ≡ None → 1 ≤ block_align p.channels p.codec
blocks_have_bytes p good fits = align_of p.channels p.rate p.codec good.some_channel fits good.blocks

piece_ends : (size : ℕ) (after : Bool) (chunks : List Chunk) → All (EndsBy size) chunks → All (EndsIn size) (pieces_of after chunks)
piece_ends size after chunks ends =
    All-map (EndsIn size) (piece_of after) (filter (λ chunk. not (is_own chunk)) chunks) (All-filter (λ chunk. not (is_own chunk)) (EndsBy size) chunks ends)

-- the pieces among chunks that end within a file end within it
pub pieces_end : (size outer : ℕ) (front behind : List Chunk) (pieces : List Piece) → outer ≤ size → All (EndsBy size) front → All (EndsBy outer) behind
    → pieces ≡ pieces_of false front ++ pieces_of true behind → All (EndsIn size) pieces
pieces_end size outer front behind pieces within before after is =
    rw is (All-append (EndsIn size) (pieces_of false front) (pieces_of true behind) (piece_ends size false front before)
    (piece_ends size true behind (All-weaker (EndsBy outer) (EndsBy size) (λ chunk le. omega arith) behind after)))

-- whole blocks of so many bytes have no more bytes than these
part : (f q a b n : ℕ) → 1 ≤ b → f ≤ q * b → q * a ≤ n → (f + b - 1) / b * a ≤ n
part f q a b n some few fits =
    let below : (f + b - 1) / b < q + 1 = div_below (f + b - 1) b (q + 1) some (omega (arith, few)) in
    let blocks : (f + b - 1) / b ≤ q = omega (arith, below) in
    omega (arith, mul-le ((f + b - 1) / b) a q a blocks (omega arith), fits)

quotient : (n a : ℕ) → 1 ≤ a → n / a * a ≤ n
quotient n a some = omega (arith, div-add-mod' n a)

frames_few : (p : Parameters) (n : ℕ) (count : Option ℕ) → frame_count p n count ≤ whole_frames p n
frames_few p n None = omega arith
frames_few p n (Some count) = elim (cases_Bool (is_adpcm p.codec)) [
  | inl is ↦ rw is (omega arith)
  | inr other ↦ rw other (omega arith)
]

pub counted_bytes : (p : Parameters) (n : ℕ) (count : Option ℕ) → AreParams p → fit_refusal Wave p ≡ None → data_bytes p (frame_count p n count) ≤ n
counted_bytes p n count good fits =
    part (frame_count p n count) (n / block_align p.channels p.codec) (block_align p.channels p.codec) (block_frames p.codec) n
    (blocks_have_frames p good fits) (frames_few p n count) (quotient n (block_align p.channels p.codec) (blocks_have_bytes p good fits))

-- a `fact` whose count is joined with the size of the data behind it is there, and ends 8 bytes before the data
joined_end : (fact : Option Chunk) (sound : Chunk) → is_joined 4 8 fact sound ≡ true → IfSome fact (IsFact 4 8 sound) → fact_place fact + 12 ≤ sound.at
joined_end None sound joined placed = absurd (cc)
joined_end (Some fact) sound joined placed =
    omega (arith, eqb-true fact.len 4 (and_parts (fact.len == 4) (fact.next + 8 == sound.at) joined).0, placed.before)

inner_rule : (p : Parameters) (fact : Option Chunk) (sound : Chunk) (field : Field) → field ≡ inner_field 4 8 p fact sound → IfSome fact (IsFact 4 8 sound) → 20 ≤ sound.at
    → IsTrue (is_inner_size Wave p.codec field.size) × (field.at + field.size ≤ sound.at)
inner_rule p fact sound field is placed behind = elim (cases_Bool (is_adpcm p.codec && is_joined 4 8 fact sound)) [
  | inl both ↦
      let parts = and_parts (is_adpcm p.codec) (is_joined 4 8 fact sound) both in
      let field_is : field ≡ record { at = fact_place fact; size = 12 } = is ∙ rw both refl in
      rw field_is (rw parts.0 refl, joined_end fact sound parts.1 placed)
  | inr other ↦
      let field_is : field ≡ record { at = sound.at - 4; size = 4 } = is ∙ rw other refl in
      rw field_is (refl, omega arith)
]

side_rule : (p : Parameters) (fact : Option Chunk) (sound : Chunk) (side : Option Field) → side ≡ side_field 4 p fact → IfSome fact (IsFact 4 8 sound)
    → IsTrue (is_side_size Wave p.codec side) × IfSome side (λ field. field.at + field.size ≤ sound.at)
side_rule p None sound side is placed = elim (cases_Bool (is_adpcm p.codec)) [
  | inl adpcm ↦ let side_is : side ≡ None = is ∙ rw adpcm refl in rw side_is (refl, tt)
  | inr other ↦ let side_is : side ≡ None = is ∙ rw other refl in rw side_is (refl, tt)
]
side_rule p (Some fact) sound side is placed = elim (cases_Bool (is_adpcm p.codec)) [
  | inl adpcm ↦ let side_is : side ≡ None = is ∙ rw adpcm refl in rw side_is (refl, tt)
  | inr other ↦
      let side_is : side ≡ Some (record { at = fact.at; size = 4 }) = is ∙ rw other refl in
      rw side_is (rw other refl, omega (arith, placed.count, placed.before))
]

-- a reservation among chunks before the data stands before all others
pub reserve_is : (p : Parameters) (sound : Chunk) (chunks : List Chunk) → All (IsBefore sound) chunks → IfSome (reserve_of p chunks) (IsReserve Wave p.codec sound.at)
reserve_is p sound [] before = tt
reserve_is p sound (chunk ∷ chunks) before = elim (cases_Bool (is_reserve p chunk)) [
  | inl is ↦
      let long = and_parts (not (is_adpcm p.codec) && (chunk.at == 20) && has_id (codes "JUNK") chunk) (nat_le 28 chunk.len) is in
      let named = and_parts (not (is_adpcm p.codec) && (chunk.at == 20)) (has_id (codes "JUNK") chunk) long.0 in
      let first = and_parts (not (is_adpcm p.codec)) (chunk.at == 20) named.0 in
      let stands : IsBefore sound chunk = All-head (IsBefore sound) chunk chunks before in
      rw is (record {
        is_wave = refl;
        fixed = not-true (is_adpcm p.codec) first.0;
        least = leb-true 28 chunk.len long.1;
        few = stands.short;
        before = omega (arith, stands.ends, eqb-true chunk.at 20 first.1);
      })
  | inr other ↦ rw other tt
]

-- the layout that is made of parts which lie well keeps the rule of all layouts
pub keeps_rule : (s : Shape) (fact : Option Chunk) (sound : Chunk) (held : ℕ) (count : Option ℕ) → s.kind ≡ Wave → s.outer ≡ Some (record { at = 4; size = 4 })
    → s.start ≡ sound.at → s.declared ≡ sound.len → s.frames ≡ frame_count s.params held count → s.inner ≡ inner_field 4 8 s.params fact sound → s.side ≡ side_field 4 s.params fact
    → AreParams s.params → fit_refusal Wave s.params ≡ None → IfSome fact (IsFact 4 8 sound) → IsSound (2 ^ 63) 12 257 sound → held ≤ sound.len → IfSome s.reserve (IsReserve Wave s.params.codec s.start) → All IsPlaced s.pieces → KeepsRule s
keeps_rule s fact sound held count kind outer start declared frames inner side good fits placed is few reserve pieces =
    let inner_is = inner_rule s.params fact sound s.inner inner placed (omega (arith, is.behind)) in
    let side_is = side_rule s.params fact sound s.side side placed in
    let bytes : data_bytes s.params s.frames ≤ held = rw frames (counted_bytes s.params held count good fits) in
    record {
      fits = rw kind fits;
      inner_size = rw kind inner_is.0;
      outer_size = rw (kind, outer) refl;
      side_size = rw kind side_is.0;
      inner_end = rw start inner_is.1;
      outer_end = rw (outer, start) (omega (arith, is.behind));
      side_end = rw start side_is.1;
      sound_start = rw kind refl;
      pieces_placed = pieces;
      data_end = omega (arith, start, bytes, few, is.near, is.len);
      in_room = λ known. omega (arith, bytes, few, declared);
      declared_fits = omega (arith, declared, is.len);
      reserved = rw kind reserve;
    }
