-- What a layout owes, from plain facts.
use Rattle.std.proofs.Common.{◌≡◌, ℕ, ◌+◌, ◌*◌, ◌-◌, ◌/◌, ◌<◌, ◌≤◌, ◌^◌, true, ◌&&◌, [], Option, None, Some, refl, ◌∙◌, inl, inr, arith}
use Rattle.std.proofs.lemmas.Bool.{and_parts, cases_Bool, eqb-true, leb-true}
use Rattle.std.proofs.lemmas.List.Elements.{All-nil}
use Rattle.std.proofs.lemmas.Nat.{div-add-mod', div_below, mul-le}
use Rattle.std.specs.Prelude.{◌==◌, IfSome, IsTrue, nat_le}
use Rattle.snd_chunks.specs.declared.chunk.Chunk.{Chunk}
use Rattle.snd_layout.specs.declared.codec.Codec.{Codec}
use Rattle.snd_layout.specs.declared.codec.Codec.TheVariants.{U8, S8, S16, S24, S32, MuLaw, ALaw, Ima, Ms}
use Rattle.snd_layout.specs.declared.kind.Kind.TheVariants.{W64}
use Rattle.snd_layout.specs.Blocks.{block_align, block_frames, is_adpcm, is_ima_block, is_ms_block}
use Rattle.snd_layout.specs.Fit.{fit_refusal}
use Rattle.snd_layout.specs.Params.{AreParams, Parameters, block_refusal, data_bytes}
use Rattle.snd_layout.specs.Shape.{IsPlaced, KeepsRule, Shape, is_inner_size, is_side_size, room}
use Rattle.snd_layout.specs.declared.field.Field.{Field}
use Rattle.snd_chunks.specs.Parts.{IsFact, fact_place, frame_count, inner_field, is_joined, reached, side_field, whole_frames}
use Rattle.snd_layout.specs.Opened.{EndsIn}
use Rattle.snd_w64.specs.Parts.{IsHeld, IsSound}
use Rattle.snd_layout.proofs.Frames.{blocks_have_frames, good_size}

align_of : (channels rate : ℕ) (codec : Codec) → 1 ≤ channels → fit_refusal W64 (record { channels = channels; rate = rate; codec = codec }) ≡ None → block_refusal channels codec ≡ None → 1 ≤ block_align channels codec
align_of channels rate (Ima align per_block) some fits good = elim (cases_Bool (nat_le channels 2)) [
  | inl few ↦
      let form : is_ima_block channels align per_block ≡ true = good_size _ align (rw few at good) in
      omega (arith, leb-true (4 * channels) align (and_parts (nat_le (4 * channels) align) _ (and_parts _ _ form).0).0)
  | inr many ↦ absurd (let h = rw many at fits in cc)
]
align_of channels rate (Ms align per_block) some fits good = elim (cases_Bool (nat_le channels 2)) [
  | inl few ↦
      let form : is_ms_block channels align per_block ≡ true = good_size _ align (rw few at good) in
      omega (arith, leb-true (7 * channels) align (and_parts (nat_le (7 * channels) align) _ (and_parts _ _ form).0).0)
  | inr many ↦ absurd (let h = rw many at fits in cc)
]
align_of channels rate U8 some fits good = omega arith
align_of channels rate S8 some fits good = omega arith
align_of channels rate (S16 order) some fits good = omega arith
align_of channels rate (S24 order) some fits good = omega arith
align_of channels rate (S32 order) some fits good = omega arith
align_of channels rate MuLaw some fits good = omega arith
align_of channels rate ALaw some fits good = omega arith

pub blocks_have_bytes : (p : Parameters) → AreParams p → fit_refusal W64 p ≡ None → 1 ≤ block_align p.channels p.codec
blocks_have_bytes p good fits = align_of p.channels p.rate p.codec good.some_channel fits good.blocks

-- whole blocks of so many bytes have no more bytes than these
part : (f q a b n : ℕ) → 1 ≤ b → f ≤ q * b → q * a ≤ n → (f + b - 1) / b * a ≤ n
part f q a b n some few fits =
    let below : (f + b - 1) / b < q + 1 = div_below (f + b - 1) b (q + 1) some (omega (arith, few)) in
    let blocks : (f + b - 1) / b ≤ q = omega (arith, below) in
    omega (arith, mul-le ((f + b - 1) / b) a q a blocks (omega arith), fits)

quotient : (n a : ℕ) → 1 ≤ a → n / a * a ≤ n
quotient n a some = omega (arith, div-add-mod' n a)

frames_few : (p : Parameters) (n : ℕ) (count : Option ℕ) → frame_count p n count ≤ whole_frames p n
frames_few p n None = omega arith
frames_few p n (Some count) = elim (cases_Bool (is_adpcm p.codec)) [
  | inl is ↦ rw is (omega arith)
  | inr other ↦ rw other (omega arith)
]

pub counted_bytes : (p : Parameters) (n : ℕ) (count : Option ℕ) → AreParams p → fit_refusal W64 p ≡ None → data_bytes p (frame_count p n count) ≤ n
counted_bytes p n count good fits =
    part (frame_count p n count) (n / block_align p.channels p.codec) (block_align p.channels p.codec) (block_frames p.codec) n
    (blocks_have_frames p good fits) (frames_few p n count) (quotient n (block_align p.channels p.codec) (blocks_have_bytes p good fits))

-- a `fact` whose count is joined with the size of the data behind it is there, and ends 24 bytes before the data
joined_end : (fact : Option Chunk) (sound : Chunk) → is_joined 8 24 fact sound ≡ true → IfSome fact (IsFact 8 24 sound) → fact_place fact + 32 ≤ sound.at
joined_end None sound joined placed = absurd (cc)
joined_end (Some fact) sound joined placed =
    omega (arith, eqb-true fact.len 8 (and_parts (fact.len == 8) (fact.next + 24 == sound.at) joined).0, placed.before)

inner_rule : (p : Parameters) (fact : Option Chunk) (sound : Chunk) (field : Field) → field ≡ inner_field 8 24 p fact sound → IfSome fact (IsFact 8 24 sound) → 20 ≤ sound.at
    → IsTrue (is_inner_size W64 p.codec field.size) × (field.at + field.size ≤ sound.at)
inner_rule p fact sound field is placed behind = elim (cases_Bool (is_adpcm p.codec && is_joined 8 24 fact sound)) [
  | inl both ↦
      let parts = and_parts (is_adpcm p.codec) (is_joined 8 24 fact sound) both in
      let field_is : field ≡ record { at = fact_place fact; size = 32 } = is ∙ rw both refl in
      rw field_is (rw parts.0 refl, joined_end fact sound parts.1 placed)
  | inr other ↦
      let field_is : field ≡ record { at = sound.at - 8; size = 8 } = is ∙ rw other refl in
      rw field_is (refl, omega arith)
]

side_rule : (p : Parameters) (fact : Option Chunk) (sound : Chunk) (side : Option Field) → side ≡ side_field 8 p fact → IfSome fact (IsFact 8 24 sound)
    → IsTrue (is_side_size W64 p.codec side) × IfSome side (λ field. field.at + field.size ≤ sound.at)
side_rule p None sound side is placed = elim (cases_Bool (is_adpcm p.codec)) [
  | inl adpcm ↦ let side_is : side ≡ None = is ∙ rw adpcm refl in rw side_is (refl, tt)
  | inr other ↦ let side_is : side ≡ None = is ∙ rw other refl in rw side_is (refl, tt)
]
side_rule p (Some fact) sound side is placed = elim (cases_Bool (is_adpcm p.codec)) [
  | inl adpcm ↦ let side_is : side ≡ None = is ∙ rw adpcm refl in rw side_is (refl, tt)
  | inr other ↦
      let side_is : side ≡ Some (record { at = fact.at; size = 8 }) = is ∙ rw other refl in
      rw side_is (rw other refl, omega (arith, placed.count, placed.before))
]

-- the layout that is made of parts which lie well keeps the rule of all layouts
pub keeps_rule : (s : Shape) (fact : Option Chunk) (sound : Chunk) (bytes size : ℕ) (count : Option ℕ) → s.kind ≡ W64 → s.outer ≡ Some (record { at = 16; size = 8 })
    → s.start ≡ sound.at → s.declared ≡ sound.len → s.frames ≡ frame_count s.params bytes count → s.inner ≡ inner_field 8 24 s.params fact sound → s.side ≡ side_field 8 s.params fact → s.pieces ≡ [] → s.reserve ≡ None
    → AreParams s.params → fit_refusal W64 s.params ≡ None → IfSome fact (IsFact 8 24 sound) → IsSound size sound → bytes ≤ sound.len → bytes ≤ reached size - sound.at → KeepsRule s
keeps_rule s fact sound bytes size count kind outer start declared frames inner side pieces reserve good fits placed is few held =
    let inner_is = inner_rule s.params fact sound s.inner inner placed (omega (arith, is.behind)) in
    let side_is = side_rule s.params fact sound s.side side placed in
    let short : data_bytes s.params s.frames ≤ bytes = rw frames (counted_bytes s.params bytes count good fits) in
    record {
      fits = rw kind fits;
      inner_size = rw kind inner_is.0;
      outer_size = rw (kind, outer) refl;
      side_size = rw kind side_is.0;
      inner_end = rw start inner_is.1;
      outer_end = rw (outer, start) (omega (arith, is.behind));
      side_end = rw start side_is.1;
      sound_start = rw kind refl;
      pieces_placed = rw pieces (All-nil IsPlaced);
      data_end = omega (arith, start, short, held, is.within);
      in_room = λ known. omega (arith, short, few, declared);
      declared_fits = omega (arith, declared, is.len);
      reserved = rw reserve tt;
    }

-- its data end within the file, and data for which it has room on a disk
pub is_held : (s : Shape) (sound : Chunk) (bytes size : ℕ) (count : Option ℕ) → s.kind ≡ W64 → s.start ≡ sound.at → s.frames ≡ frame_count s.params bytes count → s.pieces ≡ []
    → AreParams s.params → fit_refusal W64 s.params ≡ None → IsSound size sound → bytes ≤ reached size - sound.at → IsHeld size s
is_held s sound bytes size count kind start frames pieces good fits is held =
    let short : data_bytes s.params s.frames ≤ bytes = rw frames (counted_bytes s.params bytes count good fits) in
    let limit : room s ≡ 2 ^ 62 - s.start = rw kind refl in
    record {
      sound = omega (arith, start, short, held, is.within);
      room_ends = omega (arith, start, limit, is.within);
      pieces = rw pieces (All-nil (EndsIn size));
    }
