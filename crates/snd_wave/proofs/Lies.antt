-- What holds of the layout that a list of bytes gives.
use Rattle.std.proofs.Common.{◌≡◌, refl, ℕ, ◌+◌, ◌*◌, ◌-◌, ◌^◌, ◌<◌, ◌≤◌, List, [], ◌∷◌, All, Option, None, Some, Ok, get_or, length, drop, arith}
use Rattle.std.proofs.lemmas.Bool.{and_parts, leb-true}
use Rattle.std.proofs.lemmas.List.Elements.{All-cons, All-drop, All-nil, All-take, All-weaker}
use Rattle.std.specs.Prelude.{IfSome, codes, nat_le, option_map}
use Rattle.snd_chunks.proofs.Public.{chain_end, find_has, in_order, is_head, IsBetween, IsChain, IsHead, Reaches, tail_ends}
use Rattle.snd_chunks.specs.declared.chunk.Chunk.{Chunk}
use Rattle.snd_chunks.specs.Chunks.{chunk_at}
use Rattle.snd_chunks.specs.Walks.{EndsBy, IsShort, IsSound}
use Rattle.snd_fields.proofs.Numbers.{number_fits}
use Rattle.snd_fields.specs.Field.{number}
use Rattle.snd_fields.specs.Laws.{IsByte}
use Rattle.snd_fields.specs.declared.field.Order.TheVariants.{Little}
use Rattle.snd_layout.proofs.Formats.{format_fits}
use Rattle.snd_layout.specs.Container.{LiesIn}
use Rattle.snd_layout.specs.Fit.{fit_refusal}
use Rattle.snd_layout.proofs.StatedFormats.{good_params}
use Rattle.snd_layout.specs.Opened.{EndsIn}
use Rattle.snd_layout.specs.Params.{AreParams, Parameters}
use Rattle.snd_layout.specs.Shape.{IsPlaced, Shape}
use Rattle.snd_layout.specs.declared.kind.Kind.TheVariants.{Wave}
use Rattle.snd_wave.proofs.Counts.{reached}
use Rattle.snd_wave.proofs.Opens.{Opens, opens}
use Rattle.snd_wave.proofs.Shapes.{counted_bytes, keeps_rule, pieces_end, reserve_is}
use Rattle.snd_chunks.specs.Parts.{IsFact, body_of, fact_chunk, fact_count, has_id, held, is_fact}
use Rattle.snd_wave.specs.Layout.{outer_end, wave_front, wave_layout, wave_shape, wave_tail}
use Rattle.snd_wave.specs.Parts.{IsBefore}

-- ---- where the chunks lie

-- the sizes of chunks have four bytes
all_short : (b : List ℕ) (place last : ℕ) (chunks : List Chunk) → All IsByte b → IsChain (chunk_at Little b) (codes "data") (length b) place chunks last → All IsShort chunks
all_short b place last [] bytes chain = All-nil IsShort
all_short b place last (chunk ∷ chunks) bytes chain =
    let head : IsHead Little b place chunk = is_head Little b place chunk chain.0.at in
    let few : number Little b (place + 4) 4 < 2 ^ 32 = number_fits Little b (place + 4) 4 bytes in
    All-cons IsShort chunk chunks (omega (arith, head.len, few)) (all_short b chunk.next last chunks bytes chain.1)

fact_placed : (last : ℕ) (sound : Chunk) (chunks : List Chunk) (fact : Option Chunk) → fact_chunk 4 chunks ≡ fact → All (IsBetween 12 last) chunks → sound.at ≡ last + 8 → IfSome fact (IsFact 4 8 sound)
fact_placed last sound chunks None found between at = tt
fact_placed last sound chunks (Some fact) found between at =
    let has = find_has (is_fact 4) (IsBetween 12 last) chunks fact between found in
    record { count = leb-true 4 fact.len (and_parts (has_id (codes "fact") fact) (nat_le 4 fact.len) has.1).1; before = omega (arith, has.0.before, at) }

module _ (b : List ℕ) (p : Parameters) (sound : Chunk) (bytes : All IsByte b) (good : AreParams p) (fits : fit_refusal Wave p ≡ None)
    (reach : Reaches (chunk_at Little b) (codes "data") (length b) 257 12 (wave_front b).chunks sound) where
  abbrev shape : Shape
  shape = wave_shape b (wave_front b) p sound

  head : IsHead Little b reach.last sound
  head = is_head Little b reach.last sound reach.at

  ordered : (12 ≤ reach.last) × All (IsBetween 12 reach.last) (wave_front b).chunks
  ordered = in_order Little b (codes "data") (length b) 12 reach.last (wave_front b).chunks reach.chain

  near : reach.last ≤ 12 + length (wave_front b).chunks * 2 ^ 33
  near = chain_end Little b (codes "data") (length b) 12 reach.last (wave_front b).chunks bytes reach.chain

  size_few : sound.len < 2 ^ 32
  size_few =
      let few : number Little b (reach.last + 4) 4 < 2 ^ 32 = number_fits Little b (reach.last + 4) 4 bytes in
      omega (arith, head.len, few)

  begins : sound.at ≤ 12 + 8 + 257 * 2 ^ 33
  begins = omega (arith, near, head.at, reach.few)

  sound_is : IsSound (2 ^ 63) 12 257 sound
  sound_is = record { within = omega (arith, begins); behind = omega (arith, head.at, ordered.0); near = begins; len = size_few }

  before_all : All (IsBefore sound) (wave_front b).chunks
  before_all k d lt =
      let between : IsBetween 12 reach.last (get_or (wave_front b).chunks k d) = ordered.1 k d lt in
      record { ends = omega (arith, between.before, head.at); short = all_short b 12 reach.last (wave_front b).chunks bytes reach.chain k d lt }

  placed : All IsPlaced shape.pieces
  placed =
      let few : number Little b 4 4 < 2 ^ 32 = number_fits Little b 4 4 bytes in
      let outer : outer_end b ≤ 2 ^ 63 - 1 = omega (arith, few) in
      let before : All (EndsBy (2 ^ 63 - 1)) (wave_front b).chunks =
      All-weaker (IsBetween 12 reach.last) (EndsBy (2 ^ 63 - 1)) (λ chunk is. omega (arith, is.before, begins, head.at)) (wave_front b).chunks ordered.1 in
      let all : All (EndsIn (2 ^ 63 - 1)) shape.pieces =
      pieces_end (2 ^ 63 - 1) (outer_end b) (wave_front b).chunks (wave_tail b (wave_front b) sound) shape.pieces outer before (tail_ends (chunk_at Little b) (outer_end b) _ _) refl in
      All-weaker (EndsIn (2 ^ 63 - 1)) IsPlaced (λ piece is. omega (arith, is)) shape.pieces all

  count : Option ℕ
  count = option_map (fact_count 4 b) (fact_chunk 4 (wave_front b).chunks)

  lies : LiesIn b shape
  lies =
      let some = held (length b) sound in
      let fact = fact_placed reach.last sound (wave_front b).chunks (fact_chunk 4 (wave_front b).chunks) refl ordered.1 head.at in
      record {
        params = good;
        rule = keeps_rule shape (fact_chunk 4 (wave_front b).chunks) sound some (option_map (fact_count 4 b) (fact_chunk 4 (wave_front b).chunks)) refl refl refl refl refl refl refl good fits fact sound_is (omega arith) (reserve_is p sound (wave_front b).chunks before_all) placed;
        within = omega (arith, head.within, head.at);
        held = omega (arith, counted_bytes p some (option_map (fact_count 4 b) (fact_chunk 4 (wave_front b).chunks)) good fits, head.within, head.at);
        room_ends = omega (arith, begins);
        declared = λ known. omega (arith, counted_bytes p some (option_map (fact_count 4 b) (fact_chunk 4 (wave_front b).chunks)) good fits);
      }

pub lies_in : (b : List ℕ) (h : Shape) → All IsByte b → wave_layout b ≡ Ok h → LiesIn b h
lies_in b h bytes is =
    let from : Opens b (wave_front b) h = opens b h is in
    let format_bytes : All IsByte (body_of b from.format) = All-take IsByte from.format.len (drop from.format.at b) (All-drop IsByte from.format.at b bytes) in
    let good : AreParams from.params = good_params (body_of b from.format) from.params format_bytes from.params_are in
    rw from.shape (lies b from.params from.sound bytes good (format_fits (body_of b from.format) from.params from.params_are) (reached b from.sound from.sound_is))
