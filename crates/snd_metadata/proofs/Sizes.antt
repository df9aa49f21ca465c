-- The bytes that the chunks of a plan take in a head.
use Rattle.std.proofs.Common.{◌≡◌, ◌∙◌, ap, refl, subst, sym, ℕ, ◌+◌, ◌-◌, ◌*◌, ◌/◌, ◌≤◌, true, false, nat_lt, List, [], ◌∷◌, All, Some, length, take, drop, arith}
use Rattle.std.proofs.lemmas.List.{length-replicate, places}
use Rattle.std.proofs.lemmas.List.Elements.{All-head, All-tail}
use Rattle.std.proofs.lemmas.Option.{get_or_from_slice_get, slice_get_within}
use Rattle.std.specs.Prelude.{is_none, map, slice_get}
use Rattle.snd_chunks.proofs.Public.{length-chunk_bytes, length-chunks_bytes}
use Rattle.snd_chunks.specs.Written.{NewChunk, chunks_bytes}
use Rattle.snd_fields.specs.declared.field.Order.TheVariants.{Little}
use Rattle.snd_container.specs.Sound.{fixed_of}
use Rattle.snd_layout.specs.Blocks.{block_align, block_frames}
use Rattle.snd_layout.specs.Opened.{EndsIn}
use Rattle.snd_layout.specs.Params.{Parameters, data_bytes}
use Rattle.snd_layout.specs.Shape.{Shape, room}
use Rattle.snd_layout.specs.declared.codec.Codec.{Codec}
use Rattle.snd_layout.specs.declared.codec.Codec.TheVariants.{Ima, Ms}
use Rattle.snd_layout.proofs.Public.{meta_order}
use Rattle.snd_layout.specs.declared.kind.Kind.{Kind}
use Rattle.snd_fields.specs.declared.field.Order.{Order}
use Rattle.snd_layout.specs.declared.piece.Piece.{Piece}
use Rattle.snd_layout.specs.Kinds.{holds_meta}
use Rattle.snd_edits.specs.Relaid.{shape_with}
use Rattle.snd_container.specs.Room.{Take}
use Rattle.snd_metadata.specs.Planned.{MayStand, chunk_planned, outline_planned, sizes_planned}
use Rattle.snd_metadata.specs.declared.chunks.PlannedChunk.{PlannedChunk}
use Rattle.snd_metadata.specs.declared.chunks.PlannedChunk.TheVariants.{Given, Kept}
use Rattle.snd_metadata.specs.Retagged.{is_full_with}

no_bytes : length (chunks_bytes Little []) ≡ 0
unfolding chunks_bytes
no_bytes = refl

-- a chunk with an identifier of four bytes and a body as long as the plan says
pub record IsAs (chunk : NewChunk) (planned : PlannedChunk) : Type 0 where
  pub four : length chunk.id ≡ 4
  pub long : length chunk.body ≡ length (outline_planned planned).body

sizes_are : (f : PlannedChunk → NewChunk) (plan : List PlannedChunk) → All (λ chunk. IsAs (f chunk) chunk) plan → length (chunks_bytes Little (map f plan)) ≡ sizes_planned plan
sizes_are f [] are = no_bytes
sizes_are f (x ∷ xs) are =
    let P : PlannedChunk → Type 0 = λ chunk. IsAs (f chunk) chunk in
    let this : IsAs (f x) x = All-head P x xs are in
    omega (arith, length-chunks_bytes Little (f x) (map f xs), length-chunk_bytes Little (f x) 0 this.four, this.long, sizes_are f xs (All-tail P x xs are))

-- the outlines are such chunks, and so are the chunks of a file that holds its pieces
outlined : (pieces : List Piece) (chunk : PlannedChunk) → MayStand pieces chunk → IsAs (outline_planned chunk) chunk
outlined pieces (Kept place piece) may = record { four = may.2; long = refl }
outlined pieces (Given id body) may = record { four = may.1; long = refl }

body_length : (b : List ℕ) (at len : ℕ) → at + len ≤ length b → length (take len (drop at b)) ≡ len
body_length b at len ends = grind (arith, places)

piece_ends : (pieces : List Piece) (size place : ℕ) (piece : Piece) → All (EndsIn size) pieces → slice_get pieces place ≡ Some piece → EndsIn size piece
piece_ends pieces size place piece ends there = subst (EndsIn size) (get_or_from_slice_get pieces place piece piece there) (ends place piece (slice_get_within pieces place piece there))

read_so : (b : List ℕ) (pieces : List Piece) → All (EndsIn (length b)) pieces → (chunk : PlannedChunk) → MayStand pieces chunk → IsAs (chunk_planned b chunk) chunk
read_so b pieces ends (Kept place piece) may = record {
  four = may.2;
  long = body_length b piece.at piece.len (piece_ends pieces (length b) place piece ends may.0) ∙ sym (length-replicate piece.len 0);
}
read_so b pieces ends (Given id body) may = record { four = may.1; long = refl }

pub outlines_take : (pieces : List Piece) (plan : List PlannedChunk) → All (MayStand pieces) plan → length (chunks_bytes Little (map outline_planned plan)) ≡ sizes_planned plan
outlines_take pieces plan may = sizes_are outline_planned plan (λ k d lt. outlined pieces _ (may k d lt))

pub chunks_take : (b : List ℕ) (pieces : List Piece) (plan : List PlannedChunk) → All (EndsIn (length b)) pieces → All (MayStand pieces) plan → length (chunks_bytes Little (map (chunk_planned b) plan)) ≡ sizes_planned plan
chunks_take b pieces plan ends may = sizes_are (chunk_planned b) plan (λ k d lt. read_so b pieces ends _ (may k d lt))

-- in a file of a kind with such chunks
pub little_take : (kind : Kind) (bytes : ℕ) (chunks : List NewChunk) → holds_meta kind ≡ true → length (chunks_bytes Little chunks) ≡ bytes → Take kind bytes chunks
little_take kind bytes chunks meta take = ap (λ (order : Order). length (chunks_bytes order chunks)) (meta_order kind meta) ∙ take

-- ---- what a head has room for

one_frame : (codec : Codec) → is_none (fixed_of codec) ≡ false → block_frames codec ≡ 1
one_frame (Ima align per_block) linear = absurd (cc)
one_frame (Ms align per_block) linear = absurd (cc)
one_frame _ linear = refl

-- the bytes of frames that do not stand in blocks
frame_bytes : (p : Parameters) (n : ℕ) → is_none (fixed_of p.codec) ≡ false → n * block_align p.channels p.codec ≡ data_bytes p n
frame_bytes p n linear =
    sym (ap (λ (m : ℕ). (n + m - 1) / m * block_align p.channels p.codec) (one_frame p.codec linear)
    ∙ ap (λ (m : ℕ). m * block_align p.channels p.codec) (let e : (n + 1 - 1) / 1 ≡ n = omega arith in e))

pub full_by : (h : Shape) (chunks : List NewChunk) (frames align most : ℕ) → is_none (fixed_of h.params.codec) ≡ false → frames ≡ h.frames → align ≡ block_align h.params.channels h.params.codec
    → most ≡ room (shape_with h.kind h.params chunks) → nat_lt most (frames * align) ≡ is_full_with h chunks
full_by h chunks frames align most linear frames_are align_is most_is =
    ap (λ (n : ℕ). nat_lt n (frames * align)) most_is
    ∙ ap (λ (n : ℕ). nat_lt (room (shape_with h.kind h.params chunks)) n) (ap (λ (n : ℕ). n * align) frames_are ∙ ap (λ (n : ℕ). h.frames * n) align_is ∙ frame_bytes h.params h.frames linear)

-- the pieces of a file that is read end within what its disk tells
pub all_end : (size : ℕ) (known h : Shape) (b : List ℕ) → size ≡ length b → known ≡ h → All (EndsIn size) known.pieces → All (EndsIn (length b)) h.pieces
all_end size known h b long same ends = subst (λ (s : Shape). All (EndsIn (length b)) s.pieces) same (subst (λ (n : ℕ). All (EndsIn n) known.pieces) long ends)
