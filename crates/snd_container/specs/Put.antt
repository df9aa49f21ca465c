-- Pieces that are put into a file that is made.
use Rattle.std.specs.Prelude.{◌≡◌, ℕ, List, [], ◌∷◌, ◌++◌, Option, None, Some}
use Rattle.snd_chunks.specs.Written.{NewChunk}
use Rattle.snd_disk.specs.State.{State}
use Rattle.snd_layout.specs.Container.{Container}
use Rattle.snd_layout.specs.Params.{Parameters}
use Rattle.snd_layout.specs.Shape.{Shape}
use Rattle.snd_layout.specs.declared.kind.Kind.{Kind}
use Rattle.snd_layout.specs.declared.kind.Kind.TheVariants.{Wave, Rf64, W64, Au, Dns, Voc, Svx, Sphere}
use Rattle.snd_container.specs.Kinds.{container_of}
use Rattle.snd_rf64.specs.Put.{rf64_heads}
use Rattle.snd_svx.specs.Put.{svx_heads}
use Rattle.snd_svx.specs.Written as svx
use Rattle.snd_chunks.specs.Heads.{Heads, IsHeadIn, with_piece}
use Rattle.snd_wave.specs.Put.{reserved_heads, wave_heads}
use Rattle.snd_wave.specs.Written.{MayBePiece}

-- a chunk that a file of a kind may keep beside its sound
abbrev pub MayBePieceOf : Kind → NewChunk → Type 0
MayBePieceOf Wave piece = MayBePiece piece
MayBePieceOf Rf64 piece = MayBePiece piece
MayBePieceOf W64 piece = ⊥
MayBePieceOf Au piece = ⊥
MayBePieceOf Dns piece = ⊥
MayBePieceOf Voc piece = ⊥
MayBePieceOf Svx piece = svx.MayBePiece piece
MayBePieceOf Sphere piece = ⊥

-- the heads of a container whose files keep no pieces
abbrev pub plain_heads : Container → Heads
plain_heads c = record { may = λ p pieces. pieces ≡ []; shape = λ p pieces. c.made p; head = λ p pieces. c.head p }

-- the heads of a kind without a reservation, with pieces where its files keep them
abbrev pub heads_of : Kind → Heads
heads_of Wave = wave_heads
heads_of Rf64 = rf64_heads
heads_of W64 = plain_heads (container_of W64)
heads_of Au = plain_heads (container_of Au)
heads_of Dns = plain_heads (container_of Dns)
heads_of Voc = plain_heads (container_of Voc)
heads_of Svx = svx_heads
heads_of Sphere = plain_heads (container_of Sphere)

-- .. with one of so many bytes, which a WAVE file alone has
abbrev pub reserved_heads_of : ℕ → Kind → Heads
reserved_heads_of len Wave = reserved_heads (Some len)
reserved_heads_of len Rf64 = heads_of Rf64
reserved_heads_of len W64 = heads_of W64
reserved_heads_of len Au = heads_of Au
reserved_heads_of len Dns = heads_of Dns
reserved_heads_of len Voc = heads_of Voc
reserved_heads_of len Svx = heads_of Svx
reserved_heads_of len Sphere = heads_of Sphere

-- .. with that of a layout: by the reservation first, so that of a layout without one they are those of its kind, whichever it is
abbrev pub heads_for : Option ℕ → Kind → Heads
heads_for None kind = heads_of kind
heads_for (Some len) kind = reserved_heads_of len kind

-- a disk holds nothing but the head of a file with these pieces and no frames, where it tells what it holds; and a layout is that
-- of this head
abbrev pub IsHeadOf : State → Shape → Parameters → List NewChunk → Type 0
IsHeadOf disk h p pieces = IsHeadIn (heads_for h.reserve h.kind) disk h p pieces

-- .. of some pieces
abbrev pub HoldsHead : State → Shape → Type 0
HoldsHead disk h = (p : Parameters) × (pieces : List NewChunk) × IsHeadOf disk h p pieces

-- the head of any pieces becomes that of the same kind, with the same reservation, of these pieces with one put, or with one more
abbrev pub PutsPiece : {D : Type 0} → (D → State) → D → D → Shape → Shape → ℕ → NewChunk → Type 0
PutsPiece state old new h h' place piece =
    (p : Parameters) (pieces : List NewChunk) → IsHeadOf (state old) h p pieces → IsHeadIn (heads_for h.reserve h.kind) (state new) h' p (with_piece pieces place piece)

abbrev pub AddsPiece : {D : Type 0} → (D → State) → D → D → Shape → Shape → NewChunk → Type 0
AddsPiece state old new h h' piece =
    (p : Parameters) (pieces : List NewChunk) → IsHeadOf (state old) h p pieces → IsHeadIn (heads_for h.reserve h.kind) (state new) h' p (pieces ++ piece ∷ [])
