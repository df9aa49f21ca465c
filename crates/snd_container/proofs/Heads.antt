-- What a disk holds that holds the head of a file that is made.
use Rattle.std.proofs.Common.{◌≡◌, ℕ, ◌+◌, List, [], ◌∷◌, ◌++◌, Option, None, Some, length, take, drop, refl, sym, ap, ◌∙◌, arith, subst}
use Rattle.std.proofs.lemmas.List.{drop_all, take_all}
use Rattle.snd_chunks.specs.Written.{NewChunk}
use Rattle.snd_disk.specs.State.{State}
use Rattle.snd_layout.specs.Params.{Parameters}
use Rattle.snd_layout.specs.Shape.{Shape}
use Rattle.snd_layout.specs.declared.kind.Kind.{Kind}
use Rattle.snd_layout.specs.declared.kind.Kind.TheVariants.{Wave, Rf64, W64, Au, Dns, Voc, Svx, Sphere}
use Rattle.snd_rf64.proofs.Public as rf64
use Rattle.snd_rf64.specs.Put as rf64_put
use Rattle.snd_rf64.specs.Written as rf64_written
use Rattle.snd_svx.proofs.Public as svx
use Rattle.snd_svx.specs.Written as svx_written
use Rattle.snd_wave.proofs.Public as wave
use Rattle.snd_wave.proofs.Public.{as_many}
use Rattle.snd_chunks.specs.Heads.{Heads, HoldsHeadIn, IsHeadIn, IsLayoutIn, PutsPieceIn, with_piece}
use Rattle.snd_wave.specs.Put.{reserved_heads}
use Rattle.snd_wave.specs.Relaid.{AreStanding}
use Rattle.snd_wave.specs.Written as wave_written
use Rattle.snd_container.specs.Put.{AddsPiece, HoldsHead, IsHeadOf, MayBePieceOf, PutsPiece, heads_for, heads_of}

-- the heads of a kind that has no reservations are the same with any
pub wave_same : (r : Option ℕ) → heads_for r Wave ≡ reserved_heads r
wave_same None = refl
wave_same (Some len) = refl

pub rf64_same : (r : Option ℕ) → heads_for r Rf64 ≡ heads_of Rf64
rf64_same None = refl
rf64_same (Some len) = refl

pub svx_same : (r : Option ℕ) → heads_for r Svx ≡ heads_of Svx
svx_same None = refl
svx_same (Some len) = refl

-- what a head says has its kind, and its reservation
abbrev pub SaysKind : Kind → Heads → Shape → Type 1
SaysKind known own h = (h.kind ≡ known) × (heads_for h.reserve known ≡ own)

abbrev pub SayKind : Kind → Heads → Type 1
SayKind known own = (h : Shape) (p : Parameters) (pieces : List NewChunk) → IsLayoutIn own h p pieces → SaysKind known own h

pub wave_says : (r : Option ℕ) → SayKind Wave (reserved_heads r)
unfolding wave_written.reserved_shape
wave_says r h p pieces is = (ap (λ (s : Shape). s.kind) is.shape, wave_same h.reserve ∙ ap (λ (s : Shape). reserved_heads s.reserve) is.shape)

pub rf64_says : SayKind Rf64 (heads_of Rf64)
unfolding rf64_written.made_shape
rf64_says h p pieces is = (ap (λ (s : Shape). s.kind) is.shape, rf64_same h.reserve)

pub svx_says : SayKind Svx (heads_of Svx)
unfolding svx_written.made_shape
svx_says h p pieces is = (ap (λ (s : Shape). s.kind) is.shape, svx_same h.reserve)

-- ---- where the kind and the reservation are known

module _ (known : Kind) (own : Heads) where
  pub as_kind : (disk : State) (h : Shape) (p : Parameters) (pieces : List NewChunk) → SaysKind known own h → IsHeadOf disk h p pieces → IsHeadIn own disk h p pieces
  as_kind disk h p pieces says is =
      subst (λ (heads : Heads). IsHeadIn heads disk h p pieces) says.1 (subst (λ (k : Kind). IsHeadIn (heads_for h.reserve k) disk h p pieces) says.0 is)

  pub of_kind : (disk : State) (h h' : Shape) (p : Parameters) (pieces : List NewChunk) → SaysKind known own h → IsHeadIn own disk h' p pieces → IsHeadIn (heads_for h.reserve h.kind) disk h' p pieces
  of_kind disk h h' p pieces says is =
      subst (λ (k : Kind). IsHeadIn (heads_for h.reserve k) disk h' p pieces) (sym says.0) (subst (λ (heads : Heads). IsHeadIn heads disk h' p pieces) (sym says.1) is)

  pub holds_as_kind : (disk : State) (h : Shape) → SaysKind known own h → HoldsHead disk h → HoldsHeadIn own disk h
  holds_as_kind disk h says head = (head.0, head.1, as_kind disk h head.0 head.1 says head.2)

  pub holds_of_kind : SayKind known own → (disk : State) (h : Shape) → HoldsHeadIn own disk h → HoldsHead disk h
  holds_of_kind say disk h head = (head.0, head.1, of_kind disk h h head.0 head.1 (say h head.0 head.1 head.2.laid) head.2)

  pub puts_of_kind : {D : Type 0} (state : D → State) (old new : D) (h h' : Shape) (place : ℕ) (piece : NewChunk) → SaysKind known own h → PutsPieceIn own state old new h h' place piece → PutsPiece state old new h h' place piece
  puts_of_kind state old new h h' place piece says put p pieces is = of_kind (state new) h h' p (with_piece pieces place piece) says (put p pieces (as_kind (state old) h p pieces says is))

-- ---- how many pieces there are

many : (q : ℕ) (h : Shape) (pieces : List NewChunk) → AreStanding q h.pieces pieces → length h.pieces ≡ length pieces
many q h pieces are = ap length are.stand ∙ as_many q pieces

as_many_in : (kind : Kind) (piece : NewChunk) (disk : State) (h : Shape) (p : Parameters) (pieces : List NewChunk) → MayBePieceOf kind piece → IsHeadIn (heads_for h.reserve kind) disk h p pieces → length h.pieces ≡ length pieces
as_many_in Wave piece disk h p pieces may is =
    many (wave_written.reserved_first h.reserve p) h pieces (wave.reserved_stand h.reserve h p pieces (subst (λ (heads : Heads). IsHeadIn heads disk h p pieces) (wave_same h.reserve) is).laid)
as_many_in Rf64 piece disk h p pieces may is = many (rf64_put.first_place p) h pieces (rf64.stands h p pieces (subst (λ (heads : Heads). IsHeadIn heads disk h p pieces) (rf64_same h.reserve) is).laid)
as_many_in Svx piece disk h p pieces may is = many 40 h pieces (svx.stands h p pieces (subst (λ (heads : Heads). IsHeadIn heads disk h p pieces) (svx_same h.reserve) is).laid)
as_many_in W64 piece disk h p pieces may is = absurd may
as_many_in Au piece disk h p pieces may is = absurd may
as_many_in Dns piece disk h p pieces may is = absurd may
as_many_in Voc piece disk h p pieces may is = absurd may
as_many_in Sphere piece disk h p pieces may is = absurd may

-- behind all pieces is one more
behind_all : (pieces : List NewChunk) (place : ℕ) (piece : NewChunk) → place ≡ length pieces → with_piece pieces place piece ≡ pieces ++ piece ∷ []
behind_all pieces place piece is =
    let all : take place pieces ≡ pieces = take_all place pieces (omega (arith, is)) in
    let none : drop (place + 1) pieces ≡ [] = drop_all (place + 1) pieces (omega (arith, is)) in
    rw (all, none) refl

pub adds_behind : {D : Type 0} (state : D → State) (old new : D) (h h' : Shape) (place : ℕ) (piece : NewChunk) → MayBePieceOf h.kind piece → place ≡ length h.pieces → PutsPiece state old new h h' place piece → AddsPiece state old new h h' piece
adds_behind state old new h h' place piece may last put p pieces is =
    subst (λ (l : List NewChunk). IsHeadIn (heads_for h.reserve h.kind) (state new) h' p l) (behind_all pieces place piece (last ∙ as_many_in h.kind piece (state old) h p pieces may is)) (put p pieces is)
