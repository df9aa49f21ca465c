-- The heads of files of a kind that is given chunks.
use Rattle.std.proofs.Common.{◌≡◌, ℕ, ◌≤◌, true, false, List, Ok, Option, Some, length}
use Rattle.std.proofs.Math.Logic.{∥∥₁_elim, ∥∥₁_map}
use Rattle.snd_chunks.specs.HeadLaws.{KeepsPieceLaws}
use Rattle.snd_chunks.specs.Written.{NewChunk}
use Rattle.snd_container.proofs.Public.{may_be_put as may_be, piece_laws}
use Rattle.snd_container.specs.Values.{any}
use Rattle.snd_container.specs.Put.{HoldsHead, IsHeadOf, MayBePieceOf, heads_for}
use Rattle.snd_container.specs.Sound.{layout_of}
use Rattle.snd_disk.specs.State.{State}
use Rattle.snd_layout.specs.Params.{Parameters}
use Rattle.snd_layout.specs.Shape.{KeepsRule, Shape}
use Rattle.snd_layout.specs.declared.kind.Kind.{Kind}
use Rattle.snd_chunks.specs.Heads.{IsHeadIn, new_piece, with_piece}
use Rattle.snd_layout.specs.Kinds.{holds_pieces, is_own_id}
use Rattle.snd_file.proofs.HeadLaws.{IsBareHead, IsPut, bare_in, opens_in, put_in, same_in, told_in, told_pieces}
use Rattle.snd_file.proofs.HeadProps.{bare_prop, head_prop}

-- a chunk that is not a file's own may be put
pub may_be_put : (kind : Kind) (id body : List ℕ) → holds_pieces kind ≡ true → is_own_id kind id ≡ false → length id ≡ 4 → length body ≤ 65536 → MayBePieceOf kind (new_piece id body)
may_be_put kind id body holds other four few = may_be kind (new_piece id body) holds (record { four = four; other = other; few = few })

-- the laws of their heads, with a reservation and without
pub laws_for : (r : Option ℕ) (kind : Kind) → holds_pieces kind ≡ true → KeepsPieceLaws kind (any kind) (heads_for r kind)
laws_for r kind holds = piece_laws r kind holds

prop_for : (r : Option ℕ) (kind : Kind) (disk : State) (h : Shape) (p : Parameters) (pieces : List NewChunk) → holds_pieces kind ≡ true → IsProp (IsHeadIn (heads_for r kind) disk h p pieces)
prop_for r kind disk h p pieces holds = head_prop (heads_for r kind) disk h p pieces ((laws_for r kind holds).may_once p pieces)

-- a disk with the same bytes holds the same head
pub head_same : (old new : State) (h : Shape) → holds_pieces h.kind ≡ true → new.size ≡ old.size → new.contents ≡ old.contents → ∥ HoldsHead old h ∥₁ → ∥ HoldsHead new h ∥₁
head_same old new h holds size contents is = ∥∥₁_map is (λ x. (x.0, x.1, same_in (heads_for h.reserve h.kind) old new h x.0 x.1 size contents x.2))

-- what such a head says
pub bare_head : (disk : State) (h : Shape) → holds_pieces h.kind ≡ true → KeepsRule h → ∥ HoldsHead disk h ∥₁ → IsBareHead disk h
bare_head disk h holds rule is = ∥∥₁_elim is (bare_prop disk h) (λ x. bare_in (heads_for h.reserve) h.kind (laws_for h.reserve h.kind holds) disk h x.0 x.1 rule x.2)

-- a file that holds it has its layout
pub head_opens : (disk : State) (h : Shape) (b : List ℕ) → holds_pieces h.kind ≡ true → HoldsHead disk h → disk.contents ≡ Some b → layout_of b ≡ Ok h
head_opens disk h b holds is told = opens_in (heads_for h.reserve) h.kind (laws_for h.reserve h.kind holds) disk h is.0 is.1 b is.2 told

-- which pieces it has
pub told_head : (disk : State) (h : Shape) → holds_pieces h.kind ≡ true → ∥ HoldsHead disk h ∥₁ → HoldsHead disk h
told_head disk h holds is =
    let pieces = told_pieces disk.contents h in
    (h.params, pieces, ∥∥₁_elim is (prop_for h.reserve h.kind disk h h.params pieces holds) (λ x. told_in (heads_for h.reserve) h.kind (laws_for h.reserve h.kind holds) disk h x.0 x.1 x.2))

-- what it becomes as a piece is put
pub put_head : (old new : State) (h h' : Shape) (place : ℕ) (piece : NewChunk) → holds_pieces h.kind ≡ true → HoldsHead old h
    → ((p : Parameters) (pieces : List NewChunk) → IsHeadOf old h p pieces → IsHeadIn (heads_for h.reserve h.kind) new h' p (with_piece pieces place piece)) → IsPut (heads_for h.reserve) old new h h' place piece
put_head old new h h' place piece holds was puts = put_in (heads_for h.reserve) h.kind (laws_for h.reserve h.kind holds) old new h h' was.0 was.1 place piece was.2 (puts was.0 was.1 was.2)
