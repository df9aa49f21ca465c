-- The head of a file that is made, before its first frame and without further chunks, that gets a reservation.
use Rattle.std.proofs.Common.{◌≡◌, ◌∙◌, ap, subst, true, ℕ, List, [], Option, None, Some}
use Rattle.std.proofs.Math.Logic.{∥∥₁_elim}
use Rattle.std.specs.Prelude.{map}
use Rattle.snd_chunks.specs.Heads.{IsHeadIn, chunk_read, outline}
use Rattle.snd_chunks.specs.Written.{NewChunk}
use Rattle.snd_container.proofs.Public.{params_of_heads}
use Rattle.snd_container.specs.Put.{HoldsHead, IsHeadOf, heads_for}
use Rattle.snd_disk.specs.State.{State}
use Rattle.snd_layout.specs.Kinds.{holds_pieces}
use Rattle.snd_layout.specs.Shape.{KeepsRule, Shape}
use Rattle.snd_layout.specs.declared.kind.Kind.TheVariants.{Wave}
use Rattle.snd_layout.specs.declared.piece.Piece.{Piece}
use Rattle.snd_promote.proofs.Public.{reserved_head_says}
use Rattle.snd_reservations.proofs.Public.{HasPlace}
use Rattle.snd_reservations.specs.States.{reserved_shape}
use Rattle.snd_file.proofs.HeadLaws.{IsBareHead, told_in, told_pieces}
use Rattle.snd_file.proofs.HeadProps.{head_prop}
use Rattle.snd_file.proofs.KindHeads.{bare_head, laws_for}
use Rattle.snd_file.specs.Heads.{HasHead}

-- ---- the head before

none_told : (o : Option (List ℕ)) (h : Shape) → h.pieces ≡ [] → told_pieces o h ≡ []
none_told None h bare = ap (λ (l : List Piece). map outline l) bare
none_told (Some b) h bare = ap (λ (l : List Piece). map (chunk_read b) l) bare

module _ (disk : State) (h : Shape) (place : HasPlace h) (has : HasHead disk h) where
  pub holds_some : holds_pieces h.kind ≡ true
  holds_some = ap holds_pieces place.wave

  pub bare_head_is : IsHeadOf disk h h.params []
  bare_head_is =
      ∥∥₁_elim (has holds_some) (head_prop (heads_for h.reserve h.kind) disk h h.params [] ((laws_for h.reserve h.kind holds_some).may_once h.params []))
      (λ x. subst (λ (l : List NewChunk). IsHeadIn (heads_for h.reserve h.kind) disk h h.params l) (none_told disk.contents h place.bare)
      (told_in (heads_for h.reserve) h.kind (laws_for h.reserve h.kind holds_some) disk h x.0 x.1 x.2))

-- ---- the head afterwards

module _ (disk : State) (h h' : Shape) (is : h' ≡ reserved_shape h) (rule : KeepsRule h') (head : IsHeadOf disk h' h.params []) where
  pub kind_then : h'.kind ≡ Wave
  kind_then = ap (λ (s : Shape). s.kind) is ∙ (reserved_head_says 28 h.params []).0

  pub holds_then : holds_pieces h'.kind ≡ true
  holds_then = ap holds_pieces kind_then

  pub params_then : h'.params ≡ h.params
  params_then = ap (λ (s : Shape). s.params) is ∙ params_of_heads (Some 28) Wave h.params []

  pub head_then : HoldsHead disk h'
  head_then = (h.params, [], head)

  pub bare_then : IsBareHead disk h'
  bare_then = bare_head disk h' holds_then rule ∣ head_then ∣₁
