-- A file that was begun is given the chunks that go with the frames of another, and these.
use Rattle.std.proofs.Common.{◌≡◌, List, [], Bool, true, false, cond, Ok, Err, OnOk, Result, map, sym, ◌∙◌, ap, subst}
use Rattle.std.proofs.lemmas.Bool.{and_parts}
use Rattle.snd_carry.specs.Carried.{carried, carried_pieces}
use Rattle.snd_carry.specs.Carrying.{IsNewShape, known_with}
use Rattle.snd_chunks.specs.Written.{NewChunk}
use Rattle.snd_layout.specs.Params.{AreParams, Parameters}
use Rattle.snd_layout.specs.Shape.{Shape}
use Rattle.snd_layout.specs.declared.kind.Kind.{Kind}
use Rattle.snd_edits.specs.Editing.{Editing}
use Rattle.snd_edits.specs.Known.{Known}
use Rattle.snd_layout.specs.Kinds.{holds_meta}
use Rattle.snd_edits.specs.Making.{making_of}
use Rattle.snd_edits.specs.Relaid.{shape_with}
use Rattle.snd_chunks.specs.Heads.{outline}
use Rattle.snd_output.proofs.Public.{begun_is_making, carried_is_making, new_says, says_of}
use Rattle.snd_output.specs.Made.{AreChunks, IsMaking, made_with}
use Rattle.snd_convert.specs.Convert.{carries, chunks_for}
use Rattle.snd_convert.specs.Making.{known_filled}
use Rattle.snd_convert.specs.Plan.{Planned}

-- ---- the chunks that go

module _ (plan : Planned) (h : Shape) (both : carries plan.kind h.kind ≡ true) where
  meta : holds_meta plan.kind ≡ true
  meta = (and_parts _ _ both).0

  module _ (k : Known) (begun : k.shape ≡ shape_with plan.kind plan.params []) where
    kind_is : k.shape.kind ≡ plan.kind
    kind_is = ap (λ (s : Shape). s.kind) begun ∙ (says_of plan.kind plan.params [] meta).kind_is

    params_are : k.shape.params ≡ plan.params
    params_are = ap (λ (s : Shape). s.params) begun ∙ (says_of plan.kind plan.params [] meta).params

    pub into_meta : holds_meta k.shape.kind ≡ true
    into_meta = ap holds_meta kind_is ∙ meta

    -- what is known of the file with them
    pub filled : known_with (carried_pieces h.pieces) k ≡ known_filled plan h k
    filled =
        let chunks : List NewChunk = map outline (carried_pieces h.pieces) in
        ap (λ (q : Kind). record k { shape = shape_with q k.shape.params chunks }) kind_is
        ∙ ap (λ (q : Parameters). record k { shape = shape_with plan.kind q chunks }) params_are
        ∙ ap (λ (t : Bool). record k { shape = shape_with plan.kind plan.params (cond t chunks []) }) (sym both)

  -- it is one that is being made with them
  pub making_with : (r e : Editing) → AreParams plan.params → making_of plan.kind plan.params ≡ Ok e → h ≡ r.shape → AreChunks (carried r.bytes r.shape.pieces)
      → IsMaking plan.kind plan.params (chunks_for plan r) [] (made_with plan.kind plan.params (carried r.bytes r.shape.pieces))
  making_with r e good made same are =
      let chunks : List NewChunk = carried r.bytes r.shape.pieces in
      let goes : carries plan.kind r.shape.kind ≡ true = ap (λ (s : Shape). carries plan.kind s.kind) (sym same) ∙ both in
      subst (λ (t : Bool). IsMaking plan.kind plan.params (cond t chunks []) [] (made_with plan.kind plan.params chunks)) (sym goes)
      (carried_is_making plan.kind plan.params chunks e good made meta are)

pub new_shape_is : (plan : Planned) (k : Known) → k.shape ≡ shape_with plan.kind plan.params [] → IsNewShape k.shape
new_shape_is plan k begun = (plan.kind, plan.params, begun ∙ sym (new_says plan.kind plan.params))

-- ---- none go

module _ (plan : Planned) (h : Shape) (none : carries plan.kind h.kind ≡ false) where
  pub filled_none : (k : Known) → k.shape ≡ shape_with plan.kind plan.params [] → k ≡ known_filled plan h k
  filled_none k begun =
      let chunks : List NewChunk = map outline (carried_pieces h.pieces) in
      ap (λ (s : Shape). record k { shape = s }) begun ∙ ap (λ (t : Bool). record k { shape = shape_with plan.kind plan.params (cond t chunks []) }) (sym none)

  pub making_without : (r e : Editing) → AreParams plan.params → making_of plan.kind plan.params ≡ Ok e → h ≡ r.shape → IsMaking plan.kind plan.params (chunks_for plan r) [] e
  making_without r e good made same =
      let stay : carries plan.kind r.shape.kind ≡ false = ap (λ (s : Shape). carries plan.kind s.kind) (sym same) ∙ none in
      subst (λ (t : Bool). IsMaking plan.kind plan.params (cond t (carried r.bytes r.shape.pieces) []) [] e) (sym stay) (begun_is_making plan.kind plan.params e good made)

-- ---- what follows of two calls

pub on_both : {T E : Type 0} (r : Result T E) (P Q R : Type 0) → (P → Q → R) → OnOk r P → OnOk r Q → OnOk r R
on_both (Ok x) P Q R f p q = f p q
on_both (Err e) P Q R f p q = p
