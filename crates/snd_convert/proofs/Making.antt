-- A file that is made of another: it may be given all frames once it is begun; what its head has room for; and which numbers it has.
use Rattle.std.proofs.Common.{◌≡◌, ℕ, List, [], ◌++◌, All, Bool, None, true, false, cond, inl, inr, drop, length, map, refl, sym, ◌∙◌, ap, subst, arith}
use Rattle.std.proofs.lemmas.Bool.{and_parts, cases_Bool}
use Rattle.snd_carry.specs.Carried.{carried_pieces}
use Rattle.snd_chunks.specs.Written.{NewChunk, chunks_bytes}
use Rattle.snd_inputs.proofs.Public.{begun_as, begun_at_end, begun_room, IsBegun}
use Rattle.snd_inputs.specs.Opening.{IsUnread}
use Rattle.snd_fields.specs.declared.field.Order.TheVariants.{Little}
use Rattle.snd_layout.specs.Fit.{fit_refusal}
use Rattle.snd_layout.specs.Opened.{EndsIn}
use Rattle.snd_layout.specs.Params.{AreParams, Parameters}
use Rattle.snd_layout.specs.Shape.{Shape}
use Rattle.snd_layout.specs.declared.codec.Codec.{Codec}
use Rattle.snd_layout.proofs.Public.{meta_order}
use Rattle.snd_layout.specs.declared.kind.Kind.{Kind}
use Rattle.snd_fields.specs.declared.field.Order.{Order}
use Rattle.snd_edits.specs.Editing.{Editing}
use Rattle.snd_edits.specs.Known.{IsFresh, Known}
use Rattle.snd_layout.specs.Kinds.{holds_meta}
use Rattle.snd_edits.specs.Relaid.{shape_with}
use Rattle.snd_chunks.specs.Heads.{outline}
use Rattle.snd_output.proofs.Public.{says_of}
use Rattle.snd_output.specs.Appended.{HasRoom, left_in}
use Rattle.snd_output.specs.Widths.{change_numbers}
use Rattle.snd_container.specs.Room.{Take}
use Rattle.snd_rack.specs.Stage.{Stated}
use Rattle.snd_rack.specs.declared.setting.StageKind.{StageKind}
use Rattle.snd_racking.specs.Appending.{MayRack}
use Rattle.snd_racking.specs.Racked.{racked_left, racked_numbers}
use Rattle.snd_convert.specs.Convert.{carries, numbers_for}
use Rattle.snd_convert.specs.Making.{FitsRack, is_full_by, known_filled, outlines_for}
use Rattle.snd_convert.specs.Plan.{Planned}

-- what is begun with the chunks that go with the frames of another
pub begun_with : (plan : Planned) (h : Shape) → AreParams plan.params → fit_refusal plan.kind plan.params ≡ None → IsBegun plan.kind plan.params (shape_with plan.kind plan.params (outlines_for plan h))
begun_with plan h good fits =
    let chunks : List NewChunk = map outline (carried_pieces h.pieces) in
    let P : Bool → Type 0 = λ t. IsBegun plan.kind plan.params (shape_with plan.kind plan.params (cond t chunks [])) in
    elim (cases_Bool (carries plan.kind h.kind)) [
      | inl both ↦
          let says = says_of plan.kind plan.params chunks (and_parts _ _ both).0 in
          subst P (sym both) (record { kind_is = says.kind_is; params = says.params; frames = says.frames; free = says.free })
      | inr other ↦ subst P (sym other) (begun_as plan.kind plan.params good fits)
    ]

-- all frames of a file that is unread may be put through a rack into one that was begun, with these chunks, where its head has room
-- for them
module _ (items : List Stated) (boxes : List StageKind) (plan : Planned) (from from' to to' : Known) (good : AreParams plan.params) (fits : fit_refusal plan.kind plan.params ≡ None) (unread : IsUnread from) (fresh : IsFresh to)
    (rack : FitsRack items boxes from.shape.params.channels plan.params.channels) (room_is : is_full_by plan from.shape ≡ false) where
  is_begun : IsBegun plan.kind plan.params (known_filled plan from.shape to).shape
  is_begun = begun_with plan from.shape good fits

  fresh_filled : IsFresh (known_filled plan from.shape to)
  fresh_filled = record { place = fresh.place; write_place = fresh.write_place; automatic = fresh.automatic; written = fresh.written; broken = fresh.broken }

  in_room : HasRoom (left_in from) (known_filled plan from.shape to)
  in_room =
      let left : from.shape.frames ≡ left_in from = omega (arith, unread.first) in
      subst (λ (n : ℕ). HasRoom n (known_filled plan from.shape to)) left (begun_room plan.kind plan.params (known_filled plan from.shape to).shape (known_filled plan from.shape to) is_begun fresh_filled refl from.shape.frames room_is)

  may_rack_filled : MayRack items from (known_filled plan from.shape to)
  may_rack_filled = record {
    working = unread.working;
    at_end = begun_at_end plan.kind plan.params (known_filled plan from.shape to).shape (known_filled plan from.shape to) is_begun fresh_filled refl;
    good = rack.places;
    fits = sym rack.channels ∙ ap (λ (q : Parameters). q.channels) (sym is_begun.params);
    in_room = in_room;
  }

  pub may_rack : from' ≡ from → to' ≡ known_filled plan from.shape to → MayRack items from' to'
  may_rack same filled = subst (λ (k : Known). MayRack items k to') (sym same) (subst (MayRack items from) (sym filled) may_rack_filled)

-- ---- what its head has room for

-- where the chunks of a file go, those of both kinds are counted in one order of bytes, and no chunks take no bytes
pub little_take : (kind : Kind) (bytes : ℕ) (chunks : List NewChunk) → holds_meta kind ≡ true → length (chunks_bytes Little chunks) ≡ bytes → Take kind bytes chunks
little_take kind bytes chunks meta take = ap (λ (order : Order). length (chunks_bytes order chunks)) (meta_order kind meta) ∙ take

pub none_take : (kind : Kind) → Take kind 0 []
unfolding chunks_bytes
none_take kind = refl

-- the chunks that go with the frames, if they go, take so many bytes; and none else
pub some_take : (to from : Kind) (bytes : ℕ) (chunks : List NewChunk) → carries to from ≡ true → length (chunks_bytes Little chunks) ≡ bytes → Take to bytes (cond (carries to from) chunks [])
some_take to from bytes chunks both take = subst (λ (t : Bool). Take to bytes (cond t chunks [])) (sym both) (little_take to bytes chunks (and_parts _ _ both).0 take)

pub no_take : (to from : Kind) (chunks : List NewChunk) → carries to from ≡ false → Take to 0 (cond (carries to from) chunks [])
no_take to from chunks other = subst (λ (t : Bool). Take to 0 (cond t chunks [])) (sym other) (none_take to)

-- the pieces of a file that is read end within what its disk tells
pub all_end : (size : ℕ) (known h : Shape) (b : List ℕ) → size ≡ length b → known ≡ h → All (EndsIn size) known.pieces → All (EndsIn (length b)) h.pieces
all_end size known h b long same ends = subst (λ (s : Shape). All (EndsIn (length b)) s.pieces) same (subst (λ (n : ℕ). All (EndsIn n) known.pieces) long ends)

-- ---- what it has

-- the numbers that are put are those of all frames
pub numbers_same : (items : List Stated) (plan : Planned) (e : Editing) (from to : Codec) → from ≡ e.shape.params.codec → to ≡ plan.params.codec → e.place ≡ 0
    → [] ++ change_numbers from to (racked_left items e) ≡ numbers_for items plan e
numbers_same items plan e from to from_is to_is first =
    ap (λ (c : Codec). change_numbers c to (racked_left items e)) from_is ∙ ap (λ (c : Codec). change_numbers e.shape.params.codec c (racked_left items e)) to_is
    ∙ ap (λ (n : ℕ). racked_numbers items e.shape.params.codec plan.params.codec (drop n e.frames)) first
