-- A file that is begun, to which one channel of all frames of another is put; and the other one, which is at its first frame again.
use Rattle.std.proofs.Common.{◌≡◌, ◌∙◌, ap, sym, subst, ℕ, ◌<◌, ◌≤◌, [], None, Some, Result, Err, arith}
use Rattle.snd_edits.specs.Calls.{SeekLeaves}
use Rattle.snd_edits.specs.Known.{IsFresh, Known}
use Rattle.snd_edits.specs.Reading.{FitCodec}
use Rattle.snd_edits.specs.Relaid.{shape_with}
use Rattle.snd_edits.specs.declared.error.SeekError.{SeekError}
use Rattle.snd_edits.specs.declared.error.SeekError.TheVariants as seek
use Rattle.snd_inputs.proofs.Public.{IsBegun, begun_as, begun_at_end, begun_room}
use Rattle.snd_inputs.specs.Opening.{IsUnread}
use Rattle.snd_layout.specs.Blocks.{block_frames}
use Rattle.snd_layout.specs.Params.{AreParams, Parameters}
use Rattle.snd_layout.specs.Shape.{Shape}
use Rattle.snd_layout.specs.declared.kind.Kind.{Kind}
use Rattle.snd_output.specs.Appended.{HasRoom, left_in}
use Rattle.snd_deinterleave.specs.Making.{MaySplit}
use Rattle.snd_deinterleave.specs.Passing.{MayPut}

-- a file that works goes back to its first frame
pub never_unsought : (old new : Known) (result : Result Unit SeekError) (error : SeekError) → old.broken ≡ None → SeekLeaves 0 old new result → result ≡ Err error → ⊥
never_unsought old new result error working left is = by_error error (subst (SeekLeaves 0 old new) is left)
  where
    by_error : (why : SeekError) → SeekLeaves {T = Unit} 0 old new (Err why) → ⊥
    by_error (seek.Broken step) leaves = let e : None ≡ Some step = sym working ∙ leaves.0 in cc
    by_error seek.AdpcmSeek leaves = leaves
    by_error seek.SeekRange leaves = omega (arith, leaves.1)

-- one channel of all frames of a file that is unread may be put into one that was begun, whose head has room for them
module _ (kind : Kind) (p : Parameters) (w : ℕ) (from to : Known) (good : AreParams p) (unread : IsUnread from) (within : w < from.shape.params.channels) (split : MaySplit kind p from)
    (fresh : IsFresh to) (shape : to.shape ≡ shape_with kind p []) (some : 1 ≤ block_frames to.shape.params.codec) where
  is_begun : IsBegun kind p (shape_with kind p [])
  is_begun = begun_as kind p good split.holds

  params : to.shape.params ≡ p
  params = ap (λ (h : Shape). h.params) shape ∙ is_begun.params

  in_room : HasRoom (left_in from) to
  in_room =
      let left : from.shape.frames ≡ left_in from = omega (arith, unread.first) in
      subst (λ (n : ℕ). HasRoom n to) left (begun_room kind p (shape_with kind p []) to is_begun fresh shape from.shape.frames split.room)

  pub may_put : MayPut w from to
  may_put = record {
    working = unread.working;
    at_end = begun_at_end kind p (shape_with kind p []) to is_begun fresh shape;
    within = within;
    mono = ap (λ (q : Parameters). q.channels) params ∙ split.mono;
    fits = λ xs fit. subst (λ (q : Parameters). FitCodec q.codec xs) (sym params) (split.fits xs fit);
    together = some;
    in_room = in_room;
  }
