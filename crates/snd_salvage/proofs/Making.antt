-- A WAVE file that is made of an open file.
use Rattle.std.proofs.Common.{◌≡◌, ◌∙◌, ℕ, [], ◌++◌, drop, None, true, false, Result, Ok, Err, sym, ap, subst, arith}
use Rattle.snd_edits.specs.Editing.{Editing}
use Rattle.snd_edits.specs.Known.{IsFresh, Known}
use Rattle.snd_edits.specs.Relaid.{shape_with}
use Rattle.snd_inputs.proofs.Public.{IsBegun, begun_as, begun_at_end, begun_room}
use Rattle.snd_inputs.specs.Opening.{IsUnread}
use Rattle.snd_inputs.specs.Rooms.{is_full}
use Rattle.snd_layout.specs.Blocks.{is_adpcm}
use Rattle.snd_layout.specs.Fit.{fit_refusal}
use Rattle.snd_layout.specs.Params.{AreParams, Parameters}
use Rattle.snd_layout.specs.Shape.{Shape}
use Rattle.snd_layout.specs.declared.codec.Codec.{Codec}
use Rattle.snd_layout.specs.declared.kind.Kind.TheVariants.{Wave}
use Rattle.snd_output.specs.Appended.{AppendLeaves, HasRoom, MayAppend, left_in, numbers_left}
use Rattle.snd_output.specs.Ends.{IsUnchanged}
use Rattle.snd_output.specs.Widths.{change_numbers, joined, width_of}
use Rattle.snd_output.specs.declared.stop.Stop.{Stop}
use Rattle.snd_output.specs.declared.stop.Stop.TheVariants.{Changed, Fault, Memory}
use Rattle.snd_recode.proofs.Numbers.{all_same_width}

module _ (p : Parameters) (from to : Known) (params : from.shape.params ≡ p) (good : AreParams p) (fits : fit_refusal Wave p ≡ None) (fresh : IsFresh to)
    (shape : to.shape ≡ shape_with Wave p []) where
  begun : IsBegun Wave p (shape_with Wave p [])
  begun = begun_as Wave p good fits

  pub codec_is : to.shape.params.codec ≡ p.codec
  codec_is = ap (λ (h : Shape). h.params.codec) shape ∙ ap (λ (q : Parameters). q.codec) begun.params

  -- all frames of a file that is unread may be put into one that was begun, where its head has room for them
  pub may_append : IsUnread from → is_full Wave p from.shape.frames ≡ false → MayAppend from to
  may_append unread room =
      let left : from.shape.frames ≡ left_in from = omega (arith, unread.first) in
      record {
        working = unread.working;
        at_end = begun_at_end Wave p (shape_with Wave p []) to begun fresh shape;
        alike = ap (λ (q : Parameters). q.channels) params ∙ sym (ap (λ (h : Shape). h.params.channels) shape ∙ ap (λ (q : Parameters). q.channels) begun.params);
        in_room = subst (λ (n : ℕ). HasRoom n to) left (begun_room Wave p (shape_with Wave p []) to begun fresh shape from.shape.frames room);
      }

-- the numbers that are put are those of all frames, as they are
pub numbers_same : (e : Editing) (from to : Codec) → from ≡ to → e.place ≡ 0 → [] ++ change_numbers from to (numbers_left e) ≡ joined e.frames
numbers_same e from to same first =
    ap (λ (c : Codec). change_numbers c to (numbers_left e)) same
    ∙ all_same_width (width_of to) (numbers_left e)
    ∙ ap (λ (n : ℕ). joined (drop n e.frames)) first

-- samples of a fixed number of bytes have not changed
pub never_changed : {T : Type 0} (r : Result T Stop) (n : ℕ) (from from' to to' : Known) → is_adpcm from.shape.params.codec ≡ false
    → AppendLeaves n from from' to to' r → IsUnchanged r
never_changed (Ok done) n from from' to to' plain left = tt
never_changed (Err Fault) n from from' to to' plain left = tt
never_changed (Err Memory) n from from' to to' plain left = tt
never_changed (Err Changed) n from from' to to' plain left =
    let no : true ≡ false = sym left.0 ∙ plain in
    absurd (cc)
