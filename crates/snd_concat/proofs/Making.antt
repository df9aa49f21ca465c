-- A file that was begun to be made of others, and what it becomes.
use Rattle.std.proofs.Common.{◌≡◌, ℕ, ◌+◌, List, [], ◌++◌, All, None, Some, true, sym, ◌∙◌, ap, subst, arith}
use Rattle.snd_disk.specs.Device.{Tells}
use Rattle.snd_disk.specs.State.{State}
use Rattle.snd_inputs.proofs.Public.{begun_as, begun_at_end, IsBegun}
use Rattle.snd_inputs.specs.Rooms.{exceeds}
use Rattle.snd_layout.specs.Fit.{fit_refusal}
use Rattle.snd_layout.specs.Params.{AreParams, Parameters}
use Rattle.snd_layout.specs.Shape.{Shape, room}
use Rattle.snd_layout.specs.declared.kind.Kind.{Kind}
use Rattle.snd_edits.specs.Editing.{Editing}
use Rattle.snd_edits.specs.Known.{IsFresh, Known}
use Rattle.snd_edits.specs.Relaid.{shape_with}
use Rattle.snd_output.specs.Appended.{IsAtEnd}
use Rattle.snd_output.specs.Made.{made_file}
use Rattle.snd_concat.specs.Appending.{AllFollow}
use Rattle.snd_concat.specs.Concat.{all_frames, all_numbers, is_alike}
use Rattle.snd_concat.specs.Making.{MayJoin, bytes_made}

module _ (kind : Kind) (p : Parameters) (k : Known) (good : AreParams p) (fits : fit_refusal kind p ≡ None) (fresh : IsFresh k) (shape : k.shape ≡ shape_with kind p []) where
  abbrev new : Shape
  new = shape_with kind p []

  begun : IsBegun kind p new
  begun = begun_as kind p good fits

  params : k.shape.params ≡ p
  params = ap (λ (h : Shape). h.params) shape ∙ begun.params

  pub at_end : IsAtEnd k
  at_end = begun_at_end kind p new k begun fresh shape

  pub counted : (n : ℕ) → k.write_place + n ≡ n
  counted n = omega (arith, fresh.write_place)

  pub all_follow : (hs : List Shape) → MayJoin kind p hs → AllFollow hs k
  all_follow hs may = record {
    alike = subst (λ (q : Parameters). All (λ (h : Shape). is_alike q h.params ≡ true) hs) (sym params) may.alike;
    in_room =
        let n = all_frames hs in
        ap (λ (h : Shape). exceeds h.kind h.params (room h) (k.write_place + n)) shape
        ∙ ap (λ (q : Kind). exceeds q new.params (room new) (k.write_place + n)) begun.kind_is
        ∙ ap (λ (q : Parameters). exceeds kind q (room new) (k.write_place + n)) begun.params
        ∙ ap (exceeds kind p (room new)) (counted n) ∙ may.in_room;
  }

  pub same_bytes : (es : List Editing) → made_file kind p [] ([] ++ all_numbers k.shape.params.codec es) ≡ bytes_made kind p es
  same_bytes es = ap (λ (q : Parameters). made_file kind p [] (all_numbers q.codec es)) params

-- where it is then
pub told_as : {E : Type 0} (state : E → State) (d d' : E) (b b' : List ℕ) → d ≡ d' → b ≡ b' → Tells state d b → Tells state d' b'
told_as state d d' b b' same bytes told = subst (λ (x : _). Tells state x b') same (told ∙ ap (λ (l : List ℕ). Some l) bytes)
