-- A file that is begun with a head: frames may be put behind those it has, which are none, where the head has room for them.
use Rattle.std.proofs.Common.{◌≡◌, ◌∙◌, ap, sym, subst, ℕ, ◌+◌, [], false, None, arith}
use Rattle.snd_container.proofs.Public.{made}
use Rattle.snd_inputs.proofs.Rooms.{has_room}
use Rattle.snd_inputs.specs.Rooms.{exceeds}
use Rattle.snd_layout.specs.Blocks.{is_adpcm}
use Rattle.snd_layout.specs.Fit.{fit_refusal}
use Rattle.snd_layout.specs.Params.{AreParams, Parameters, data_bytes}
use Rattle.snd_layout.specs.Shape.{Shape, room}
use Rattle.snd_layout.specs.declared.kind.Kind.{Kind}
use Rattle.snd_edits.specs.Known.{IsFresh, Known}
use Rattle.snd_edits.specs.Relaid.{shape_with}
use Rattle.snd_output.proofs.Public.{new_says}
use Rattle.snd_output.specs.Appended.{HasRoom, IsAtEnd}

-- what is begun has this kind, these parameters and no frames, and does not go on behind its data
pub record IsBegun (kind : Kind) (p : Parameters) (h : Shape) : Type 0 where
  pub kind_is : h.kind ≡ kind
  pub params : h.params ≡ p
  pub frames : h.frames ≡ 0
  pub free : h.trailing ≡ false

pub begun_as : (kind : Kind) (p : Parameters) → AreParams p → fit_refusal kind p ≡ None → IsBegun kind p (shape_with kind p [])
begun_as kind p good fits =
    let new = made kind p good fits in
    subst (IsBegun kind p) (new_says kind p) (record { kind_is = new.is_kind; params = new.params; frames = new.frames; free = new.free })

module _ (kind : Kind) (p : Parameters) (h : Shape) (to : Known) (is : IsBegun kind p h) (fresh : IsFresh to) (shape : to.shape ≡ h) where
  pub begun_at_end : IsAtEnd to
  begun_at_end = record {
    working = fresh.broken;
    by_hand = fresh.automatic;
    free = ap (λ (s : Shape). s.trailing) shape ∙ is.free;
    behind = λ plain. fresh.write_place ∙ sym (ap (λ (s : Shape). s.frames) shape ∙ is.frames);
  }

  -- the room of its head is for all frames
  pub begun_room : (n : ℕ) → exceeds kind p (room h) n ≡ false → HasRoom n to
  begun_room n room_is =
      let count : to.write_place + n ≡ n = omega (arith, fresh.write_place) in
      let has = has_room kind p (room h) n room_is in
      let params : to.shape.params ≡ p = ap (λ (s : Shape). s.params) shape ∙ is.params in
      let bytes : data_bytes to.shape.params (to.write_place + n) ≡ data_bytes p n = ap (λ (q : Parameters). data_bytes q (to.write_place + n)) params ∙ ap (data_bytes p) count in
      record {
        in_room = omega (arith, bytes, ap room shape, has.0);
        few = λ blocks wave. omega (arith, count, has.1 (sym (ap (λ (q : Parameters). is_adpcm q.codec) params) ∙ blocks) (sym (ap (λ (s : Shape). s.kind) shape ∙ is.kind_is) ∙ wave));
      }
