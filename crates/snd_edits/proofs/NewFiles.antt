-- What a file that is made says of itself.
use Rattle.std.proofs.Common.{◌≡◌, ◌∙◌, ap, sym, subst, refl, ℕ, ◌+◌, ◌*◌, ◌^◌, ◌≤◌, true, false, [], Option, None, Some, Ok, Err, length, arith}
use Rattle.std.specs.Prelude.{Result, is_none}
use Rattle.snd_container.proofs.Public.{lies, made}
use Rattle.snd_container.specs.Made.{IsMakeCause, new_file, new_shape}
use Rattle.snd_container.specs.Sound.{fixed_of}
use Rattle.snd_layout.specs.Fit.{fit_refusal}
use Rattle.snd_layout.specs.Params.{AreParams, Parameters, data_bytes}
use Rattle.snd_block_writer.specs.Writing.{StandsFor, Writing}
use Rattle.snd_layout.specs.Blocks.{block_align, block_frames, is_adpcm}
use Rattle.std.specs.Global.{Box}
use Rattle.snd_edits.specs.Pacing.{BeginsIn}
use Rattle.snd_layout.specs.Shape.{Shape, end, room}
use Rattle.snd_layout.specs.declared.kind.Kind.{Kind}
use Rattle.snd_layout.specs.declared.refusal.OpenRefusal.{OpenRefusal}
use Rattle.snd_layout.specs.declared.error.OpenError.{OpenError}
use Rattle.snd_layout.specs.declared.error.OpenError.TheVariants.{DiskFault, Refused}
use Rattle.snd_container.specs.Fixed.{byte_count}
use Rattle.snd_container.specs.declared.fixed.Fixed.{Fixed}
use Rattle.snd_edits.specs.Editing.{Editing, first_editing}
use Rattle.snd_edits.specs.Making.{making_as, making_of}
use Rattle.snd_edits.proofs.EncodedPlaces.{whole_data}
use Rattle.snd_edits.proofs.SoundFrames.{linear_bytes}

-- a layout of a file without frames, of a known length, whose data begin behind its head
pub record IsNew (kind : Kind) (p : Parameters) (l : Shape) : Type 0 where
  pub params : l.params ≡ p
  pub frames : l.frames ≡ 0
  pub start : l.start ≡ length (new_file kind p)
  pub known : l.unknown_length ≡ false
  pub room_ends : l.start + room l + 8 ≤ 2 ^ 63

pub is_new : (kind : Kind) (p : Parameters) (l : Shape) → AreParams p → fit_refusal kind p ≡ None → l ≡ new_shape kind p → IsNew kind p l
is_new kind p l good fits is =
    let new = made kind p good fits in
    let lie = lies (new_file kind p) (new_shape kind p) new.bytes new.told in
    subst (IsNew kind p) (sym is) (record { params = new.params; frames = new.frames; start = new.start; known = new.known; room_ends = lie.room_ends })

no_blocks : (p : Parameters) → 1 ≤ block_frames p.codec → data_bytes p 0 ≡ 0
no_blocks p some =
    ap (data_bytes p) (let e : 0 ≡ 0 * block_frames p.codec = omega arith in e) ∙ whole_data p 0 some ∙ (let e : 0 * block_align p.channels p.codec ≡ 0 = omega arith in e)

no_data : (h : Shape) (o : Option Fixed) → fixed_of h.params.codec ≡ o → is_none o ≡ false → data_bytes h.params 0 ≡ 0
no_data h None is linear = absurd (cc)
no_data h (Some form) is linear = linear_bytes h.params form 0 is ∙ (let e : byte_count form * (h.params.channels * 0) ≡ 0 = omega arith in e)

pub ends_at_start : (h : Shape) → is_none (fixed_of h.params.codec) ≡ false → h.frames ≡ 0 → end h h.frames ≡ h.start
ends_at_start h linear none = ap (end h) none ∙ (let e : h.start + data_bytes h.params 0 ≡ h.start = omega (arith, no_data h (fixed_of h.params.codec) refl linear) in e)

pub begins_at_start : (h : Shape) → 1 ≤ block_frames h.params.codec → h.frames ≡ 0 → end h h.frames ≡ h.start
begins_at_start h some none = ap (end h) none ∙ (let e : h.start + data_bytes h.params 0 ≡ h.start = omega (arith, no_blocks h.params some) in e)

-- its writer begins
pub begins_new : (h : Shape) (p : Parameters) (writer : Option (Box Writing)) → 1 ≤ block_frames p.codec → h.params ≡ p → is_adpcm p.codec ≡ true → h.frames ≡ 0 → h.trailing ≡ false
    → ((w : Box Writing) → writer ≡ Some w → StandsFor w.value p []) → BeginsIn h writer
begins_new h p writer some params blocks none free stands = record {
  place = record {
    blocks = ap (λ (q : Parameters). is_adpcm q.codec) params ∙ blocks;
    free = free;
    fits = record { in_room = omega (arith, ap (λ (q : Parameters). data_bytes q 0) params, no_blocks p some); few = λ wave. omega arith };
  };
  empty = none;
  stands = λ w is. subst (λ (q : Parameters). StandsFor w.value q []) (sym params) (stands w is);
}

pub making_refused : (kind : Kind) (p : Parameters) (r : OpenRefusal) → fit_refusal kind p ≡ Some r → making_of kind p ≡ Err r
unfolding making_of
making_refused kind p r is = ap (making_as kind p) is

module _ (kind : Kind) (p : Parameters) (fits : fit_refusal kind p ≡ None) where
  abbrev begun : Result Editing OpenRefusal
  begun = Ok (first_editing (new_file kind p) (new_shape kind p))

  pub making_ok : making_of kind p ≡ begun
  unfolding making_of
  making_ok = ap (making_as kind p) fits

  pub never_refused : (r : OpenRefusal) → making_of kind p ≡ Err r → ⊥
  never_refused r is = let never : begun ≡ Err r = sym making_ok ∙ is in cc

pub no_refusal : (old new : ℕ) (error : OpenError) (r : OpenRefusal) → error ≡ Refused r → IsMakeCause old new error → ⊥
no_refusal old new (DiskFault step) r is cause = cc
no_refusal old new _ r is cause = cause
