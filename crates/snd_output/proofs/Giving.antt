-- How frames are given to a file that is made, in each mode.
use Rattle.std.proofs.Common.{◌≡◌, ◌≢◌, ◌∙◌, ap, sym, subst, refl, inl, inr, ℕ, ◌/◌, ◌≤◌, ℤ, Bool, true, false, List, None, Some, length, arith}
use Rattle.std.specs.Prelude.{Err, Result}
use Rattle.std.proofs.lemmas.Bool.{cases_Bool}
use Rattle.snd_disk.specs.declared.disk.Step.{Step}
use Rattle.snd_layout.specs.Blocks.{block_frames, is_adpcm}
use Rattle.snd_layout.specs.Params.{AreParams}
use Rattle.snd_layout.specs.Shape.{KeepsRule, Shape}
use Rattle.snd_layout.specs.declared.codec.Codec.{Codec}
use Rattle.snd_layout.specs.declared.codec.Codec.TheVariants.{Ima, Ms}
use Rattle.snd_edits.specs.declared.error.WriteError.{WriteError}
use Rattle.snd_edits.specs.declared.error.WriteError.TheVariants as write
use Rattle.snd_edits.specs.Edits.{count_written, written_shape}
use Rattle.snd_edits.specs.Encoding.{EncodeLeaves, MayEncode, counting_whole, encoded_shape, known_encoded, whole_frames}
use Rattle.snd_edits.specs.Known.{Known}
use Rattle.snd_edits.specs.WriteCalls.{MayWrite, WriteLeaves, end_written, known_written}
use Rattle.snd_edits.proofs.Public.{blocks_of, frames_where}
use Rattle.snd_output.specs.Appended.{IsLonger, MayGive}

-- a block has a frame at least
one_frame : (codec : Codec) → is_adpcm codec ≡ false → 1 ≤ block_frames codec
one_frame (Ima align per_block) plain = absurd (cc)
one_frame (Ms align per_block) plain = absurd (cc)
one_frame _ plain = omega arith

pub some_frames : (h : Shape) → KeepsRule h → AreParams h.params → 1 ≤ block_frames h.params.codec
some_frames h rule good = elim (cases_Bool (is_adpcm h.params.codec)) [
  | inl is ↦ (blocks_of h rule is good).some_frames
  | inr plain ↦ one_frame h.params.codec plain
]

-- a file that is not sealed with each write says only more frames
shape_by_hand : (t : Bool) (h : Shape) (n : ℕ) → t ≡ false → written_shape t h n ≡ record h { frames = (written_shape t h n).frames }
shape_by_hand true h n by_hand = absurd (cc)
shape_by_hand false h n by_hand = refl

module _ (xs : List ℤ) (k : Known) (may : MayGive xs k) where
  abbrev n : ℕ
  n = length xs / k.shape.params.channels

  pub may_write : MayWrite xs k.shape k.write_place
  may_write = record {
    frames = record { whole = may.whole; in_range = may.in_range };
    free = λ lt. may.at_end.free;
    in_room = λ lt. may.roomy.in_room;
  }

  pub may_encode : is_adpcm k.shape.params.codec ≡ true → MayEncode xs k.shape k.write_place
  may_encode is = record {
    frames = record { whole = may.whole; in_range = may.in_range };
    fits = λ lt. record { in_room = may.roomy.in_room; few = λ wave. may.roomy.few is wave };
  }

  written_is : IsLonger n k (known_written xs k)
  written_is =
      let to = count_written k.shape k.write_place n in
      let shape = shape_by_hand k.automatic k.shape to may.at_end.by_hand in
      record {
        working = refl;
        by_hand = refl;
        shape = shape;
        place = refl;
        behind = λ was plain.
            let before : k.write_place ≡ k.shape.frames = was (sym (ap (λ (s : Shape). is_adpcm s.params.codec) shape) ∙ plain) in
            omega (arith, before, frames_where k.automatic k.shape to);
      }

  pub written_longer : (k' : Known) → k' ≡ known_written xs k → IsLonger n k k'
  written_longer k' is = subst (IsLonger n k) (sym is) written_is

  module _ (blocks : is_adpcm k.shape.params.codec ≡ true) where
    encoded_is : IsLonger n k (known_encoded xs k)
    encoded_is =
        let to = end_written xs k.shape k.write_place in
        let shape : encoded_shape k.automatic k.shape to ≡ record k.shape { frames = (encoded_shape k.automatic k.shape to).frames } =
        shape_by_hand k.automatic (counting_whole k.shape to) (whole_frames k.shape.params to) may.at_end.by_hand in
        record {
          working = refl;
          by_hand = refl;
          shape = shape;
          place = refl;
          behind = λ was plain. absurd (let no : true ≡ false = sym blocks ∙ sym (ap (λ (s : Shape). is_adpcm s.params.codec) shape) ∙ plain in cc);
        }

    pub encoded_longer : (k' : Known) → k' ≡ known_encoded xs k → IsLonger n k k'
    encoded_longer k' is = subst (IsLonger n k) (sym is) encoded_is

  -- nothing but a fault stops it
  pub never_unwritten : (new : Known) (result : Result Unit WriteError) (error : WriteError) → WriteLeaves xs k new result → result ≡ Err error → ((step : Step) → error ≢ write.DiskFault step) → ⊥
  never_unwritten new result error left is other = by_error error (subst (WriteLeaves xs k new) is left) other
    where
      by_error : (why : WriteError) → WriteLeaves {T = Unit} xs k new (Err why) → ((step : Step) → why ≢ write.DiskFault step) → ⊥
      by_error (write.Broken step) leaves none = let e : None ≡ Some step = sym may.at_end.working ∙ leaves.0 in cc
      by_error write.PartFrame leaves none = leaves.1 may.whole
      by_error write.SampleRange leaves none = leaves.1.1 may.in_range
      by_error write.TrailingData leaves none = let e : true ≡ false = sym leaves.1.2 ∙ may.at_end.free in cc
      by_error write.ContainerFull leaves none = omega (arith, leaves.1.3, may.roomy.in_room)
      by_error (write.DiskFault step) leaves none = none step refl

  pub never_unencoded : is_adpcm k.shape.params.codec ≡ true → (new : Known) (result : Result Unit WriteError) (error : WriteError) → EncodeLeaves xs k new result → result ≡ Err error → ((step : Step) → error ≢ write.DiskFault step) → ⊥
  never_unencoded blocks new result error left is other = by_error error (subst (EncodeLeaves xs k new) is left) other
    where
      by_error : (why : WriteError) → EncodeLeaves {T = Unit} xs k new (Err why) → ((step : Step) → why ≢ write.DiskFault step) → ⊥
      by_error (write.Broken step) leaves none = let e : None ≡ Some step = sym may.at_end.working ∙ leaves.0 in cc
      by_error write.PartFrame leaves none = leaves.1 may.whole
      by_error write.SampleRange leaves none = leaves.1.1 may.in_range
      by_error write.ContainerFull leaves none = leaves.1.2 (record { in_room = may.roomy.in_room; few = λ wave. may.roomy.few blocks wave })
      by_error (write.DiskFault step) leaves none = none step refl
      by_error _ leaves none = leaves.1
