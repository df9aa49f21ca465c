-- A block of frames of one file that is put through stages behind those of another.
use Rattle.std.proofs.Common.{◌≡◌, ◌∙◌, ap, sym, subst, ◌*◌, ◌/◌, ◌%◌, ◌<◌, ◌≤◌, ℕ, ℤ, List, length, take, arith}
use Rattle.std.proofs.Math.Nat.{mul-div_cancel_left, mul-mod_right}
use Rattle.std.proofs.lemmas.List.{length-take-le}
use Rattle.snd_edits.specs.Calls.{count_read}
use Rattle.snd_edits.specs.Editing.{Editing, frames_read}
use Rattle.snd_edits.specs.Known.{Known}
use Rattle.snd_edits.specs.Reading.{FitCodec}
use Rattle.snd_edits.proofs.Public.{groups_of_front}
use Rattle.snd_layout.specs.declared.codec.Codec.{Codec}
use Rattle.snd_output.specs.Appended.{HasRoom, IsLonger, left_in}
use Rattle.snd_output.specs.Widths.{change_numbers}
use Rattle.snd_output.proofs.Public.{count_fits, longer_as, room_fewer}
use Rattle.snd_pcm.specs.Groups.{first_groups, groups}
use Rattle.snd_rack.specs.Held.{Held}
use Rattle.snd_rack.specs.Passing.{later}
use Rattle.snd_racking.specs.Appending.{ArePlaced, MayAppendRacked, MayGiveRacked, next_passed, passed_groups, passed_of}

module _ (hs : List Held) (from to : Known) (k m : ℕ) (block : List ℤ) (codec : Codec) (may : MayAppendRacked hs from to) (whole_block : length block % from.shape.params.channels ≡ 0) (is : k ≡ count_read (length block) from)
    (channels : m ≡ from.shape.params.channels) (one : 1 ≤ m) where
  abbrev c : ℕ
  c = from.shape.params.channels

  abbrev front : List ℤ
  front = take (k * m) block

  one_channel : 1 ≤ c
  one_channel = omega (arith, channels, one)

  fits : (k ≤ left_in from) × (k * c ≤ length block)
  fits = count_fits from (length block) k one_channel whole_block is

  same_size : k * m ≡ k * c
  same_size = ap (λ i. k * i) channels

  size : length front ≡ m * k
  size = length-take-le (k * m) block (omega (arith, same_size, fits.1)) ∙ (let e : k * m ≡ m * k = omega arith in e)

  count : length front / m ≡ k
  count = ap (λ i. i / m) size ∙ mul-div_cancel_left k (let e : 0 < m = omega (arith, one) in e)

  -- they may be given to it through the stages
  pub block_may : codec ≡ from.shape.params.codec → m ≤ 256 → FitCodec from.shape.params.codec (take (k * from.shape.params.channels) block) → MayGiveRacked codec m hs front to
  block_may codec_is most fit = record {
    some = one;
    most = most;
    placed = subst (λ (q : Codec). ArePlaced q m to.shape.params.channels hs) (sym codec_is) (subst (λ (n : ℕ). ArePlaced from.shape.params.codec n to.shape.params.channels hs) (sym channels) may.placed);
    whole = ap (λ i. i % m) size ∙ mul-mod_right m k;
    in_range = subst (λ (q : Codec). FitCodec q front) (sym codec_is) (subst (λ (n : ℕ). FitCodec from.shape.params.codec (take n block)) (sym same_size) fit);
    at_end = may.at_end;
    together = may.together;
    in_room = subst (λ (n : ℕ). HasRoom n to) (sym count) (room_fewer to k (left_in from) may.together fits.0 may.in_room);
  }

  -- the handle then knows of them
  pub block_known : (to' : Known) → IsLonger (length front / m) to to' → IsLonger k to to'
  block_known to' longer = longer_as (length front / m) k to to' count longer

  -- the stages have passed them
  pub block_states : later (length front / m) hs ≡ later k hs
  block_states = ap (λ n. later n hs) count

  -- and they are the next of the file that is read, behind the stages
  pub block_is : (r : Editing) (wanted : Codec) → codec ≡ from.shape.params.codec → first_groups from.shape.params.channels k block ≡ frames_read r k
      → change_numbers codec wanted (passed_groups m hs front) ≡ change_numbers from.shape.params.codec wanted (next_passed hs k r)
  block_is r wanted codec_is gives =
      let groups_are : groups m front ≡ frames_read r k =
      ap (λ n. first_groups m n front) count
      ∙ ap (λ n. first_groups m k (take n block)) (let e : k * m ≡ m * k = omega arith in e)
      ∙ groups_of_front m k block
      ∙ ap (λ n. first_groups n k block) channels
      ∙ gives in
      ap (λ (q : Codec). change_numbers q wanted (passed_groups m hs front)) codec_is
      ∙ ap (λ l. change_numbers from.shape.params.codec wanted (passed_of hs l)) groups_are
