-- Pieces of numbers that are given to a file through stages, one after the other.
use Rattle.std.proofs.Common.{◌≡◌, ◌∙◌, ap, sym, subst, ◌+◌, ◌-◌, ◌/◌, ◌%◌, ◌≤◌, ℕ, ℤ, List, [], ◌++◌, length, drop, take, arith}
use Rattle.std.proofs.Math.Nat.{zero-div}
use Rattle.std.proofs.lemmas.List.{append-nil}
use Rattle.std.proofs.lemmas.List.Elements.{All-drop, All-take}
use Rattle.snd_container.specs.Fixed.{InRange}
use Rattle.snd_edits.specs.Known.{Known}
use Rattle.snd_layout.specs.Blocks.{block_frames}
use Rattle.snd_layout.specs.Shape.{Shape}
use Rattle.snd_layout.specs.declared.codec.Codec.{Codec}
use Rattle.snd_output.specs.Appended.{HasRoom, IsLonger}
use Rattle.snd_output.specs.Widths.{change_numbers}
use Rattle.snd_output.proofs.Public.{at_end_then, div_sum, longer_as, longer_then, room_fewer, room_then}
use Rattle.snd_pcm.specs.Groups.{first_groups}
use Rattle.snd_rack.specs.Held.{Held}
use Rattle.snd_rack.specs.Passing.{later}
use Rattle.snd_rack.proofs.Public.{channels_later, passable_later}
use Rattle.snd_racking.specs.Appending.{ArePlaced, MayGiveRacked, passed_groups, passed_of}
use Rattle.snd_racking.specs.Racked.{high_of, low_of}
use Rattle.snd_racking.proofs.Turns.{changed_on, count_more, passed_more, piece_whole, states_more, whole_more}

-- ---- before the first piece

pub none_given : (channels : ℕ) (hs : List Held) (from to : Codec) (xs : List ℤ) → xs ≡ xs ++ change_numbers from to (passed_groups channels hs [])
none_given channels hs from to xs = sym (append-nil xs) ∙ ap (λ n. xs ++ change_numbers from to (passed_of hs (first_groups channels n []))) (sym (zero-div channels))

pub none_passed : (channels : ℕ) (hs : List Held) → hs ≡ later (0 / channels) hs
none_passed channels hs = sym (ap (λ n. later n hs) (zero-div channels))

-- ---- one piece more

module _ (codec : Codec) (channels : ℕ) (first then : List Held) (numbers : List ℤ) (at n end : ℕ) (old to : Known) (may : MayGiveRacked codec channels first numbers old) (longer : IsLonger (at / channels) old to)
    (states : then ≡ later (at / channels) first) (before : at % channels ≡ 0) (is : at + n ≡ end) (within_all : end ≤ length numbers) (whole : n % channels ≡ 0) where
  abbrev j : ℕ
  j = at / channels

  abbrev piece : List ℤ
  piece = take n (drop at numbers)

  fits : at + n ≤ length numbers
  fits = omega (arith, is, within_all)

  same_channels : old.shape.params.channels ≡ to.shape.params.channels
  same_channels = ap (λ (s : Shape). s.params.channels) (sym longer.shape)

  placed : ArePlaced codec channels to.shape.params.channels (later (at / channels) first)
  placed = record {
    passable = passable_later j (low_of codec) (high_of codec) channels first may.placed.passable;
    fits = channels_later j channels first ∙ may.placed.fits ∙ same_channels;
  }

  count : j + length piece / channels ≡ (at + n) / channels
  count = count_more channels numbers at n may.some before fits whole

  within : j + length piece / channels ≤ length numbers / channels
  within =
      let rest : (at + n) + (length numbers - (at + n)) ≡ length numbers = omega (arith, fits) in
      omega (arith, count, div_sum channels (at + n) (length numbers - (at + n)), ap (λ i. i / channels) rest)

  together : 1 ≤ block_frames to.shape.params.codec
  together = subst (λ (s : Shape). 1 ≤ block_frames s.params.codec) (sym longer.shape) may.together

  roomy : HasRoom (length piece / channels) to
  roomy =
      let total = length numbers / channels in
      let all : total ≡ j + (total - j) = omega (arith, within) in
      room_fewer to (length piece / channels) (total - j) together (omega (arith, within)) (room_then j (total - j) old to (subst (λ (m : ℕ). HasRoom m old) all may.in_room) longer)

  -- it may be given
  pub turn_may : MayGiveRacked codec channels then piece to
  turn_may = record {
    some = may.some;
    most = may.most;
    placed = subst (ArePlaced codec channels to.shape.params.channels) (sym states) placed;
    whole = piece_whole channels numbers at n may.some before fits whole;
    in_range = λ form is. All-take (InRange form) n (drop at numbers) (All-drop (InRange form) at numbers (may.in_range form is));
    at_end = at_end_then j old to may.at_end longer;
    together = together;
    in_room = roomy;
  }

  -- and then was
  pub turn_longer : (new : Known) → IsLonger (length piece / channels) to new → IsLonger (end / channels) old new
  turn_longer new more = longer_as (j + length piece / channels) (end / channels) old new (count ∙ ap (λ i. i / channels) is) (longer_then j (length piece / channels) old to new longer more)

  pub turn_end : end % channels ≡ 0
  turn_end = ap (λ i. i % channels) (sym is) ∙ whole_more channels numbers at n may.some before fits whole

  pub turn_states : later (length piece / channels) then ≡ later (end / channels) first
  turn_states =
      ap (later (length piece / channels)) states ∙ states_more channels numbers at n may.some before fits whole first
      ∙ ap (λ i. later (i / channels) first) is

  pub turn_numbers : (xs : List ℤ)
      → (xs ++ change_numbers codec old.shape.params.codec (passed_groups channels first (take at numbers))) ++ change_numbers codec to.shape.params.codec (passed_groups channels then piece)
      ≡ xs ++ change_numbers codec old.shape.params.codec (passed_groups channels first (take end numbers))
  turn_numbers xs =
      let wanted = old.shape.params.codec in
      let done = change_numbers codec wanted (passed_groups channels first (take at numbers)) in
      ap (λ (s : Shape). (xs ++ done) ++ change_numbers codec s.params.codec (passed_groups channels then piece)) longer.shape
      ∙ ap (λ hs. (xs ++ done) ++ change_numbers codec wanted (passed_groups channels hs piece)) states
      ∙ changed_on codec wanted xs (passed_groups channels first (take at numbers)) (passed_groups channels (later j first) piece)
      ∙ ap (λ l. xs ++ change_numbers codec wanted l) (passed_more channels numbers at n may.some before fits whole first)
      ∙ ap (λ i. xs ++ change_numbers codec wanted (passed_groups channels first (take i numbers))) is
