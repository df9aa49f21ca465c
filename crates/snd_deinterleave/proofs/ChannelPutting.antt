-- One channel of the frames of a file, put behind the frames of another, a block at a time.
use Rattle.std.proofs.Common.{◌≡◌, ◌∙◌, ap, sym, subst, ℕ, ◌+◌, ◌-◌, ◌*◌, ◌/◌, ◌%◌, ◌<◌, ◌≤◌, ℤ, pos, List, ◌++◌, length, take, drop, arith}
use Rattle.std.proofs.Math.Nat.{mul-le-mul_left}
use Rattle.std.proofs.lemmas.List.{append-nil, append_assoc, get_or-take}
use Rattle.snd_layout.specs.Blocks.{block_frames}
use Rattle.snd_layout.specs.Shape.{Shape}
use Rattle.snd_layout.specs.declared.codec.Codec.{Codec}
use Rattle.snd_pcm.specs.Groups.{first_groups}
use Rattle.snd_container.specs.Fixed.{InRange}
use Rattle.snd_edits.specs.Calls.{count_read}
use Rattle.snd_edits.specs.Editing.{Editing, frames_read, moved_by, moved_to}
use Rattle.snd_edits.specs.Known.{Known}
use Rattle.snd_edits.specs.Reading.{FitCodec}
use Rattle.snd_inputs.specs.Opening.{IsUnread}
use Rattle.snd_output.specs.Appended.{HasRoom, IsLonger, MayGive, left_in, read_on}
use Rattle.snd_deinterleave.specs.Making.{known_at_first}
use Rattle.snd_deinterleave.specs.Deinterleave.{channel_of}
use Rattle.snd_deinterleave.specs.Passing.{ArePicked, MayPut, channel_left, next_channel}
use Rattle.snd_deinterleave.proofs.ChannelLists.{channel_all, channel_next, in_frames, picked_all, picked_are}
use Rattle.snd_output.proofs.Public.{at_end_then, count_fits, given_longer, may_give, room_fewer, room_then}

-- ---- one block

-- the frames that are read into a block, and as many numbers, lie within their blocks
pub block_fits : (from : Known) (n k m places : ℕ) → m ≡ from.shape.params.channels → 1 ≤ m → n % from.shape.params.channels ≡ 0 → k ≡ count_read n from → n ≤ places → (k * m ≤ n) × (k ≤ places)
block_fits from n k m places channels one whole is enough =
    let fits = count_fits from n k (omega (arith, channels, one)) whole is in
    let same : k * m ≡ k * from.shape.params.channels = ap (λ (i : ℕ). k * i) channels in
    let times : k * 1 ≤ k * m = mul-le-mul_left k one in
    (omega (arith, fits.1, same), omega (arith, fits.1, same, times, enough))

module _ (from to : Known) (w k m : ℕ) (block ys : List ℤ) (may : MayPut w from to) (whole : length block % from.shape.params.channels ≡ 0) (is : k ≡ count_read (length block) from)
    (channels : m ≡ from.shape.params.channels) (one : 1 ≤ m) (count : length ys ≡ k) (picked : ArePicked m w (take (k * m) block) ys (length ys)) where
  one_channel : 1 ≤ from.shape.params.channels
  one_channel = omega (arith, channels, one)

  to_channel : 1 ≤ to.shape.params.channels
  to_channel = omega (arith, may.mono)

  fits : (k ≤ left_in from) × (k * from.shape.params.channels ≤ length block)
  fits = count_fits from (length block) k one_channel whole is

  within : w < m
  within = omega (arith, may.within, channels)

  are : ArePicked m w (take (k * m) block) ys k
  are = subst (ArePicked m w (take (k * m) block) ys) count picked

  ys_count : length ys ≡ k * to.shape.params.channels
  ys_count = count ∙ (let e : k ≡ k * 1 = omega arith in e) ∙ ap (λ (i : ℕ). k * i) (sym may.mono)

  in_range : FitCodec from.shape.params.codec (take (k * from.shape.params.channels) block) → FitCodec from.shape.params.codec ys
  in_range fit = λ form known.
      picked_all (InRange form) m w k block ys within (let same : k * m ≡ k * from.shape.params.channels = ap (λ (i : ℕ). k * i) channels in omega (arith, same, fits.1)) count are
      (subst (λ (i : ℕ). FitCodec from.shape.params.codec (take (k * i) block)) (sym channels) fit form known)

  -- they may be given, and the handle then knows of them
  pub block_may : FitCodec from.shape.params.codec (take (k * from.shape.params.channels) block) → MayGive ys to
  block_may fit = may_give ys k to to_channel ys_count may.at_end (room_fewer to k (left_in from) may.together fits.0 may.in_room) (may.fits ys (in_range fit))

  pub block_known : (to' : Known) → IsLonger (length ys / to.shape.params.channels) to to' → IsLonger k to to'
  block_known to' is = given_longer ys k to to_channel ys_count to' is

  -- they are the channel of the next frames of the file that is read
  pub block_is : (r : Editing) → first_groups from.shape.params.channels k block ≡ frames_read r k → ys ≡ next_channel w k r
  block_is r gives =
      picked_are m w k block ys within count (λ j lt. are j lt ∙ get_or-take (k * m) block (j * m + w) (pos 0) (in_frames m k j w lt within))
      ∙ ap (λ (i : ℕ). channel_of w (first_groups i k block)) channels
      ∙ ap (channel_of w) gives

-- ---- block after block

pub channel_none : (w n : ℕ) (xs : List ℤ) (r : Editing) → xs ≡ xs ++ next_channel w (n - n) r
channel_none w n xs r = sym (append-nil xs) ∙ ap (λ (i : ℕ). xs ++ next_channel w i r) (let e : 0 ≡ n - n = omega arith in e)

-- that of two blocks
pub channel_twice : (w : ℕ) (xs : List ℤ) (r : Editing) (j k i : ℕ) → i ≡ j + k → (xs ++ next_channel w j r) ++ next_channel w k (moved_by j r) ≡ xs ++ next_channel w i r
channel_twice w xs r j k i sum =
    append_assoc xs (next_channel w j r) (next_channel w k (moved_by j r))
    ∙ ap (λ (l : List ℤ). xs ++ l) (channel_next w r.frames r.place j k)
    ∙ ap (λ (n : ℕ). xs ++ next_channel w n r) (sym sum)

-- .. and of all
pub all_channel : (w : ℕ) (r : Editing) (n : ℕ) → n ≡ length r.frames - r.place → next_channel w n r ≡ channel_left w r
all_channel w r n is = channel_all w r.frames r.place n is

-- once some are put there, the others may be, too
pub may_go_on : (w : ℕ) (from to to' : Known) (j : ℕ) → MayPut w from to → j ≤ left_in from → IsLonger j to to' → MayPut w (read_on j from) to'
may_go_on w from to to' j may within is =
    let all : left_in from ≡ j + (from.shape.frames - (from.place + j)) = omega (arith, within) in
    let codec : to.shape.params.codec ≡ to'.shape.params.codec = ap (λ (s : Shape). s.params.codec) (sym is.shape) in
    record {
      working = may.working;
      at_end = at_end_then j to to' may.at_end is;
      within = may.within;
      mono = ap (λ (s : Shape). s.params.channels) is.shape ∙ may.mono;
      fits = λ xs fit. subst (λ (q : Codec). FitCodec q xs) codec (may.fits xs fit);
      together = subst (λ (q : Codec). 1 ≤ block_frames q) codec may.together;
      in_room = room_then j (from.shape.frames - (from.place + j)) to to' (subst (λ (m : ℕ). HasRoom m to) all may.in_room) is;
    }

-- ---- back at the first frame

pub known_back : (n : ℕ) (k k' k'' : Known) → IsUnread k → k' ≡ read_on n k → k'' ≡ known_at_first k' → k'' ≡ k
known_back n k k' k'' unread was is = is ∙ ap known_at_first was ∙ ap (λ (i : ℕ). record k { place = i }) (sym unread.first)

pub state_back : (n : ℕ) (e : Editing) → e.place ≡ 0 → moved_to 0 (moved_by n e) ≡ e
state_back n e first = ap (λ (i : ℕ). record e { place = i }) (sym first)

-- all frames are left of a file that is unread
pub channel_whole : (w : ℕ) (e : Editing) → e.place ≡ 0 → channel_left w e ≡ channel_of w e.frames
channel_whole w e first = ap (λ (n : ℕ). channel_of w (drop n e.frames)) first
