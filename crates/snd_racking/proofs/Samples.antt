-- Samples that bytes are, which pass stages a piece after the other.
use Rattle.std.proofs.Common.{◌≡◌, ◌∙◌, ap, sym, subst, refl, ◌+◌, ◌-◌, ◌*◌, ◌/◌, ◌%◌, ◌<◌, ◌≤◌, ℕ, ℤ, List, [], ◌∷◌, ◌++◌, Option, drop, length, min, take, arith}
use Rattle.std.proofs.Math.Nat.{mul-div_cancel, mul-le-mul_right, mul-mod_left, zero-div}
use Rattle.std.proofs.Math.Seq.{take-add}
use Rattle.std.proofs.lemmas.List.{length-drop, length-take-le, map-append, take_all}
use Rattle.std.proofs.lemmas.Nat.{div-add-mod'}
use Rattle.std.proofs.lemmas.Slice.{take-put_mid}
use borrow.Rule.Slice.PartMut.{put_mid}
use Rattle.snd_container.specs.Fixed.{byte_count, samples_bytes}
use Rattle.snd_container.specs.declared.fixed.Fixed.{Fixed}
use Rattle.snd_container.proofs.Public.{count_of_bytes, samples_of_joined}
use Rattle.snd_edits.specs.Bytes.{AreWhole, numbers_as, numbers_in}
use Rattle.snd_edits.specs.Edits.{coded_as}
use Rattle.snd_edits.proofs.Public.{count_numbers}
use Rattle.snd_layout.specs.Blocks.{block_align}
use Rattle.snd_layout.specs.Params.{Parameters}
use Rattle.snd_output.specs.Appended.{Pass, bytes_in, coded_in}
use Rattle.snd_output.specs.Widths.{change_numbers, width_of}
use Rattle.snd_output.proofs.Public.{bytes_of_samples, coded_joined, frames_size, some_form}
use Rattle.snd_pcm.specs.Groups.{first_groups}
use Rattle.snd_pcm.specs.Width.{changed}
use Rattle.snd_rack.specs.Held.{Held}
use Rattle.snd_rack.specs.Passing.{later}
use Rattle.snd_rack.proofs.Public.{channels_later, later_twice, passable_later}
use Rattle.snd_racking.specs.Appending.{ArePlaced, frames_of_bytes, passed_bytes, passed_groups, passed_of}
use Rattle.snd_racking.specs.Racked.{high_of, low_of}
use Rattle.snd_racking.proofs.Turns.{passed_twice}

nil_of : {X : Type 0} (xs : List X) → length xs ≡ 0 → xs ≡ []
nil_of [] is = refl
nil_of (x ∷ xs) is = absurd (omega (arith, is))

-- ---- two parts

module _ (from to : Parameters) (hs : List Held) (pass : Pass from.codec to.codec) where
  abbrev align : ℕ
  align = block_align from.channels from.codec

  no_numbers : numbers_in from.codec [] ≡ []
  no_numbers = nil_of (numbers_in from.codec []) (count_numbers from.codec from.channels 0 [] pass.0 (let e : 0 ≡ 0 * align = omega arith in e) ∙ (let e : 0 * from.channels ≡ 0 = omega arith in e))

  no_bytes : coded_in to.codec [] ≡ []
  no_bytes =
      let form = some_form to.codec pass.1 in
      ap (λ (o : Option Fixed). coded_as o []) form.1 ∙ nil_of (samples_bytes form.0 []) ((count_of_bytes form.0 []).0 ∙ (let e : byte_count form.0 * 0 ≡ 0 = omega arith in e))

  none_coded : [] ≡ passed_bytes from to hs []
  none_coded =
      sym no_bytes
      ∙ ap (λ n. coded_in to.codec (change_numbers from.codec to.codec (passed_of hs (first_groups from.channels n [])))) (sym (zero-div from.channels))
      ∙ ap (λ (l : List ℤ). coded_in to.codec (change_numbers from.codec to.codec (passed_groups from.channels hs l))) (sym no_numbers)

  module _ (some : 1 ≤ from.channels) (a b : List ℕ) (m n : ℕ) (first : length a ≡ m * align) (second : length b ≡ n * align) where
    abbrev xs : List ℤ
    xs = numbers_in from.codec a

    abbrev ys : List ℤ
    ys = numbers_in from.codec b

    xs_count : length xs ≡ m * from.channels
    xs_count = count_numbers from.codec from.channels m a pass.0 first

    ys_count : length ys ≡ n * from.channels
    ys_count = count_numbers from.codec from.channels n b pass.0 second

    xs_whole : length xs % from.channels ≡ 0
    xs_whole = ap (λ (i : ℕ). i % from.channels) xs_count ∙ mul-mod_left m from.channels

    ys_whole : length ys % from.channels ≡ 0
    ys_whole = ap (λ (i : ℕ). i % from.channels) ys_count ∙ mul-mod_left n from.channels

    counted : length xs / from.channels ≡ m
    counted = ap (λ (i : ℕ). i / from.channels) xs_count ∙ mul-div_cancel m (let e : 0 < from.channels = omega (arith, some) in e)

    numbers_joined : numbers_in from.codec (a ++ b) ≡ xs ++ ys
    numbers_joined =
        let form = some_form from.codec pass.0 in
        let size : length a ≡ byte_count form.0 * (m * from.channels) = first ∙ frames_size from.codec from.channels m pass.0 ∙ bytes_of_samples from.codec form.0 (m * from.channels) form.1 in
        ap (λ (o : Option Fixed). numbers_as o (a ++ b)) form.1
        ∙ samples_of_joined form.0 a b (m * from.channels) size
        ∙ ap (λ (o : Option Fixed). numbers_as o a ++ numbers_as o b) (sym form.1)

    pub coded_twice : passed_bytes from to hs a ++ passed_bytes from to (later m hs) b ≡ passed_bytes from to hs (a ++ b)
    coded_twice =
        let change = change_numbers from.codec to.codec in
        let us = passed_groups from.channels hs xs in
        let vs = passed_groups from.channels (later m hs) ys in
        sym (coded_joined to (change us) (change vs))
        ∙ ap (coded_in to.codec) (sym (map-append (changed (width_of from.codec) (width_of to.codec)) us vs))
        ∙ ap (λ i. coded_in to.codec (change (us ++ passed_groups from.channels (later i hs) ys))) (sym counted)
        ∙ ap (λ l. coded_in to.codec (change l)) (passed_twice from.channels some xs ys xs_whole ys_whole hs)
        ∙ ap (λ l. coded_in to.codec (change (passed_groups from.channels hs l))) (sym numbers_joined)

-- .. the first of which has none
pub none_yet : (from to : Parameters) (hs : List Held) (bytes coded : List ℕ) (align to_align : ℕ) → Pass from.codec to.codec → take (0 * to_align) coded ≡ passed_bytes from to hs (take (0 * align) bytes)
none_yet from to hs bytes coded align to_align pass =
    ap (λ (n : ℕ). take n coded) (let e : 0 * to_align ≡ 0 = omega arith in e)
    ∙ none_coded from to hs pass
    ∙ ap (λ (n : ℕ). passed_bytes from to hs (take n bytes)) (let e : 0 ≡ 0 * align = omega arith in e)

-- ---- one piece more

-- the part of a list from one multiple to another
part_size : {X : Type 0} (at k align : ℕ) (xs : List X) → (at + k) * align ≤ length xs → length (take ((at + k) * align - at * align) (drop (at * align) xs)) ≡ k * align
part_size at k align xs fits =
    let sum : (at + k) * align ≡ at * align + k * align = omega arith in
    let rest : (at + k) * align - at * align ≡ k * align = omega (arith, sum) in
    length-take-le ((at + k) * align - at * align) (drop (at * align) xs) (omega (arith, length-drop (at * align) xs, sum, rest, fits)) ∙ rest

module _ (from to : Parameters) (hs then : List Held) (bytes coded : List ℕ) (numbers : List ℤ) (channels align to_align at k most : ℕ) (pass : Pass from.codec to.codec) (some : 1 ≤ from.channels) (alike : channels ≡ from.channels)
    (align_is : align ≡ block_align from.channels from.codec) (to_align_is : to_align ≡ block_align to.channels to.codec) (placed : ArePlaced from.codec from.channels to.channels hs) (whole : AreWhole from (length bytes))
    (fits : length coded ≡ frames_of_bytes from (length bytes) * block_align to.channels to.codec) (within : at ≤ length bytes / align) (few : k ≡ min most (length bytes / align - at)) (places : most * channels ≤ length numbers)
    (states : then ≡ later at hs) where
  abbrev total : ℕ
  total = length bytes / align

  all : length bytes ≡ total * align
  all =
      let same : length bytes % align ≡ 0 = ap (λ (n : ℕ). length bytes % n) align_is ∙ whole in
      let parts : length bytes / align * align + length bytes % align ≡ length bytes = div-add-mod' (length bytes) align in
      omega (arith, parts, same)

  coded_all : length coded ≡ total * to_align
  coded_all = fits ∙ ap (λ (n : ℕ). length bytes / n * block_align to.channels to.codec) (sym align_is) ∙ ap (λ (n : ℕ). total * n) (sym to_align_is)

  pub end_within : at + k ≤ total
  end_within = omega (arith, within, few)

  pub bytes_end : (at + k) * align ≤ length bytes
  bytes_end = omega (arith, all, mul-le-mul_right align end_within)

  pub coded_end : (at + k) * to_align ≤ length coded
  coded_end = omega (arith, coded_all, mul-le-mul_right to_align end_within)

  abbrev piece : List ℕ
  piece = take ((at + k) * align - at * align) (drop (at * align) bytes)

  piece_size : length piece ≡ k * align
  piece_size = part_size at k align bytes bytes_end

  abbrev held : List ℤ
  held = take ((at + k - at) * channels) numbers

  numbers_fit : k * channels ≤ length numbers
  numbers_fit = omega (arith, mul-le-mul_right channels (let e : k ≤ most = omega (arith, few) in e), places)

  held_size : length held ≡ k * from.channels
  held_size =
      let same : (at + k - at) * channels ≡ k * channels = ap (λ (n : ℕ). n * channels) (let e : at + k - at ≡ k = omega arith in e) in
      length-take-le ((at + k - at) * channels) numbers (omega (arith, same, numbers_fit)) ∙ same ∙ ap (λ (n : ℕ). k * n) alike

  held_frames : length held / from.channels ≡ k
  held_frames = ap (λ (n : ℕ). n / from.channels) held_size ∙ mul-div_cancel k (let e : 0 < from.channels = omega (arith, some) in e)

  -- it may pass
  pub piece_placed : ArePlaced from.codec from.channels to.channels then
  piece_placed = subst (ArePlaced from.codec from.channels to.channels) (sym states) record {
    passable = passable_later at (low_of from.codec) (high_of from.codec) from.channels hs placed.passable;
    fits = channels_later at from.channels hs ∙ placed.fits;
  }

  pub piece_held : length piece ≡ bytes_in from.codec (length held)
  piece_held = piece_size ∙ ap (λ (n : ℕ). k * n) align_is ∙ frames_size from.codec from.channels k pass.0 ∙ ap (bytes_in from.codec) (sym held_size)

  pub piece_whole : length held % from.channels ≡ 0
  piece_whole = ap (λ (n : ℕ). n % from.channels) held_size ∙ mul-mod_left k from.channels

  pub piece_few : most * to.channels ≤ 4096 → length held / from.channels * to.channels ≤ 16384
  piece_few less = subst (λ (n : ℕ). n * to.channels ≤ 16384) (sym held_frames) (omega (arith, mul-le-mul_right to.channels (let e : k ≤ most = omega (arith, few) in e), less))

  pub piece_fits : length (take ((at + k) * to_align - at * to_align) (drop (at * to_align) coded)) ≡ bytes_in to.codec (length held / from.channels * to.channels)
  piece_fits =
      part_size at k to_align coded coded_end ∙ ap (λ (n : ℕ). k * n) to_align_is ∙ frames_size to.codec to.channels k pass.1
      ∙ ap (λ (n : ℕ). bytes_in to.codec (n * to.channels)) (sym held_frames)

  -- and then did
  pub states_on : (new : List Held) → new ≡ later (length held / from.channels) then → new ≡ later (at + k) hs
  states_on new is = is ∙ ap (λ (n : ℕ). later n then) held_frames ∙ ap (later k) states ∙ later_twice at k hs

  pub coded_on : (new : List ℕ) → new ≡ passed_bytes from to then piece → length new ≡ length (take ((at + k) * to_align - at * to_align) (drop (at * to_align) coded))
      → take (at * to_align) coded ≡ passed_bytes from to hs (take (at * align) bytes)
      → take ((at + k) * to_align) (put_mid (at * to_align) ((at + k) * to_align - at * to_align) coded new) ≡ passed_bytes from to hs (take ((at + k) * align) bytes)
  coded_on new is as_long so_far =
      let size : length new ≡ k * to_align = as_long ∙ part_size at k to_align coded coded_end in
      let sum : (at + k) * to_align ≡ at * to_align + k * to_align = omega arith in
      let before : length (take (at * align) bytes) ≡ at * block_align from.channels from.codec =
      length-take-le (at * align) bytes (omega (arith, all, mul-le-mul_right align within)) ∙ ap (λ (n : ℕ). at * n) align_is in
      let now : length piece ≡ k * block_align from.channels from.codec = piece_size ∙ ap (λ (n : ℕ). k * n) align_is in
      let rest : (at + k) * align - at * align ≡ k * align = omega arith in
      let both : at * align + k * align ≡ (at + k) * align = omega arith in
      take-put_mid (at * to_align) ((at + k) * to_align - at * to_align) coded new ((at + k) * to_align) (omega (arith, sum, size)) (omega (arith, coded_all, mul-le-mul_right to_align within))
      ∙ ap (λ (l : List ℕ). l ++ new) so_far
      ∙ ap (λ (l : List ℕ). passed_bytes from to hs (take (at * align) bytes) ++ l) is
      ∙ ap (λ (l : List Held). passed_bytes from to hs (take (at * align) bytes) ++ passed_bytes from to l piece) states
      ∙ coded_twice from to hs pass some (take (at * align) bytes) piece at k before now
      ∙ ap (λ (n : ℕ). passed_bytes from to hs (take (at * align) bytes ++ take n (drop (at * align) bytes))) rest
      ∙ ap (passed_bytes from to hs) (sym (take-add (at * align) (k * align) bytes))
      ∙ ap (λ (n : ℕ). passed_bytes from to hs (take n bytes)) both

  -- where all did
  pub coded_whole : total ≤ at → take (at * to_align) coded ≡ passed_bytes from to hs (take (at * align) bytes) → coded ≡ passed_bytes from to hs bytes
  coded_whole done so_far =
      let same : at ≡ total = omega (arith, done, within) in
      sym (take_all (at * to_align) coded (omega (arith, coded_all, ap (λ (n : ℕ). n * to_align) same)))
      ∙ so_far
      ∙ ap (passed_bytes from to hs) (take_all (at * align) bytes (omega (arith, all, ap (λ (n : ℕ). n * align) same)))
