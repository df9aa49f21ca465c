-- The numbers that pairs of bytes are, in a codec: those of one input that are read, and those of all, side by side.
use Rattle.std.proofs.Common.{◌≡◌, ◌∙◌, ap, sym, subst, refl, ℕ, ◌+◌, ◌-◌, ◌*◌, ◌/◌, ◌%◌, ◌<◌, ◌≤◌, pos, true, false, List, length, take, drop, get_or, min, arith}
use Rattle.std.proofs.Math.Nat.{mul-mod_left}
use Rattle.std.proofs.lemmas.List.{length-map}
use Rattle.snd_fields.specs.declared.field.Order.{Order}
use Rattle.snd_layout.specs.Blocks.{block_align, is_adpcm}
use Rattle.snd_layout.specs.declared.codec.Codec.{Codec}
use Rattle.snd_layout.specs.declared.codec.Codec.TheVariants.{U8, S8, S16, S24, S32, MuLaw, ALaw, Ima, Ms}
use Rattle.snd_edits.specs.Bytes.{numbers_in, sources_in}
use Rattle.snd_edits.specs.Editing.{Editing}
use Rattle.snd_edits.specs.Known.{Known}
use Rattle.snd_output.proofs.Public.{frames_are}
use Rattle.snd_output.specs.Appended.{HasRoom, IsAtEnd, MayPass}
use Rattle.snd_interleave.specs.Beside.{HasChannel, KeepsChannels}
use Rattle.snd_interleave.specs.Held.{HasPairs, KeepsPairs, is_pair, pairs_in}
use Rattle.snd_interleave.specs.Interleave.{numbers_of}
use Rattle.snd_interleave.specs.Reading.{AreNumbersAt}
use Rattle.snd_interleave.proofs.PairBytes.{count_of_pairs, front_numbers, has_channel, keeps_channels, zero_pair}
use Rattle.snd_interleave.proofs.Reading.{numbers_whole}

-- ---- codecs of pairs

-- what holds of linear samples of 16 bits, in either order
pub of_pairs : (P : Codec → Type 0) → ((order : Order) → P (S16 order)) → (codec : Codec) → is_pair codec ≡ true → P codec
of_pairs P all (S16 order) is = all order
of_pairs P all U8 is = absurd cc
of_pairs P all S8 is = absurd cc
of_pairs P all (S24 order) is = absurd cc
of_pairs P all (S32 order) is = absurd cc
of_pairs P all MuLaw is = absurd cc
of_pairs P all ALaw is = absurd cc
of_pairs P all (Ima align per_block) is = absurd cc
of_pairs P all (Ms align per_block) is = absurd cc

module _ (codec : Codec) (pair : is_pair codec ≡ true) where
  pub pairs_stand : (b : List ℕ) → sources_in codec b ≡ numbers_in codec b
  pairs_stand b = of_pairs (λ (q : Codec). sources_in q b ≡ numbers_in q b) (λ order. refl) codec pair

  pub pairs_plain : is_adpcm codec ≡ false
  pairs_plain = of_pairs (λ (q : Codec). is_adpcm q ≡ false) (λ order. refl) codec pair

  pub pairs_align : (channels : ℕ) → block_align channels codec ≡ 2 * channels
  pairs_align channels = of_pairs (λ (q : Codec). block_align channels q ≡ 2 * channels) (λ order. refl) codec pair

  pub pairs_counted : (b : List ℕ) → length (numbers_in codec b) ≡ pairs_in b
  pairs_counted b = of_pairs (λ (q : Codec). length (numbers_in q b) ≡ pairs_in b) (λ order. count_of_pairs order b) codec pair

  pub same_front : (a b : List ℕ) (k : ℕ) → 2 * k ≤ length a → 2 * k ≤ length b → take (2 * k) a ≡ take (2 * k) b → take k (numbers_in codec a) ≡ take k (numbers_in codec b)
  same_front a b k fits fits' same = of_pairs (λ (q : Codec). take k (numbers_in q a) ≡ take k (numbers_in q b)) (λ order. front_numbers order a b k fits fits' same) codec pair

  -- zeros behind some pairs are zeros behind the numbers that they are
  zeros_behind : (b : List ℕ) (k : ℕ) → ((j : ℕ) → 2 * k ≤ j → j < length b → get_or b j 0 ≡ 0) → (j : ℕ) → k ≤ j → j < length (numbers_in codec b) → get_or (numbers_in codec b) j (pos 0) ≡ pos 0
  zeros_behind b k zeros j behind lt =
      let below : j < pairs_in b = omega (arith, lt, pairs_counted b) in
      of_pairs (λ (q : Codec). get_or (numbers_in q b) j (pos 0) ≡ pos 0)
      (λ order. zero_pair order b j (zeros (2 * j) (omega (arith, behind)) (omega (arith, below))) (zeros (2 * j + 1) (omega (arith, behind)) (omega (arith, below))) below) codec pair

  -- a channel of pairs is one of numbers, and so are those that stay
  pub channel_put : (n w count : ℕ) (pairs block : List ℕ) → w < n → length pairs ≡ 2 * count → length block ≡ length pairs * n → HasPairs n w pairs block
      → HasChannel n w count (numbers_in codec pairs) (numbers_in codec block)
  channel_put n w count pairs block within many size has j lt =
      let below : j < pairs_in pairs = omega (arith, many, lt) in
      of_pairs (λ (q : Codec). get_or (numbers_in q block) (j * n + w) (pos 0) ≡ get_or (numbers_in q pairs) j (pos 0)) (λ order. has_channel order n w pairs block within size has j below) codec pair

  pub channels_kept : (n w count : ℕ) (pairs block old : List ℕ) → w < n → length pairs ≡ 2 * count → length block ≡ length pairs * n → length old ≡ length block → KeepsPairs n w (pairs_in pairs) old block
      → KeepsChannels n w count (numbers_in codec old) (numbers_in codec block)
  channels_kept n w count pairs block old within many size same keeps j c lt inside other =
      let below : j < pairs_in pairs = omega (arith, many, lt) in
      of_pairs (λ (q : Codec). get_or (numbers_in q block) (j * n + c) (pos 0) ≡ get_or (numbers_in q old) (j * n + c) (pos 0))
      (λ order. keeps_channels order n w pairs block within size old same keeps j c below inside other) codec pair

-- numbers that were read into bytes
pub pairs_read : (codec : Codec) (place count frames : ℕ) (e : Editing) (old new : List ℕ) → is_pair codec ≡ true → frames ≡ length e.frames → length new ≡ length old
    → count ≡ min (pairs_in old) (frames - place) → take count (numbers_in codec old) ≡ take count (drop place (numbers_of e)) → take (2 * count) new ≡ take (2 * count) old
    → ((j : ℕ) → 2 * count ≤ j → j < length new → get_or new j 0 ≡ 0) → AreNumbersAt place (pairs_in old) (numbers_of e) (numbers_in codec new)
pairs_read codec place count frames e old new pair all same is gives front zeros =
    let few : 2 * count ≤ length old = omega (arith, is) in
    let many : length (numbers_of e) ≡ frames = length-map e.frames (λ frame. get_or frame 0 (pos 0)) ∙ sym all in
    let size : length (numbers_in codec new) ≡ pairs_in old = pairs_counted codec pair new ∙ ap (λ (n : ℕ). n / 2) same in
    subst (λ (n : ℕ). AreNumbersAt place n (numbers_of e) (numbers_in codec new)) size
    (numbers_whole place count (numbers_of e) (numbers_in codec new)
    (omega (arith, is, many, size))
    (same_front codec pair new old count (omega (arith, few, same)) few front ∙ gives)
    (zeros_behind codec pair new count zeros))

-- ---- a block

-- the numbers of so many frames
pub block_sources : (codec : Codec) (block : List ℕ) (count n : ℕ) → is_pair codec ≡ true → length block ≡ 2 * (count * n) → length (sources_in codec block) ≡ count * n
block_sources codec block count n pair size = ap length (pairs_stand codec pair block) ∙ pairs_counted codec pair block ∙ (let e : length block / 2 ≡ count * n = omega (arith, size) in e)

-- they may be given to a file
pub may_pass : (block : List ℕ) (count : ℕ) (to : Known) → is_pair to.shape.params.codec ≡ true → 1 ≤ to.shape.params.channels → length block ≡ 2 * (count * to.shape.params.channels)
    → IsAtEnd to → HasRoom count to → MayPass block to
may_pass block count to pair some size at_end roomy =
    let c = to.shape.params.channels in
    let codec = to.shape.params.codec in
    let all : length block ≡ count * (2 * c) = size ∙ (let e : 2 * (count * c) ≡ count * (2 * c) = omega arith in e) in
    record {
      at_end = at_end;
      whole = ap (λ (m : ℕ). length block % m) (pairs_align codec pair c) ∙ ap (λ (m : ℕ). m % (2 * c)) all ∙ mul-mod_left count (2 * c);
      roomy = subst (λ (m : ℕ). HasRoom m to) (sym (frames_are (sources_in codec block) count to some (block_sources codec block count c pair size))) roomy;
    }
