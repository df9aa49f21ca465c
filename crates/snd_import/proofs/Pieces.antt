-- Pieces of a source, one behind the other.
use Rattle.std.proofs.Common.{◌≡◌, ◌∙◌, ap, sym, subst, refl, ℕ, ◌+◌, ◌-◌, ◌*◌, ◌/◌, ◌%◌, ◌<◌, ◌≤◌, ℤ, List, [], ◌++◌, Option, Some, drop, length, take, false, arith}
use Rattle.std.proofs.Math.Nat.{mul-div_cancel, mul-le-mul_right, mul-mod_left}
use Rattle.std.proofs.lemmas.List.{drop-drop, drop-take, length-drop, length-take-le, map-append, nil_from_length, take-append-drop, take-take}
use Rattle.std.proofs.lemmas.Nat.{div-add-mod'}
use Rattle.snd_container.proofs.Public.{samples_of_joined}
use Rattle.snd_container.specs.declared.fixed.Fixed.{Fixed}
use Rattle.snd_ima_adpcm.specs.Frames.{high_half_first}
use Rattle.snd_vox.specs.Vox.{VoxState, vox_samples, vox_start, vox_state_read}
use Rattle.snd_layout.specs.Blocks.{block_align, block_frames, is_adpcm}
use Rattle.snd_layout.specs.Params.{Parameters}
use Rattle.snd_layout.specs.Shape.{Shape}
use Rattle.snd_layout.specs.declared.codec.Codec.{Codec}
use Rattle.snd_layout.specs.declared.codec.Codec.TheVariants.{U8, S8, S16, S24, S32, MuLaw, ALaw, Ima, Ms}
use Rattle.snd_edits.specs.Bytes.{numbers_as, numbers_in}
use Rattle.snd_edits.specs.Known.{Known}
use Rattle.snd_output.proofs.Public.{at_end_then, bytes_of_samples, frames_size, numbers_counted, room_fewer, room_then, some_form}
use Rattle.snd_output.specs.Appended.{HasRoom, IsLonger, bytes_in as samples_size}
use Rattle.snd_output.specs.Widths.{change_numbers, width_of}
use Rattle.snd_pcm.specs.Width.{changed}
use Rattle.snd_import.proofs.Halves.{halves_joined, samples_joined, state_joined}
use Rattle.snd_import.specs.Filling.{AreNumbersOf, MayTake, sound_behind, state_behind}
use Rattle.snd_import.specs.Import.{bytes_in, sound_in}
use Rattle.snd_import.specs.Source.{IsHeld}
use Rattle.snd_import.specs.declared.source.Coding.{Coding}
use Rattle.snd_import.specs.declared.source.Coding.TheVariants.{Samples, Codes}
use Rattle.snd_import.specs.declared.source.Source.{Source}

-- ---- the bytes of frames

times_sum : (i k a : ℕ) → (i + k) * a ≡ i * a + k * a
times_sum i k a = omega arith

pub bytes_joined : (coding : Coding) (p : Parameters) (i k : ℕ) → (coding ≡ Codes → i % 2 ≡ 0) → bytes_in coding p (i + k) ≡ bytes_in coding p i + bytes_in coding p k
bytes_joined Samples p i k even = times_sum i k (block_align p.channels p.codec)
bytes_joined Codes p i k even = let e : i % 2 ≡ 0 = even refl in omega (arith, e)

pub bytes_fewer : (coding : Coding) (p : Parameters) (i n : ℕ) → i ≤ n → bytes_in coding p i ≤ bytes_in coding p n
bytes_fewer Samples p i n le = mul-le-mul_right (block_align p.channels p.codec) le
bytes_fewer Codes p i n le = omega (arith, le)

pub bytes_none : (coding : Coding) (p : Parameters) → bytes_in coding p 0 ≡ 0
bytes_none Samples p = let e : 0 * block_align p.channels p.codec ≡ 0 = omega arith in e
bytes_none Codes p = refl

pub align_range : (codec : Codec) (c : ℕ) → is_adpcm codec ≡ false → 1 ≤ c → (1 ≤ block_align c codec) × (block_align c codec ≤ 4 * c)
align_range U8 c fixed some = (omega (arith, some), omega (arith, some))
align_range S8 c fixed some = (omega (arith, some), omega (arith, some))
align_range (S16 order) c fixed some = (omega (arith, some), omega (arith, some))
align_range (S24 order) c fixed some = (omega (arith, some), omega (arith, some))
align_range (S32 order) c fixed some = (omega (arith, some), omega (arith, some))
align_range MuLaw c fixed some = (omega (arith, some), omega (arith, some))
align_range ALaw c fixed some = (omega (arith, some), omega (arith, some))
align_range (Ima align per_block) c fixed some = absurd (cc)
align_range (Ms align per_block) c fixed some = absurd (cc)

-- so many samples become no more bytes than a block has
pub coded_fits : (codec : Codec) (n : ℕ) → is_adpcm codec ≡ false → n ≤ 32768 → samples_size codec n ≤ 131072
coded_fits codec n fixed few =
    let align = align_range codec 1 fixed (omega arith) in
    let times : block_align 1 codec * n ≤ 4 * n = mul-le-mul_right n (let e : block_align 1 codec ≤ 4 = omega (arith, align.1) in e) in
    let turned : n * block_align 1 codec ≡ block_align 1 codec * n = omega arith in
    omega (arith, turned, times, few)

-- a part of what is divided
pub part_fits : (n d r : ℕ) → r ≤ n / d → r * d ≤ n
part_fits n d r few =
    let times : r * d ≤ n / d * d = mul-le-mul_right d few in
    omega (arith, times, div-add-mod' n d)

-- how many numbers they are
pub are_numbers : (coding : Coding) (p : Parameters) (n : ℕ) → is_adpcm p.codec ≡ false → (coding ≡ Codes → p.channels ≡ 1) → (coding ≡ Codes → n % 2 ≡ 0) → AreNumbersOf coding p.codec (n * p.channels) (bytes_in coding p n)
are_numbers Samples p n fixed mono even = frames_size p.codec p.channels n fixed
are_numbers Codes p n fixed mono even =
    let one : n * p.channels ≡ n = ap (λ (c : ℕ). n * c) (mono refl) ∙ (let e : n * 1 ≡ n = omega arith in e) in
    let e : n % 2 ≡ 0 = even refl in
    omega (arith, one, e)

-- ---- what they hold

numbers_joined : (codec : Codec) (xs ys : List ℕ) (n : ℕ) → is_adpcm codec ≡ false → length xs ≡ samples_size codec n → numbers_in codec (xs ++ ys) ≡ numbers_in codec xs ++ numbers_in codec ys
numbers_joined codec xs ys n fixed size =
    let form = some_form codec fixed in
    ap (λ (o : Option Fixed). numbers_as o (xs ++ ys)) form.1
    ∙ samples_of_joined form.0 xs ys n (size ∙ bytes_of_samples codec form.0 n form.1)
    ∙ sym (ap (λ (o : Option Fixed). numbers_as o xs ++ numbers_as o ys) form.1)

pub sound_joined : (coding : Coding) (codec : Codec) (s : VoxState) (xs ys : List ℕ) (n : ℕ) → is_adpcm codec ≡ false → (coding ≡ Samples → length xs ≡ samples_size codec n)
    → sound_behind coding codec s (xs ++ ys) ≡ sound_behind coding codec s xs ++ sound_behind coding codec (state_behind coding s xs) ys
sound_joined Samples codec s xs ys n fixed size = numbers_joined codec xs ys n fixed (size refl)
sound_joined Codes codec s xs ys n fixed size = ap (vox_samples s) (halves_joined xs ys) ∙ samples_joined s (high_half_first xs) (high_half_first ys)

pub states_joined : (coding : Coding) (s : VoxState) (xs ys : List ℕ) → state_behind coding s (xs ++ ys) ≡ state_behind coding (state_behind coding s xs) ys
states_joined Samples s xs ys = refl
states_joined Codes s xs ys = ap (vox_state_read s) (halves_joined xs ys) ∙ state_joined s (high_half_first xs) (high_half_first ys)

pub sound_first : (coding : Coding) (codec : Codec) (bytes : List ℕ) → sound_behind coding codec vox_start bytes ≡ sound_in coding codec bytes
sound_first Samples codec bytes = refl
sound_first Codes codec bytes = refl

pub piece_joined : (i k s : ℕ) (b : List ℕ) → take (i + k) (drop s b) ≡ take i (drop s b) ++ take k (drop (s + i) b)
piece_joined i k s b =
    let xs = drop s b in
    sym (take-append-drop i (take (i + k) xs))
    ∙ ap (λ (l : List ℕ). l ++ drop i (take (i + k) xs)) (take-take i (i + k) xs (omega arith))
    ∙ ap (λ (l : List ℕ). take i xs ++ l) (drop-take i k xs)
    ∙ ap (λ (l : List ℕ). take i xs ++ take k l) (drop-drop i s b)

pub change_joined : (from to : Codec) (xs ys : List ℤ) → change_numbers from to (xs ++ ys) ≡ change_numbers from to xs ++ change_numbers from to ys
change_joined from to xs ys = map-append (changed (width_of from) (width_of to)) xs ys

pub front_none : (coding : Coding) (p : Parameters) (xs : List ℕ) → take (bytes_in coding p 0) xs ≡ []
front_none coding p xs = ap (λ (n : ℕ). take n xs) (bytes_none coding p)

pub state_none : (coding : Coding) (s : VoxState) → state_behind coding s [] ≡ s
state_none Samples s = refl
state_none Codes s = refl

pub sound_none : (coding : Coding) (codec : Codec) (s : VoxState) → is_adpcm codec ≡ false → sound_behind coding codec s [] ≡ []
sound_none Samples codec s fixed = nil_from_length (numbers_in codec []) (numbers_counted codec [] 0 fixed (let e : 0 ≡ 0 * block_align 1 codec = omega arith in e))
sound_none Codes codec s fixed = refl

-- the bytes of the first frames, and of some behind them
module _ (s : Source) (b : List ℕ) (i k : ℕ) (held : IsHeld (length b) s) (within : i + k ≤ s.frames) (even : s.coding ≡ Codes → i % 2 ≡ 0) where
  abbrev p : Parameters
  p = s.params

  abbrev bytes : ℕ → ℕ
  bytes n = bytes_in s.coding p n

  abbrev front : ℕ → List ℕ
  front n = take (bytes n) (drop s.start b)

  abbrev behind : List ℕ
  behind = take (bytes k) (drop (s.start + bytes i) b)

  pub front_joined : front (i + k) ≡ front i ++ behind
  front_joined = ap (λ (n : ℕ). take n (drop s.start b)) (bytes_joined s.coding p i k even) ∙ piece_joined (bytes i) (bytes k) s.start b

  front_whole : s.coding ≡ Samples → length (front i) ≡ samples_size p.codec (i * p.channels)
  front_whole is =
      let few : bytes i ≤ bytes s.frames = bytes_fewer s.coding p i s.frames (omega (arith, within)) in
      let there : bytes i ≤ length (drop s.start b) = omega (arith, few, held.within, length-drop s.start b) in
      length-take-le (bytes i) (drop s.start b) there ∙ ap (λ (c : Coding). bytes_in c p i) is ∙ frames_size p.codec p.channels i held.source.fixed

  pub front_sound : (v : VoxState) → sound_behind s.coding p.codec v (front (i + k)) ≡ sound_behind s.coding p.codec v (front i) ++ sound_behind s.coding p.codec (state_behind s.coding v (front i)) behind
  front_sound v = ap (sound_behind s.coding p.codec v) front_joined ∙ sound_joined s.coding p.codec v (front i) behind (i * p.channels) held.source.fixed front_whole

  pub front_state : (v : VoxState) → state_behind s.coding v (front (i + k)) ≡ state_behind s.coding (state_behind s.coding v (front i)) behind
  front_state v = ap (state_behind s.coding v) front_joined ∙ states_joined s.coding v (front i) behind

-- ---- what may be given

one_frame : (codec : Codec) → is_adpcm codec ≡ false → 1 ≤ block_frames codec
one_frame U8 fixed = omega arith
one_frame S8 fixed = omega arith
one_frame (S16 order) fixed = omega arith
one_frame (S24 order) fixed = omega arith
one_frame (S32 order) fixed = omega arith
one_frame MuLaw fixed = omega arith
one_frame ALaw fixed = omega arith
one_frame (Ima align per_block) fixed = absurd (cc)
one_frame (Ms align per_block) fixed = absurd (cc)

pub frames_counted : (n c c' : ℕ) → c ≡ c' → 1 ≤ c → n * c / c' ≡ n
frames_counted n c c' same some = ap (λ (m : ℕ). n * c / m) (sym same) ∙ mul-div_cancel n (let e : 0 < c = omega (arith, some) in e)

pub frames_whole : (n c c' : ℕ) → c ≡ c' → (n * c) % c' ≡ 0
frames_whole n c c' same = ap (λ (m : ℕ). (n * c) % m) (sym same) ∙ mul-mod_left n c

module _ (s : Source) (n i k : ℕ) (a b : Known) (takes : MayTake n s a) (longer : IsLonger i a b) where
  pub takes_next : i + k ≤ n → MayTake k s b
  takes_next within =
      let rest : n ≡ i + (n - i) = omega (arith, within) in
      let fixed : is_adpcm b.shape.params.codec ≡ false = ap (λ (h : Shape). is_adpcm h.params.codec) longer.shape ∙ takes.fixed in
      let left : HasRoom (n - i) b = room_then i (n - i) a b (subst (λ (m : ℕ). HasRoom m a) rest takes.room) longer in
      record {
        at_end = at_end_then i a b takes.at_end longer;
        room = room_fewer b k (n - i) (one_frame b.shape.params.codec fixed) (omega (arith, within)) left;
        alike = takes.alike ∙ ap (λ (h : Shape). h.params.channels) (sym longer.shape);
        fixed = fixed;
      }

pub takes_as : (s : Source) (n m : ℕ) (a : Known) → n ≡ m → MayTake n s a → MayTake m s a
takes_as s n m a same takes = subst (λ (k : ℕ). MayTake k s a) same takes
