-- The bytes of frames behind those of others, and of a whole file.
use Rattle.std.proofs.Common.{◌≡◌, ◌∙◌, ap, sym, refl, subst, ℕ, ◌+◌, ◌-◌, ◌*◌, ◌/◌, ◌<◌, ◌≤◌, List, [], ◌++◌, length, take, drop, replicate, append_assoc, arith}
use Rattle.std.proofs.Math.Nat.{div-add-mod, mul-le-mul_left}
use Rattle.std.proofs.lemmas.List.{append-nil, drop_all, length-append, take_all}
use Rattle.std.proofs.lemmas.Nat.{le-div}
use Rattle.std.specs.Prelude.{◌==◌, ◌^◌, false, min}
use Rattle.std.proofs.lemmas.Bool.{eqb-true, leb-false, not-false}
use Rattle.snd_blocks.specs.Sound.{frames_in}
use Rattle.snd_disk.specs.Bytes.{over}
use Rattle.snd_edits.specs.Editing.{first_editing}
use Rattle.snd_vox.specs.Vox.{VoxState, vox_start}
use Rattle.snd_layout.specs.Shape.{Shape}
use Rattle.snd_output.specs.Widths.{joined}
use Rattle.snd_words.specs.declared.raw.ExportForm.{ExportForm}
use Rattle.snd_words.specs.declared.raw.ExportForm.TheVariants.{Raw, Vox, Pvf}
use Rattle.snd_export.specs.Coding.{HasChannels, bytes_by, count_by, head_made, numbers_at, size_by, state_by, target_of}
use Rattle.snd_export.specs.Export.{bytes_made, has_too_many, is_too_long, size_made}
use Rattle.snd_export.specs.declared.target.Target.{Target}
use Rattle.snd_export.specs.declared.target.Target.TheVariants as target
use Rattle.snd_export.proofs.Coded.{Stands, bytes_more, bytes_none, count_more, numbers_on, stands_each, stands_on, state_more, state_none}

-- bytes that are put at the end
pub over_end : (x s : List ℕ) (at : ℕ) → length x ≡ at → over x at s ≡ x ++ s
over_end x s at is =
    let none : at - length x ≡ 0 = omega (arith, is) in
    ap (λ (l : List ℕ). l ++ replicate (at - length x) 0 ++ s ++ drop (at + length s) x) (take_all at x (omega (arith, is)))
    ∙ ap (λ (n : ℕ). x ++ replicate n 0 ++ s ++ drop (at + length s) x) none
    ∙ ap (λ (l : List ℕ). l ++ s ++ drop (at + length s) x) (append-nil x)
    ∙ ap (λ (l : List ℕ). x ++ s ++ l) (drop_all (at + length s) x (omega (arith, is)))
    ∙ append-nil (x ++ s)

-- the bytes of the first m frames, and those of n more
module _ (t : Target) (b : List ℕ) (h : Shape) (m n : ℕ) (w : VoxState) (bytes : List ℕ)
    (behind : w ≡ state_by t vox_start h.params.codec (numbers_at b h 0 m)) (stands : Stands t (length (numbers_at b h 0 m))) where
  pub bytes_next : bytes ≡ bytes_by t w h.params.codec (numbers_at b h m n)
      → bytes_by t vox_start h.params.codec (numbers_at b h 0 m) ++ bytes ≡ bytes_by t vox_start h.params.codec (numbers_at b h 0 (m + n))
  bytes_next is =
      ap (λ (l : List ℕ). bytes_by t vox_start h.params.codec (numbers_at b h 0 m) ++ l) (is ∙ ap (λ (v : VoxState). bytes_by t v h.params.codec (numbers_at b h m n)) behind)
      ∙ sym (bytes_more t vox_start h.params.codec (numbers_at b h 0 m) (numbers_at b h m n) stands)
      ∙ ap (bytes_by t vox_start h.params.codec) (numbers_on b h m n)

  pub state_next : (w' : VoxState) → w' ≡ state_by t w h.params.codec (numbers_at b h m n) → w' ≡ state_by t vox_start h.params.codec (numbers_at b h 0 (m + n))
  state_next w' is =
      is ∙ ap (λ (v : VoxState). state_by t v h.params.codec (numbers_at b h m n)) behind
      ∙ sym (state_more t vox_start h.params.codec (numbers_at b h 0 m) (numbers_at b h m n) stands)
      ∙ ap (state_by t vox_start h.params.codec) (numbers_on b h m n)

-- before the first
pub bytes_first : (t : Target) (b : List ℕ) (h : Shape) (x : List ℕ) → x ≡ x ++ bytes_by t vox_start h.params.codec (numbers_at b h 0 0)
bytes_first t b h x = sym (append-nil x) ∙ ap (λ (l : List ℕ). x ++ l) (sym (bytes_none t vox_start h.params.codec))

pub state_first : (t : Target) (b : List ℕ) (h : Shape) → vox_start ≡ state_by t vox_start h.params.codec (numbers_at b h 0 0)
state_first t b h = state_none t vox_start h.params.codec

-- ---- the whole file

-- the frames that a layout counts are all
pub all_numbers : (b : List ℕ) (h : Shape) → length (frames_in b h) ≤ h.frames → numbers_at b h 0 h.frames ≡ joined (frames_in b h)
all_numbers b h within = ap joined (take_all h.frames (frames_in b h) within)

-- what stands behind the head
pub made_as : (form : ExportForm) (b : List ℕ) (h : Shape) → length (frames_in b h) ≤ h.frames
    → head_made form h.params ++ bytes_by (target_of form h.params.codec) vox_start h.params.codec (numbers_at b h 0 h.frames) ≡ bytes_made form (first_editing b h)
made_as Raw b h within = ap (bytes_by (target_of Raw h.params.codec) vox_start h.params.codec) (all_numbers b h within)
made_as Pvf b h within = ap (λ l. head_made Pvf h.params ++ bytes_by (target_of Pvf h.params.codec) vox_start h.params.codec l) (all_numbers b h within)
made_as Vox b h within = ap (bytes_by (target_of Vox h.params.codec) vox_start h.params.codec) (all_numbers b h within)

no_head : (n : ℕ) → 0 + n ≡ n
no_head n = omega arith

-- and how many bytes both are
pub size_as : (form : ExportForm) (h : Shape) → length (head_made form h.params) + size_by (target_of form h.params.codec) h ≡ size_made form h
size_as Raw h = no_head (size_made Raw h)
size_as Pvf h = refl
size_as Vox h = no_head (size_made Vox h)

-- a file that is not too long
pub short_as : (form : ExportForm) (h : Shape) → is_too_long form h ≡ false → length (head_made form h.params) + size_by (target_of form h.params.codec) h < 2 ^ 63
short_as form h short = let less : size_made form h < 2 ^ 63 = leb-false (2 ^ 63) (size_made form h) short in omega (arith, less, size_as form h)

-- .. and one with as many channels as its form has
pub channels_as : (form : ExportForm) (h : Shape) → has_too_many form h ≡ false → HasChannels (target_of form h.params.codec) h
channels_as Raw h few = tt
channels_as Pvf h few = tt
channels_as Vox h few = eqb-true h.params.channels 1 (not-false (h.params.channels == 1) few)

-- ---- a block after the other

-- more frames may follow where the last block was whole
pub stands_next : (t : Target) (h : Shape) (n k : ℕ) → (t ≡ target.Vox → h.params.channels ≡ 1) → k ≡ min (16384 / h.params.channels) (h.frames - n) → Stands t (n * h.params.channels) → n + k < h.frames
    → Stands t ((n + k) * h.params.channels)
stands_next t h n k mono is stands lt =
    let c = h.params.channels in
    let whole : k ≡ 16384 / c = all_of (16384 / c) (h.frames - n) is (omega (arith, lt)) in
    let sum : n * c + k * c ≡ (n + k) * c = omega arith in
    subst (Stands t) sum (stands_on t (n * c) (k * c) stands (stands_each t c k mono whole))
  where
    all_of : (q left : ℕ) → k ≡ min q left → k < left → k ≡ q
    all_of q left is lt = omega (arith, is, lt)

pub count_next : (t : Target) (h : Shape) (n k : ℕ) → Stands t (n * h.params.channels) → count_by t ((n + k) * h.params.channels) ≡ count_by t (n * h.params.channels) + count_by t (k * h.params.channels)
count_next t h n k stands =
    let c = h.params.channels in
    let sum : (n + k) * c ≡ n * c + k * c = omega arith in
    ap (count_by t) sum ∙ count_more t (n * c) (k * c) stands

pub numbers_next : (b : List ℕ) (h : Shape) (n k : ℕ) → length (numbers_at b h 0 n) ≡ n * h.params.channels → length (numbers_at b h n k) ≡ k * h.params.channels
    → length (numbers_at b h 0 (n + k)) ≡ (n + k) * h.params.channels
numbers_next b h n k first second =
    ap length (sym (numbers_on b h n k)) ∙ length-append (numbers_at b h 0 n) (numbers_at b h n k)
    ∙ (let e : length (numbers_at b h 0 n) + length (numbers_at b h n k) ≡ (n + k) * h.params.channels = omega (arith, first, second) in e)

-- a block has places for frames of as many numbers
pub some_each : (channels : ℕ) → 1 ≤ channels → channels ≤ 256 → 1 ≤ 16384 / channels
some_each channels some few = le-div 1 16384 channels (omega (arith, some)) (omega (arith, few))

pub places_fit : (channels each left k : ℕ) → 1 ≤ channels → each ≡ 16384 / channels → k ≡ min each left → k * channels ≤ 16384
places_fit channels each left k some each_is is =
    let all : channels * (16384 / channels) ≤ 16384 = omega (arith, div-add-mod 16384 channels) in
    let few : k ≤ 16384 / channels = omega (arith, each_is, is) in
    let times : channels * k ≤ channels * (16384 / channels) = mul-le-mul_left channels few in
    omega (arith, all, times)
