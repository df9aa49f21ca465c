-- What more numbers become, behind others.
use Rattle.std.proofs.Common.{◌≡◌, ◌∙◌, ap, sym, refl, subst, inl, inr, ◌⊎◌, ℕ, ◌+◌, ◌*◌, ◌/◌, ◌<◌, ◌≤◌, ℤ, pos, true, false, List, [], ◌++◌, Option, None, Some, length, take, drop, append_assoc, arith}
use Rattle.std.proofs.lemmas.List.{append-nil, length-append, length-map, map-append, nil_from_length, take_all}
use Rattle.std.proofs.Math.Nat.{mul-le-mul_right}
use Rattle.snd_blocks.specs.Sound.{frames_in}
use Rattle.snd_container.proofs.Public.{count_of_bytes}
use Rattle.snd_container.specs.Fixed.{byte_count, samples_bytes}
use Rattle.snd_container.specs.Sound.{fixed_of}
use Rattle.snd_container.specs.declared.fixed.Fixed.{Fixed}
use Rattle.snd_edits.specs.Edits.{coded_as}
use Rattle.snd_fields.specs.declared.field.Order.TheVariants.{Little}
use Rattle.snd_ima_adpcm.specs.Frames.{bytes_high_half_first}
use Rattle.snd_vox.specs.Vox.{VoxState, made_even, vox_codes, vox_state_written}
use Rattle.snd_layout.specs.Blocks.{block_align, is_adpcm}
use Rattle.snd_layout.specs.Params.{Parameters}
use Rattle.snd_layout.specs.Shape.{Shape}
use Rattle.snd_layout.specs.declared.codec.Codec.{Codec}
use Rattle.snd_layout.specs.declared.codec.Codec.TheVariants.{S16}
use Rattle.snd_output.proofs.Numbers.{joined_on}
use Rattle.snd_output.proofs.Public.{coded_joined, frames_size}
use Rattle.snd_output.specs.Appended.{bytes_in, coded_in}
use Rattle.snd_output.specs.Widths.{change_numbers, joined, width_of}
use Rattle.snd_pcm.specs.Width.{changed}
use Rattle.snd_export.specs.Coding.{HasChannels, IsPlain, bytes_by, count_by, numbers_at, size_by, state_by}
use Rattle.snd_export.specs.declared.target.Target.{Target}
use Rattle.snd_export.specs.declared.target.Target.TheVariants as target
use Rattle.snd_export.proofs.Codes.{behind_on, bytes_on}

-- ---- numbers of another width

pub change_on : (own codec : Codec) (xs ys : List ℤ) → change_numbers own codec (xs ++ ys) ≡ change_numbers own codec xs ++ change_numbers own codec ys
change_on own codec xs ys = map-append (changed (width_of own) (width_of codec)) xs ys

pub length-change : (own codec : Codec) (xs : List ℤ) → length (change_numbers own codec xs) ≡ length xs
length-change own codec xs = length-map xs (changed (width_of own) (width_of codec))

-- ---- more numbers

-- so many may stand before others: VOX takes two at a time
abbrev pub Stands : Target → ℕ → Type 0
Stands (target.Samples codec) n = Unit {0}
Stands target.Vox n = (k : ℕ) × (n ≡ 2 * k)

-- none may
pub stands_none : (t : Target) → Stands t 0
stands_none (target.Samples codec) = tt
stands_none target.Vox = (0, omega arith)

pub stands_on : (t : Target) (m n : ℕ) → Stands t m → Stands t n → Stands t (m + n)
stands_on (target.Samples codec) m n first second = tt
stands_on target.Vox m n first second = (first.0 + second.0, omega (arith, first.1, second.1))

-- the parameters of samples of a codec: only the codec matters
abbrev samples_of : Codec → Parameters
samples_of codec = record { channels = 1; rate = 1; codec = codec }

none_as : (o : Option Fixed) → coded_as o [] ≡ []
none_as None = refl
none_as (Some form) = nil_from_length (samples_bytes form []) ((count_of_bytes form []).0 ∙ (let e : byte_count form * 0 ≡ 0 = omega arith in e))

pub bytes_none : (t : Target) (w : VoxState) (own : Codec) → bytes_by t w own [] ≡ []
bytes_none (target.Samples codec) w own = none_as (fixed_of codec)
bytes_none target.Vox w own = refl

pub state_none : (t : Target) (w : VoxState) (own : Codec) → w ≡ state_by t w own []
state_none (target.Samples codec) w own = refl
state_none target.Vox w own = refl

pub bytes_more : (t : Target) (w : VoxState) (own : Codec) (xs ys : List ℤ) → Stands t (length xs) → bytes_by t w own (xs ++ ys) ≡ bytes_by t w own xs ++ bytes_by t (state_by t w own xs) own ys
bytes_more (target.Samples codec) w own xs ys stands =
    ap (coded_in codec) (change_on own codec xs ys) ∙ coded_joined (samples_of codec) (change_numbers own codec xs) (change_numbers own codec ys)
bytes_more target.Vox w own xs ys stands =
    let codec = S16 Little in
    ap (λ (l : List ℤ). bytes_high_half_first (vox_codes w (made_even l))) (change_on own codec xs ys)
    ∙ bytes_on stands.0 w (change_numbers own codec xs) (change_numbers own codec ys) (length-change own codec xs ∙ stands.1)

pub state_more : (t : Target) (w : VoxState) (own : Codec) (xs ys : List ℤ) → Stands t (length xs) → state_by t w own (xs ++ ys) ≡ state_by t (state_by t w own xs) own ys
state_more (target.Samples codec) w own xs ys stands = refl
state_more target.Vox w own xs ys stands =
    let codec = S16 Little in
    ap (λ (l : List ℤ). vox_state_written w (made_even l)) (change_on own codec xs ys)
    ∙ behind_on stands.0 w (change_numbers own codec xs) (change_numbers own codec ys) (length-change own codec xs ∙ stands.1)

none_times : (c : ℕ) → 0 * c ≡ 0
none_times c = omega arith

more_times : (m n c : ℕ) → (m + n) * c ≡ m * c + n * c
more_times m n c = omega arith

pub count_none : (t : Target) → count_by t 0 ≡ 0
count_none (target.Samples codec) = none_times (block_align 1 codec)
count_none target.Vox = omega arith

pub count_more : (t : Target) (m n : ℕ) → Stands t m → count_by t (m + n) ≡ count_by t m + count_by t n
count_more (target.Samples codec) m n stands = more_times m n (block_align 1 codec)
count_more target.Vox m n stands = omega (arith, stands.1)

-- of no frames
pub stands_first : (t : Target) (channels : ℕ) → Stands t (0 * channels)
stands_first t channels = subst (Stands t) (sym (none_times channels)) (stands_none t)

pub count_first : (t : Target) (channels : ℕ) → count_by t (0 * channels) ≡ 0
count_first t channels = ap (count_by t) (none_times channels) ∙ count_none t

pub none_first : (channels : ℕ) → 0 ≡ 0 * channels
none_first channels = sym (none_times channels)

-- ---- the frames of a file

-- those behind others
pub numbers_on : (b : List ℕ) (h : Shape) (m n : ℕ) → numbers_at b h 0 m ++ numbers_at b h m n ≡ numbers_at b h 0 (m + n)
numbers_on b h m n =
    ap (λ (i : ℕ). numbers_at b h 0 m ++ joined (take n (drop i (frames_in b h)))) (let e : m ≡ 0 + m = omega arith in e) ∙ joined_on (frames_in b h) 0 m n

-- all become no more bytes than was counted; and so many fewer
count_all : (t : Target) (h : Shape) → IsPlain t → HasChannels t h → count_by t (h.frames * h.params.channels) ≡ size_by t h
count_all (target.Samples codec) h plain channels = sym (frames_size codec h.params.channels h.frames plain)
count_all target.Vox h plain channels = ap (λ (n : ℕ). (h.frames * n + 1) / 2) channels ∙ (let e : (h.frames * 1 + 1) / 2 ≡ (h.frames + 1) / 2 = omega arith in e)

count_fewer : (t : Target) (m n : ℕ) → m ≤ n → count_by t m ≤ count_by t n
count_fewer (target.Samples codec) m n le = mul-le-mul_right (block_align 1 codec) le
count_fewer target.Vox m n le = omega (arith, le)

pub count_within : (t : Target) (h : Shape) (n : ℕ) → IsPlain t → HasChannels t h → n ≤ h.frames → count_by t (n * h.params.channels) ≤ size_by t h
count_within t h n plain channels le =
    let numbers : n * h.params.channels ≤ h.frames * h.params.channels = mul-le-mul_right h.params.channels le in
    omega (arith, count_fewer t (n * h.params.channels) (h.frames * h.params.channels) numbers, count_all t h plain channels)

-- whole blocks of frames may stand before others, since as many numbers are taken at a time
pub stands_each : (t : Target) (channels n : ℕ) → (t ≡ target.Vox → channels ≡ 1) → n ≡ 16384 / channels → Stands t (n * channels)
stands_each (target.Samples codec) channels n mono is = tt
stands_each target.Vox channels n mono is =
    let one : channels ≡ 1 = mono refl in
    (8192, ap (λ (c : ℕ). n * c) one ∙ (let e : n * 1 ≡ n = omega arith in e) ∙ is ∙ ap (λ (c : ℕ). 16384 / c) one)

pub mono_of : (t : Target) (h : Shape) → HasChannels t h → t ≡ target.Vox → h.params.channels ≡ 1
mono_of (target.Samples codec) h channels is = absurd (cc)
mono_of target.Vox h channels is = channels
