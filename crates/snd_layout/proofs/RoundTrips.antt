-- A body that is written reads back.
use Rattle.std.proofs.Common.{◌≡◌, ℕ, ◌+◌, ◌*◌, ◌-◌, ◌/◌, ◌^◌, ◌<◌, ◌≤◌, Bool, true, false, None, Ok, List, refl, inl, inr, arith}
use Rattle.std.proofs.Math.Nat.{div-le_self}
use Rattle.std.proofs.lemmas.Bool.{and_from, cases_Bool, eq-eqb, le-leb, le-ltb, leb-true, ne_eqb}
use Rattle.std.specs.Prelude.{◌==◌, nat_le}
use Rattle.snd_fields.proofs.Numbers.{number_of_bytes}
use Rattle.snd_fields.specs.Field.{bytes_of, number}
use Rattle.snd_fields.specs.declared.field.Order.TheVariants.{Little, Big}
use Rattle.snd_layout.specs.declared.codec.Codec.{Codec}
use Rattle.snd_layout.specs.declared.codec.Codec.TheVariants.{U8, S8, S16, S24, S32, MuLaw as mulaw, ALaw as alaw, Ima as ima, Ms as ms}
use Rattle.snd_layout.specs.declared.format.Coding.{Coding}
use Rattle.snd_layout.specs.declared.format.Coding.TheVariants.{Linear, ALaw, MuLaw, Ima, Ms}
use Rattle.snd_layout.specs.declared.kind.Kind.TheVariants.{Wave}
use Rattle.snd_layout.specs.Blocks.{is_ima_block, is_ms_block}
use Rattle.snd_layout.specs.Fit.{fit_refusal}
use Rattle.snd_layout.specs.Format.{channels_of, codec_of, coding_of, coding_refusal, format_of, format_refusal, rate_of}
use Rattle.snd_layout.specs.Params.{Parameters, block_refusal, is_channel_count, size_refusal}
use Rattle.snd_layout.specs.Written.{WrittenFormatReadsBack, written_format}
use Rattle.snd_layout.proofs.Frames.{good_size, ima_frames, ms_frames}

-- a body that no condition refuses states its parameters
accepts : (b : List ℕ) (coding : Coding) (c r : ℕ) (codec : Codec) → coding_of b ≡ Ok coding → channels_of b ≡ c → rate_of b ≡ r → codec_of coding b ≡ codec
    → is_channel_count c ≡ true → (r == 0) ≡ false → coding_refusal coding b ≡ None → format_of b ≡ Ok (record { channels = c; rate = r; codec = codec })
accepts b coding c r codec coding_is channels_are rate_is codec_is counted played good =
    let none : format_refusal coding b ≡ None = rw (channels_are, rate_is, counted, played, good) refl in
    rw (coding_is, none, channels_are, rate_is, codec_is) refl

-- numbers of 2 and 4 bytes read back
two : (n : ℕ) → n < 65536 → number Little (bytes_of Little 2 n) 0 2 ≡ n
two n lt = number_of_bytes Little 2 n lt

four : (n : ℕ) → n < 2 ^ 32 → number Little (bytes_of Little 4 n) 0 4 ≡ n
four n lt = number_of_bytes Little 4 n lt

counted_of : (c : ℕ) → 1 ≤ c → c ≤ 256 → is_channel_count c ≡ true
counted_of c some most = and_from _ _ (le-leb 1 c some) (le-leb c 256 most)

played_of : (r : ℕ) → 1 ≤ r → (r == 0) ≡ false
played_of r some = ne_eqb r 0 (λ zero. omega arith)

abbrev ReadsBack : Parameters → Type 0
ReadsBack p = format_of (written_format p) ≡ Ok p

u8_reads_back : (c r : ℕ) → 1 ≤ c → c ≤ 256 → 1 ≤ r → r < 2 ^ 32 → ReadsBack (record { channels = c; rate = r; codec = U8 })
u8_reads_back c r some most plays fits =
    accepts (written_format (record { channels = c; rate = r; codec = U8 })) Linear c r U8 refl (two c (omega arith)) (four r fits) refl (counted_of c some most) (played_of r plays)
    (rw (two c (omega arith), eq-eqb c c refl) refl)

s16_reads_back : (c r : ℕ) → 1 ≤ c → c ≤ 256 → 1 ≤ r → r < 2 ^ 32 → ReadsBack (record { channels = c; rate = r; codec = (S16 Little) })
s16_reads_back c r some most plays fits =
    accepts (written_format (record { channels = c; rate = r; codec = (S16 Little) })) Linear c r (S16 Little) refl (two c (omega arith)) (four r fits) refl (counted_of c some most) (played_of r plays)
    (rw (two (2 * c) (omega arith), two c (omega arith), eq-eqb (2 * c) (2 * c) refl) refl)

s24_reads_back : (c r : ℕ) → 1 ≤ c → c ≤ 256 → 1 ≤ r → r < 2 ^ 32 → ReadsBack (record { channels = c; rate = r; codec = (S24 Little) })
s24_reads_back c r some most plays fits =
    accepts (written_format (record { channels = c; rate = r; codec = (S24 Little) })) Linear c r (S24 Little) refl (two c (omega arith)) (four r fits) refl (counted_of c some most) (played_of r plays)
    (rw (two (3 * c) (omega arith), two c (omega arith), eq-eqb (3 * c) (3 * c) refl) refl)

s32_reads_back : (c r : ℕ) → 1 ≤ c → c ≤ 256 → 1 ≤ r → r < 2 ^ 32 → ReadsBack (record { channels = c; rate = r; codec = (S32 Little) })
s32_reads_back c r some most plays fits =
    accepts (written_format (record { channels = c; rate = r; codec = (S32 Little) })) Linear c r (S32 Little) refl (two c (omega arith)) (four r fits) refl (counted_of c some most) (played_of r plays)
    (rw (two (4 * c) (omega arith), two c (omega arith), eq-eqb (4 * c) (4 * c) refl) refl)

mulaw_reads_back : (c r : ℕ) → 1 ≤ c → c ≤ 256 → 1 ≤ r → r < 2 ^ 32 → ReadsBack (record { channels = c; rate = r; codec = mulaw })
mulaw_reads_back c r some most plays fits =
    accepts (written_format (record { channels = c; rate = r; codec = mulaw })) MuLaw c r mulaw refl (two c (omega arith)) (four r fits) refl (counted_of c some most) (played_of r plays)
    (rw (two c (omega arith), eq-eqb c c refl) refl)

alaw_reads_back : (c r : ℕ) → 1 ≤ c → c ≤ 256 → 1 ≤ r → r < 2 ^ 32 → ReadsBack (record { channels = c; rate = r; codec = alaw })
alaw_reads_back c r some most plays fits =
    accepts (written_format (record { channels = c; rate = r; codec = alaw })) ALaw c r alaw refl (two c (omega arith)) (four r fits) refl (counted_of c some most) (played_of r plays)
    (rw (two c (omega arith), eq-eqb c c refl) refl)

-- a block that is not refused has at most 8192 bytes
most_bytes : (good : Bool) (align : ℕ) → size_refusal good align ≡ None → align ≤ 8192
most_bytes good align is = elim (cases_Bool (nat_le align 8192)) [
  | inl few ↦ leb-true align 8192 few
  | inr many ↦ absurd (let h = rw (good_size good align is, many) at is in cc)
]

ima_reads_back : (c r a n : ℕ) → 1 ≤ c → c ≤ 2 → 1 ≤ r → r < 2 ^ 32 → size_refusal (is_ima_block c a n) a ≡ None → ReadsBack (record { channels = c; rate = r; codec = ima a n })
ima_reads_back c r a n some most plays fits good =
    let form : is_ima_block c a n ≡ true = good_size (is_ima_block c a n) a good in
    let small : a ≤ 8192 = most_bytes (is_ima_block c a n) a good in
    let frames : n ≡ (a - 4 * c) * 2 / c + 1 = ima_frames c a n form in
    let few : n < 65536 = omega (arith, frames, div-le_self ((a - 4 * c) * 2) c) in
    accepts (written_format (record { channels = c; rate = r; codec = ima a n })) Ima c r (ima a n) refl (two c (omega arith)) (four r fits)
    (rw (two a (omega arith), two n few) refl) (counted_of c some (omega arith)) (played_of r plays)
    (rw (two c (omega arith), two a (omega arith), two n few, good, le-ltb 2 c most) refl)

ms_reads_back : (c r a n : ℕ) → 1 ≤ c → c ≤ 2 → 1 ≤ r → r < 2 ^ 32 → size_refusal (is_ms_block c a n) a ≡ None → ReadsBack (record { channels = c; rate = r; codec = ms a n })
ms_reads_back c r a n some most plays fits good =
    let form : is_ms_block c a n ≡ true = good_size (is_ms_block c a n) a good in
    let small : a ≤ 8192 = most_bytes (is_ms_block c a n) a good in
    let frames : n ≡ (a - 7 * c) * 2 / c + 2 = ms_frames c a n form in
    let few : n < 65536 = omega (arith, frames, div-le_self ((a - 7 * c) * 2) c) in
    accepts (written_format (record { channels = c; rate = r; codec = ms a n })) Ms c r (ms a n) refl (two c (omega arith)) (four r fits)
    (rw (two a (omega arith), two n few) refl) (counted_of c some (omega arith)) (played_of r plays)
    (rw (two c (omega arith), two a (omega arith), two n few, good, le-ltb 2 c most) refl)

by_codec : (c r : ℕ) (codec : Codec) → 1 ≤ c → c ≤ 256 → 1 ≤ r → r < 2 ^ 32 → block_refusal c codec ≡ None
    → fit_refusal Wave (record { channels = c; rate = r; codec = codec }) ≡ None → ReadsBack (record { channels = c; rate = r; codec = codec })
by_codec c r U8 some most plays fits good held = u8_reads_back c r some most plays fits
by_codec c r S8 some most plays fits good held = absurd (cc)
by_codec c r (S16 Little) some most plays fits good held = s16_reads_back c r some most plays fits
by_codec c r (S16 Big) some most plays fits good held = absurd (cc)
by_codec c r (S24 Little) some most plays fits good held = s24_reads_back c r some most plays fits
by_codec c r (S24 Big) some most plays fits good held = absurd (cc)
by_codec c r (S32 Little) some most plays fits good held = s32_reads_back c r some most plays fits
by_codec c r (S32 Big) some most plays fits good held = absurd (cc)
by_codec c r mulaw some most plays fits good held = mulaw_reads_back c r some most plays fits
by_codec c r alaw some most plays fits good held = alaw_reads_back c r some most plays fits
by_codec c r (ima a n) some most plays fits good held = elim (cases_Bool (nat_le c 2)) [
  | inl few ↦ ima_reads_back c r a n some (leb-true c 2 few) plays fits (rw few at good)
  | inr many ↦ absurd (let h = rw many at held in cc)
]
by_codec c r (ms a n) some most plays fits good held = elim (cases_Bool (nat_le c 2)) [
  | inl few ↦ ms_reads_back c r a n some (leb-true c 2 few) plays fits (rw few at good)
  | inr many ↦ absurd (let h = rw many at held in cc)
]

pub written_format_reads_back : WrittenFormatReadsBack
written_format_reads_back p good held = by_codec p.channels p.rate p.codec good.some_channel good.most_channels good.some_rate good.most_rate good.blocks held
