-- A head that is made reads back.
use Rattle.std.proofs.Common.{◌≡◌, ℕ, zero, suc, ◌*◌, ◌/◌, ◌<◌, ◌≤◌, ◌^◌, Bool, true, false, List, [], ◌∷◌, ◌++◌, All, length, get_or, None, Some, Ok, refl, sym, ap, ◌∙◌, arith}
use Rattle.std.proofs.lemmas.Bool.{and_from, and_parts, le-leb, le-ltb, leb-true, lt-ltb, ltb-true}
use Rattle.std.proofs.lemmas.List.Elements.{All-append}
use Rattle.std.specs.Prelude.{◌&&◌, nat_le, nat_lt}
use Rattle.snd_fields.proofs.Numbers.{bytes_are_bytes, number_of_bytes}
use Rattle.snd_fields.specs.Field.{bytes_of, number}
use Rattle.snd_fields.specs.Laws.{IsByte}
use Rattle.snd_fields.specs.declared.field.Order.TheVariants.{Little, Big}
use Rattle.snd_layout.specs.Fit.{fit_refusal, is_voc_codec}
use Rattle.snd_layout.specs.Params.{AreParams, Parameters, is_channel_count, params_refusal}
use Rattle.snd_layout.specs.declared.codec.Codec.{Codec}
use Rattle.snd_layout.specs.declared.codec.Codec.TheVariants.{U8, S8, S16, S24, S32, MuLaw, ALaw, Ima, Ms}
use Rattle.snd_layout.specs.declared.kind.Kind.TheVariants.{Voc}
use Rattle.snd_voc.proofs.Opens.{opened}
use Rattle.snd_layout.proofs.Codecs.{blocks_of}
use Rattle.snd_voc.proofs.Sizes.{held_codec, some_align}
use Rattle.snd_layout.specs.Blocks.{block_align}
use Rattle.snd_voc.proofs.Stays.{suc_found}
use Rattle.snd_voc.specs.Layout.{codec_of, first_place, has_bits, has_format, size_at, sound_format, voc_layout, walk}
use Rattle.snd_voc.specs.Written.{bits_of, block_head, code_of, file_head, made_shape, voc_head}
use Rattle.snd_voc.specs.declared.blocks.Sound.{Sound}

abbrev made_sound : Sound
made_sound = record { kind = 9; at = 26; extension = None }

accepts : (b : List ℕ) (c r bits : ℕ) (codec : Codec) → has_format (size_at b 26) (length b) made_sound ≡ true → codec_of (number Little b 36 2) ≡ Some codec → get_or b 35 0 ≡ c → number Little b 30 4 ≡ r → get_or b 34 0 ≡ bits
    → nat_lt 2 c ≡ false → params_refusal c r codec ≡ None → has_bits codec bits ≡ true → sound_format b made_sound ≡ Ok (record { channels = c; rate = r; codec = codec })
accepts b c r bits codec has code channels rate bits_are few good held = rw (has, code, channels, rate, bits_are, few, good, held) refl

params_fit : (c r : ℕ) (codec : Codec) → AreParams (record { channels = c; rate = r; codec = codec }) → params_refusal c r codec ≡ None
params_fit c r codec good =
    let counted : is_channel_count c ≡ true = and_from _ _ (le-leb 1 c good.some_channel) (le-leb c 256 good.most_channels) in
    let plays : nat_le 1 r && nat_lt r (2 ^ 32) ≡ true = and_from _ _ (le-leb 1 r good.some_rate) (lt-ltb r (2 ^ 32) good.most_rate) in
    rw (counted, plays) good.blocks

four : (n : ℕ) → n < 2 ^ 32 → number Little (bytes_of Little 4 n) 0 4 ≡ n
four n lt = number_of_bytes Little 4 n lt

made_format : (c r : ℕ) (codec : Codec) → AreParams (record { channels = c; rate = r; codec = codec }) → nat_le c 2 ≡ true → is_voc_codec codec ≡ true
    → sound_format (voc_head (record { channels = c; rate = r; codec = codec })) made_sound ≡ Ok (record { channels = c; rate = r; codec = codec })
unfolding voc_head file_head block_head
made_format c r U8 good few is = accepts (voc_head (record { channels = c; rate = r; codec = U8 })) c r 8 U8 refl refl refl (four r good.most_rate) refl (le-ltb 2 c (leb-true c 2 few)) (params_fit c r U8 good) refl
made_format c r (S16 Little) good few is = accepts (voc_head (record { channels = c; rate = r; codec = (S16 Little) })) c r 16 (S16 Little) refl refl refl (four r good.most_rate) refl (le-ltb 2 c (leb-true c 2 few)) (params_fit c r (S16 Little) good) refl
made_format c r MuLaw good few is = accepts (voc_head (record { channels = c; rate = r; codec = MuLaw })) c r 8 MuLaw refl refl refl (four r good.most_rate) refl (le-ltb 2 c (leb-true c 2 few)) (params_fit c r MuLaw good) refl
made_format c r ALaw good few is = accepts (voc_head (record { channels = c; rate = r; codec = ALaw })) c r 8 ALaw refl refl refl (four r good.most_rate) refl (le-ltb 2 c (leb-true c 2 few)) (params_fit c r ALaw good) refl
made_format c r (S16 Big) good few is = absurd (cc)
made_format c r S8 good few is = absurd (cc)
made_format c r (S24 order) good few is = absurd (cc)
made_format c r (S32 order) good few is = absurd (cc)
made_format c r (Ima align per_block) good few is = absurd (cc)
made_format c r (Ms align per_block) good few is = absurd (cc)

made_first : (p : Parameters) → first_place (voc_head p) ≡ Ok 26
unfolding voc_head file_head block_head
made_first p = refl

made_walk : (p : Parameters) → walk (voc_head p) 256 26 None ≡ Ok made_sound
unfolding voc_head file_head block_head
made_walk p = suc_found (voc_head p) 255 26 None 9 refl

no_times : (a : ℕ) → 0 ≡ 0 * a
no_times a = omega arith

pub made_told : (p : Parameters) → AreParams p → fit_refusal Voc p ≡ None → voc_layout (voc_head p) ≡ Ok (made_shape p)
unfolding voc_head file_head block_head made_shape
made_told p good fits =
    let none : 0 / block_align p.channels p.codec ≡ 0 = ap (λ m. m / block_align p.channels p.codec) (no_times (block_align p.channels p.codec)) ∙ blocks_of 0 (block_align p.channels p.codec) (some_align p good fits) in
    opened (voc_head p) (made_shape p) (record { place = 26; sound = made_sound; params = p; first = made_first p; walked = made_walk p; read = made_format p.channels p.rate p.codec good (held_codec p fits).0 (held_codec p fits).1; shape = ap (λ k. record (made_shape p) { frames = k }) (sym none) })

cons_byte : (x : ℕ) (xs : List ℕ) → x < 256 → All IsByte xs → All IsByte (x ∷ xs)
cons_byte x xs few rest zero d within = few
cons_byte x xs few rest (suc k) d within = rest k d (omega (arith, within))

abbrev are_small : List ℕ → Bool
are_small [] = true
are_small (x ∷ xs) = nat_lt x 256 && are_small xs

small_bytes : (xs : List ℕ) → are_small xs ≡ true → All IsByte xs
small_bytes [] is = λ k d lt. absurd (omega (arith, lt))
small_bytes (x ∷ xs) is =
    let both = and_parts (nat_lt x 256) (are_small xs) is in
    cons_byte x xs (ltb-true x 256 both.0) (small_bytes xs both.1)

bits_small : (codec : Codec) → bits_of codec < 256
bits_small (S16 order) = omega arith
bits_small _ = omega arith

code_small : (codec : Codec) → code_of codec < 256
code_small (S16 order) = omega arith
code_small ALaw = omega arith
code_small MuLaw = omega arith
code_small _ = omega arith

file_bytes : All IsByte file_head
unfolding file_head
file_bytes = small_bytes file_head refl

block_bytes : (p : Parameters) → p.channels ≤ 2 → All IsByte (block_head p)
unfolding block_head
block_bytes p few =
    All-append IsByte (9 ∷ 12 ∷ 0 ∷ 0 ∷ []) (bytes_of Little 4 p.rate ++ bits_of p.codec ∷ p.channels ∷ code_of p.codec ∷ 0 ∷ 0 ∷ 0 ∷ 0 ∷ 0 ∷ []) (small_bytes (9 ∷ 12 ∷ 0 ∷ 0 ∷ []) refl)
    (All-append IsByte (bytes_of Little 4 p.rate) (bits_of p.codec ∷ p.channels ∷ code_of p.codec ∷ 0 ∷ 0 ∷ 0 ∷ 0 ∷ 0 ∷ []) (bytes_are_bytes Little 4 p.rate).1
    (cons_byte (bits_of p.codec) (p.channels ∷ code_of p.codec ∷ 0 ∷ 0 ∷ 0 ∷ 0 ∷ 0 ∷ []) (bits_small p.codec) (cons_byte p.channels (code_of p.codec ∷ 0 ∷ 0 ∷ 0 ∷ 0 ∷ 0 ∷ []) (omega (arith, few)) (cons_byte (code_of p.codec) (0 ∷ 0 ∷ 0 ∷ 0 ∷ 0 ∷ []) (code_small p.codec) (small_bytes (0 ∷ 0 ∷ 0 ∷ 0 ∷ 0 ∷ []) refl)))))

pub head_bytes : (p : Parameters) → AreParams p → fit_refusal Voc p ≡ None → All IsByte (voc_head p)
unfolding voc_head
head_bytes p good fits = All-append IsByte file_head (block_head p) file_bytes (block_bytes p (leb-true p.channels 2 (held_codec p fits).0))
