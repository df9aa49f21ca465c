-- The blocks that are made are small, and have the form of their codec.
use Rattle.std.specs.Prelude.{nat_le, nat_lt, if◌then◌else◌}
use Rattle.std.proofs.Common.{◌≡◌, ◌⊎◌, ◌∙◌, ⊎_elim, ℕ, ◌*◌, ◌^◌, ◌<◌, ◌≤◌, Bool, true, false, ◌&&◌, None, Some, ap, cond, refl, sym, subst, arith}
use Rattle.std.proofs.lemmas.Bool.{and_from, le-leb, lt-ltb}
use Rattle.snd_fields.specs.Blocks.{ima_samples_per_block, ms_samples_per_block}
use Rattle.snd_layout.specs.Params.{block_refusal, is_channel_count, params_refusal}
use Rattle.snd_layout.specs.declared.codec.Codec.{Codec}
use Rattle.snd_layout.specs.declared.codec.Codec.TheVariants.{Ima, Ms}
use Rattle.snd_layout.specs.declared.refusal.OpenRefusal.TheVariants.{BadChannels, BadRate}
use Rattle.snd_edits.specs.Blocks.{channel_align, ima_made, made_align, ms_made}

-- what holds of each size for a channel, and of one channel and of two
by_rate : (P : ℕ → Type 0) (low middle : Bool) → P 256 → P 512 → P 1024 → P (if low then 256 else (if middle then 512 else 1024))
by_rate P true middle first second third = first
by_rate P false true first second third = second
by_rate P false false first second third = third

by_channels : (P : ℕ → Type 0) (more : Bool) → P 1 → P 2 → P (if more then 2 else 1)
by_channels P true one two = two
by_channels P false one two = one

-- a block has at most 2048 bytes
pub small_blocks : (channels rate : ℕ) → made_align channels rate ≤ 2048
small_blocks channels rate =
    by_channels (λ c. c * channel_align rate ≤ 2048) (nat_lt 1 channels)
    (by_rate (λ a. 1 * a ≤ 2048) (nat_lt rate 12000) (nat_lt rate 23000) (omega arith) (omega arith) (omega arith))
    (by_rate (λ a. 2 * a ≤ 2048) (nat_lt rate 12000) (nat_lt rate 23000) (omega arith) (omega arith) (omega arith))

-- of one channel and of two they have the form of their codec
pub ima_blocks : (channels rate : ℕ) → (channels ≡ 1) ⊎ (channels ≡ 2) → block_refusal channels (ima_made channels rate) ≡ None
ima_blocks channels rate few =
    let good : ℕ → Type 0 = λ c. block_refusal c (ima_made c rate) ≡ None in
    ⊎_elim
    (λ one. subst good (sym one) (by_rate (λ a. block_refusal 1 (Ima (1 * a) (ima_samples_per_block 1 (1 * a))) ≡ None) (nat_lt rate 12000) (nat_lt rate 23000) refl refl refl))
    (λ two. subst good (sym two) (by_rate (λ a. block_refusal 2 (Ima (2 * a) (ima_samples_per_block 2 (2 * a))) ≡ None) (nat_lt rate 12000) (nat_lt rate 23000) refl refl refl))
    few

pub ms_blocks : (channels rate : ℕ) → (channels ≡ 1) ⊎ (channels ≡ 2) → block_refusal channels (ms_made channels rate) ≡ None
ms_blocks channels rate few =
    let good : ℕ → Type 0 = λ c. block_refusal c (ms_made c rate) ≡ None in
    ⊎_elim
    (λ one. subst good (sym one) (by_rate (λ a. block_refusal 1 (Ms (1 * a) (ms_samples_per_block 1 (1 * a))) ≡ None) (nat_lt rate 12000) (nat_lt rate 23000) refl refl refl))
    (λ two. subst good (sym two) (by_rate (λ a. block_refusal 2 (Ms (2 * a) (ms_samples_per_block 2 (2 * a))) ≡ None) (nat_lt rate 12000) (nat_lt rate 23000) refl refl refl))
    few

-- so the parameters of a file are good with them, where its rate is
good_with : (channels rate : ℕ) (codec : Codec) → (channels ≡ 1) ⊎ (channels ≡ 2) → 1 ≤ rate → rate < 2 ^ 32 → block_refusal channels codec ≡ None → params_refusal channels rate codec ≡ None
good_with channels rate codec few some most blocks =
    let rated : (nat_le 1 rate && nat_lt rate (2 ^ 32)) ≡ true = and_from _ _ (le-leb 1 rate some) (lt-ltb rate (2 ^ 32) most) in
    let accepted : (if (nat_le 1 rate && nat_lt rate (2 ^ 32)) then block_refusal channels codec else Some BadRate) ≡ None = ap (λ b. cond b (block_refusal channels codec) (Some BadRate)) rated ∙ blocks in
    let counted : is_channel_count channels ≡ true = ⊎_elim (λ one. ap is_channel_count one) (λ two. ap is_channel_count two) few in
    ap (λ b. cond b (if (nat_le 1 rate && nat_lt rate (2 ^ 32)) then block_refusal channels codec else Some BadRate) (Some BadChannels)) counted ∙ accepted

pub ima_is_good : (channels rate : ℕ) → (channels ≡ 1) ⊎ (channels ≡ 2) → 1 ≤ rate → rate < 2 ^ 32 → params_refusal channels rate (ima_made channels rate) ≡ None
ima_is_good channels rate few some most = good_with channels rate (ima_made channels rate) few some most (ima_blocks channels rate few)

pub ms_is_good : (channels rate : ℕ) → (channels ≡ 1) ⊎ (channels ≡ 2) → 1 ≤ rate → rate < 2 ^ 32 → params_refusal channels rate (ms_made channels rate) ≡ None
ms_is_good channels rate few some most = good_with channels rate (ms_made channels rate) few some most (ms_blocks channels rate few)
