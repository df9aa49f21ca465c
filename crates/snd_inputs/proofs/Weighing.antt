-- What it takes to read a file is enough to copy its frames, and to see that its blocks are good.
use Rattle.std.proofs.Common.{◌≡◌, ◌∙◌, ap, sym, subst, inl, inr, ◌⊎◌, ℕ, ◌+◌, ◌-◌, ◌*◌, ◌/◌, ◌≤◌, Bool, cond, true, false, List, None, Some, Ok, Result, length, arith}
use Rattle.std.proofs.Math.Nat.{div-add-mod, mul-le-mul_left}
use Rattle.std.proofs.lemmas.Bool.{cases_Bool}
use Rattle.std.proofs.lemmas.Nat.{le-div}
use Rattle.snd_blocks.specs.Calls.{HasForm}
use Rattle.snd_layout.specs.Blocks.{block_align, block_frames, is_adpcm}
use Rattle.snd_layout.specs.Fit.{fit_refusal}
use Rattle.snd_layout.specs.Params.{AreParams, data_bytes}
use Rattle.snd_layout.specs.Shape.{Shape, end}
use Rattle.snd_layout.specs.declared.codec.Codec.{Codec}
use Rattle.snd_layout.specs.declared.codec.Codec.TheVariants.{Ima, Ms}
use Rattle.snd_layout.specs.declared.refusal.OpenRefusal.{OpenRefusal}
use Rattle.snd_edits.proofs.Public.{is_fixed}
use Rattle.snd_edits.specs.Editing.{Editing, first_editing, opening_of}
use Rattle.snd_output.proofs.Public.{div_sum}
use Rattle.snd_inputs.proofs.DataBytes.{align_bytes}
use Rattle.snd_inputs.proofs.Formed.{keeps_blocks}
use Rattle.snd_inputs.specs.Asking.{bytes_read, has_blocks, size_of}
use Rattle.snd_inputs.specs.Copying.{bytes_checked, bytes_to_copy}

-- a call has places for the frames of a block
block_fits : (channels : ℕ) (codec : Codec) → (channels ≡ 1) ⊎ (channels ≡ 2) → HasForm channels codec → block_align channels codec ≤ 8192 → block_frames codec ≤ 16384 / channels
block_fits channels (Ima align per_block) (inl one) form small =
    let is : per_block ≡ (align - 4 * 1) * 2 / 1 + 1 = form.1 ∙ ap (λ (n : ℕ). (align - 4 * n) * 2 / n + 1) one in
    subst (λ (n : ℕ). per_block ≤ 16384 / n) (sym one) (omega (arith, is, small))
block_fits channels (Ima align per_block) (inr two) form small =
    let is : per_block ≡ (align - 4 * 2) * 2 / 2 + 1 = form.1 ∙ ap (λ (n : ℕ). (align - 4 * n) * 2 / n + 1) two in
    subst (λ (n : ℕ). per_block ≤ 16384 / n) (sym two) (omega (arith, is, small))
block_fits channels (Ms align per_block) (inl one) form small =
    let is : per_block ≡ (align - 7 * 1) * 2 / 1 + 2 = form.1 ∙ ap (λ (n : ℕ). (align - 7 * n) * 2 / n + 2) one in
    subst (λ (n : ℕ). per_block ≤ 16384 / n) (sym one) (omega (arith, is, small))
block_fits channels (Ms align per_block) (inr two) form small =
    let is : per_block ≡ (align - 7 * 2) * 2 / 2 + 2 = form.1 ∙ ap (λ (n : ℕ). (align - 7 * n) * 2 / n + 2) two in
    subst (λ (n : ℕ). per_block ≤ 16384 / n) (sym two) (omega (arith, is, small))
block_fits channels codec channels_are form small = absurd form

-- more in each call are fewer calls
fewer_calls : (n per each : ℕ) → 1 ≤ per → per ≤ each → n / each ≤ n / per
fewer_calls n per each some more =
    let all : each * (n / each) ≤ n = omega (arith, div-add-mod n each) in
    let times : (n / each) * per ≤ (n / each) * each = mul-le-mul_left (n / each) more in
    le-div (n / each) n per some (omega (arith, all, times))

-- so that all frames take three times their blocks, and four blocks
blocks_copied : (n per each align : ℕ) → 1 ≤ per → per ≤ each → align ≤ 8192 → (n / per + 2 * (n / each + 2)) * align ≤ 3 * ((n + per - 1) / per * align) + 32768
blocks_copied n per each align some more small =
    let rest : n + (per - 1) ≡ n + per - 1 = omega (arith, some) in
    let whole : n / per ≤ (n + per - 1) / per = omega (arith, div_sum per n (per - 1), ap (λ (m : ℕ). m / per) rest) in
    let calls = fewer_calls n per each some more in
    let blocks = (n + per - 1) / per in
    let fewer : n / per + 2 * (n / each + 2) ≤ 3 * blocks + 4 = omega (arith, whole, calls) in
    let times : align * (n / per + 2 * (n / each + 2)) ≤ align * (3 * blocks + 4) = mul-le-mul_left align fewer in
    sums (n / per + 2 * (n / each + 2)) blocks times
  where
    sums : (x y : ℕ) → align * x ≤ align * (3 * y + 4) → x * align ≤ 3 * (y * align) + 32768
    sums x y le = omega (arith, le, small)

module _ (b : List ℕ) (h : Shape) (fits : fit_refusal h.kind h.params ≡ None) (good : AreParams h.params) (within : end h h.frames ≤ length b) (opens : opening_of b ≡ Ok (first_editing b h)) where
  size_is : (t : Bool) → is_adpcm h.params.codec ≡ t → size_of (Some b) ≡ bytes_read t (length b)
  size_is t is = ap (λ (r : Result Editing OpenRefusal). bytes_read (has_blocks r) (length b)) opens ∙ ap (λ (u : Bool). bytes_read u (length b)) is

  -- its frames are copied, beside which its blocks are checked
  pub whole_within : bytes_checked h + bytes_to_copy h.params h.frames ≤ size_of (Some b)
  whole_within = elim (cases_Bool (is_adpcm h.params.codec)) [
    | inl is ↦
        let p = h.params in
        let blocks = keeps_blocks h.kind p is fits good in
        let each = 16384 / p.channels in
        let size = size_is true is in
        let checked : bytes_checked h ≡ data_bytes p h.frames = ap (λ (t : Bool). cond t (data_bytes p h.frames) 0) is in
        let align = block_align p.channels p.codec in
        let most = blocks_copied h.frames (block_frames p.codec) each align blocks.some_frames (block_fits p.channels p.codec blocks.channels blocks.form blocks.most_bytes) blocks.most_bytes in
        let copied : bytes_to_copy p h.frames ≡ (h.frames / block_frames p.codec + 2 * (h.frames / each + 2)) * align =
        ap (λ (t : Bool). cond t ((h.frames / block_frames p.codec + 2 * (h.frames / each + 2)) * align) (h.frames * align)) is in
        omega (arith, size, checked, most, copied, within)
    | inr other ↦
        let p = h.params in
        let linear = is_fixed p.codec other in
        let size = size_is false other in
        let checked : bytes_checked h ≡ 0 = ap (λ (t : Bool). cond t (data_bytes p h.frames) 0) other in
        let align = block_align p.channels p.codec in
        let copied : bytes_to_copy p h.frames ≡ h.frames * align =
        ap (λ (t : Bool). cond t ((h.frames / block_frames p.codec + 2 * (h.frames / (16384 / p.channels) + 2)) * align) (h.frames * align)) other in
        omega (arith, size, checked, copied, align_bytes p linear h.frames, within)
  ]

  -- and it has no fewer bytes
  pub bytes_within : length b ≤ size_of (Some b)
  bytes_within = elim (cases_Bool (is_adpcm h.params.codec)) [
    | inl is ↦ omega (arith, size_is true is)
    | inr other ↦ omega (arith, size_is false other)
  ]
