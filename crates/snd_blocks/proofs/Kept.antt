-- Blocks that are kept: four that are decoded together, or one.
use Rattle.std.proofs.Common.{◌≡◌, ◌∙◌, refl, ap, sym, subst, ℕ, ◌+◌, ◌-◌, ◌*◌, ◌<◌, ◌≤◌, false, true, Result, Ok, Err, List, IsTrue, length, take, drop, arith}
use Rattle.std.proofs.Math.Nat.{add-mul, mul-le-mul_right}
use Rattle.std.proofs.lemmas.List.{take_all}
use Rattle.std.specs.Prelude.{OnOk, is_ok}
use Rattle.snd_fields.specs.Blocks.{is_ms_align, ms_samples_per_block}
use Rattle.snd_ms_adpcm.specs.Four.{AreSamples, part}
use Rattle.snd_ms_adpcm.specs.Microsoft.{is_bad_ms_block, ms_block}
use Rattle.snd_layout.specs.declared.codec.Codec.{Codec}
use Rattle.snd_layout.specs.declared.codec.Codec.TheVariants.{U8, S8, S16, S24, S32, MuLaw, ALaw, Ima, Ms}
use Rattle.snd_layout.specs.Blocks.{block_align, block_frames}
use Rattle.snd_layout.specs.Shape.{Shape}
use Rattle.snd_blocks.specs.declared.buffer.BlockCache.{BlockCache}
use Rattle.snd_blocks.specs.declared.fetch.Fetched.{Fetched}
use Rattle.snd_blocks.specs.Cache.{HasBlocks, block_cached, block_numbers, count_cached, first_cached, samples_cached}
use Rattle.snd_blocks.specs.Calls.{HasForm, block_at}
use Rattle.snd_blocks.specs.Fetching.{HoldBlocks, block_among}
use Rattle.snd_blocks.specs.Four.{AreFourOf, IsMs}
use Rattle.snd_blocks.specs.Frames.{block_samples, is_bad_block}
use Rattle.snd_blocks.proofs.BlockFrames.{bytes_of_block}

-- what holds of Microsoft ADPCM
pub ms_form : (k : ℕ) (codec : Codec) → IsMs codec → HasForm k codec → IsTrue (is_ms_align k (block_align k codec)) × (block_frames codec ≡ ms_samples_per_block k (block_align k codec))
ms_form k (Ms align per_block) is form = form
ms_form k (Ima align per_block) is form = absurd is
ms_form k U8 is form = absurd is
ms_form k S8 is form = absurd is
ms_form k (S16 order) is form = absurd is
ms_form k (S24 order) is form = absurd is
ms_form k (S32 order) is form = absurd is
ms_form k MuLaw is form = absurd is
ms_form k ALaw is form = absurd is

pub ms_is_bad : (k : ℕ) (codec : Codec) (block : List ℕ) → IsMs codec → is_bad_block k codec block ≡ is_bad_ms_block k block
unfolding is_bad_block
ms_is_bad k (Ms align per_block) block is = refl
ms_is_bad k (Ima align per_block) block is = absurd is
ms_is_bad k U8 block is = absurd is
ms_is_bad k S8 block is = absurd is
ms_is_bad k (S16 order) block is = absurd is
ms_is_bad k (S24 order) block is = absurd is
ms_is_bad k (S32 order) block is = absurd is
ms_is_bad k MuLaw block is = absurd is
ms_is_bad k ALaw block is = absurd is

pub ms_samples_are : (k : ℕ) (codec : Codec) (block : List ℕ) → IsMs codec → block_samples k codec block ≡ ms_block k block
unfolding block_samples
ms_samples_are k (Ms align per_block) block is = refl
ms_samples_are k (Ima align per_block) block is = absurd is
ms_samples_are k U8 block is = absurd is
ms_samples_are k S8 block is = absurd is
ms_samples_are k (S16 order) block is = absurd is
ms_samples_are k (S24 order) block is = absurd is
ms_samples_are k (S32 order) block is = absurd is
ms_samples_are k MuLaw block is = absurd is
ms_samples_are k ALaw block is = absurd is

-- of the bytes that stand in the place of four blocks, each is a block among all
pub block_part : (bytes : List ℕ) (s : Shape) (first number at : ℕ) → first ≤ number → at ≡ (number - first) * block_align s.params.channels s.params.codec → (j : ℕ) → j < 4
    → part (block_align s.params.channels s.params.codec) j (take (4 * block_align s.params.channels s.params.codec) (drop at bytes)) ≡ block_among bytes s first (number + j)
block_part bytes s first number at begun at_is j lt =
    let align = block_align s.params.channels s.params.codec in
    let product : (number - first + j) * align ≡ (number - first) * align + j * align = add-mul (number - first) j align in
    let place : at + j * align ≡ (number + j - first) * align = omega (arith, at_is, product) ∙ ap (λ (m : ℕ). m * align) (let e : number - first + j ≡ number + j - first = omega (arith, begun) in e) in
    bytes_of_block align 4 j at bytes lt ∙ ap (λ (m : ℕ). take align (drop m bytes)) place

-- their bytes are among those that were read
pub four_fit : (first n next align width : ℕ) → width ≡ align → first ≤ n → n + 4 ≤ next → (next - first) * align ≤ 8192 → (n - first) * width + 4 * width ≤ 8192
four_fit first n next align width is begun read held =
    let product : (n - first + 4) * align ≡ (n - first) * align + 4 * align = add-mul (n - first) 4 align in
    let within : (n - first + 4) * align ≤ (next - first) * align = mul-le-mul_right align (let e : n - first + 4 ≤ next - first = omega (arith, read, begun) in e) in
    omega (arith, product, within, held, ap (λ (m : ℕ). (n - first) * m + 4 * m) is)

-- ---- what is kept

-- a part of so many that were counted
pub part_fits : (count number first size : ℕ) → first ≤ number → number < first + count → (number - first) * size + size ≤ count * size
part_fits count number first size begun until =
    let product : (number - first + 1) * size ≡ (number - first) * size + size = omega arith in
    omega (arith, product, mul-le-mul_right size (let e : number - first + 1 ≤ count = omega (arith, begun, until) in e))

pub one_is_kept : (b bytes : List ℕ) (s : Shape) (first next number : ℕ) (cache : BlockCache) → first_cached cache ≡ number → count_cached cache ≡ 1
    → HoldBlocks b s first next bytes → first ≤ number → number < next → length (samples_cached cache) ≡ block_numbers s
    → is_bad_block s.params.channels s.params.codec (block_among bytes s first number) ≡ false
    → samples_cached cache ≡ block_samples s.params.channels s.params.codec (block_among bytes s first number)
    → HasBlocks b s cache
one_is_kept b bytes s first next number cache begins one hold begun until size good are = λ n is.
    let k = s.params.channels in
    let codec = s.params.codec in
    let same : number ≡ n = omega (arith, begins, one, is.0, is.1) in
    let block : block_among bytes s first number ≡ block_at b s n = hold number begun until ∙ ap (block_at b s) same in
    let whole : block_cached s cache n ≡ samples_cached cache =
    ap (λ (m : ℕ). part (block_numbers s) m (samples_cached cache)) (let e : n - first_cached cache ≡ 0 = omega (arith, begins, same) in e)
    ∙ ap (λ (m : ℕ). take (block_numbers s) (drop m (samples_cached cache))) (let e : 0 * block_numbers s ≡ 0 = omega arith in e)
    ∙ take_all (block_numbers s) (samples_cached cache) (omega (arith, size)) in
    record {
      good = ap (is_bad_block k codec) (sym block) ∙ good;
      samples_of = whole ∙ are ∙ ap (block_samples k codec) block;
    }

pub four_are_kept : (b bytes : List ℕ) (s : Shape) (fetched : Fetched) (number : ℕ) (cache : BlockCache) → first_cached cache ≡ number → count_cached cache ≡ 4
    → HoldBlocks b s fetched.first fetched.next bytes → fetched.first ≤ number → AreFourOf s fetched number bytes (samples_cached cache) → HasBlocks b s cache
four_are_kept b bytes s fetched number cache begins count hold begun four = λ n is.
    let k = s.params.channels in
    let codec = s.params.codec in
    let two : k ≡ 2 = four.fourfold.two in
    let j = n - first_cached cache in
    let few : j < 4 = omega (arith, count, is.0, is.1) in
    let at : number + j ≡ n = omega (arith, begins, is.0) in
    let block : block_among bytes s fetched.first (number + j) ≡ block_at b s n =
    hold (number + j) (omega (arith, begun)) (omega (arith, few, four.read)) ∙ ap (block_at b s) at in
    let each : AreSamples (block_at b s n) (part (2 * block_frames codec) j (samples_cached cache)) =
    subst (λ (l : List ℕ). AreSamples l (part (2 * block_frames codec) j (samples_cached cache))) block (four.each j few) in
    record {
      good = ms_is_bad k codec (block_at b s n) four.fourfold.ms ∙ ap (λ (m : ℕ). is_bad_ms_block m (block_at b s n)) two ∙ each.good;
      samples_of =
          ap (λ (m : ℕ). part (m * block_frames codec) j (samples_cached cache)) two
          ∙ each.samples
          ∙ sym (ms_samples_are k codec (block_at b s n) four.fourfold.ms ∙ ap (λ (m : ℕ). ms_block m (block_at b s n)) two);
    }

-- an answer that is Ok has what is said of it
pub on_ok : {T E : Type 0} {P : Type 0} (r : Result T E) → is_ok r ≡ true → OnOk r P → P
on_ok (Ok x) ok h = h
on_ok (Err e) ok h = absurd (cc)
