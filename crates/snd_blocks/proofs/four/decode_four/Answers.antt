use Rattle.std.proofs.Common.{rules, ◌≡◌, ◌∙◌, ap, sym, subst, refl, ◌+◌, ◌-◌, ◌*◌, ◌/◌, ◌<◌, ◌≤◌, ℕ, ℤ, All, List, ◌++◌, drop, length, take, arith}
use Rattle.std.proofs.lemmas.List.{length-drop, length-take-le, take_at}
use Rattle.snd_fields.specs.Blocks.{ms_samples_per_block}
use Rattle.snd_ms_adpcm.specs.Four.{AreSamples, part}
use Rattle.snd_ima_adpcm.specs.Frames.{Is16Bit}
use Rattle.snd_ms_adpcm.specs.Microsoft.{ms_numbers}
use Rattle.snd_layout.specs.Blocks.{block_align, block_frames}
use Rattle.snd_layout.specs.Shape.{Shape}
use Rattle.snd_blocks.specs.Fetching.{block_among}
use Rattle.snd_blocks.specs.Four.{IsFourfold}
use Rattle.snd_blocks.proofs.Kept.{block_part, four_fit, ms_form, on_ok}
use Rattle.snd_blocks.proofs.four.decode_four.Goals as goal

pub slice_bounds-decode_four-end : goal.slice_bounds-decode_four-end
slice_bounds-decode_four-end c =
    let f = c.args.fetched in
    let s = c.args.layout.now in
    let width : c.from-align.result ≡ block_align s.params.channels s.params.codec = search rules in
    four_fit f.first c.args.number f.next (block_align s.params.channels s.params.codec) c.from-align.result width c.requires.begun (omega (arith, c.if-fetched-number-lt4.false, c.requires.some)) c.requires.room

pub returns : goal.returns
returns c = λ ok.
    let s = c.args.layout.now in
    let k = s.params.channels in
    let codec = s.params.codec in
    let per = block_frames codec in
    let align = block_align k codec in
    let n = c.args.number in
    let first = c.args.fetched.first in
    let bytes = c.args.bytes.now in
    let made = c.make_places.new.samples.items in
    let new = c.decode_four.new.into in
    let items = take (length made) (new ++ drop (length new) made) in
    let fourfold : IsFourfold s.params = subst (λ (u : Shape). IsFourfold u.params) c.layout.view_is (c.if-not-is_fourfold.ensures.only refl) in
    let read : n + 4 ≤ c.args.fetched.next = omega (arith, c.if-fetched-number-lt4.false, c.requires.some) in
    let width : c.from-align.result ≡ align = search rules in
    let frames : c.from.result ≡ per = search rules in
    let at = (n - first) * c.from-align.result in
    let at_is : at ≡ (n - first) * align = ap (λ (m : ℕ). (n - first) * m) width in
    let end : at + 4 * c.from-align.result ≤ 8192 = four_fit first n c.args.fetched.next align c.from-align.result width c.requires.begun read c.requires.room in
    let long : length bytes ≡ 8192 = search rules in
    let four_bytes = take (4 * align) (drop at bytes) in
    let are : take (at + 4 * c.from-align.result - at) (drop at bytes) ≡ four_bytes = ap (λ (m : ℕ). take m (drop at bytes)) (omega (arith, width)) in
    let quarter : length four_bytes / 4 ≡ align = omega (arith, length-take-le (4 * align) (drop at bytes) (omega (arith, end, width, long, length-drop at bytes))) in
    let told = on_ok c.decode_four.result (sym c.is_ok.ensures.value ∙ ok) c.decode_four.ensures.samples in
    let samples : (j : ℕ) → j < 4 → AreSamples (part align j four_bytes) (part (ms_numbers 2 align) j new) =
    subst (λ (q : ℕ). (j : ℕ) → j < 4 → AreSamples (part q j four_bytes) (part (ms_numbers 2 q) j new)) quarter
    (subst (λ (l : List ℕ). (j : ℕ) → j < 4 → AreSamples (part (length l / 4) j l) (part (ms_numbers 2 (length l / 4)) j new)) are told) in
    let numbers : ms_numbers 2 align ≡ 2 * per = ap (λ (m : ℕ). 2 * m) (sym ((ms_form k codec fourfold.ms c.keeps_blocks.ensures.form).1 ∙ ap (λ (m : ℕ). ms_samples_per_block m align) fourfold.two)) in
    let many : length new ≡ length made = c.decode_four.ensures.length ∙ ap (λ (l : List ℤ). length l) c.as_mut_slice.ensures.value in
    let all : new ≡ items = sym (take_at new (drop (length new) made) (length made) many) in
    record {
      fourfold = fourfold;
      read = read;
      each = λ j lt.
          subst (λ (l : List ℤ). AreSamples (block_among bytes s first (n + j)) (part (2 * per) j l)) all
          (subst (λ (l : List ℕ). AreSamples l (part (2 * per) j new)) (block_part bytes s first n at c.requires.begun at_is j lt)
          (subst (λ (m : ℕ). AreSamples (part align j four_bytes) (part m j new)) numbers (samples j lt)));
      whole = ap (λ (l : List ℤ). length l) (sym all) ∙ many ∙ omega (arith, c.make_places.ensures, frames);
      range = subst (All Is16Bit) all (on_ok c.decode_four.result (sym c.is_ok.ensures.value ∙ ok) c.decode_four.ensures.range);
    }
