use Rattle.std.proofs.Common.{rules, ◌≡◌, ◌∙◌, ap, sym, ◌*◌, pos, ◌≤ℤ◌, get_or, length, to_z, of_z, w32, arith}
use Rattle.snd_fields.specs.declared.field.Order.TheVariants.{Little}
use Rattle.snd_pcm.specs.Pcm.{InRange, high, low, sample_bytes}
use Rattle.snd_pcm.specs.declared.linear.Linear.TheVariants.{S16}
use Rattle.snd_container.specs.declared.fixed.Fixed.TheVariants.{Linear}
use Rattle.snd_pcm.proofs.Ranges.{one_more}
use Rattle.snd_frames.proofs.PutBlocks.{bytes_of_none}
use Rattle.snd_frames.proofs.TestedSamples.{clamped, coded_more, length_kept}
use Rattle.snd_frames.proofs.coding.put_tested_little.Goals as goal

pub loop-i-init : goal.loop-i-init
loop-i-init c = record {
  size = c.requires;
  ends = (λ e k d lt. absurd (omega (arith, lt)), λ all. let e : (low (S16 Little) ≤ℤ pos 0) × (pos 0 ≤ℤ high (S16 Little)) = search rules in e);
  put = λ all. sym (bytes_of_none (Linear (S16 Little)));
}

pub loop-i-preserved : goal.loop-i-preserved
loop-i-preserved c =
    let x = get_or c.args.from.now c.loop-i.i (pos 0) in
    let x_is : to_z w32 (of_z w32 x) ≡ x = search rules in
    let less : to_z w32 (of_z w32 c.min-least.result) ≡ c.min-least.result = search rules in
    let more : to_z w32 (of_z w32 c.max-greatest.result) ≡ c.max-greatest.result = search rules in
    let two : length c.put_sample.new.into ≡ 2 = ap length c.put_sample.ensures in
    let kept : to_z w32 (of_z w32 c.clamp-sample.result) ≡ c.clamp-sample.result = search rules in
    record {
      size = length_kept c.loop-i.bytes c.put_sample.new.into (2 * c.loop-i.i) _ (omega (arith, c.loop-i.invariant.size, c.loop-i-test.true)) (omega (arith, two)) ∙ c.loop-i.invariant.size;
      ends = one_more _ _ _ _ _ _ c.args.from.now c.loop-i.i c.loop-i-test.true (less ∙ rw x_is at c.min-least.ensures.value) (more ∙ rw x_is at c.max-greatest.ensures.value) c.loop-i.invariant.ends;
      put = coded_more (S16 Little) (InRange (S16 Little)) c.args.from.now c.loop-i.bytes c.put_sample.new.into c.loop-i.i _ c.loop-i-test.true c.loop-i.invariant.size two c.loop-i.invariant.put (λ fits. c.put_sample.ensures ∙ ap (sample_bytes (S16 Little)) (kept ∙ rw x_is at c.clamp-sample.ensures.value ∙ clamped _ _ x fits.0 fits.1));
    }
