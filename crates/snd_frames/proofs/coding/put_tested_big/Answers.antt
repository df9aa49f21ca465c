use Rattle.std.proofs.Common.{rules, ◌≡◌, ◌∙◌, sym, ◌+◌, ◌*◌, pos, ◌≤ℤ◌, get_or, to_z, of_z, w32, arith}
use Rattle.snd_fields.specs.declared.field.Order.TheVariants.{Big}
use Rattle.snd_pcm.specs.Pcm.{InRange, high, low}
use Rattle.snd_pcm.specs.declared.linear.Linear.TheVariants.{S16}
use Rattle.snd_container.specs.declared.fixed.Fixed.TheVariants.{Linear}
use Rattle.snd_pcm.proofs.Ranges.{one_more}
use Rattle.snd_frames.proofs.PutBlocks.{bytes_of_none}
use Rattle.snd_frames.proofs.TestedSamples.{length_of_two, two_coded}
use Rattle.snd_frames.proofs.coding.put_tested_big.Goals as goal

pub loop-i-init : goal.loop-i-init
loop-i-init c = record {
  size = c.requires;
  ends = (λ e k d lt. absurd (omega (arith, lt)), λ all. let e : (low (S16 Big) ≤ℤ pos 0) × (pos 0 ≤ℤ high (S16 Big)) = search rules in e);
  put = λ all. sym (bytes_of_none (Linear (S16 Big)));
}

pub loop-i-preserved : goal.loop-i-preserved
loop-i-preserved c =
    let x = get_or c.args.from.now c.loop-i.i (pos 0) in
    let x_is : to_z w32 (of_z w32 x) ≡ x = search rules in
    let less : to_z w32 (of_z w32 c.min-least.result) ≡ c.min-least.result = search rules in
    let more : to_z w32 (of_z w32 c.max-greatest.result) ≡ c.max-greatest.result = search rules in
    record {
      size = length_of_two c.loop-i.bytes (2 * c.loop-i.i) (2 * c.loop-i.i + 1) _ _ ∙ c.loop-i.invariant.size;
      ends = one_more _ _ _ _ _ _ c.args.from.now c.loop-i.i c.loop-i-test.true (less ∙ rw x_is at c.min-least.ensures.value) (more ∙ rw x_is at c.max-greatest.ensures.value) c.loop-i.invariant.ends;
      put = two_coded (InRange (S16 Big)) c.args.from.now c.loop-i.bytes c.big_bytes.result c.loop-i.i c.loop-i-test.true c.loop-i.invariant.size c.loop-i.invariant.put (rw x_is at c.big_bytes.ensures);
    }
